-- What becomes of the keeper as entries are entered.
use Rattle.std.proofs.Common.{◌≡◌, ◌≤◌, Bool, List, ◌++◌, length, drop, sym, ap, ◌∙◌, subst}
use Rattle.std.proofs.lemmas.List.{drop-append-le}
use Rattle.system_core.specs.declared.machine.event.Entry.{Entry}
use Rattle.journal_core.specs.Keeping.{KeepsOrOwes}
use Rattle.journal_core.specs.Recorder.{KeepsEntered}
use Rattle.journal_core.specs.declared.keeper.Keeper.{Ghosts}
use Rattle.journal_core.proofs.Entering.{KeepsOrOwes-entered}
use Rattle.desk_core.specs.Guarded.{Origin}
use Rattle.desk_core.specs.Kept.{HasKept}

module _ {K : Type 0} (rules : Ghosts K) where
  -- who has kept all, or owes of the last, keeps on so
  pub keeps_on : (origin : Origin K) (journal entries more : List Entry) (old new : K) (told : Bool) → origin.front ≤ length journal → more ≡ journal ++ entries
      → HasKept rules origin journal old → KeepsEntered rules old entries told new → HasKept rules origin more new
  keeps_on origin journal entries more old new told low is had keeping =
      subst (λ es. KeepsOrOwes rules origin.keeper es new) (sym (ap (drop origin.front) is ∙ drop-append-le origin.front journal entries low))
      (KeepsOrOwes-entered rules origin.keeper old new (drop origin.front journal) entries told had keeping)
