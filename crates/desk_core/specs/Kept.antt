-- What becomes of the keeper of a desk's changes.
-- A keeper's rules are as in journal_core's Keeping.
use Rattle.std.specs.Prelude.{◌≡◌, true, false, List, drop}
use Rattle.system_core.specs.Replies.{is_done}
use Rattle.system_core.specs.declared.machine.event.Entry.{Entry}
use Rattle.system_core.specs.declared.machine.event.Reply.{Reply}
use Rattle.journal_core.specs.Keeping.{KeepsOrOwes}
use Rattle.journal_core.specs.declared.keeper.Keeper.{Ghosts}
use Rattle.desk_core.specs.Guarded.{Origin}

module _ {K : Type 0} (rules : Ghosts K) where
  -- the keeper has kept all entries of the journal but the first ones, in order and each once, from the
  -- state on in which it was handed in; or all but the last, and owes what is left of that
  abbrev pub HasKept : Origin K → List Entry → K → Type 0
  HasKept origin journal keeper =
      KeepsOrOwes rules origin.keeper (drop origin.front journal) keeper

  -- the keeper, as it is then, has kept these entries so, and owes nothing where the reply tells of a change
  pub record IsKept (origin : Origin K) (reply : Reply) (journal : List Entry) : Type 0 where
    pub keeper : K
    pub kept : HasKept origin journal keeper
    pub settled : is_done reply ≡ true → rules.owing keeper ≡ false
