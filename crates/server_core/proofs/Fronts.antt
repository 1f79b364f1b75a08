-- Fronts of one journal, and what of them is durable.
use Rattle.std.proofs.Common.{◌≡◌, ℕ, ◌≤◌, Bool, false, Option, Some, List, [], ◌∷◌, ◌++◌, length, refl, sym, ◌∙◌, subst, arith}
use Rattle.std.proofs.lemmas.Bool.{false≢true}
use Rattle.std.proofs.Math.Logic.{∥∥₁_map}
use Rattle.turnstile.specs.Logs.{StartsWith}
use Rattle.system_core.specs.declared.machine.event.Entry.{Entry}
use Rattle.journal_core.specs.declared.keeper.Keeper.{Ghosts}
use Rattle.desk_core.specs.Guarded.{Origin, DeskLock, origin_of}
use Rattle.turnstile.proofs.Lists.{starts_later, starts_here}
use Rattle.desk_core.specs.Kept.{HasKept}
use Rattle.server_core.specs.Durable.{IsDurable, HasSynced, MayTell}
use Rattle.server_core.proofs.Pieces.{same_value}

-- of two fronts of one list the shorter is a front of the longer
shorter : {E : Type 0} (a b r s : List E) → a ++ r ≡ b ++ s → length a ≤ length b → StartsWith b a
shorter [] b r s same short = (b, refl)
shorter (x ∷ a) [] r s same short = absurd (let h : ⊥ = omega arith in h)
shorter (x ∷ a) (y ∷ b) r s same short =
    let short' : length a ≤ length b = omega arith in
    let tails : a ++ r ≡ b ++ s = cc in
    let rest = shorter a b r s tails short' in
    let head : x ≡ y = cc in
    (rest.0, (λ i. sym head i ∷ rest.1 i))

module _ {K : Type 0} (rules : Ghosts K) (durable : K → Type 0) where
  -- a front of what is durable is durable
  pub front_durable : (origin : Origin K) (entries front : List Entry) → StartsWith entries front → IsDurable rules durable origin entries → IsDurable rules durable origin front
  front_durable origin entries front starts d = record {
    later = d.later;
    keeper = d.keeper;
    begins = starts_later front entries d.later starts d.begins;
    kept = d.kept;
    synced = d.synced;
  }

  -- who had seen no more entries than are durable, and has met who had seen these, had seen none but those
  pub met_durable : (origin : Origin K) (seen noted met : List Entry) (count : ℕ) → HasSynced rules durable origin noted count → StartsWith met seen → StartsWith met noted → length seen ≤ count → IsDurable rules durable origin seen
  met_durable origin seen noted met count h starts starts_noted short =
      let whole = starts_later h.front noted met h.begins starts_noted in
      front_durable origin h.front seen
      (shorter seen h.front starts.0 whole.0 (sym starts.1 ∙ whole.1) (subst (λ n. length seen ≤ n) h.count_is short))
      h.synced

  -- so many stay durable for whom has seen more
  pub synced_later : (origin : Origin K) (noted met : List Entry) (count : ℕ) → StartsWith met noted → HasSynced rules durable origin noted count → HasSynced rules durable origin met count
  synced_later origin noted met count starts h = record {
    front = h.front;
    begins = starts_later h.front noted met h.begins starts;
    count_is = h.count_is;
    synced = h.synced;
  }

  -- what is known at this desk is known at each that is the instance's
  pub at_its_desk : (its : Option (DeskLock K)) (P : DeskLock K → Type 0) (desk : DeskLock K) → its ≡ Some desk → P desk → (other : DeskLock K) → its ≡ Some other → P other
  at_its_desk its P desk is known other its_too = subst P (same_value desk other (sym is ∙ its_too)) known

  -- where nobody asks for it, a client may be told
  pub unasked_may_tell : (asks : Bool) (its : Option (DeskLock K)) (seen : List Entry) → asks ≡ false → (desk : DeskLock K) → its ≡ Some desk → MayTell rules durable asks desk seen
  unasked_may_tell asks its seen not desk is asked = absurd (false≢true (sym not ∙ asked))

  -- behind a sync he may
  pub synced_may_tell : (asks : Bool) (its : Option (DeskLock K)) (desk : DeskLock K) (looked seen : List Entry) → its ≡ Some desk → StartsWith looked seen
      → ∥ IsDurable rules durable (origin_of desk) looked ∥₁
      → (other : DeskLock K) → its ≡ Some other → MayTell rules durable asks other seen
  synced_may_tell asks its desk looked seen is starts synced =
      at_its_desk its (λ d. MayTell rules durable asks d seen) desk is (λ asked. ∥∥₁_map synced (front_durable (origin_of desk) looked seen starts))

  -- what a sync of the keeper that has kept these entries makes of them
  pub sync_durable : (origin : Origin K) (seen : List Entry) (keeper : K) → HasKept rules origin seen keeper → durable keeper → IsDurable rules durable origin seen
  sync_durable origin seen keeper kept synced = record { later = seen; keeper = keeper; begins = starts_here seen; kept = kept; synced = synced }

  pub sync_progress : (origin : Origin K) (seen : List Entry) (count : ℕ) (keeper : K) → count ≡ length seen → HasKept rules origin seen keeper → durable keeper → HasSynced rules durable origin seen count
  sync_progress origin seen count keeper count_is kept synced = record { front = seen; begins = starts_here seen; count_is = count_is; synced = sync_durable origin seen keeper kept synced }
