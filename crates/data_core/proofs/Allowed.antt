-- When a call may be made.
use Rattle.std.proofs.Common.{◌≡◌, ℕ, ◌≤◌, ◌<◌, Option, Some, None, IfSome, List, [], refl, sym, ap, subst, ◌∙◌, arith}
use Rattle.folder_core.specs.FileNames.{dump}
use Rattle.folder_core.specs.Disk.{folder_synced}
use Rattle.folder_core.specs.Serving.{serving, Reaches, on}
use Rattle.folder_core.specs.Calls.{TextState, Moves, MayBegin, next_piece, MayRemovePiece, old, MaySettle, MayPut}
use Rattle.folder_core.proofs.Outlives.{told_within}
use Rattle.folder_core.proofs.Moving.{moved_has}
use Rattle.data_core.specs.declared.place.Place.{Place}
use Rattle.data_core.specs.Written.{IsAt}
use Rattle.data_core.specs.Tending.{IsDumpOfFront}

-- a piece may begin
pub may_begin : (IsDumpOf : List (List ℕ) → List (List ℕ) → Type 0) (none : IsDumpOf [] []) (place : Place) → place.put ≡ None → place.first < place.told → (o : Option TextState) → IfSome o (Reaches IsDumpOf) → IfSome o (IsAt place) → IfSome o MayBegin
may_begin IsDumpOf none place no_put some None reached at = tt
may_begin IsDumpOf none place no_put some (Some s) reached at =
    let told = at.told in
    let within = told_within IsDumpOf none s reached place.first place.put at.serves in
    next_piece place.first (at.serves ∙ ap (serving place.first) no_put) (omega arith)

-- a piece may be removed
pub may_remove : (place : Place) (point : ℕ) → point < place.resumes → (o : Option TextState) → IfSome o (IsAt place) → IfSome o (MayRemovePiece point)
may_remove place point behind None at = tt
may_remove place point behind (Some s) at =
    let r = at.resumes_is in
    old place.first place.put at.serves (omega arith)

-- a dump may be settled, once names are synced
pub may_settle : (place : Place) (point : ℕ) → place.put ≡ Some point → (o p : Option TextState) → IfSome o (IsAt place) → Moves (λ s t. t ≡ on (folder_synced s.disk) s) o p → IfSome p (MaySettle point)
may_settle place point is = moved_has (λ s t. t ≡ on (folder_synced s.disk) s) (IsAt place) (MaySettle point) says
  where
    says : (s t : TextState) → IsAt place s → t ≡ on (folder_synced s.disk) s → MaySettle point t
    says s t at synced =
        let named = subst (λ (put : Option ℕ). IfSome put (λ p. (number : ℕ) × (s.disk.now (dump p) ≡ Some number))) is at.named in
        subst (MaySettle point) (sym synced) (record { first = place.first; number = named.0; serves = at.serves ∙ ap (serving place.first) is; named = named.1; alone = refl })

-- a dump may have its name
pub may_put : (IsDumpOf : List (List ℕ) → List (List ℕ) → Type 0) (none : IsDumpOf [] []) (place : Place) (point : ℕ) (lines : List (List ℕ)) → place.put ≡ None → place.base < point → place.first ≤ point → point ≤ place.told → (o : Option TextState) → IfSome o (Reaches IsDumpOf) → IfSome o (IsAt place) → IfSome o (IsDumpOfFront IsDumpOf point lines) → IfSome o (MayPut IsDumpOf point lines)
may_put IsDumpOf none place point lines no_put newer starts on_disk None reached at dumps = tt
may_put IsDumpOf none place point lines no_put newer starts on_disk (Some s) reached at dumps =
    let b = at.base_is in
    let told = at.told in
    let within = told_within IsDumpOf none s reached place.first place.put at.serves in
    record {
      first = place.first;
      serves = at.serves ∙ ap (serving place.first) no_put;
      newer = (omega arith);
      starts = starts;
      told = (omega arith);
      dumped = dumps (omega arith);
    }
