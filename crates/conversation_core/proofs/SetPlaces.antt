-- Places of a list that are set.
use Rattle.std.proofs.Common.{◌≡◌, ℕ, zero, suc, true, List, [], ◌∷◌, Option, Some, None, slice_index_or, unwrap_or, refl, sym, ap, ◌∙◌}
use Rattle.std.specs.Prelude.{slice_get, slice_set}
use Rattle.std.proofs.lemmas.Bool.{false≢true}
use Rattle.std.proofs.lemmas.List.Quantifiers.{position-Some}
use Rattle.std.proofs.lemmas.Option.{slice_get-get_or}
use Rattle.conversation_core.specs.State.{is_portal_called, portal_place}
use Rattle.conversation_core.specs.declared.portals.Bound.{Bound}

pub some_once : {A : Type 0} (x y : A) → Some x ≡ Some y → x ≡ y
some_once x y same = ap (λ (o : Option _). unwrap_or o x) same

-- the last value stands
pub set_again : {A : Type 0} (xs : List A) (i : ℕ) (x y : A) → slice_set (slice_set xs i x) i y ≡ slice_set xs i y
set_again [] i x y = refl
set_again (z ∷ zs) zero x y = refl
set_again (z ∷ zs) (suc i) x y = ap (λ (ys : List _). z ∷ ys) (set_again zs i x y)

-- what stands there already changes nothing
pub set_same : {A : Type 0} (xs : List A) (i : ℕ) (x : A) → slice_get xs i ≡ Some x → slice_set xs i x ≡ xs
set_same [] i x there = refl
set_same (z ∷ zs) zero x there = ap (λ (y : _). y ∷ zs) (sym (some_once z x there))
set_same (z ∷ zs) (suc i) x there = ap (λ (ys : List _). z ∷ ys) (set_same zs i x there)

called : (name : List ℕ) (here : Option Bound) → is_portal_called name here ≡ true → (portal : Bound) × (here ≡ Some portal)
called name None is = absurd (false≢true is)
called name (Some portal) is = (portal, refl)

-- a portal stands in the place of a name
pub stands_at : (name : List ℕ) (portals : List (Option Bound)) (place : ℕ) → portal_place name portals ≡ Some place
    → (portal : Bound) × (slice_get portals place ≡ Some (Some portal))
stands_at name portals place told =
    let at = position-Some (is_portal_called name) portals place None told in
    let found = called name (slice_index_or portals place None) at.1 in
    (found.0, slice_get-get_or portals place None at.0 ∙ ap Some found.1)
