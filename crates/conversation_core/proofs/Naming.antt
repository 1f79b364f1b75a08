-- What is found by a name.
use Rattle.std.proofs.Common.{◌≡◌, ◌≢◌, ◌<◌, ◌≤◌, ◌∷◌, ℕ, true, false, List, Option, Some, None, Result, Ok, Err, OnOk, MatchOption, Bor, length, slice_index_or, refl, sym, ap, ◌∙◌, arith, length-append}
use Rattle.std.proofs.lemmas.Bool.{false≢true}
use Rattle.std.proofs.lemmas.List.Quantifiers.{position-Some}
use Rattle.std.proofs.lemmas.Option.{slice_get_read}
use Rattle.std.specs.Option.{is_some, option_copied}
use Rattle.parameters_core.proofs.Cuts.{first_once}
use Rattle.parameters_core.specs.Statements.{StandsFirst}
use Rattle.preparing_core.specs.Preparing.{SaysOne, ended, last}
use Rattle.conversation_core.specs.Portals.{IsPortalNamed}
use Rattle.conversation_core.specs.State.{is_portal_called, portal_place}
use Rattle.conversation_core.specs.declared.portals.Bound.{Bound}

-- what is told is something, or nothing
pub some_told : {A : Type 0} (found told : Option A) → found ≡ told → is_some found ≡ true → told ≢ None
some_told found told same some none = false≢true (sym (ap is_some (same ∙ none)) ∙ some)

pub none_told : {A : Type 0} (found told : Option A) → found ≡ told → is_some found ≡ false → told ≡ None
none_told None told same none = sym same
none_told (Some x) told same none = absurd (false≢true (sym none))

-- the same of what is lent
pub some_lent : {A : Type 0} (found : Option (Bor A)) (told : Option A) → option_copied found ≡ told → is_some found ≡ true → told ≢ None
some_lent None told same some none = false≢true some
some_lent (Some x) told same some none = false≢true (sym (ap is_some (same ∙ none)))

pub none_lent : {A : Type 0} (found : Option (Bor A)) (told : Option A) → option_copied found ≡ told → is_some found ≡ false → told ≡ None
none_lent None told same none = sym same
none_lent (Some x) told same none = absurd (false≢true (sym none))

-- what stands in the place of a name is the portal of that name
pub named_at : (name : List ℕ) (portals : List (Option Bound)) (place : ℕ) (here : Option Bound) (found : Option (Bor Bound))
    → Some place ≡ portal_place name portals → place < length portals → here ≡ slice_index_or portals place here → option_copied found ≡ here
    → MatchOption found (portal_place name portals ≡ None) (λ (portal : Bor Bound). IsPortalNamed name portals portal.now)
named_at name portals place here None told within is none =
    let called = (position-Some (is_portal_called name) portals place here (sym told)).1 in
    let free : is_portal_called name here ≡ false = sym (ap (is_portal_called name) none) in
    absurd (false≢true (sym free ∙ (ap (is_portal_called name) is ∙ called)))
named_at name portals place here (Some portal) told within is some = record {
  place = place;
  found = sym told;
  here = slice_get_read portals (length portals) place here refl within is ∙ ap Some (sym some);
}

-- the one statement of a text is the one that stands first
pub first_is : (text first : List ℕ) (rest : Option (List ℕ)) → StandsFirst text first rest → (statement : List ℕ) → SaysOne text statement → first ≡ statement
first_is text first rest stands statement (last one) = (first_once text first statement rest None stands one).0
first_is text first rest stands statement (ended behind one silent) = (first_once text first statement rest (Some behind) stands one).0

-- what goes well comes to something else
pub on_ok : {A E P Q : Type 0} (r : Result A E) → (P → Q) → OnOk r P → OnOk r Q
on_ok (Ok x) so is = so is
on_ok (Err e) so is = is

-- which is no longer than the text
pub first_within : (text first : List ℕ) (rest : Option (List ℕ)) → StandsFirst text first rest → length first ≤ length text
first_within text first None stands = omega (arith, ap (λ (t : List ℕ). length t) stands.0)
first_within text first (Some rest) stands = omega (arith, ap (λ (t : List ℕ). length t) stands.0, length-append first (59 ∷ rest))
