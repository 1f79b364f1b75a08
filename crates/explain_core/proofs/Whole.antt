-- The beginning and the end of reading a history.
use Rattle.std.proofs.Common.{◌≡◌, ℕ, ◌<◌, ◌≤◌, List, [], ◌∷◌, length, get_or, map, take, slice_get, suc, zero, Option, Some, refl, sym, ap, ◌∙◌, subst, arith}
use Rattle.std.specs.List.{All}
use Rattle.std.proofs.lemmas.List.{get_or-map, take_all}
use Rattle.std.proofs.lemmas.Option.{none-some, slice_get_within, get_or_from_slice_get}
use Rattle.grants_core.specs.declared.grant.Grant.{Grant}
use Rattle.grants_core.specs.declared.grant.Ownership.{Ownership}
use Rattle.grants_core.specs.declared.grant.Change.{Change}
use Rattle.grants_core.specs.History.{granted, owners_after}
use Rattle.explain_core.specs.declared.coming.Ends.{Ends}
use Rattle.explain_core.specs.declared.life.Life.{Life}
use Rattle.explain_core.specs.declared.made.Made.{Made}
use Rattle.explain_core.specs.declared.supports.Supports.{Supports}
use Rattle.grants_core.specs.Lawful.{AreLawful}
use Rattle.explain_core.specs.Kept.{Explains, IsSupported}
use Rattle.explain_core.specs.Ends.{next_ends}
use Rattle.explain_core.specs.Reading.{EndsRight, EndsWithin, AreLives, IsRead, AreEarlier}
use Rattle.explain_core.proofs.Standing.{grant_of}
use Rattle.explain_core.proofs.Falling.{lives-right}

All-nothing : (P : Life → Type 0) → All P []
All-nothing P k d within = let impossible : k < 0 = within in absurd (omega (arith, impossible))

lives-none : (changes : List Change) → AreLives changes []
lives-none changes = record {
  made = refl;
  stand = λ m. refl;
  options = All-nothing (EndsRight changes);
  falls = All-nothing (λ l. EndsWithin l.grant.moment.0 (length changes) l.fell);
  ends = All-nothing (λ l. EndsWithin l.grant.moment.0 (length changes) l.option_end);
}

-- at the beginning no life is read
pub read-none : (changes : List Change) (made : Made) (lives : List Life) (places : List (Option ℕ)) → AreLawful changes → made.owners ≡ owners_after changes → made.grants.items ≡ granted changes → lives ≡ [] → places ≡ [] → IsRead changes made lives places
read-none changes made lives places lawful owners grants no_lives no_places =
    let P : List Life → Type 0 = λ ls. IsRead changes made ls places in
    let Q : List (Option ℕ) → Type 0 = λ ps. IsRead changes made [] ps in
    subst P (sym no_lives) (subst Q (sym no_places) (record {
      lawful = lawful;
      owners = owners;
      grants = grants;
      lives_are = lives-none changes;
      as_many = refl;
      supported = λ place life support one two. absurd (none-some life one);
    }))

pub earlier-none : (made : Made) (lives : List Life) (supports : Supports) → supports.noted ≡ 0 → AreEarlier made lives supports
earlier-none made lives supports at_start place g le at k d within =
    let none : length (take supports.noted lives) ≡ 0 = ap (λ n. length (take n lives)) at_start in
    absurd (omega (arith, within, none))

-- a place within a list has an element
pub found_at : {X : Type 0} (xs : List X) (k : ℕ) → k < length xs → (x : X) × (slice_get xs k ≡ Some x)
found_at [] k h = absurd (omega (arith, h))
found_at (x ∷ xs) zero h = (x, refl)
found_at (x ∷ xs) (suc k) h = found_at xs k (omega arith)

-- the ends at a place are those of the grant there
pub ends-at : (changes : List Change) (made : List Grant) (items : List Ends) (k : ℕ) (g : Grant) (d : Ends) → items ≡ map (next_ends changes) made → slice_get made k ≡ Some g → get_or items k d ≡ next_ends changes g
ends-at changes made items k g d is at =
    ap (λ es. get_or es k d) is ∙ get_or-map (next_ends changes) made k g d (slice_get_within made k g at)
    ∙ ap (next_ends changes) (get_or_from_slice_get made k g g at)

-- **in the end the history is explained**
pub explains-read : (changes : List Change) (made : Made) (lives : List Life) (places : List (Option ℕ)) → IsRead changes made lives places → length made.grants.items ≤ length lives → Explains changes made.owners lives places
explains-read changes made lives places read all =
    let gs : List Grant = granted changes in
    let count : length made.grants.items ≡ length gs = ap length read.grants in
    let whole : map grant_of lives ≡ gs = read.lives_are.made ∙ take_all (length lives) gs (omega arith) in
    let Supported : List Ownership → Type 0 = λ os. (place : ℕ) (life : Life) (support : Option ℕ) → slice_get lives place ≡ Some life → slice_get places place ≡ Some support → IsSupported changes os lives life support in
    record {
      lawful = read.lawful;
      owners_of = read.owners;
      lives_are = lives-right changes lives read.lawful read.lives_are whole;
      as_many = read.as_many;
      supported = subst Supported (sym read.owners) read.supported;
    }
