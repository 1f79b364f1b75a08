-- What each step tells the seat that makes it.
use Rattle.std.specs.Prelude.{◌≡◌, ◌≢◌, ℕ, ◌+◌, ◌^◌, ◌≤◌, List, [], ◌∷◌, ◌++◌, map, Option, Some, None}
use Rattle.atomic_table.specs.Table.{Me, Step}
use Rattle.turnstile.specs.declared.view.Known.{Known}
use Rattle.turnstile.specs.declared.view.View.{View}
use Rattle.turnstile.specs.declared.view.Terms.{Terms}
use Rattle.turnstile.specs.Logs.{StartsWith, own}
use Rattle.turnstile.specs.Rule.{fresh, dealer}

-- a seat's view, and the slots that it has taken
abbrev pub SeatState : Type 0 → Type 0 → Type 0 → Type 0
SeatState O E F = Me (Option O) (View O E F)

abbrev pub counted : {E : Type 0} → ℕ → Known E → Known E
counted n k = record k { drawn = n }

-- the pass drew the turn t
abbrev pub with_turn : {E : Type 0} → ℕ → Known E → Known E
with_turn t k = record k { turns = k.turns + 1; drawn = t + 1 }

module _ {O E F : Type 0} where
  abbrev pub with_ticket : View O E F → ℕ → View O E F
  with_ticket v t = record v { passes = map (with_turn t) v.passes; ticket = Some t }

  abbrev pub with_core : View O E F → O → View O E F
  with_core v x = record v { taken = Some x }

  abbrev pub with_count : View O E F → ℕ → View O E F
  with_count v n = record v { passes = map (counted n) v.passes }

  -- the number of turns drawn was found, and was no less than the pass knew
  abbrev pub counts : Step (Option O) → SeatState O E F → ℕ → SeatState O E F → Type 0
  counts st m r m' =
      (m' ≡ (with_count m.0 r, m.1))
      × (r ≤ 2 ^ 62)
      × ((k : Known E) → m.0.passes ≡ k ∷ [] → k.drawn ≤ r)

  -- the ticket was drawn, if it was still the next one
  abbrev pub draws : Step (Option O) → SeatState O E F → ℕ → SeatState O E F → Type 0
  draws st m r m' = (r ≡ st.first → m' ≡ (with_ticket m.0 st.first, m.1)) × (r ≢ st.first → m' ≡ m)

-- the object x is no older than what the pass knows
pub record IsFresh {O E F : Type 0} (log : O → List E) (by : E → ℕ) (mark : O → ℕ) (fix : O → F)
    (k : Known E) (terms : Option (Terms F)) (x : O) : Type 0 where
  pub seen_is : StartsWith (log x) k.seen
  pub made_is : own by k.number (log x) ≡ own by k.number k.seen
  pub mark_is : k.mark ≤ mark x
  pub fixed_is : (t : Terms F) → terms ≡ Some t → fix x ≡ t.fixed

module _ {O E F : Type 0} (log : O → List E) (by : E → ℕ) (mark : O → ℕ) (fix : O → F) where
  -- the object was taken, if the seat's ticket is served
  abbrev pub called : Step (Option O) → SeatState O E F → ℕ → SeatState O E F → Type 0
  called st m r m' = (k : Known E) (t : ℕ) → m.0.passes ≡ k ∷ [] → m.0.ticket ≡ Some t
      → (r ≡ t
      → (x : O)
      × (m' ≡ (with_core m.0 x, (0, Some x) ∷ m.1))
      × IsFresh log by mark fix k m.0.terms x)
      × (r ≢ t → m' ≡ m)

-- what a pass knows after a turn that left the object y
abbrev pub known_after : {O E : Type 0} → (O → List E) → (O → ℕ) → O → Known E → Known E
known_after log mark y k =
    record { number = k.number; seen = log y; mark = mark y; turns = k.turns; drawn = k.drawn }

module _ {O E F : Type 0} (log : O → List E) (mark : O → ℕ) where
  abbrev pub view_after : O → View O E F → View O E F
  view_after y v =
      record {
        passes = map (known_after log mark y) v.passes;
        told = v.told;
        told_mark = v.told_mark;
        ticket = None;
        taken = None;
        terms = v.terms;
      }

  -- the object was given back
  abbrev pub ends : Step (Option O) → SeatState O E F → ℕ → SeatState O E F → Type 0
  ends st m r m' = (y : O) → m.1 ≡ (0, Some y) ∷ [] → m' ≡ (view_after y m.0, [])

abbrev pub first_known : {E : Type 0} → List (Known E) → Known E
first_known [] = fresh [] 0 0
first_known (k ∷ ks) = k

abbrev pub first_pass : {E : Type 0} → List (Known E) → List (Known E)
first_pass [] = []
first_pass (k ∷ ks) = k ∷ []

abbrev pub other_passes : {E : Type 0} → List (Known E) → List (Known E)
other_passes [] = []
other_passes (k ∷ ks) = ks

module _ {O E F : Type 0} where
  -- the first pass goes to a seat of its own
  abbrev pub dealt : View O E F → View O E F
  dealt v = record v { passes = other_passes v.passes }

  abbrev pub dealt_one : View O E F → View O E F
  dealt_one v = dealer (first_pass v.passes) v.terms

  -- a note of what the seat's pass knows
  abbrev pub note_of : View O E F → View O E F
  note_of v =
      record {
        passes = [];
        told = (first_known v.passes).seen;
        told_mark = (first_known v.passes).mark;
        ticket = None;
        taken = None;
        terms = v.terms;
      }

  -- a seat that stands for nothing
  abbrev pub spent_view : View O E F
  spent_view =
      record { passes = []; told = []; told_mark = 0; ticket = None; taken = None; terms = None }

  abbrev pub heard : View O E F → View O E F → View O E F
  heard v w = record v { told = w.told; told_mark = w.told_mark }

  -- the passes of both, those of the second first
  abbrev pub gathered : View O E F → View O E F → View O E F
  gathered v w = record v { passes = w.passes ++ v.passes }

abbrev pub learned : {E : Type 0} → List E → ℕ → Known E → Known E
learned h n k = record { number = k.number; seen = h; mark = n; turns = k.turns; drawn = k.drawn }

module _ {O E F : Type 0} (by : E → ℕ) where
  -- the pass has seen all that it had seen and was told, and has made no entry but its own
  abbrev pub learns : Step (Option O) → SeatState O E F → ℕ → SeatState O E F → Type 0
  learns st m r m' = (k : Known E) → m.0.passes ≡ k ∷ []
      → (h : List E)
      × (n : ℕ)
      × StartsWith h k.seen
      × StartsWith h m.0.told
      × (k.mark ≤ n)
      × (m.0.told_mark ≤ n)
      × (own by k.number h ≡ own by k.number k.seen)
      × (m' ≡ (record m.0 { passes = map (learned h n) m.0.passes }, m.1))
