-- The rule of the table: what holds between any two atomic steps.
-- Word 0, the ticket word, is the number of turns drawn, counted from the start, and word 1 the
-- turn that is served. The one slot has the object.
use Rattle.std.specs.Prelude.{◌≡◌, ◌≢◌, ℕ, zero, suc, ◌+◌, ◌<◌, ◌≤◌, ◌^◌, ◌⊎◌, List, [], ◌∷◌, length, All, Option, Some, None}
use mathlib.Core.Option.{some, none}
use lib.ListN.{get_elem?}
use Rattle.atomic_table.specs.Table.{State}
use Rattle.turnstile.specs.declared.view.Known.{Known}
use Rattle.turnstile.specs.declared.view.View.{View}
use Rattle.turnstile.specs.declared.view.Terms.{Terms}
use Rattle.turnstile.specs.Logs.{StartsWith, own}

abbrev pub total : {V : Type 0} → (V → ℕ) → List V → ℕ
total f [] = 0
total f (v ∷ vs) = f v + total f vs

abbrev pub pass_count : {O E F : Type 0} → View O E F → ℕ
pass_count v = length v.passes

-- how many turns its passes drew
abbrev pub turn_count : {O E F : Type 0} → View O E F → ℕ
turn_count v = total (λ k. k.turns) v.passes

-- how many tickets it has
abbrev pub tickets : Option ℕ → ℕ
tickets None = 0
tickets (Some t) = 1

abbrev pub ticket_count : {O E F : Type 0} → View O E F → ℕ
ticket_count v = tickets v.ticket

-- the passes have different numbers
abbrev pub Apart : {E : Type 0} → List (Known E) → Type 0
Apart [] = Unit {0}
Apart {E} (k ∷ ks) =
    ((m : ℕ) (l : Known E) → get_elem? ks m ≡ some l → l.number ≢ k.number) × Apart ks

module _ {E : Type 0} (by : E → ℕ) (history : List E) (most ticket count : ℕ) (owner : ℕ → ℕ)
    (seat : ℕ) where
  -- what a pass of this seat knows is so: most is the object's mark
  pub record PassFits (k : Known E) : Type 0 where
    pub below : k.number < count
    pub owned : owner k.number ≡ seat
    pub seen : StartsWith history k.seen
    pub made : own by k.number history ≡ own by k.number k.seen
    pub mark : k.mark ≤ most
    pub drawn : k.drawn ≤ ticket

module _ {O E F : Type 0} (log : O → List E) (by : E → ℕ) (mark : O → ℕ) (core : O)
    (ticket serving : ℕ) (queue owner : ℕ → ℕ) (terms : Terms F) where
  -- what the seat j knows is so: a ticket is not yet served or is served now, and who has taken the
  -- object is being served
  pub record ViewFits (j : ℕ) (v : View O E F) : Type 0 where
    pub passes : (m : ℕ) (k : Known E)
        → get_elem? v.passes m ≡ some k
        → PassFits by (log core) (mark core) ticket terms.count owner j k
    pub apart : Apart v.passes
    pub told : StartsWith (log core) v.told
    pub told_mark : v.told_mark ≤ mark core
    pub ticket_is : (t : ℕ)
        → v.ticket ≡ Some t
        → (serving ≤ t) × (t < ticket) × (queue t ≡ j) × (length v.passes ≡ 1)
    pub taken_is : (x : O) → v.taken ≡ Some x → (x ≡ core) × (v.ticket ≡ Some serving)
    pub terms_is : (t : Terms F) → v.terms ≡ Some t → t ≡ terms

module _ {O E F : Type 0} where
  -- the seat has the object out
  abbrev pub Out : O → ℕ → State (Option O) (View O E F) → Type 0
  Out core holder s =
      (s.homes ≡ none ∷ [])
      × (v : View O E F)
      × (get_elem? s.views holder ≡ some v)
      × (v.taken ≡ Some core)

  -- the object is at home, or the seat whose ticket is served has it out
  abbrev pub IsPlaced : O → ℕ → State (Option O) (View O E F) → Type 0
  IsPlaced core holder s = (s.homes ≡ some (Some core) ∷ []) ⊎ Out core holder s

-- The core is the object as the last turn left it. Its log is the history: what a turn in progress
-- does joins it as the served word rises.
pub record Turns {O E F : Type 0} (log : O → List E) (by : E → ℕ) (mark : O → ℕ) (fix : O → F)
    (terms : Terms F) (s : State (Option O) (View O E F)) : Type 0 where
  pub core : O
  pub ticket : ℕ
  pub serving : ℕ
  -- the seat that drew a ticket, and the seat that has the pass of a number
  pub queue : ℕ → ℕ
  pub owner : ℕ → ℕ
  pub words : s.words ≡ ticket ∷ serving ∷ []
  -- there is a seat with a ticket for each turn that is drawn and not ended
  pub waiting : ticket ≡ serving + total ticket_count s.views
  pub bound : ticket ≤ 2 ^ 62
  pub drawn : ticket ≡ terms.start + total turn_count s.views
  pub slot : IsPlaced core (queue serving) s
  pub views : (j : ℕ) (v : View O E F)
      → get_elem? s.views j ≡ some v
      → ViewFits log by mark core ticket serving queue owner terms j v
  pub all : total pass_count s.views ≡ terms.count
  pub bears : All (λ e. by e < terms.count) (log core)
  pub fixed : fix core ≡ terms.fixed

-- a pass that knows nothing but the log of the object as it came, and where turns are counted from
abbrev pub fresh : {E : Type 0} → List E → ℕ → ℕ → Known E
fresh log start p = record { number = p; seen = log; mark = 0; turns = 0; drawn = start }

-- the passes of n numbers from p on, which know no more
abbrev pub fresh_from : {E : Type 0} → List E → ℕ → ℕ → ℕ → List (Known E)
fresh_from log start p zero = []
fresh_from log start p (suc n) = fresh log start p ∷ fresh_from log start (suc p) n

-- a seat with these passes, at rest
abbrev pub dealer : {O E F : Type 0} → List (Known E) → Option (Terms F) → View O E F
dealer ks t =
    record { passes = ks; told = []; told_mark = 0; ticket = None; taken = None; terms = t }

-- the seat that has brought an object with this log
abbrev pub opening_view : {E O F : Type 0} → List E → Terms F → View O E F
opening_view log t = dealer (fresh_from log t.start 0 t.count) (Some t)
