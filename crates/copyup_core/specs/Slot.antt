-- What slots say of items.
use Rattle.std.specs.Prelude.{◌≡◌, ℕ, ◌+◌, ◌<◌, ◌≤◌, Bool, true, false, length, get_or, set, List, [], ◌∷◌, Option, Some, None, take, drop}
use Rattle.std.specs.Option.{option_or, IsSome, is_some}
use Rattle.std.specs.List.{flat_map}
use Rattle.copyup_core.specs.Holding.{value_at}

-- one place of a store: a number, the item now, and what the item was when the capture began, where
-- that was put by
pub record Slot (V : Type 0) : Type 0 where
  pub number : ℕ
  pub live : Option V
  pub kept : Option V

-- the item when the capture began, as far as it is still to be captured
abbrev pub had : {V : Type 0} → Slot V → Option V
had s = option_or s.kept s.live

-- an item or none, with its number
abbrev pub numbered : {V : Type 0} → ℕ → Option V → List (ℕ × V)
numbered n None = []
numbered n (Some v) = (n, v) ∷ []

-- the item of a slot, with its number
abbrev pub live_item : {V : Type 0} → Slot V → List (ℕ × V)
live_item s = numbered s.number s.live

-- what a slot had when the capture began, with its number
abbrev pub had_item : {V : Type 0} → Slot V → List (ℕ × V)
had_item s = numbered s.number (had s)

-- whether a slot has an item
abbrev pub is_live : {V : Type 0} → Slot V → Bool
is_live s = is_some s.live

-- the items of slots, with their numbers
abbrev pub contents_of : {V : Type 0} → List (Slot V) → List (ℕ × V)
contents_of xs = flat_map live_item xs

-- a list from one place up to another
abbrev pub window : {A : Type 0} → ℕ → ℕ → List A → List A
window from to xs = drop from (take to xs)

-- what the slots from one place to another had when the capture began
abbrev pub had_within : {V : Type 0} → ℕ → ℕ → List (Slot V) → List (ℕ × V)
had_within from to xs = flat_map had_item (window from to xs)

-- numbers rise from low on, and stay below high
abbrev pub SlotsRise : {V : Type 0} → ℕ → ℕ → List (Slot V) → Type 0
SlotsRise low high [] = low ≤ high
SlotsRise low high (s ∷ ss) = (low ≤ s.number) × SlotsRise (s.number + 1) high ss

-- nothing is kept here
abbrev pub IsFree : {V : Type 0} → Slot V → Type 0
IsFree s = s.kept ≡ None

-- numbers and live items are as before, and so is what each slot had from a place on
pub record Keeps {V : Type 0} (place : ℕ) (old new : List (Slot V)) : Type 0 where
  pub rises : (low high : ℕ) → SlotsRise low high old → SlotsRise low high new
  pub contents : contents_of new ≡ contents_of old
  pub had_from : (c e : ℕ) → place ≤ c → had_within c e new ≡ had_within c e old

-- slots before and after a part are as before
pub record SameOutside {V : Type 0} (from to : ℕ) (old new : List (Slot V)) : Type 0 where
  pub long : length new ≡ length old
  pub before : (k : ℕ) (d : Slot V) → k < from → get_or new k d ≡ get_or old k d
  pub after : (k : ℕ) (d : Slot V) → to ≤ k → get_or new k d ≡ get_or old k d

-- the slot has an item, the one numbered n
abbrev pub HasItemOf : {V : Type 0} → ℕ → List (ℕ × V) → Slot V → Type 0
HasItemOf n items s = IsSome s.live × (s.live ≡ value_at n items)

-- the item of a slot is changed: where a capture wants the slot, what it had stays
pub record IsChanged {V : Type 0} (item : Option V) (wanted : Bool) (old new : Slot V) : Type 0 where
  pub number : new.number ≡ old.number
  pub live : new.live ≡ item
  pub captured : wanted ≡ true → had new ≡ had old
  pub untouched : wanted ≡ false → new.kept ≡ old.kept

-- a slot of which no capture wants anything any more
pub record IsForgotten {V : Type 0} (old new : Slot V) : Type 0 where
  pub number : new.number ≡ old.number
  pub live : new.live ≡ old.live
  pub free : IsFree new

-- one slot is written, and how it changes
pub record WritesAt {V : Type 0} (changes : Slot V → Slot V → Type 0) (place : ℕ) (old new : List (Slot V)) : Type 0 where
  pub slot : Slot V
  pub items : new ≡ set old place slot
  pub changed : changes (get_or old place slot) slot
