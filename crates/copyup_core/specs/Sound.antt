-- What the slots of a store, its next number, its count and its capture have to do with one
-- another.
use Rattle.std.specs.Prelude.{◌≡◌, ℕ, ◌+◌, ◌-◌, ◌≤◌, Bool, filter, List, Option, Some, None, length}
use Rattle.std.specs.List.{All, AllWithin}
use Rattle.std.specs.Option.{MatchOption}
use Rattle.copyup_core.specs.declared.window.Window.{Window}
use Rattle.copyup_core.specs.Slot.{Slot, SlotsRise, IsFree, contents_of, had_within}

-- what a capture still has to give
abbrev pub rest_of : {V : Type 0} → List (Slot V) → Option Window → Option (List (ℕ × V))
rest_of xs None = None
rest_of xs (Some w) = Some (had_within w.cursor w.end xs)

-- the walk of a capture is over slots that are there, what is left is counted, and nothing is kept
-- outside
pub record IsWindow {V : Type 0} (xs : List (Slot V)) (w : Window) : Type 0 where
  pub ordered : w.cursor ≤ w.end
  pub within : w.end ≤ length xs
  pub left : w.left ≡ length (had_within w.cursor w.end xs)
  pub before : AllWithin IsFree xs 0 w.cursor
  pub after : AllWithin IsFree xs w.end (length xs)

-- the numbers of the slots rise and are below the next one, the items are counted, and something is
-- kept only where a capture still wants it
pub record IsSoundStore {V : Type 0} (xs : List (Slot V)) (next len : ℕ) (capture : Option Window) : Type 0 where
  pub rises : SlotsRise 0 next xs
  pub counted : len ≡ length (contents_of xs)
  pub capture_sound : MatchOption capture (All IsFree xs) (IsWindow xs)

-- the items that a test does not pass are taken out, and counted, and a capture misses none of them
pub record IsSifted {V : Type 0} (keeps : V → Bool) (capture : Option Window) (old new : List (Slot V)) (dropped : ℕ) : Type 0 where
  pub contents : contents_of new ≡ filter (λ e. keeps e.1) (contents_of old)
  pub count : length (contents_of new) + dropped ≡ length (contents_of old)
  pub rest : rest_of new capture ≡ rest_of old capture
  pub sound : (next len : ℕ) → IsSoundStore old next len capture → IsSoundStore new next (len - dropped) capture
