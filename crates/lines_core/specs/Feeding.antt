-- Between two pieces of an input.
use Rattle.std.specs.Prelude.{ℕ, ◌^◌, List, []}

-- the front of the line that has begun, as far as it is kept, and how many bytes may still come
pub record FeedingState : Type 0 where
  pub line : List ℕ
  pub unread : ℕ

-- before the first piece
abbrev pub unfed : FeedingState
unfed = record { line = []; unread = 2 ^ 32 }
