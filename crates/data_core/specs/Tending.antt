-- What is done to a server's folder between writes, and when it may be.
use Rattle.std.specs.Prelude.{◌≡◌, ◌≤◌, ◌<◌, ℕ, Bool, true, false, List, [], length, take, Some, None}
use Rattle.folder_core.specs.Disk.{folder_synced}
use Rattle.folder_core.specs.Serving.{Phase, serving, on}
use Rattle.folder_core.specs.Calls.{TextState, Settles, part_at}

-- if there are so many changes, these lines are a dump of what the first so many leave
abbrev pub IsDumpOfFront : (List (List ℕ) → List (List ℕ) → Type 0) → ℕ → List (List ℕ) → TextState
    → Type 0
IsDumpOfFront IsDumpOf point lines s =
    point ≤ length s.journal
    → IsDumpOf (take point s.journal) lines

-- A dump of this point may get its name: none is under way, it is newer than the newest, the piece that is
-- written to begins before it, and the changes that it is of were told to be on the disk.
pub record IsTimeToPut (told point : ℕ) (s : TextState) : Type 0 where
  pub first : ℕ
  pub serves : s.phase ≡ serving first None
  pub newer : s.base < point
  pub starts : first ≤ point
  pub on_disk : point ≤ told

-- a piece may begin: no dump is under way, some change of this piece was told to be on the disk, and no part
-- of a line stands at its end
pub record IsTimeToBegin (told : ℕ) (s : TextState) : Type 0 where
  pub first : ℕ
  pub serves : s.phase ≡ serving first None
  pub some : first < told
  pub ended : part_at s.phase s.disk ≡ []

-- whether a dump has its name, which may not be on the disk
abbrev pub is_put : Phase → Bool
is_put (serving first (Some point)) = true
is_put phase = false

-- its name is on the disk, and so it is the newest from now on
abbrev pub SettlesPut : TextState → TextState → Type 0
SettlesPut s t = (point : ℕ) × Settles point (on (folder_synced s.disk) s) t
