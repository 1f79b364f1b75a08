-- What a start finds in a folder: the newest dump, and the pieces of the journal that join behind
-- it.
use Rattle.std.specs.Prelude.{◌≡◌, ◌<◌, ℕ, ◌+◌, List, [], ◌++◌, length, Some, None}
use Rattle.folder_core.specs.Disk.{File, Disk, Is}
use Rattle.folder_core.specs.FileNames.{FileName, dump, piece}

module _ {L : Type 0} (disk : Disk L) where
  -- the file under this name
  pub record Has (name : FileName) (file : File L) : Type 0 where
    pub number : ℕ
    pub named : disk.now name ≡ Some number
    pub is : Is disk number file

  -- no file is under this name
  abbrev pub HasNone : FileName → Type 0
  HasNone name = disk.now name ≡ None

  -- the lines of the pieces from this point on, as long as one begins where the one before it
  -- ends
  pub data Joins : ℕ → List L → Type 0 where
    no_piece : (point : ℕ) → HasNone (piece point) → Joins point []
    no_line : (point : ℕ) (file : File L)
        → Has (piece point) file
        → file.lines ≡ []
        → Joins point []
    next_piece : (point : ℕ) (file : File L) (behind : List L)
        → Has (piece point) file
        → 0 < length file.lines
        → Joins (point + length file.lines) behind
        → Joins point (file.lines ++ behind)

  -- no dump is of a later point
  abbrev pub IsNewest : ℕ → Type 0
  IsNewest point = (later : ℕ) → point < later → HasNone (dump later)

  -- What is restored: the newest dump, and of the lines from the piece on with which it resumes those
  -- behind its point; or without a dump all lines. It is told behind how many changes the dump stands, and
  -- with which piece it resumes.
  pub data Restores : ℕ → ℕ → List L → List L → Type 0 where
    behind_dump : (point : ℕ) (file : File L) (skipped behind : List L)
        → Has (dump point) file
        → IsNewest point
        → Joins file.resumes (skipped ++ behind)
        → file.resumes + length skipped ≡ point
        → Restores point file.resumes file.lines behind
    from_first : (behind : List L)
        → HasNone (dump 0)
        → IsNewest 0
        → Joins 0 behind
        → Restores 0 0 [] behind
