-- A folder on a disk, what calls do to it, and what a crash leaves of it: of each file a front
-- that has at least what was synced, and of each name what it named at the folder's last sync, or
-- at some time since.
use Rattle.std.specs.Prelude.{◌≡◌, ◌≢◌, ◌≤◌, ◌⊎◌, ℕ, if◌then◌else◌, List, [], ◌∷◌, ◌++◌, length, take, Option, Some, None, Contains}
use lib.ListN.{get_elem?}
use mathlib.Core.Option.{some}
use Rattle.folder_core.specs.FileNames.{FileName, is_same_file_name}

-- A file of lines: the name under which it was made; the piece of the journal with which its reader
-- goes on, which it tells by its name; the lines that were written, how many of the first are on the
-- disk for sure, and of which line a part stands behind them, if of any.
pub record File (L : Type 0) : Type 0 where
  pub born : FileName
  pub resumes : ℕ
  pub lines : List L
  pub synced : ℕ
  pub part : Option L

-- A folder: its files, by number; what each name names now, a file or none; and what else it has
-- named since the folder's last sync.
pub record Disk (L : Type 0) : Type 0 where
  pub files : List (File L)
  pub now : FileName → Option ℕ
  pub earlier : FileName → List (Option ℕ)

module _ {L : Type 0} where
  -- a folder without files
  abbrev pub empty_disk : Disk L
  empty_disk = record { files = []; now = λ name. None; earlier = λ name. [] }

  -- what a crash may leave the name
  abbrev pub named : Disk L → FileName → List (Option ℕ)
  named disk name = disk.now name ∷ disk.earlier name

  -- the file of this number is this one
  abbrev pub Is : Disk L → ℕ → File L → Type 0
  Is disk number file = get_elem? disk.files number ≡ some file

  -- ---- calls
  -- from now on the name names this
  abbrev pub naming : FileName → Option ℕ → Disk L → Disk L
  naming name file disk =
      record disk {
        now = λ other. if is_same_file_name other name then file else disk.now other;
        earlier = λ other. if is_same_file_name other name then named disk other else disk.earlier other;
      }

  -- a file without lines
  abbrev pub new_file : FileName → ℕ → File L
  new_file name resumes =
      record { born = name; resumes = resumes; lines = []; synced = 0; part = None }

  -- a new file is made
  abbrev pub made : FileName → ℕ → Disk L → Disk L
  made name resumes disk =
      naming name (Some (length disk.files))
      (record disk { files = disk.files ++ new_file name resumes ∷ [] })

  -- a file whose lines are all on the disk, which is made under no name
  abbrev pub whole_file : FileName → ℕ → List L → File L
  whole_file name resumes lines =
      record { born = name; resumes = resumes; lines = lines; synced = length lines; part = None }

  -- such a file gets the name
  abbrev pub put : FileName → ℕ → List L → Disk L → Disk L
  put name resumes lines disk =
      naming name (Some (length disk.files))
      (record disk { files = disk.files ++ whole_file name resumes lines ∷ [] })

  -- a name is removed
  abbrev pub name_removed : FileName → Disk L → Disk L
  name_removed name disk = naming name None disk

  -- the folder is synced
  abbrev pub folder_synced : Disk L → Disk L
  folder_synced disk = record disk { earlier = λ name. [] }

  -- the file of this number has become another, and the rest is as it was
  pub record Changes (number : ℕ) (old new : File L) (before after : Disk L) : Type 0 where
    pub was : Is before number old
    pub files : (other : ℕ) (file : File L) → other ≢ number
        → Is before other file
        → Is after other file
    pub is : Is after number new
    pub no_more : length after.files ≡ length before.files
    pub now : (name : FileName) → after.now name ≡ before.now name
    pub earlier : (name : FileName) → after.earlier name ≡ before.earlier name

  -- lines are written, of which the first may go on with the part that stood there, and a part of one more
  pub record WritesLines (number : ℕ) (lines : List L) (part : Option L) (before after : Disk L)
      : Type 0 where
    pub file : File L
    pub wrote : Changes number file (record file { lines = file.lines ++ lines; part = part })
        before after

  -- so many of the file's lines are on the disk: as many as before, or more
  abbrev pub MaySync : File L → ℕ → Type 0
  MaySync file count =
      (count ≡ file.synced) ⊎ ((file.synced ≤ count) × (count ≤ length file.lines))

  -- Of files some lines more are on the disk, and of names some. Lines that were written while a call went on
  -- may be among them or not.
  pub record SyncsSome (before after : Disk L) : Type 0 where
    pub files : (number : ℕ) (file : File L)
        → Is before number file
        → (count : ℕ) × MaySync file count × Is after number (record file { synced = count })
    pub no_more : length after.files ≡ length before.files
    pub now : (name : FileName) → after.now name ≡ before.now name
    pub earlier : (name : FileName)
        → (after.earlier name ≡ before.earlier name) ⊎ (after.earlier name ≡ [])

  -- ---- crashes
  -- what a crash leaves of a file
  pub record IsLeftOf (old new : File L) : Type 0 where
    pub count : ℕ
    pub synced : old.synced ≤ count
    pub within : count ≤ length old.lines
    pub lines : new.lines ≡ take count old.lines
    pub on_disk : new.synced ≡ count
    pub born : new.born ≡ old.born
    pub resumes : new.resumes ≡ old.resumes

  -- what a crash leaves of a folder
  pub record CrashLeaves (old new : Disk L) : Type 0 where
    pub files : (number : ℕ) (file : File L) → Is old number file
        → (left : File L) × Is new number left × IsLeftOf file left
    pub names : (name : FileName) → Contains (named old name) (new.now name)
    pub settled : (name : FileName) → new.earlier name ≡ []
