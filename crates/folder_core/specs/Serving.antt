-- What a server does to its folder, from its first start on and through every crash: and that
-- what was told is restored.
use Rattle.std.specs.Prelude.{◌≡◌, ◌≤◌, ◌<◌, ◌⊎◌, ℕ, ◌+◌, List, [], ◌++◌, length, take, Option, Some, None}
use Rattle.folder_core.specs.FileNames.{FileName, dump, piece}
use Rattle.folder_core.specs.Disk.{File, Disk, empty_disk, Is, made, put, name_removed, WritesLines, SyncsSome, CrashLeaves}
use Rattle.folder_core.specs.Restoring.{Restores}

-- How far it is: a crash has ended it; it starts; or it serves, and writes to the piece that begins
-- here, while the dump of what the first so many changes leave has its name, which may not be on the disk, if
-- one has.
pub data Phase : Type 0 where
  crashed : Phase
  starting : Phase
  serving : (first : ℕ) (capture : Option ℕ) → Phase

-- it runs
abbrev pub IsUp : Phase → Type 0
IsUp crashed = ⊥
IsUp _ = Unit {0}

-- A folder and how far its server is: the point of the newest dump, the piece with which it resumes,
-- the lines of all changes since the first, and how many of them were told.
pub record ServerState (L : Type 0) : Type 0 where
  pub disk : Disk L
  pub phase : Phase
  pub base : ℕ
  pub resumes : ℕ
  pub journal : List L
  pub told : ℕ

module _ {L : Type 0} where
  abbrev pub nothing_served : ServerState L
  nothing_served =
      record {
        disk = empty_disk;
        phase = crashed;
        base = 0;
        resumes = 0;
        journal = [];
        told = 0;
      }

  abbrev pub on : Disk L → ServerState L → ServerState L
  on disk s = record s { disk = disk }

  -- the journal goes on in a piece of its own
  abbrev pub begun : ServerState L → ServerState L
  begun s =
      record (on (made (piece (length s.journal)) (length s.journal) s.disk) s) {
        phase = serving (length s.journal) None;
      }

  -- of a piece on the disk these changes are there for sure: all of it, or so many
  pub record HoldsUpTo (count : ℕ) (disk : Disk L) (point number : ℕ) : Type 0 where
    pub file : File L
    pub named : disk.now (piece point) ≡ Some number
    pub settled : disk.earlier (piece point) ≡ []
    pub is : Is disk number file
    pub synced : (file.synced ≡ length file.lines) ⊎ (count ≤ point + file.synced)

  -- it names nothing, and has not since the folder's last sync
  abbrev pub NamesNone : Disk L → FileName → Type 0
  NamesNone disk name = (disk.now name ≡ None) × (disk.earlier name ≡ [])

  -- One step: a call, or a crash. It is known which lines are a dump of what changes leave.
  pub data ServerStep (IsDumpOf : List L → List L → Type 0) (s : ServerState L) : ServerState L → Type 0 where
    -- ---- while it runs
    crashes : (left : Disk L)
        → IsUp s.phase
        → CrashLeaves s.disk left
        → ServerStep IsDumpOf s (record (on left s) { phase = crashed })
    syncs : (after : Disk L)
        → IsUp s.phase
        → SyncsSome s.disk after
        → ServerStep IsDumpOf s (on after s)
    -- ---- while it starts
    finds : (point resumes : ℕ) (base behind : List L)
        → s.phase ≡ crashed
        → Restores s.disk point resumes base behind
        → ServerStep IsDumpOf s (record s {
          phase = starting;
          base = point;
          resumes = resumes;
          journal = take (point + length behind) s.journal;
        })
    clears : (point : ℕ)
        → s.phase ≡ starting
        → length s.journal ≤ point
        → ServerStep IsDumpOf s (on (name_removed (piece point) s.disk) s)
    is_ready : s.phase ≡ starting
        → ((point : ℕ) → length s.journal ≤ point → NamesNone s.disk (piece point))
        → ServerStep IsDumpOf s (begun s)
    -- ---- while it serves
    enters : (first number : ℕ) (capture : Option ℕ) (lines : List L) (part : Option L) (after : Disk L)
        → s.phase ≡ serving first capture
        → s.disk.now (piece first) ≡ Some number
        → WritesLines number lines part s.disk after
        → ServerStep IsDumpOf s (record (on after s) { journal = s.journal ++ lines })
    tells : (first count : ℕ) (capture : Option ℕ)
        → s.phase ≡ serving first capture
        → s.told ≤ count
        → count ≤ length s.journal
        → ((point number : ℕ) → s.resumes ≤ point → point < count
        → s.disk.now (piece point) ≡ Some number
        → HoldsUpTo count s.disk point number)
        → ServerStep IsDumpOf s (record s { told = count })
    begins : (first : ℕ)
        → s.phase ≡ serving first None
        → first < length s.journal
        → ServerStep IsDumpOf s (begun s)
    puts : (first point : ℕ) (lines : List L)
        → s.phase ≡ serving first None
        → s.base < point
        → first ≤ point
        → point ≤ s.told
        → IsDumpOf (take point s.journal) lines
        → ServerStep IsDumpOf s (record (on (put (dump point) first lines s.disk) s) {
          phase = serving first (Some point);
        })
    settles : (first point number : ℕ)
        → s.phase ≡ serving first (Some point)
        → s.disk.now (dump point) ≡ Some number
        → s.disk.earlier (dump point) ≡ []
        → ServerStep IsDumpOf s (record s { phase = serving first None; base = point; resumes = first })
    removes_piece : (first point : ℕ) (capture : Option ℕ)
        → s.phase ≡ serving first capture
        → point < s.resumes
        → ServerStep IsDumpOf s (on (name_removed (piece point) s.disk) s)
    removes_dump : (first point : ℕ) (capture : Option ℕ)
        → s.phase ≡ serving first capture
        → point < s.base
        → ServerStep IsDumpOf s (on (name_removed (dump point) s.disk) s)

  -- steps, one after another, from a folder without files on
  pub data Reaches (IsDumpOf : List L → List L → Type 0) : ServerState L → Type 0 where
    at_first : Reaches IsDumpOf nothing_served
    next_step : (before after : ServerState L)
        → Reaches IsDumpOf before
        → ServerStep IsDumpOf before after
        → Reaches IsDumpOf after

  -- What a start restores is a front of the journal with all that was told: a dump of what its
  -- first changes leave, or without a dump nothing, and behind it the lines of the others.
  pub record IsRestored (IsDumpOf : List L → List L → Type 0) (s : ServerState L) : Type 0 where
    pub point : ℕ
    pub resumes : ℕ
    pub base : List L
    pub behind : List L
    pub rest : List L
    pub restores : Restores s.disk point resumes base behind
    pub base_is : IsDumpOf (take point s.journal) base
    pub journal_is : s.journal ≡ take point s.journal ++ (behind ++ rest)
    pub within : point ≤ length s.journal
    pub all_told : s.told ≤ point + length behind

  -- **what was told outlives every crash**
  abbrev pub ToldOutlives : (List L → List L → Type 0) → Type 0
  ToldOutlives IsDumpOf =
      IsDumpOf [] []
      → (s : ServerState L)
      → Reaches IsDumpOf s
      → s.phase ≡ crashed
      → IsRestored IsDumpOf s
