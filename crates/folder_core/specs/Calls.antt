-- What the calls of a server do to its folder, whose lines are texts.
use Rattle.std.specs.Prelude.{◌≡◌, ◌≤◌, ◌<◌, ◌↔◌, ℕ, ◌+◌, List, [], ◌++◌, length, take, Option, Some, None, Result, MatchResult, Contains}
use lib.ListN.{get_elem?}
use mathlib.Core.Option.{Option as Found, some, none}
use Rattle.folder_core.specs.FileNames.{FileName, dump, piece}
use Rattle.folder_core.specs.Disk.{File, Disk, Changes, put, name_removed, folder_synced, SyncsSome}
use Rattle.folder_core.specs.Restoring.{Has, Restores}
use Rattle.folder_core.specs.Serving.{ServerState, Phase, crashed, starting, serving, IsUp, on, begun, HoldsUpTo, NamesNone, Reaches}
use Rattle.std.specs.List.{AllByRecursion}
use Rattle.folder_core.specs.Texts.{file_text, lines_text, part_text, IsInOneLine, AreLines, HasTexts}

-- the state of a server whose lines are texts
abbrev pub TextState : Type 0
TextState = ServerState (List ℕ)

-- its files and its journal are lines
pub record AreTexts (s : TextState) : Type 0 where
  pub files : HasTexts s.disk
  pub journal : AllByRecursion IsInOneLine s.journal

-- ---- the end of the journal
-- the part of a line that stands in the file, if there is one
abbrev pub part_in : Found (File (List ℕ)) → List ℕ
part_in none = []
part_in (some file) = part_text file.part

-- the same of the file of this number
abbrev pub part_of : Disk (List ℕ) → Option ℕ → List ℕ
part_of disk None = []
part_of disk (Some number) = part_in (get_elem? disk.files number)

-- the part of a line that stands at the end of the piece that is written to
abbrev pub part_at : Phase → Disk (List ℕ) → List ℕ
part_at (serving first capture) disk = part_of disk (disk.now (piece first))
part_at phase disk = []

-- ---- where the state is known
-- the calls have come from the one state to the other
abbrev pub Moves : (TextState → TextState → Type 0) → Option TextState → Option TextState → Type 0
Moves Does None new = new ≡ None
Moves Does (Some s) new = (t : TextState) × (new ≡ Some t) × Does s t

-- the same, or where the call failed it did nothing
abbrev pub MovesOnOk : {T E : Type 0} → (TextState → TextState → Type 0) → Result T E → Option TextState
    → Option TextState → Type 0
MovesOnOk Does result old new = MatchResult result (λ _. Moves Does old new) (λ _. new ≡ old)

-- ---- reading
-- these are the points that name files now
abbrev pub AreNamed : (ℕ → FileName) → TextState → List ℕ → Type 0
AreNamed name_at s points =
    (point : ℕ) → ((number : ℕ) × (s.disk.now (name_at point) ≡ Some number)) ↔ Contains points point

-- a reader of the file under this name has all of its text to come
pub record Opens (name : FileName) (s : TextState) (left : Option (List ℕ)) : Type 0 where
  pub file : File (List ℕ)
  pub has : Has s.disk name file
  pub left_is : left ≡ Some (file_text file)

-- the same of a dump, which tells the piece with which it resumes
pub record OpensDump (point resumes : ℕ) (s : TextState) (left : Option (List ℕ)) : Type 0 where
  pub opens : Opens (dump point) s left
  pub resumes_is : resumes ≡ opens.file.resumes

-- ---- while it starts
-- this dump is the newest, and with so many lines behind it this is what a start restores
pub record IsFoundAt (point resumes count : ℕ) (s : TextState) : Type 0 where
  pub over : s.phase ≡ crashed
  pub base : List (List ℕ)
  pub behind : List (List ℕ)
  pub restores : Restores s.disk point resumes base behind
  pub count_is : length behind ≡ count

abbrev pub found : ℕ → ℕ → ℕ → TextState → TextState
found point resumes count s =
    record s {
      phase = starting;
      base = point;
      resumes = resumes;
      journal = take (point + count) s.journal;
    }

-- no piece stands at the end of the journal, or behind it
abbrev pub IsClear : TextState → Type 0
IsClear s = (point : ℕ) → length s.journal ≤ point → NamesNone s.disk (piece point)

-- ---- names
-- a start may remove a piece that does not join, and a server one that is behind the newest dump
pub data MayRemovePiece (point : ℕ) (s : TextState) : Type 0 where
  stale : s.phase ≡ starting → length s.journal ≤ point → MayRemovePiece point s
  old : (first : ℕ) (capture : Option ℕ) → s.phase ≡ serving first capture → point < s.resumes
      → MayRemovePiece point s

-- an older dump than the newest may go
pub record MayRemoveDump (point : ℕ) (s : TextState) : Type 0 where
  pub first : ℕ
  pub capture : Option ℕ
  pub serves : s.phase ≡ serving first capture
  pub older : point < s.base

abbrev pub without_piece : ℕ → TextState → TextState
without_piece point s = on (name_removed (piece point) s.disk) s

abbrev pub without_dump : ℕ → TextState → TextState
without_dump point s = on (name_removed (dump point) s.disk) s

-- a piece may begin: the first of this server, or another
pub data MayBegin (s : TextState) : Type 0 where
  first_piece : s.phase ≡ starting → IsClear s → MayBegin s
  next_piece : (first : ℕ) → s.phase ≡ serving first None → first < length s.journal → MayBegin s

-- ---- lines
-- it serves
pub record IsServing (s : TextState) : Type 0 where
  pub first : ℕ
  pub capture : Option ℕ
  pub serves : s.phase ≡ serving first capture

-- Text was written to the piece that it writes to: so many lines were finished, and this stands behind
-- them.
pub record WritesText (text : List ℕ) (s t : TextState) : Type 0 where
  pub first : ℕ
  pub capture : Option ℕ
  pub serves : s.phase ≡ serving first capture
  pub number : ℕ
  pub here : s.disk.now (piece first) ≡ Some number
  pub file : File (List ℕ)
  pub lines : List (List ℕ)
  pub part : Option (List ℕ)
  pub are : AreLines lines part
  pub text_is : part_text file.part ++ text ≡ lines_text lines ++ part_text part
  pub wrote : Changes number file (record file { lines = file.lines ++ lines; part = part }) s.disk
      t.disk
  pub is : t ≡ record (on t.disk s) { journal = s.journal ++ lines }

-- ---- what is on the disk
-- so many changes are on the disk by what was synced, and may be told
pub record Tells (count : ℕ) (s t : TextState) : Type 0 where
  pub first : ℕ
  pub capture : Option ℕ
  pub serves : s.phase ≡ serving first capture
  pub synced : SyncsSome s.disk t.disk
  pub no_fewer : s.told ≤ count
  pub within : count ≤ length s.journal
  pub hold : (point number : ℕ)
      → s.resumes ≤ point
      → point < count
      → t.disk.now (piece point) ≡ Some number
      → HoldsUpTo count t.disk point number
  pub is : t ≡ record (on t.disk s) { told = count }

-- ---- a dump
-- Lines that are all on the disk, in a file of their own, may get the name of the dump of this point.
pub record MayPut (IsDumpOf : List (List ℕ) → List (List ℕ) → Type 0) (point : ℕ)
    (lines : List (List ℕ)) (s : TextState) : Type 0 where
  pub first : ℕ
  pub serves : s.phase ≡ serving first None
  pub newer : s.base < point
  pub starts : first ≤ point
  pub told : point ≤ s.told
  pub dumped : IsDumpOf (take point s.journal) lines

-- it has the name of the dump of this point
pub record Puts (point : ℕ) (lines : List (List ℕ)) (s t : TextState) : Type 0 where
  pub first : ℕ
  pub serves : s.phase ≡ serving first None
  pub is : t ≡ record (on (put (dump point) first lines s.disk) s) { phase = serving first (Some point) }

-- that name is on the disk
pub record MaySettle (point : ℕ) (s : TextState) : Type 0 where
  pub first : ℕ
  pub number : ℕ
  pub serves : s.phase ≡ serving first (Some point)
  pub named : s.disk.now (dump point) ≡ Some number
  pub alone : s.disk.earlier (dump point) ≡ []

-- so this dump is the newest from now on
pub record Settles (point : ℕ) (s t : TextState) : Type 0 where
  pub first : ℕ
  pub serves : s.phase ≡ serving first (Some point)
  pub is : t ≡ record s { phase = serving first None; base = point; resumes = first }

-- ---- each call is a step
-- Where a server may make a call, it comes by it to where steps come. So a folder that takes no other call
-- is always where its law holds.
pub record CallsAreSteps (IsDumpOf : List (List ℕ) → List (List ℕ) → Type 0) : Type 0 where
  pub finds : (point resumes count : ℕ) (s : TextState)
      → Reaches IsDumpOf s
      → IsFoundAt point resumes count s
      → Reaches IsDumpOf (found point resumes count s)
  pub removes_piece : (point : ℕ) (s : TextState)
      → Reaches IsDumpOf s
      → MayRemovePiece point s
      → Reaches IsDumpOf (without_piece point s)
  pub removes_dump : (point : ℕ) (s : TextState)
      → Reaches IsDumpOf s
      → MayRemoveDump point s
      → Reaches IsDumpOf (without_dump point s)
  pub syncs_names : (s : TextState)
      → Reaches IsDumpOf s
      → IsUp s.phase
      → Reaches IsDumpOf (on (folder_synced s.disk) s)
  pub begins : (s : TextState) → Reaches IsDumpOf s → MayBegin s → Reaches IsDumpOf (begun s)
  pub writes : (text : List ℕ) (s t : TextState)
      → Reaches IsDumpOf s
      → WritesText text s t
      → Reaches IsDumpOf t
  pub tells : (count : ℕ) (s t : TextState)
      → Reaches IsDumpOf s
      → Tells count s t
      → Reaches IsDumpOf t
  pub puts : (point : ℕ) (lines : List (List ℕ)) (s t : TextState)
      → Reaches IsDumpOf s
      → MayPut IsDumpOf point lines s
      → Puts point lines s t
      → Reaches IsDumpOf t
  pub settles : (point : ℕ) (s t : TextState)
      → Reaches IsDumpOf s
      → MaySettle point s
      → Settles point s t
      → Reaches IsDumpOf t
