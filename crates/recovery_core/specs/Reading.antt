-- What was read of a server's folder so far.
use Rattle.std.specs.Prelude.{◌≡◌, ◌≤◌, ◌+◌, ◌-◌, ℕ, List, [], ◌++◌, map, length, drop, None}
use Rattle.std.specs.List.{AllByRecursion}
use Rattle.std.specs.Str.Lines.{strip_carriage_return}
use Rattle.base_core.specs.declared.limits.Limits.{Limits}
use Rattle.system_core.specs.World.{World, opening}
use Rattle.system_core.specs.declared.machine.event.Entry.{Entry}
use Rattle.load_core.specs.declared.behind.LoadedBehind.{LoadedBehind}
use Rattle.load_core.specs.declared.loading.Loaded.{Loaded}
use Rattle.load_core.specs.Loading.{Loads, world_with}
use Rattle.journal_core.specs.Text.{WasRead}
use Rattle.load_core.specs.Loader.{lines_at}
use Rattle.folder_core.specs.FileNames.{dump, piece}
use Rattle.folder_core.specs.Disk.{File}
use Rattle.folder_core.specs.Restoring.{Has, HasNone, Joins, IsNewest}
use Rattle.folder_core.specs.Calls.{TextState}
use Rattle.recovery_core.specs.declared.recovering.Read.{Read}

-- lines as they are read
abbrev pub as_read : List (List ℕ) → List (List ℕ)
as_read lines = map strip_carriage_return lines

-- from one journal on these lines load another
abbrev pub LoadsLines : Limits → List Entry → List (List ℕ) → List Entry → Type 0
LoadsLines limits start lines journal = Loads limits start (lines_at start (as_read lines)) journal

-- it differs from the world by its journal alone
abbrev pub IsWithJournal : World → World → Type 0
IsWithJournal w new = new ≡ record w { journal = new.journal }

-- ---- the core, whatever is known of the folder
-- lines made it, and nothing else: each entry was read from one, through pass 0
pub record IsMade (w : World) : Type 0 where
  pub world_is : w ≡ world_with w.chunk w.limits w.journal
  pub entries : AllByRecursion (λ e. WasRead e × (e.pass ≡ 0)) w.journal

-- and it has this chunk and these limits
abbrev pub IsMadeWith : ℕ → Limits → World → Type 0
IsMadeWith chunk limits w = IsMade w × (w.chunk ≡ chunk) × (w.limits ≡ limits)

-- ---- a dump
-- nothing was read
abbrev pub IsEmptyRead : World → Read → Type 0
IsEmptyRead w read =
    read
    ≡ record {
      recovered = record { system = w; point = 0; resumes = 0; at = 0 };
      skips = 0;
      entered = 0;
    }

-- what was loaded of the dump of this point, which resumes with this piece
pub record IsDumpRead (loaded : Loaded) (point resumes : ℕ) (read : Read) : Type 0 where
  pub before : resumes ≤ point
  pub whole : loaded.cut ≡ None
  pub is : read
      ≡ record {
        recovered = record { system = loaded.system; point = point; resumes = resumes; at = resumes };
        skips = point - resumes;
        entered = 0;
      }

-- the dump of this point was read, from a world on
pub record ReadsDump (begins : World) (point : ℕ) (read : Read) (s : TextState) : Type 0 where
  pub file : File (List ℕ)
  pub has : Has s.disk (dump point) file
  pub before : file.resumes ≤ point
  pub loads : LoadsLines begins.limits [] file.lines read.recovered.system.journal
  pub world_is : IsWithJournal begins read.recovered.system
  pub point_is : read.recovered.point ≡ point
  pub resumes_is : read.recovered.resumes ≡ file.resumes
  pub at_is : read.recovered.at ≡ file.resumes
  pub skips_is : read.skips ≡ point - file.resumes
  pub entered_is : read.entered ≡ 0

-- the newest dump was read, or there is none
pub data ReadsBase (chunk : ℕ) (limits : Limits) (read : Read) (s : TextState) : Type 0 where
  no_dump : HasNone s.disk (dump 0) → IsNewest s.disk 0 → IsEmptyRead (opening chunk limits) read
      → ReadsBase chunk limits read s
  a_dump : (point : ℕ) → IsNewest s.disk point → ReadsDump (opening chunk limits) point read s
      → ReadsBase chunk limits read s

-- ---- pieces
-- lines made the core, and the numbers are such that they can be added
pub record IsSound (read : Read) : Type 0 where
  pub made : IsMade read.recovered.system
  pub point_small : read.recovered.point ≤ 9999999999
  pub skips_within : read.skips ≤ read.recovered.point
  pub entered_within : read.entered ≤ length read.recovered.system.journal
  pub few : length read.recovered.system.journal ≤ read.recovered.system.limits.changes
  pub at_is : read.recovered.at ≡ (read.recovered.point - read.skips) + read.entered

-- one more piece was read, that at which the journal went on
pub record ReadsPiece (old new : Read) (s : TextState) : Type 0 where
  pub file : File (List ℕ)
  pub has : Has s.disk (piece old.recovered.at) file
  pub loads : LoadsLines old.recovered.system.limits old.recovered.system.journal
      (drop old.skips file.lines) new.recovered.system.journal
  pub skips_is : new.skips ≡ old.skips - length file.lines

-- more was read behind the same dump
pub record IsFurther (old new : Read) : Type 0 where
  pub world_is : IsWithJournal old.recovered.system new.recovered.system
  pub point_is : new.recovered.point ≡ old.recovered.point
  pub resumes_is : new.recovered.resumes ≡ old.recovered.resumes

-- what it leaves alone, and how the numbers follow from what was entered
pub record GoesOnBy (old new : Read) : Type 0 where
  pub further : IsFurther old new
  pub fewer : new.skips ≤ old.skips
  pub entered_is : new.entered
      ≡ old.entered + (length new.recovered.system.journal - length old.recovered.system.journal)
  pub no_shorter : length old.recovered.system.journal ≤ length new.recovered.system.journal
  pub at_is : new.recovered.at ≡ (new.recovered.point - new.skips) + new.entered

-- From this journal on, that of the dump, the lines were read up to where the next piece begins: those
-- before the dump's point were passed over, and the others were loaded.
pub record IsReadUpTo (start : List Entry) (read : Read) (s : TextState) : Type 0 where
  pub passed : List (List ℕ)
  pub joins : (behind : List (List ℕ))
      → Joins s.disk read.recovered.at behind
      → Joins s.disk read.recovered.resumes (passed ++ behind)
  pub at_is : read.recovered.at ≡ read.recovered.resumes + length passed
  pub before : read.recovered.resumes ≤ read.recovered.point
  pub skips_is : read.skips ≡ (read.recovered.point - read.recovered.resumes) - length passed
  pub entered_is : read.entered
      ≡ length (drop (read.recovered.point - read.recovered.resumes) passed)
  pub loads : LoadsLines read.recovered.system.limits start
      (drop (read.recovered.point - read.recovered.resumes) passed) read.recovered.system.journal

-- and no piece goes on from there
pub record IsReadWhole (start : List Entry) (read : Read) (s : TextState) : Type 0 where
  pub up_to : IsReadUpTo start read s
  pub joins : Joins s.disk read.recovered.resumes up_to.passed

-- what the loader gives of a piece, and the numbers that follow
abbrev pub IsGoneOn : LoadedBehind → (before point resumes entered : ℕ) → Read → Type 0
IsGoneOn b before point resumes entered read =
    read
    ≡ record {
      recovered =
          record {
            system = b.loaded.system;
            point = point;
            resumes = resumes;
            at = (point - b.skips) + (entered + (length b.loaded.system.journal - before));
          };
      skips = b.skips;
      entered = entered + (length b.loaded.system.journal - before);
    }
