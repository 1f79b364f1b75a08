-- How the journal in a server's folder stands to the core that was restored of it.
use Rattle.std.specs.Prelude.{◌≡◌, ◌≤◌, ◌+◌, ◌-◌, ℕ, Bool, true, List, ◌++◌, length, Option, Some, IfSome}
use Rattle.std.proofs.Common.{ap, ◌∙◌, append_assoc}
use Rattle.std.specs.List.{AllByRecursion}
use Rattle.base_core.specs.declared.limits.Limits.{Limits}
use Rattle.turnstile.specs.Logs.{StartsWith}
use Rattle.system_core.specs.declared.machine.event.Entry.{Entry}
use Rattle.system_core.specs.Journal.{IsLawful}
use Rattle.system_core.specs.Standing.{IsImageOf}
use Rattle.capture_core.specs.declared.image.Image.{Image}
use Rattle.journal_core.specs.Text.{journal_lines, WasRead}
use Rattle.journal_core.specs.Keeping.{LineKeeperState, line_rules}
use Rattle.dump_core.specs.Dump.{dump_of_image}
use Rattle.dump_core.specs.Laws.{AreLawfulAlike}
use Rattle.folder_core.specs.declared.errand.Errand.{Errand}
use Rattle.folder_core.specs.Texts.{lines_text, IsInOneLine}
use Rattle.data_core.specs.Errands.{IsDumpOfText}
use Rattle.recovery_core.specs.History.{IsHistory, IsDumpOfHistory}
use Rattle.desk_core.specs.Guarded.{Origin}
use Rattle.desk_core.specs.Kept.{HasKept}
use Rattle.checkpoint_core.specs.declared.putting.Begun.{Begun}

-- The journal's text has so many lines, and whichever history they are, the core leaves what it leaves.
abbrev pub TextStandsFor : ℕ → List Entry → List ℕ → Type 0
TextStandsFor count start text =
    (lines : List (List ℕ))
    × AllByRecursion IsInOneLine lines
    × (text ≡ lines_text lines)
    × (length lines ≡ count)
    × ((most : Limits) (entries : List Entry)
    → IsHistory most entries
    → lines ≡ journal_lines entries
    → AreLawfulAlike most entries start)

-- a desk was built on such a core, of which each entry was read from a line, and its keeper goes on behind
-- that text, where it is known
pub record BeginsBehind (knows : Bool) (count : ℕ) (start : List Entry)
    (origin : Origin LineKeeperState) : Type 0 where
  pub front_is : origin.front ≡ length start
  pub read : AllByRecursion WasRead start
  pub text : knows ≡ true
      → (text : List ℕ) × (origin.keeper.taken ≡ Some text) × TextStandsFor count start text

-- there what is kept may be tended: of a server that began so, where so much was entered
abbrev pub MayTend : Bool → Begun → List Entry → Origin LineKeeperState → Type 0
MayTend knows begun seen origin =
    (begun.count ≤ 9999999999)
    × (start : List Entry)
    × (length start ≡ begun.start)
    × StartsWith seen start
    × BeginsBehind knows begun.count start origin

-- so it may be however much is entered
pub tends_still : (knows : Bool) (begun : Begun) (old new : List Entry) (origin : Origin LineKeeperState)
    → StartsWith new old
    → MayTend knows begun old origin
    → MayTend knows begun new origin
tends_still knows begun old new origin more (few, start, size, seen, begins) = (
  few,
  start,
  size,
  (seen.0 ++ more.0, more.1 ∙ (ap (λ z. z ++ more.0) seen.1 ∙ append_assoc start seen.0 more.0)),
  begins,
)

-- an image is what its checkpoint keeps of a lawful journal
abbrev pub IsSeen : List Entry → Image → Type 0
IsSeen seen image = (limits : Limits) × IsLawful limits seen × IsImageOf seen image

-- the lines of an image's dump, each of which can be read
pub record AreLinesOfImage (image : Image) (dumped : List (List ℕ)) : Type 0 where
  pub lines : dumped ≡ journal_lines (dump_of_image image)
  pub read : AllByRecursion WasRead (dump_of_image image)

-- So a dump of an image that the desk found is one of what the folder's first changes leave: of those before
-- the core was restored, and of those that were entered since, up to the image's point. That stands whatever
-- was entered and kept since.
abbrev pub ImageMayBePut : (Option (List ℕ) → Errand → Type 0) → Bool → Type 0
ImageMayBePut may_run knows =
    (count : ℕ) (limits : Limits) (start seen journal : List Entry)
    (origin : Origin LineKeeperState) (image : Image) (dumped : List (List ℕ))
    (keeper : LineKeeperState)
    → BeginsBehind knows count start origin
    → IsLawful limits seen
    → StartsWith seen start
    → IsImageOf seen image
    → length start ≤ image.point.0
    → AreLinesOfImage image dumped
    → StartsWith journal seen
    → HasKept (line_rules may_run knows) origin journal keeper
    → knows ≡ true
    → IfSome keeper.taken
    (IsDumpOfText IsDumpOfHistory (count + (image.point.0 - length start)) dumped)
