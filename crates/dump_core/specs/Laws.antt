-- Laws of the dump.
use Rattle.std.specs.Prelude.{◌≡◌, ◌+◌, ◌<◌, ◌≤◌, ◌↔◌, false, List, ◌++◌, length}
use Rattle.std.specs.List.{AllByRecursion}
use Rattle.base_core.specs.declared.name.User.{User}
use Rattle.base_core.specs.declared.limits.Limits.{Limits}
use Rattle.base_core.specs.declared.value.Row.{Row}
use Rattle.reader_core.specs.declared.statement.Statement.{Statement}
use Rattle.reader_core.specs.Forming.{IsWellFormed}
use Rattle.tables_core.specs.Contents.{all_rows}
use Rattle.monitor_core.specs.Verdict.{is_change}
use Rattle.system_core.specs.declared.machine.event.Entry.{Entry}
use Rattle.system_core.specs.Journal.{tables_at, rights_at, verdict_at, IsLawful}
use Rattle.system_core.specs.Exports.{journal_at}
use Rattle.system_core.specs.Standing.{IsImageOf}
use Rattle.system_core.specs.Step.{IsAnswer}
use Rattle.capture_core.specs.declared.image.Image.{Image}
use Rattle.dump_core.specs.Dump.{dump, dump_of_image, grants_together}
use Rattle.dump_core.specs.Alike.{AreAlike}

-- ---- the dump
-- the statements are well formed, as all that the language has. One that names a privilege twice
-- could make more grants than the limit, and a dump grants them one by one.
abbrev pub AreWellFormed : List Entry → Type 0
AreWellFormed journal = AllByRecursion (λ e. IsWellFormed e.statement) journal

-- a lawful journal of well-formed statements, whose dump has no more statements than there may be
-- changes
pub record MayBeDumped (limits : Limits) (journal : List Entry) : Type 0 where
  pub lawful : IsLawful limits journal
  pub well_formed : AreWellFormed journal
  pub few : length (dump journal) ≤ limits.changes

-- the dump has a statement for each table, each row, and all grants in force that are together
abbrev pub LengthOfDump : Type 0
LengthOfDump =
    (journal : List Entry)
    → length (dump journal)
    ≡ length (tables_at journal) + length (all_rows (tables_at journal))
    + length (grants_together (rights_at journal).in_force)

-- these are no more statements than grants in force
abbrev pub GrantsAreTogether : Type 0
GrantsAreTogether =
    (journal : List Entry)
    → length (grants_together (rights_at journal).in_force)
    ≤ length (rights_at journal).in_force

-- the dump is lawful: each of its statements is allowed at the journal before it
abbrev pub DumpIsLawful : Type 0
DumpIsLawful =
    (limits : Limits) (journal : List Entry)
    → MayBeDumped limits journal
    → IsLawful limits (dump journal)

-- its statements are well formed, as those of the journal
abbrev pub DumpIsWellFormed : Type 0
DumpIsWellFormed =
    (limits : Limits) (journal : List Entry)
    → MayBeDumped limits journal
    → AreWellFormed (dump journal)

-- it leaves what the journal leaves
abbrev pub DumpIsAlike : Type 0
DumpIsAlike =
    (limits : Limits) (journal : List Entry)
    → MayBeDumped limits journal
    → AreAlike journal (dump journal)

-- a dump says no more than what is left: journals leave the same exactly where they have one dump
abbrev pub AlikeHaveOneDump : Type 0
AlikeHaveOneDump =
    (limits : Limits) (a b : List Entry)
    → MayBeDumped limits a
    → MayBeDumped limits b
    → AreAlike a b ↔ (dump a ≡ dump b)

-- so a dump is its own dump
abbrev pub DumpIsItsOwnDump : Type 0
DumpIsItsOwnDump =
    (limits : Limits) (journal : List Entry)
    → MayBeDumped limits journal
    → dump (dump journal) ≡ dump journal

-- ---- journals that leave the same
-- two lawful journals that leave the same
pub record AreLawfulAlike (limits : Limits) (a b : List Entry) : Type 0 where
  pub first : IsLawful limits a
  pub second : IsLawful limits b
  pub alike : AreAlike a b

-- they judge each statement alike, where after both one more change is within the limit
abbrev pub AlikeJudgeAlike : Type 0
AlikeJudgeAlike =
    (limits : Limits) (a b : List Entry) (user : User) (asked : Statement)
    → AreLawfulAlike limits a b
    → length a < limits.changes
    → length b < limits.changes
    → verdict_at limits a user asked ≡ verdict_at limits b user asked

-- a statement that is no change they judge alike in any case
abbrev pub AlikeJudgeQueriesAlike : Type 0
AlikeJudgeQueriesAlike =
    (limits : Limits) (a b : List Entry) (user : User) (asked : Statement)
    → AreLawfulAlike limits a b
    → is_change asked ≡ false
    → verdict_at limits a user asked ≡ verdict_at limits b user asked

-- and what answers a query after the one answers it after the other
abbrev pub AlikeAnswerAlike : Type 0
AlikeAnswerAlike =
    (a b : List Entry) (asked : Statement) (rows : List Row)
    → AreAlike a b
    → IsAnswer a asked rows
    → IsAnswer b asked rows

-- whatever more is lawful after the one is lawful after the other, if it is within the limit of
-- changes there; and the two leave the same again
abbrev pub AlikeStayAlike : Type 0
AlikeStayAlike =
    (limits : Limits) (a b more : List Entry)
    → AreLawfulAlike limits a b
    → IsLawful limits (a ++ more)
    → length (b ++ more) ≤ limits.changes
    → AreLawfulAlike limits (a ++ more) (b ++ more)

-- so a dump serves as well as its journal: whatever more is lawful after the journal is lawful
-- after the dump, and the two leave the same
abbrev pub DumpServesAsWell : Type 0
DumpServesAsWell =
    (limits : Limits) (journal more : List Entry)
    → MayBeDumped limits journal
    → IsLawful limits (journal ++ more)
    → length (dump journal ++ more) ≤ limits.changes
    → AreLawfulAlike limits (journal ++ more) (dump journal ++ more)

-- an image is dumped as the journal is at its point
abbrev pub ImageIsDumped : Type 0
ImageIsDumped =
    (journal : List Entry) (image : Image)
    → IsImageOf journal image
    → dump_of_image image ≡ dump (journal_at journal image.point)
