-- How the verdict at a world comes of the monitor's and of the checks of checkpoints.
use Rattle.std.proofs.Common.{◌≡◌, ℕ, Bool, true, false, List, [], ◌∷◌, Option, Some, None, Ok, Err, refl, sym, ap, subst, ◌∙◌}
use Rattle.std.specs.List.{AllByRecursion}
use Rattle.std.specs.Option.{unwrap_or}
use Rattle.base_core.specs.declared.name.Name.{Name}
use Rattle.base_core.specs.declared.name.User.{User}
use Rattle.base_core.specs.declared.lack.Lack.{Lack}
use Rattle.base_core.specs.declared.lack.Lack.TheVariants as lacks
use Rattle.base_core.specs.declared.value.Moment.{Moment}
use Rattle.reader_core.specs.declared.statement.Statement.{Statement}
use Rattle.reader_core.specs.declared.statement.Statement.TheVariants as statements
use Rattle.monitor_core.specs.Verdict.{Check, require, first_lack, is_table, is_change, checks}
use Rattle.monitor_core.proofs.Lacking.{Sound, sound, sound-require, sound-first}
use Rattle.system_core.specs.declared.machine.event.Entry.{Entry}
use Rattle.system_core.specs.Journal.{tables_at, state_of, verdict_at}
use Rattle.system_core.specs.Exports.{journal_at}
use Rattle.system_core.specs.World.{World, moment_of}
use Rattle.system_core.specs.declared.machine.event.Reply.{Reply}
use Rattle.system_core.specs.Step.{CarriesOut, Responds}
use Rattle.system_core.specs.Judging.{point_of, at_point, export_check, stood_then, could_select_then, may_select_now, checkpoint_checks, verdict_of, moment_for, judged_at}

pub passed-first : (check : Check) (more : List Check) → check ≡ Ok tt → first_lack (check ∷ more) ≡ first_lack more
passed-first (Ok u) more e = refl
passed-first (Err lack) more e = cc

pub failed-first : (check : Check) (more : List Check) (lack : Lack) → check ≡ Err lack → first_lack (check ∷ more) ≡ Err lack
failed-first (Ok u) more lack e = cc
failed-first (Err other) more lack e = e

-- a change has no checks of checkpoints
pub no_more_checks : (w : World) (user : User) (asked : Statement) → is_change asked ≡ true → checkpoint_checks w user asked ≡ []
no_more_checks w user statements.Checkpoint e = cc
no_more_checks w user (statements.Export number only) e = cc
no_more_checks w user _ e = refl

-- an allowed change that is carried out is a step of the machine
pub change-responds : (w new : World) (e : Entry) (reply : Reply) → verdict_at w.limits w.journal e.user e.statement ≡ Ok tt → is_change e.statement ≡ true → CarriesOut w e reply new → Responds w e (verdict_of w e.user e.statement) reply new
change-responds w new e reply allowed change carries =
    let passed : verdict_of w e.user e.statement ≡ Ok tt = passed-first (verdict_at w.limits w.journal e.user e.statement) (checkpoint_checks w e.user e.statement) allowed ∙ ap first_lack (no_more_checks w e.user e.statement change) in
    let By : Check → Type 0 = λ check. Responds w e check reply new in
    subst By (sym passed) carries

-- what the monitor finds missing is of now
no_table-now : (b : Bool) (table : Name) (point now : Moment) (lack : Lack) → first_lack (require b (lacks.NoTable table) ∷ []) ≡ Err lack → moment_for point now lack ≡ now
no_table-now true table point now lack e = cc
no_table-now false table point now lack e = subst (λ (c : Check). Now c) e refl
  where
    Now : Check → Type 0
    Now (Ok u) = Unit {0}
    Now (Err l) = moment_for point now l ≡ now

pub judged-now : (w : World) (user : User) (asked : Statement) (lack : Lack) → verdict_at w.limits w.journal user asked ≡ Err lack → judged_at w asked lack ≡ moment_of w
judged-now w user (statements.Export number None) lack e = cc
judged-now w user (statements.Export number (Some table)) lack e =
    no_table-now (is_table (tables_at w.journal) table) table (unwrap_or (point_of w number) (moment_of w)) (moment_of w) lack e
judged-now w user _ lack e = refl

-- ---- no check of checkpoints finds that memory was refused, or that turns are worn
sound-at_point : (point : Option Moment) (check : Moment → Check) → ((p : Moment) → Sound (check p)) → Sound (at_point point check)
sound-at_point None check h = tt
sound-at_point (Some point) check h = h point

sound-export : (past now : List Entry) (number : ℕ) (user : User) (only : Option Name) → Sound (export_check past now number user only)
sound-export past now number user None = tt
sound-export past now number user (Some table) =
    sound-first (stood_then past table number ∷ could_select_then past user table ∷ may_select_now past now user table ∷ []) (sound-require _ _ tt, (sound-require _ _ tt, (sound-require _ _ tt, tt)))

sound-checkpoints : (w : World) (user : User) (asked : Statement) → AllByRecursion Sound (checkpoint_checks w user asked)
sound-checkpoints w user statements.Checkpoint = (sound-require _ _ tt, (sound-require _ _ tt, tt))
sound-checkpoints w user (statements.Export number only) =
    (sound-require _ _ tt, (sound-at_point (point_of w number) (λ point. export_check (journal_at w.journal point) w.journal number user only) (λ point. sound-export (journal_at w.journal point) w.journal number user only), tt))
sound-checkpoints w user _ = tt

pub verdict_of-sound : (w : World) (user : User) (asked : Statement) → Sound (verdict_of w user asked)
verdict_of-sound w user asked =
    sound-first (verdict_at w.limits w.journal user asked ∷ checkpoint_checks w user asked)
    (sound-first (checks (state_of w.limits w.journal) user asked) (sound (state_of w.limits w.journal) user asked), sound-checkpoints w user asked)

-- **no verdict at a world is that memory was refused**
pub verdict_of-not_NoMemory : (w : World) (user : User) (asked : Statement) → verdict_of w user asked ≡ Err lacks.NoMemory → ⊥
verdict_of-not_NoMemory w user asked e = subst Sound e (verdict_of-sound w user asked)
