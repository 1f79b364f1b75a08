-- What comes of EXPORT.
use Rattle.std.proofs.Common.{◌≡◌, ℕ, true, List, [], ◌∷◌, Option, Some, None, option_map, IsSomeAnd, Ok, Err, refl, sym, ap, ◌∙◌, subst}
use Rattle.std.specs.Option.{option_map_or, unwrap_or}
use Rattle.base_core.specs.declared.name.Name.{Name}
use Rattle.base_core.specs.declared.name.User.{User}
use Rattle.base_core.specs.declared.lack.Lack.{Lack}
use Rattle.base_core.specs.declared.lack.Lack.TheVariants as lacks
use Rattle.base_core.specs.declared.value.Moment.{Moment}
use Rattle.reader_core.specs.declared.statement.Statement.TheVariants as statements
use Rattle.monitor_core.specs.Verdict.{Check, require, first_lack, is_table}
use Rattle.monitor_core.proofs.Passing.{require-Ok, passed}
use Rattle.capture_core.specs.declared.image.Image.{Image}
use Rattle.catalogue_core.specs.Kept.{newest}
use Rattle.export_core.specs.Ticket.{TicketState}
use Rattle.system_core.specs.declared.machine.event.Reply.{Reply}
use Rattle.system_core.specs.declared.machine.event.Reply.TheVariants as replies
use Rattle.system_core.specs.Journal.{tables_at, verdict_at}
use Rattle.system_core.specs.Exports.{journal_at, export_of}
use Rattle.system_core.specs.World.{World, entry, moment_of}
use Rattle.system_core.specs.Judging.{point_of, is_kept, at_point, export_check, checkpoint_checks, moment_for}
use Rattle.system_core.specs.Step.{lack_reply, Responds}
use Rattle.system_core.specs.Standing.{LedgerState, Checkpointing, world_of}
use Rattle.system_core.proofs.Judged.{passed-first, failed-first}
use Rattle.system_core.proofs.Imaging.{point-newest}

-- the table of an allowed export stands
pub only-stands : (accepted : LedgerState) (user : User) (number : ℕ) (only : Option Name) → verdict_at accepted.limits accepted.journal user (statements.Export number only) ≡ Ok tt → (table : Name) → only ≡ Some table → is_table (tables_at accepted.journal) table ≡ true
only-stands accepted user number None ok table e = cc
only-stands accepted user number (Some other) ok table e =
    let here : is_table (tables_at accepted.journal) other ≡ true = require-Ok _ _ (passed (require (is_table (tables_at accepted.journal) other) (lacks.NoTable other) ∷ []) ok).0 in
    subst (λ (o : Option Name). option_map_or (λ n. is_table (tables_at accepted.journal) n) o true ≡ true) e here

module _ (chunk : ℕ) (accepted : LedgerState) (c : Checkpointing) (images : List Image) (user : User) (number : ℕ) (only : Option Name) where
  abbrev now : World
  now = world_of chunk accepted c images

  -- the lack of an export at a point, if it has one
  abbrev check_at : Moment → Check
  check_at point = export_check (journal_at accepted.journal point) accepted.journal number user only

  -- answered so, by the point of what is kept
  abbrev By : Option Moment → ℕ → Reply → Type 0
  By o pass reply = Responds now (entry pass user (statements.Export number only)) (first_lack (is_kept o number ∷ at_point o check_at ∷ [])) reply now

  -- what an export comes to
  abbrev pub Comes : ℕ → Reply → Type 0
  Comes pass reply = Responds now (entry pass user (statements.Export number only)) (first_lack (checkpoint_checks now user (statements.Export number only))) reply now

  point-is : (o : Option Image) → newest images number ≡ o → point_of now number ≡ option_map (λ i. i.point) o
  point-is o is = point-newest images number ∙ ap (option_map (λ (i : Image). i.point)) is

  by_point : (o : Option Image) (pass : ℕ) (reply : Reply) → newest images number ≡ o → By (option_map (λ i. i.point) o) pass reply → Comes pass reply
  by_point o pass reply is answer = subst (λ p. By p pass reply) (sym (point-is o is)) answer

  -- the checkpoint is not kept
  pub export-unkept : newest images number ≡ None → (pass : ℕ) → Comes pass (lack_reply (moment_of now) (lacks.NoCheckpoint number))
  export-unkept none pass = by_point None pass (lack_reply (moment_of now) (lacks.NoCheckpoint number)) none (refl, refl)

  -- it may not be exported to the user
  pub export-denied : (i : Image) (lack : Lack) → newest images number ≡ Some i → check_at i.point ≡ Err lack → (pass : ℕ) → Comes pass (lack_reply (moment_for i.point (moment_of now) lack) lack)
  export-denied i lack found denied pass =
      let failed : first_lack (check_at i.point ∷ []) ≡ Err lack = failed-first (check_at i.point) [] lack denied in
      let point : unwrap_or (point_of now number) (moment_of now) ≡ i.point = ap (λ (o : Option Moment). unwrap_or o (moment_of now)) (point-is (Some i) found) in
      let A : Check → Type 0 = λ check. Responds now (entry pass user (statements.Export number only)) check (lack_reply (moment_for i.point (moment_of now) lack) lack) now in
      by_point (Some i) pass (lack_reply (moment_for i.point (moment_of now) lack) lack) found
      (subst A (sym failed) (ap (λ p. lack_reply (moment_for p (moment_of now) lack) lack) (sym point), refl))

  -- it is allowed
  allowed : (i : Image) (pass : ℕ) (reply : Reply) → newest images number ≡ Some i → check_at i.point ≡ Ok tt → Responds now (entry pass user (statements.Export number only)) (Ok tt) reply now → Comes pass reply
  allowed i pass reply found ok answer =
      by_point (Some i) pass reply found (subst (λ (check : Check). Responds now (entry pass user (statements.Export number only)) check reply now) (sym (passed-first (check_at i.point) [] ok)) answer)

  pub export-issued : (i : Image) (ticket : TicketState) → newest images number ≡ Some i → check_at i.point ≡ Ok tt → ticket ≡ export_of accepted.journal number i.point user only → (pass : ℕ) → Comes pass (replies.Export ticket)
  export-issued i ticket found ok made pass =
      let E : Option Moment → Type 0 = λ o. IsSomeAnd o (λ point. ticket ≡ export_of accepted.journal number point user only) in
      allowed i pass (replies.Export ticket) found ok (subst E (sym (point-is (Some i) found)) made, refl)

  pub export-no_memory : (i : Image) → newest images number ≡ Some i → check_at i.point ≡ Ok tt → (pass : ℕ) → Comes pass (replies.Refused (moment_of now) lacks.NoMemory)
  export-no_memory i found ok pass = allowed i pass (replies.Refused (moment_of now) lacks.NoMemory) found ok (tt, refl, refl, refl)
