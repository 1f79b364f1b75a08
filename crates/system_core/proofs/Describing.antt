-- What comes of describing a statement, and that a description stays right.
use Rattle.std.proofs.Common.{◌≡◌, ◌++◌, ℕ, Bool, true, false, not, is_some, ltb, List, [], ◌∷◌, Option, Some, None, Ok, Err, option_map, if◌then◌else◌, inl, inr, refl, sym, ap, ◌∙◌, subst, append-nil, append_assoc}
use Rattle.std.specs.Option.{unwrap_or}
use Rattle.base_core.specs.Lacks.{is_denial}
use Rattle.base_core.specs.declared.name.Name.{Name}
use Rattle.base_core.specs.declared.name.User.{User}
use Rattle.base_core.specs.declared.value.Column.{Column}
use Rattle.base_core.specs.declared.value.Moment.{Moment}
use Rattle.base_core.specs.declared.lack.Lack.{Lack}
use Rattle.base_core.specs.declared.lack.Lack.TheVariants as lacks
use Rattle.base_core.specs.declared.lack.What.TheVariants as whats
use Rattle.base_core.specs.declared.limits.Limits.{Limits}
use Rattle.reader_core.specs.declared.statement.Statement.{Statement}
use Rattle.reader_core.specs.declared.statement.Statement.TheVariants as statements
use Rattle.monitor_core.specs.Verdict.{Check, require, first_lack, is_table, columns_of, checks}
use Rattle.capture_core.specs.declared.image.Image.{Image}
use Rattle.catalogue_core.specs.Kept.{newest}
use Rattle.system_core.specs.declared.machine.event.Entry.{Entry}
use Rattle.system_core.specs.declared.machine.event.Reply.{Reply}
use Rattle.system_core.specs.declared.machine.event.Reply.TheVariants as replies
use Rattle.system_core.specs.Journal.{tables_at, state_of, verdict_at, IsLawfulFrom, IsLawful}
use Rattle.system_core.specs.Exports.{journal_at}
use Rattle.system_core.specs.World.{World, entry, moment_of}
use Rattle.system_core.specs.Judging.{is_kept, at_point, export_check, checkpoint_checks, verdict_of, moment_for, judged_at}
use Rattle.system_core.specs.Describing.{columns_told, denial_in, denial_reply, Describes}
use Rattle.system_core.specs.Step.{Responds}
use Rattle.system_core.specs.Standing.{LedgerState, Checkpointing, world_of}
use Rattle.system_core.proofs.Judged.{passed-first, failed-first, judged-now}
use Rattle.system_core.proofs.Imaging.{point-newest}
use Rattle.system_core.proofs.Replaying.{columns-stay}

-- ---- the denial of a verdict, as a reply
-- a lack as a reply, if it is a denial
abbrev pub denial_by : Moment → Lack → Option Reply
denial_by at lack = if is_denial lack then Some (replies.Denied at lack) else None

by_test : {A B : Type 0} (f : A → B) (x : A) (b : Bool) → (if b then Some (f x) else None) ≡ option_map f (if b then Some x else None)
by_test f x true = refl
by_test f x false = refl

-- the reply to the denial in a check, if there is one
abbrev pub Denied : World → Statement → Check → Option Reply → Type 0
Denied w asked check reply = reply ≡ option_map (denial_reply w asked) (denial_in check)

pub denied-lack : (w : World) (asked : Statement) (check : Check) (lack : Lack) (at : Moment) → check ≡ Err lack → at ≡ judged_at w asked lack → Denied w asked check (denial_by at lack)
denied-lack w asked check lack at is now =
    subst (λ (k : Check). Denied w asked k (denial_by at lack)) (sym is)
    (ap (λ (m : Moment). denial_by m lack) now ∙ by_test (denial_reply w asked) lack (is_denial lack))

-- what the monitor does not allow
pub denied-first : (w : World) (user : User) (asked : Statement) (lack : Lack) (at : Moment) → verdict_at w.limits w.journal user asked ≡ Err lack → at ≡ moment_of w → Denied w asked (verdict_of w user asked) (denial_by at lack)
denied-first w user asked lack at is now =
    denied-lack w asked (verdict_of w user asked) lack at
    (failed-first (verdict_at w.limits w.journal user asked) (checkpoint_checks w user asked) lack is)
    (now ∙ sym (judged-now w user asked lack is))

-- what it allows
pub denied-then : (w : World) (user : User) (asked : Statement) (reply : Option Reply) → verdict_at w.limits w.journal user asked ≡ Ok tt → Denied w asked (first_lack (checkpoint_checks w user asked)) reply → Denied w asked (verdict_of w user asked) reply
denied-then w user asked reply passes h =
    subst (λ (k : Check). Denied w asked k reply) (sym (passed-first (verdict_at w.limits w.journal user asked) (checkpoint_checks w user asked) passes)) h

no_denial : (free room : Bool) → denial_in (first_lack (require free lacks.Busy ∷ require room (lacks.Full whats.Checkpoints) ∷ [])) ≡ None
no_denial true true = refl
no_denial true false = refl
no_denial false room = refl

-- checkpoints deny nothing but exports
pub undenied : (w : World) (user : User) (asked : Statement) → ((number : ℕ) (only : Option Name) → asked ≡ statements.Export number only → ⊥) → denial_in (first_lack (checkpoint_checks w user asked)) ≡ None
undenied w user statements.Checkpoint other = no_denial (not (is_some w.active)) (ltb w.begun w.limits.checkpoints)
undenied w user (statements.Export number only) other = absurd (other number only refl)
undenied w user _ other = refl

-- ---- exports
module _ (chunk : ℕ) (accepted : LedgerState) (c : Checkpointing) (images : List Image) (user : User) (number : ℕ) (only : Option Name) where
  abbrev now : World
  now = world_of chunk accepted c images

  abbrev check_at : Moment → Check
  check_at point = export_check (journal_at accepted.journal point) accepted.journal number user only

  -- the denial by the point of what is kept
  abbrev By : Option Moment → Option Reply → Type 0
  By o reply =
      reply ≡ option_map (λ lack. replies.Denied (moment_for (unwrap_or o (moment_of now)) (moment_of now) lack) lack)
      (denial_in (first_lack (is_kept o number ∷ at_point o check_at ∷ [])))

  -- the denial of an export
  abbrev pub Exports : Option Reply → Type 0
  Exports reply = Denied now (statements.Export number only) (first_lack (checkpoint_checks now user (statements.Export number only))) reply

  by_point : (o : Option Image) (reply : Option Reply) → newest images number ≡ o → By (option_map (λ i. i.point) o) reply → Exports reply
  by_point o reply is h =
      subst (λ p. By p reply) (sym (point-newest images number ∙ ap (option_map (λ (i : Image). i.point)) is)) h

  -- the checkpoint is not kept
  pub denied-unkept : newest images number ≡ None → Exports (denial_by (moment_of now) (lacks.NoCheckpoint number))
  denied-unkept none = by_point None (denial_by (moment_of now) (lacks.NoCheckpoint number)) none refl

  -- it may not be exported to the user
  pub denied-export : (i : Image) (lack : Lack) → newest images number ≡ Some i → check_at i.point ≡ Err lack → Exports (denial_by (moment_for i.point (moment_of now) lack) lack)
  denied-export i lack found denied =
      let f : Lack → Reply = λ l. replies.Denied (moment_for i.point (moment_of now) l) l in
      let A : Check → Type 0 = λ check. denial_by (moment_for i.point (moment_of now) lack) lack ≡ option_map f (denial_in check) in
      by_point (Some i) (denial_by (moment_for i.point (moment_of now) lack) lack) found
      (subst A (sym (failed-first (check_at i.point) [] lack denied)) (by_test f lack (is_denial lack)))

  -- it may
  pub undenied-export : (i : Image) → newest images number ≡ Some i → check_at i.point ≡ Ok tt → Exports None
  undenied-export i found ok =
      let f : Lack → Reply = λ l. replies.Denied (moment_for i.point (moment_of now) l) l in
      let A : Check → Type 0 = λ check. None ≡ option_map f (denial_in check) in
      by_point (Some i) None found (subst A (sym (passed-first (check_at i.point) [] ok)) refl)

-- ---- descriptions
same_reply : (a b : Reply) → Some a ≡ Some b → a ≡ b
same_reply a b e = cc

-- a denial is told
pub told-denial : (w : World) (asked : Statement) (denial : Option Lack) (reply : Reply) → option_map (denial_reply w asked) denial ≡ Some reply → Describes w asked denial reply
told-denial w asked None reply e = cc
told-denial w asked (Some lack) reply e = sym (same_reply (denial_reply w asked lack) reply e)

-- where there is none, the columns are
pub told-columns : (w : World) (asked : Statement) (denial : Option Lack) (reply : Reply) → option_map (denial_reply w asked) denial ≡ None → Describes w asked None reply → Describes w asked denial reply
told-columns w asked None reply e h = h
told-columns w asked (Some lack) reply e h = cc

-- ---- laws
denied_alike : (w : World) (asked : Statement) (lack : Lack) (reply : Reply) (b : Bool) → b ≡ true → Describes w asked (if b then Some lack else None) reply
    → reply ≡ (if b then replies.Denied (judged_at w asked lack) lack else replies.Refused (judged_at w asked lack) lack)
denied_alike w asked lack reply true is h = h
denied_alike w asked lack reply false is h = cc

-- **a denied description is answered as the statement is**
pub denial-responds : (w new : World) (pass : ℕ) (user : User) (asked : Statement) (lack : Lack) (reply : Reply) → verdict_of w user asked ≡ Err lack → is_denial lack ≡ true → Describes w asked (denial_in (verdict_of w user asked)) reply → new ≡ w
    → Responds w (entry pass user asked) (verdict_of w user asked) reply new
denial-responds w new pass user asked lack reply is denial h same =
    let By : Check → Type 0 = λ check. Responds w (entry pass user asked) check reply new in
    let told = subst (λ (check : Check). Describes w asked (denial_in check) reply) is h in
    subst By (sym is) (denied_alike w asked lack reply (is_denial lack) denial told, same)

-- the journal behind a lawful one is lawful from there on
lawful_behind : (l : Limits) (before es more : List Entry) → IsLawfulFrom l before (es ++ more) → IsLawfulFrom l (before ++ es) more
lawful_behind l before [] more h = subst (λ (k : List Entry). IsLawfulFrom l k more) (sym (append-nil before)) h
lawful_behind l before (e ∷ es) more h = subst (λ (k : List Entry). IsLawfulFrom l k more) (append_assoc before (e ∷ []) es) (lawful_behind l (before ++ e ∷ []) es more h.2)

-- **the columns of a table stay**
pub columns-for_good : (l : Limits) (journal more : List Entry) (name : Name) → IsLawful l (journal ++ more) → is_table (tables_at journal) name ≡ true → columns_of (tables_at (journal ++ more)) name ≡ columns_of (tables_at journal) name
columns-for_good l journal more name lawful here = columns-stay l journal more name (lawful_behind l [] journal more lawful) here

-- where a statement is not denied, its first check does not deny it
abbrev FirstUndenied : List Check → Type 0
FirstUndenied [] = Unit {0}
FirstUndenied (check ∷ more) = denial_in check ≡ None

first_undenied : (all others : List Check) → denial_in (first_lack (first_lack all ∷ others)) ≡ None → FirstUndenied all
first_undenied [] others e = tt
first_undenied (Ok u ∷ more) others e = refl
first_undenied (Err lack ∷ more) others e = e

found_stands : (b : Bool) (table : Name) → denial_in (require b (lacks.NoTable table)) ≡ None → b ≡ true
found_stands true table e = refl
found_stands false table e = cc

module _ (old later : World) (more : List Entry) (lawful : IsLawful later.limits later.journal) (grown : later.journal ≡ old.journal ++ more) (user : User) where
  -- the first check of a statement which is not denied
  passed_by : (asked : Statement) → denial_in (verdict_of old user asked) ≡ None → FirstUndenied (checks (state_of old.limits old.journal) user asked)
  passed_by asked e = first_undenied (checks (state_of old.limits old.journal) user asked) (checkpoint_checks old user asked) e

  for_good : (table : Name) → denial_in (require (is_table (tables_at old.journal) table) (lacks.NoTable table)) ≡ None → columns_of (tables_at later.journal) table ≡ columns_of (tables_at old.journal) table
  for_good table e =
      ap (λ (j : List Entry). columns_of (tables_at j) table) grown
      ∙ columns-for_good later.limits old.journal more table (subst (IsLawful later.limits) grown lawful) (found_stands (is_table (tables_at old.journal) table) table e)

  told-stays : (asked : Statement) → denial_in (verdict_of old user asked) ≡ None → columns_told (tables_at later.journal) asked ≡ columns_told (tables_at old.journal) asked
  told-stays (statements.Insert table values) e = for_good table (passed_by (statements.Insert table values) e)
  told-stays (statements.Select list table filter) e = for_good table (passed_by (statements.Select list table filter) e)
  told-stays (statements.Delete table filter) e = for_good table (passed_by (statements.Delete table filter) e)
  told-stays (statements.Update table sets filter) e = for_good table (passed_by (statements.Update table sets filter) e)
  told-stays _ e = refl

-- what was told is of a statement that is not denied, and has its columns
told_of : (w : World) (asked : Statement) (denial : Option Lack) (at : Moment) (columns : List Column) → Describes w asked denial (replies.Described at columns) → (denial ≡ None) × (columns ≡ columns_told (tables_at w.journal) asked)
told_of w asked (Some lack) at columns e = let is : replies.Described at columns ≡ denial_reply w asked lack = e in cc
told_of w asked None at columns (inl e) = (refl, cc)
told_of w asked None at columns (inr e) = cc

-- **a description stays right**
pub description-stays : (old later : World) (more : List Entry) (user other : User) (asked : Statement) (at at_later : Moment) (columns found : List Column)
    → IsLawful later.limits later.journal → later.journal ≡ old.journal ++ more
    → Describes old asked (denial_in (verdict_of old user asked)) (replies.Described at columns)
    → Describes later asked (denial_in (verdict_of later other asked)) (replies.Described at_later found)
    → found ≡ columns
description-stays old later more user other asked at at_later columns found lawful grown told told_later =
    let first = told_of old asked (denial_in (verdict_of old user asked)) at columns told in
    let next = told_of later asked (denial_in (verdict_of later other asked)) at_later found told_later in
    next.1 ∙ (told-stays old later more lawful grown user asked first.0 ∙ sym first.1)
