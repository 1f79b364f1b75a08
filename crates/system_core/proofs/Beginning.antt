-- What comes of CHECKPOINT.
use Rattle.std.proofs.Common.{◌≡◌, ℕ, ◌+◌, ◌<◌, ◌≤◌, Bool, true, false, not, cond, ltb, leb, List, [], ◌∷◌, Option, Some, None, IsOk, MatchOption, IfErr, option_map, Result, Ok, Err, refl, sym, ap, ◌∙◌, subst, ⊎_elim, is_some}
use Rattle.std.proofs.lemmas.Bool.{cases_lt, lt-ltb, le-ltb, le-leb, lt-leb, leb-false}
use Rattle.base_core.specs.declared.name.User.{User}
use Rattle.base_core.specs.declared.lack.Lack.{Lack}
use Rattle.base_core.specs.declared.lack.Lack.TheVariants as lacks
use Rattle.base_core.specs.declared.lack.What.TheVariants as whats
use Rattle.reader_core.specs.declared.statement.Statement.TheVariants as statements
use Rattle.monitor_core.specs.Verdict.{Check, require, first_lack}
use Rattle.tables_core.specs.Contents.{Database}
use Rattle.grants_core.specs.declared.grant.Grant.{Grant}
use Rattle.capture_core.specs.Capturing.{ActiveCapture as Capture, Capturing, begin_lack, in_progress}
use Rattle.capture_core.specs.declared.image.Image.{Image}
use Rattle.system_core.specs.declared.machine.event.Reply.TheVariants as replies
use Rattle.system_core.specs.World.{World, entry, moment_of}
use Rattle.system_core.specs.Judging.{checkpoint_checks}
use Rattle.system_core.specs.Step.{lack_reply, Responds, with_begun}
use Rattle.system_core.specs.Standing.{LedgerState, checkpointing, database_of, as_active, world_of}

-- a lack, or none, as a check
abbrev of_lack : Option Lack → Check
of_lack None = Ok tt
of_lack (Some lack) = Err lack

le-not_lt : (n m : ℕ) → leb m n ≡ not (ltb n m)
le-not_lt n m = ⊎_elim
    (λ (lt : n < m). lt-leb m n lt ∙ ap not (sym (lt-ltb n m lt)))
    (λ (le : m ≤ n). le-leb m n le ∙ ap not (sym (le-ltb n m le)))
    (cases_lt n m)

by_active : (o : Option Capture) (d : Database) (due : List Grant) (lt le : Bool) → le ≡ not lt
    → first_lack (require (not (is_some (option_map as_active (in_progress o d due)))) lacks.Busy ∷ require lt (lacks.Full whats.Checkpoints) ∷ []) ≡ of_lack (cond (is_some o) (Some lacks.Busy) (cond le (Some (lacks.Full whats.Checkpoints)) None))
by_active None d due true true e = cc
by_active None d due true false e = refl
by_active None d due false true e = refl
by_active None d due false false e = cc
by_active (Some a) d due lt le e = refl

module _ (chunk : ℕ) (accepted : LedgerState) (c : Capturing) (images : List Image) where
  abbrev w : World
  w = world_of chunk accepted (checkpointing c accepted) images

  checked : (user : User) → first_lack (checkpoint_checks w user statements.Checkpoint) ≡ of_lack (begin_lack c accepted.limits.checkpoints)
  checked user = by_active c.active (database_of accepted) accepted.grants_due (ltb c.begun accepted.limits.checkpoints) (leb accepted.limits.checkpoints c.begun) (le-not_lt c.begun accepted.limits.checkpoints)

  same_lack : (k l : Lack) (r : Result ℕ Lack) → r ≡ Err k → r ≡ Err l → k ≡ l
  same_lack k l r e f = let P : Result ℕ Lack → Type 0 = λ x. IfErr x (λ m. k ≡ m) in subst P f (subst P (sym e) refl)

  -- it was refused
  pub begin-refused : (result : Result ℕ Lack) (k : Lack) → result ≡ Err k → MatchOption (begin_lack c accepted.limits.checkpoints) (IsOk result) (λ lack. result ≡ Err lack)
      → (pass : ℕ) (user : User) → Responds w (entry pass user statements.Checkpoint) (first_lack (checkpoint_checks w user statements.Checkpoint)) (lack_reply (moment_of w) k) w
  begin-refused result k is lack pass user =
      let A : Check → Type 0 = λ check. Responds w (entry pass user statements.Checkpoint) check (lack_reply (moment_of w) k) w in
      subst A (sym (checked user)) (by (begin_lack c accepted.limits.checkpoints) lack)
    where
      by : (o : Option Lack) → MatchOption o (IsOk result) (λ l. result ≡ Err l) → Responds w (entry pass user statements.Checkpoint) (of_lack o) (lack_reply (moment_of w) k) w
      by (Some l) said = (ap (lack_reply (moment_of w)) (same_lack k l result is said), refl)
      by None said =
          let no : IsOk {T = ℕ} (Err k) = subst (λ (r : Result ℕ Lack). IsOk r) is said in
          cc

  -- it was begun: none was active, and there was room
  pub was_free : (result : Result ℕ Lack) (n : ℕ) → result ≡ Ok n → MatchOption (begin_lack c accepted.limits.checkpoints) (IsOk result) (λ lack. result ≡ Err lack) → begin_lack c accepted.limits.checkpoints ≡ None
  was_free result n is lack = by (begin_lack c accepted.limits.checkpoints) lack
    where
      by : (o : Option Lack) → MatchOption o (IsOk result) (λ l. result ≡ Err l) → o ≡ None
      by None said = refl
      by (Some l) said = cc

  pub begin-answered : (number : ℕ) → begin_lack c accepted.limits.checkpoints ≡ None → number ≡ c.begun + 1
      → (pass : ℕ) (user : User) → Responds w (entry pass user statements.Checkpoint) (first_lack (checkpoint_checks w user statements.Checkpoint)) (replies.Begun number (moment_of w)) (with_begun w)
  begin-answered number free is pass user =
      let A : Check → Type 0 = λ check. Responds w (entry pass user statements.Checkpoint) check (replies.Begun number (moment_of w)) (with_begun w) in
      subst A (sym (checked user ∙ ap of_lack free)) (refl, is, refl, refl)

-- none is active
pub free-none : (c : Capturing) (limit : ℕ) → begin_lack c limit ≡ None → c.active ≡ None
free-none c limit free = by c.active (leb limit c.begun) free
  where
    by : (o : Option Capture) (le : Bool) → cond (is_some o) (Some lacks.Busy) (cond le (Some (lacks.Full whats.Checkpoints)) None) ≡ None → o ≡ None
    by None le e = refl
    by (Some a) le e = cc

-- and there is room for one more
pub free-room : (c : Capturing) (limit : ℕ) → begin_lack c limit ≡ None → c.begun < limit
free-room c limit free = leb-false limit c.begun (by (is_some c.active) (leb limit c.begun) free)
  where
    by : (some le : Bool) → cond some (Some lacks.Busy) (cond le (Some (lacks.Full whats.Checkpoints)) None) ≡ None → le ≡ false
    by true le e = cc
    by false true e = cc
    by false false e = refl
