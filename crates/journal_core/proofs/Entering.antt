-- What a step enters, and what becomes of the keeper.
use Rattle.std.proofs.Common.{◌≡◌, ℕ, Bool, true, false, List, [], ◌∷◌, ◌++◌, length, Ok, Err, Option, Some, None, inl, inr, refl, sym, ap, ◌∙◌, subst, append-nil, arith, if◌then◌else◌}
use Rattle.std.specs.Prelude.{Result, OnOk, OnErr, MatchResult}
use Rattle.std.specs.Result.{is_ok}
use Rattle.std.proofs.lemmas.Bool.{false≢true}
use Rattle.base_core.specs.declared.stream.Broken.{Broken}
use Rattle.base_core.specs.declared.memory.NoMemory.{NoMemory}
use Rattle.base_core.specs.declared.value.Moment.{Moment}
use Rattle.base_core.specs.Lacks.{is_denial}
use Rattle.base_core.specs.declared.lack.Lack.{Lack}
use Rattle.base_core.specs.declared.lack.Lack.TheVariants as lacks
use Rattle.reader_core.specs.Language.{Spells}
use Rattle.reader_core.specs.declared.statement.Statement.{Statement}
use Rattle.reader_core.specs.declared.statement.Statement.TheVariants as statements
use Rattle.monitor_core.specs.Verdict.{Check, first_lack, is_change}
use Rattle.system_core.specs.declared.machine.event.Entry.{Entry}
use Rattle.system_core.specs.declared.machine.event.Event.{Event}
use Rattle.system_core.specs.declared.machine.event.Event.TheVariants as events
use Rattle.system_core.specs.declared.machine.event.Reply.{Reply}
use Rattle.system_core.specs.declared.machine.event.Reply.TheVariants as replies
use Rattle.system_core.specs.Entering.{entered}
use Rattle.system_core.specs.Replies.{is_done}
use Rattle.system_core.specs.Describing.{denial_in, denial_reply, Describes}
use Rattle.system_core.specs.Step.{Step, Responds, Advances, GivesUp, CarriesOut, TakesMemory, change_reply}
use Rattle.system_core.specs.Journal.{verdict_at}
use Rattle.system_core.specs.Judging.{checkpoint_checks, verdict_of, judged_at}
use Rattle.system_core.specs.World.{World, ActiveCheckpoint, entry, moment_of}
use Rattle.system_core.proofs.Judged.{change-responds}
use Rattle.system_core.proofs.Entered.{step_enters}
use Rattle.journal_core.specs.declared.keeper.Keeper.{Ghosts}
use Rattle.journal_core.specs.Keeping.{KeepsAll, KeepsOrOwes, all, but_last}
use Rattle.journal_core.specs.Recorder.{IsSpelledEvent, event_of_entry, says_change, Settles, OwesStill, KeepsNext, kept, owed, KeepsEntered, next, settled, unasked, unsettled, StepsKept, with_keeper}

no_done_told : (w : World) (asked : Statement) (denial : Option Lack) (at : Moment) → Describes w asked denial (replies.Done at) → ⊥
no_done_told w asked (Some lack) at h = let is : replies.Done at ≡ denial_reply w asked lack = h in cc
no_done_told w asked None at (inl h) = cc
no_done_told w asked None at (inr h) = cc

no_done_step : (old new : World) (active : Option ActiveCheckpoint) (at : Moment) → Advances old active (replies.Done at) new → ⊥
no_done_step old new None at h = let is = h.0 in cc
no_done_step old new (Some a) at h = h

no_done_end : (old new : World) (active : Option ActiveCheckpoint) (at : Moment) → GivesUp old active (replies.Done at) new → ⊥
no_done_end old new None at h = let is = h.0 in cc
no_done_end old new (Some a) at h = let is = h.0 in cc

-- a step that was done enters one entry
pub done_enters : (old new : World) (event : Event) (reply : Reply) → is_done reply ≡ true → Step old event reply new → (e : Entry) × (entered event reply ≡ e ∷ []) × (new.journal ≡ old.journal ++ e ∷ [])
done_enters old new (events.Say pass user asked) (replies.Done at) d step = (entry pass user asked, refl, (step_enters old new (events.Say pass user asked) (replies.Done at) step).journal)
done_enters old new (events.Describe user asked) (replies.Done at) d step = absurd (no_done_told old asked (denial_in (verdict_of old user asked)) at step.0)
done_enters old new events.Step (replies.Done at) d step = absurd (no_done_step old new old.active at step)
done_enters old new events.Abandon (replies.Done at) d step = absurd (no_done_end old new old.active at step)
done_enters old new event _ d step = absurd (false≢true d)

-- and any other enters nothing
pub not_done : (event : Event) (reply : Reply) → is_done reply ≡ false → entered event reply ≡ []
not_done (events.Describe user asked) reply d = refl
not_done events.Step reply d = refl
not_done events.Abandon reply d = refl
not_done (events.Say pass user asked) (replies.Done at) d = absurd (false≢true (sym d))
not_done (events.Say pass user asked) _ d = refl

-- ---- what is no allowed change
done_lack : (b : Bool) (at x y : Moment) (lack : Lack) → replies.Done at ≡ (if b then replies.Denied x lack else replies.Refused y lack) → ⊥
done_lack true at x y lack e = cc
done_lack false at x y lack e = cc

done_responds : (old new : World) (e : Entry) (at : Moment) (check : Check) → Responds old e check (replies.Done at) new → (check ≡ Ok tt) × (is_change e.statement ≡ true)
done_responds old new e at (Ok u) h = (refl, h.0)
done_responds old new e at (Err lack) h = let m = judged_at old e.statement lack in absurd (done_lack (is_denial lack) at m m lack h.0)

first_passed : (check : Check) (more : List Check) → first_lack (check ∷ more) ≡ Ok tt → check ≡ Ok tt
first_passed (Ok u) more h = refl
first_passed (Err lack) more h = cc

-- it enters nothing
pub unchanged-entered : (old new : World) (e : Entry) (reply : Reply) → ((verdict_at old.limits old.journal e.user e.statement ≡ Ok tt) × (is_change e.statement ≡ true) → ⊥)
    → Step old (event_of_entry e) reply new → entered (event_of_entry e) reply ≡ []
unchanged-entered old new e (replies.Done at) denied step =
    let done = done_responds old new e at (verdict_of old e.user e.statement) step in
    absurd (denied (first_passed (verdict_at old.limits old.journal e.user e.statement) (checkpoint_checks old e.user e.statement) done.0, done.1))
unchanged-entered old new e _ denied step = refl

-- what was done is a change
pub done_is_change : (old new : World) (event : Event) (reply : Reply) → is_done reply ≡ true → Step old event reply new → says_change event ≡ true
done_is_change old new (events.Say pass user asked) (replies.Done at) d step = (done_responds old new (entry pass user asked) at (verdict_of old user asked) step).1
done_is_change old new (events.Describe user asked) (replies.Done at) d step = absurd (no_done_told old asked (denial_in (verdict_of old user asked)) at step.0)
done_is_change old new events.Step (replies.Done at) d step = absurd (no_done_step old new old.active at step)
done_is_change old new events.Abandon (replies.Done at) d step = absurd (no_done_end old new old.active at step)
done_is_change old new event _ d step = absurd (false≢true d)

-- a change may be refused memory
change_takes : (asked : Statement) → is_change asked ≡ true → TakesMemory asked
change_takes statements.Checkpoint c = cc
change_takes _ c = tt

pub refused_memory : (w : World) (e : Entry) → verdict_at w.limits w.journal e.user e.statement ≡ Ok tt → is_change e.statement ≡ true → Step w (event_of_entry e) (replies.Refused (moment_of w) lacks.NoMemory) w
refused_memory w e allowed change =
    change-responds w w e (replies.Refused (moment_of w) lacks.NoMemory) allowed change (change_takes e.statement change, refl, refl, refl)

-- ---- what is spelled
first_or : Entry → List Entry → Entry
first_or e [] = e
first_or e (x ∷ xs) = x

-- what is entered is spelled by some line
pub entered_spelled : (event : Event) (reply : Reply) (e : Entry) → is_done reply ≡ true → IsSpelledEvent event → entered event reply ≡ e ∷ [] → (line : List ℕ) × Spells line e.statement
unfolding first_or
entered_spelled (events.Say pass user asked) (replies.Done at) e d s is = (s.0, subst (λ (x : Entry). Spells s.0 x.statement) (ap (first_or e) is) s.1)
entered_spelled (events.Describe user asked) reply e d s is = absurd (let long : length (entered (events.Describe user asked) reply) ≡ 1 = ap length is in omega arith)
entered_spelled events.Step reply e d s is = absurd (let long : length (entered events.Step reply) ≡ 1 = ap length is in omega arith)
entered_spelled events.Abandon reply e d s is = absurd (let long : length (entered events.Abandon reply) ≡ 1 = ap length is in omega arith)
entered_spelled (events.Say pass user asked) _ e d s is = absurd (false≢true d)

-- a change that was done
pub was_done : (old new : World) (e : Entry) (at made : Moment) (result : Result Moment NoMemory) → result ≡ Ok made → CarriesOut old e (change_reply at result) new → CarriesOut old e (replies.Done made) new
was_done old new e at made result is carries = subst (λ (r : Result Moment NoMemory). CarriesOut old e (change_reply at r) new) is carries

-- one that was refused memory
pub was_refused : (old new : World) (e : Entry) (at : Moment) (lack : NoMemory) (result : Result Moment NoMemory) → result ≡ Err lack → CarriesOut old e (change_reply at result) new → CarriesOut old e (replies.Refused at lacks.NoMemory) new
was_refused old new e at lack result is carries = subst (λ (r : Result Moment NoMemory). CarriesOut old e (change_reply at r) new) is carries

-- a test has one outcome
pub never-both : {A : Type 0} (b : Bool) → b ≡ true → b ≡ false → A
never-both b t f = absurd (false≢true (sym f ∙ t))

module _ {K : Type 0} (keeps : K → Entry → K → Type 0) where
  pub KeepsAll-append : (old mid new : K) (xs ys : List Entry) → KeepsAll keeps old xs mid → KeepsAll keeps mid ys new → KeepsAll keeps old (xs ++ ys) new
  KeepsAll-append old mid new [] ys p q = subst (λ k. KeepsAll keeps k ys new) p q
  KeepsAll-append old mid new (x ∷ xs) ys (between, h, t) q = (between, h, KeepsAll-append between mid new xs ys t q)

module _ {K : Type 0} (rules : Ghosts K) where
  -- one entry, as it was kept or not
  pub one_kept : (old new : K) (e : Entry) (r : Result (Unit {0}) Broken) (told : Bool) → told ≡ is_ok r → rules.owing old ≡ false → MatchResult r (λ _. rules.owing new ≡ false) (λ _. rules.owing new ≡ true)
      → OnOk r (rules.keeps old e new) → OnErr r (rules.owes old e new) → KeepsNext rules old (e ∷ []) told new
  one_kept old new e (Ok u) told is f n h x = subst (λ t. KeepsNext rules old (e ∷ []) t new) (sym is) (kept f n (new, h, refl))
  one_kept old new e (Err b) told is f n x h = subst (λ t. KeepsNext rules old (e ∷ []) t new) (sym is) (owed f n e refl h)

  -- what a keeper that owes nothing did
  pub entered-next : (old new : K) (entries : List Entry) (told : Bool) → rules.owing old ≡ false → KeepsEntered rules old entries told new → KeepsNext rules old entries told new
  entered-next old new entries told f (next n) = n
  entered-next old new entries told f (settled o s n) = never-both (rules.owing old) o f
  entered-next old _ entries _ f (unasked o none) = never-both (rules.owing old) o f
  entered-next old new entries _ f (unsettled o none still) = never-both (rules.owing old) o f

  next-told : (old new : K) (entries : List Entry) (told : Bool) → KeepsNext rules old entries told new → told ≡ true → (rules.owing new ≡ false) × KeepsAll rules.keeps old entries new
  next-told old new entries _ (kept f n had) t = (n, had)
  next-told old new entries _ (owed f n e one owes) t = absurd (false≢true t)

  next-owed : (old new : K) (entries : List Entry) (told : Bool) → KeepsNext rules old entries told new → told ≡ false → (e : Entry) × (entries ≡ e ∷ []) × (rules.owing new ≡ true) × rules.owes old e new
  next-owed old new entries _ (kept f n had) t = absurd (false≢true (sym t))
  next-owed old new entries _ (owed f n e one owes) t = (e, one, n, owes)

  -- where the reply may be told of a keeper that owed nothing, it owes nothing, and has kept all
  pub entered-told : (old new : K) (entries : List Entry) (told : Bool) → rules.owing old ≡ false → KeepsEntered rules old entries told new → told ≡ true → (rules.owing new ≡ false) × KeepsAll rules.keeps old entries new
  entered-told old new entries told f k t = next-told old new entries told (entered-next old new entries told f k) t

  -- where it may not be told of such a one, there is one entry, and what is left of it is owed
  pub entered-owed : (old new : K) (entries : List Entry) (told : Bool) → rules.owing old ≡ false → KeepsEntered rules old entries told new → told ≡ false
      → (e : Entry) × (entries ≡ e ∷ []) × (rules.owing new ≡ true) × rules.owes old e new
  entered-owed old new entries told f k t = next-owed old new entries told (entered-next old new entries told f k) t

  -- where the reply to a change may be told, nothing is owed
  pub one-told : (old new : K) (entries : List Entry) (e : Entry) (told : Bool) → entries ≡ e ∷ [] → KeepsEntered rules old entries told new → told ≡ true → rules.owing new ≡ false
  one-told old new entries e told one (next n) t = (next-told old new entries told n t).0
  one-told old new entries e told one (settled {mid = mid} o s n) t = (next-told mid new entries told n t).0
  one-told old _ entries e _ one (unasked o none) t = absurd (let long : length (e ∷ []) ≡ 0 = ap length (sym one ∙ none) in omega arith)
  one-told old new entries e _ one (unsettled o none still) t = absurd (false≢true t)

  -- ---- what was kept before, and what is entered then
  next-kept : (start old new : K) (before entries : List Entry) (told : Bool) → KeepsAll rules.keeps start before old → KeepsNext rules old entries told new → KeepsOrOwes rules start (before ++ entries) new
  next-kept start old new before entries _ had (kept f n more) = all n (KeepsAll-append rules.keeps start old new before entries had more)
  next-kept start old new before entries _ had (owed f n e one owes) = but_last n before e old (ap (λ es. before ++ es) one) had owes

  next-owing : (old new : K) (entries : List Entry) (told : Bool) → KeepsNext rules old entries told new → rules.owing old ≡ false
  next-owing old new entries _ (kept f n more) = f
  next-owing old new entries _ (owed f n e one owes) = f

  -- who owes nothing has kept all
  pub KeepsOrOwes-all : (start new : K) (entries : List Entry) → rules.owing new ≡ false → KeepsOrOwes rules start entries new → KeepsAll rules.keeps start entries new
  KeepsOrOwes-all start new entries f (all n had) = had
  KeepsOrOwes-all start new entries f (but_last n front last mid is had owes) = never-both (rules.owing new) n f

  -- nothing more is entered
  same_entries : (before entries : List Entry) → entries ≡ [] → before ≡ before ++ entries
  same_entries before entries none = sym (append-nil before) ∙ ap (λ es. before ++ es) (sym none)

  -- what is owed of the last is settled
  pub settled-kept : (start old new : K) (entries : List Entry) → rules.owing old ≡ true → Settles rules old new → KeepsOrOwes rules start entries old → KeepsAll rules.keeps start entries new
  settled-kept start old new entries o s (all n had) = never-both (rules.owing old) o n
  settled-kept start old new entries o s (but_last n front last mid is had owes) =
      subst (λ es. KeepsAll rules.keeps start es new) (sym is) (KeepsAll-append rules.keeps start mid new front (last ∷ []) had (new, s.keeps mid last owes, refl))

  -- or it is owed still
  pub still-kept : (start old new : K) (entries : List Entry) → rules.owing old ≡ true → OwesStill rules old new → KeepsOrOwes rules start entries old → KeepsOrOwes rules start entries new
  still-kept start old new entries o s (all n had) = never-both (rules.owing old) o n
  still-kept start old new entries o s (but_last n front last mid is had owes) = but_last s.owing front last mid is had (s.owes mid last owes)

  -- and so it is where that was tried
  pub tried-kept : (start old new : K) (entries : List Entry) (r : Result (Unit {0}) Broken) → rules.owing old ≡ true → MatchResult r (λ _. rules.owing new ≡ false) (λ _. rules.owing new ≡ true)
      → OnOk r ((s : K) (e : Entry) → rules.owes s e old → rules.keeps s e new) → OnErr r ((s : K) (e : Entry) → rules.owes s e old → rules.owes s e new)
      → KeepsOrOwes rules start entries old → KeepsOrOwes rules start entries new
  tried-kept start old new entries (Ok u) o n ok err had = all n (settled-kept start old new entries o (record { owing = n; keeps = ok }) had)
  tried-kept start old new entries (Err b) o n ok err had = still-kept start old new entries o (record { owing = n; owes = err }) had

  -- **who has kept all, or owes of the last, keeps on so**
  pub KeepsOrOwes-entered : (start old new : K) (before entries : List Entry) (told : Bool) → KeepsOrOwes rules start before old → KeepsEntered rules old entries told new → KeepsOrOwes rules start (before ++ entries) new
  KeepsOrOwes-entered start old new before entries told (all n had) (next k) = next-kept start old new before entries told had k
  KeepsOrOwes-entered start old new before entries told (but_last n front last mid is had owes) (next k) = never-both (rules.owing old) n (next-owing old new entries told k)
  KeepsOrOwes-entered start old new before entries told had (settled {mid = mid} o s k) = next-kept start mid new before entries told (settled-kept start old mid before o s had) k
  KeepsOrOwes-entered start old _ before entries _ had (unasked o none) = subst (λ es. KeepsOrOwes rules start es old) (same_entries before entries none) had
  KeepsOrOwes-entered start old new before entries _ had (unsettled o none still) = subst (λ es. KeepsOrOwes rules start es new) (same_entries before entries none) (still-kept start old new before o still had)

  -- ---- a step while something is owed
  -- what is no allowed change enters nothing
  pub unasked-steps : (old new : World) (k : K) (e : Entry) (reply : Reply) → rules.owing k ≡ true → ((verdict_at old.limits old.journal e.user e.statement ≡ Ok tt) × (is_change e.statement ≡ true) → ⊥)
      → Step old (event_of_entry e) reply new → StepsKept rules (with_keeper old k) (event_of_entry e) reply true (with_keeper new k)
  unasked-steps old new k e reply o denied step =
      record { step = step; keeping = unasked o (unchanged-entered old new e reply denied step); withheld = λ untold. never-both true refl untold }

  -- an allowed change is not entered where what is owed is not settled
  pub unsettled-steps : (old : World) (k k' : K) (e : Entry) → rules.owing k ≡ true → OwesStill rules k k' → verdict_at old.limits old.journal e.user e.statement ≡ Ok tt → is_change e.statement ≡ true
      → StepsKept rules (with_keeper old k) (event_of_entry e) (replies.Refused (moment_of old) lacks.NoMemory) false (with_keeper old k')
  unsettled-steps old k k' e o still allowed change = record { step = refused_memory old e allowed change; keeping = unsettled o refl still; withheld = λ _. change }

  -- one is entered as ever where it is
  pub settled-steps : (old new : World) (k mid k' : K) (event said : Event) (reply : Reply) (told : Bool) → event ≡ said → rules.owing k ≡ true → Settles rules k mid → Step old event reply new
      → KeepsNext rules mid (entered event reply) told k' → (told ≡ false → says_change event ≡ true) → StepsKept rules (with_keeper old k) said reply told (with_keeper new k')
  settled-steps old new k mid k' event said reply told is o s step keeps withheld =
      subst (λ (x : Event). StepsKept rules (with_keeper old k) x reply told (with_keeper new k')) is (record { step = step; keeping = settled o s keeps; withheld = withheld })
