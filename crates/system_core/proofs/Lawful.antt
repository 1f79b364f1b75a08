-- A step keeps a world lawful.
use Rattle.std.proofs.Common.{◌≡◌, ◌≤◌, ◌<◌, ◌+◌, ◌-◌, ℕ, true, not, is_some, ltb, List, [], ◌∷◌, ◌++◌, length, Option, Some, None, Ok, Err, refl, sym, ap, subst, arith}
use Rattle.std.specs.List.{AllByRecursion}
use Rattle.std.proofs.lemmas.Bool.{ltb-true}
use Rattle.std.proofs.lemmas.List.{length-append, length-drop}
use Rattle.base_core.specs.declared.lack.Lack.TheVariants as lacks
use Rattle.base_core.specs.declared.lack.What.TheVariants as whats
use Rattle.base_core.specs.declared.name.User.{User}
use Rattle.base_core.specs.declared.value.Moment.{Moment}
use Rattle.reader_core.specs.declared.statement.Statement.TheVariants as statements
use Rattle.monitor_core.specs.Verdict.{Check, is_change}
use Rattle.monitor_core.proofs.Passing.{passed, require-Ok, not-some}
use Rattle.capture_core.specs.Image.{records}
use Rattle.system_core.specs.declared.machine.event.Entry.{Entry}
use Rattle.system_core.specs.declared.machine.event.Event.{Event}
use Rattle.system_core.specs.declared.machine.event.Event.TheVariants as events
use Rattle.system_core.specs.declared.machine.event.Reply.{Reply}
use Rattle.system_core.specs.declared.machine.event.Reply.TheVariants as replies
use Rattle.system_core.specs.Journal.{tables_at, rights_at, verdict_at}
use Rattle.system_core.specs.World.{World, ActiveCheckpoint, entry, moment_of, with_entry, records_at, with_active, IsRising, IsSoundActive, AreSound, IsLawfulWorld}
use Rattle.system_core.specs.Judging.{checkpoint_checks, verdict_of}
use Rattle.system_core.specs.Step.{with_begun, with_left, with_finished, with_none_active, CarriesOut, Responds, Advances, GivesUp, Step}
use Rattle.system_core.proofs.Imaging.{journal_at-more}
use Rattle.system_core.proofs.Keeping.{lawful-more}
use Rattle.system_core.proofs.Rising.{each-drop, each-front, each-weaker, each-end, rising-drop, rising-front, rising-end}

-- ---- checkpoints stay sound
each-last : {X : Type 0} (P : X → Type 0) (xs : List X) (x : X) → AllByRecursion P (xs ++ x ∷ []) → P x
each-last P [] x h = h.0
each-last P (y ∷ ys) x h = each-last P ys x h.1

active-entered : (journal : List Entry) (e : Entry) (begun : ℕ) (finished : List (ℕ × Moment)) (o : Option ActiveCheckpoint)
    → AllByRecursion (λ c. c.1.0 ≤ length journal) (with_active finished o) → IsSoundActive journal begun o → IsSoundActive (journal ++ e ∷ []) begun o
active-entered journal e begun finished None past s = tt
active-entered journal e begun finished (Some a) past s =
    let before = each-last (λ (c : ℕ × Moment). c.1.0 ≤ length journal) finished (a.number, a.point) past in
    let same : records_at (journal ++ e ∷ []) a.point ≡ records_at journal a.point = ap (λ j. records (tables_at j) (rights_at j)) (journal_at-more journal e a.point before) in
    (s.0, s.1, omega (arith, s.2, same))

-- one more entry
sound-entered : (w : World) (e : Entry) → AreSound w → AreSound (with_entry w e)
sound-entered w e s =
    let long : length (w.journal ++ e ∷ []) ≡ length w.journal + 1 = length-append w.journal (e ∷ []) in
    record {
      within = s.within;
      few = s.few;
      rising = s.rising;
      begun = s.begun;
      past = each-weaker (λ c. c.1.0 ≤ length w.journal) (λ c. c.1.0 ≤ length (w.journal ++ e ∷ [])) (with_active w.finished w.active) (λ c p. omega (arith, p, long)) s.past;
      active = active-entered w.journal e w.begun w.finished w.active s.past s.active;
    }

some_records : (journal : List Entry) (point : Moment) → 0 < records_at journal point
some_records journal point = omega arith

-- one more checkpoint
sound-begun : (w : World) → w.active ≡ None → w.begun < w.limits.checkpoints → AreSound w → AreSound (with_begun w)
sound-begun w none room s =
    let rising = subst (λ o. IsRising 0 0 (with_active w.finished o)) none s.rising in
    let past = subst (λ o. AllByRecursion (λ (c : ℕ × Moment). c.1.0 ≤ length w.journal) (with_active w.finished o)) none s.past in
    record {
      within = omega (arith, room);
      few = s.few;
      rising = rising-end 0 0 w.finished (w.begun + 1, moment_of w) (omega arith) (omega arith)
          (each-weaker (λ c. c.0 ≤ w.begun) (λ c. c.0 < w.begun + 1) w.finished (λ c p. omega (arith, p)) s.begun) past rising;
      begun = each-weaker (λ c. c.0 ≤ w.begun) (λ c. c.0 ≤ w.begun + 1) w.finished (λ c p. omega (arith, p)) s.begun;
      past = each-end (λ c. c.1.0 ≤ length w.journal) w.finished (w.begun + 1, moment_of w) past (omega arith);
      active = (refl, some_records w.journal (moment_of w), omega arith);
    }

module _ (w : World) (a : ActiveCheckpoint) (is : w.active ≡ Some a) (s : AreSound w) where
  rising : IsRising 0 0 (w.finished ++ (a.number, a.point) ∷ [])
  rising = subst (λ o. IsRising 0 0 (with_active w.finished o)) is s.rising

  past : AllByRecursion (λ c. c.1.0 ≤ length w.journal) (w.finished ++ (a.number, a.point) ∷ [])
  past = subst (λ o. AllByRecursion (λ (c : ℕ × Moment). c.1.0 ≤ length w.journal) (with_active w.finished o)) is s.past

  active : IsSoundActive w.journal w.begun (Some a)
  active = subst (IsSoundActive w.journal w.begun) is s.active

  -- fewer records are left
  sound-left : (left : ℕ) → 0 < left → left ≤ a.left → AreSound (with_left w a left)
  sound-left left some few = record {
    within = s.within;
    few = s.few;
    rising = rising;
    begun = s.begun;
    past = past;
    active = (active.0, some, omega (arith, few, active.2));
  }

  -- it is finished
  sound-finished : AreSound (with_finished w a)
  sound-finished =
      let all = w.finished ++ (a.number, a.point) ∷ [] in
      record {
        within = s.within;
        few = omega (arith, length-drop (length all - 8) all);
        rising = rising-drop (length all - 8) all rising;
        begun = each-drop (λ c. c.0 ≤ w.begun) (length all - 8) all (each-end (λ c. c.0 ≤ w.begun) w.finished (a.number, a.point) s.begun (omega (arith, active.0)));
        past = each-drop (λ c. c.1.0 ≤ length w.journal) (length all - 8) all past;
        active = tt;
      }

  -- it is given up
  sound-given_up : AreSound (with_none_active w)
  sound-given_up = record {
    within = s.within;
    few = s.few;
    rising = rising-front 0 0 w.finished ((a.number, a.point) ∷ []) rising;
    begun = s.begun;
    past = each-front (λ c. c.1.0 ≤ length w.journal) w.finished ((a.number, a.point) ∷ []) past;
    active = tt;
  }

-- ---- a step
same-lawful : (old new : World) → IsLawfulWorld old → new ≡ old → IsLawfulWorld new
same-lawful old new h e = subst IsLawfulWorld (sym e) h

entered-lawful : (old : World) (e : Entry) → is_change e.statement ≡ true → verdict_of old e.user e.statement ≡ Ok tt → IsLawfulWorld old → IsLawfulWorld (with_entry old e)
entered-lawful old e change allowed h =
    let all = passed (verdict_at old.limits old.journal e.user e.statement ∷ checkpoint_checks old e.user e.statement) allowed in
    record { journal = lawful-more old.limits [] old.journal e h.journal all.0 change; checkpoints = sound-entered old e h.checkpoints }

begun-lawful : (old : World) (user : User) → verdict_of old user statements.Checkpoint ≡ Ok tt → IsLawfulWorld old → IsLawfulWorld (with_begun old)
begun-lawful old user allowed h =
    let all = passed (verdict_at old.limits old.journal user statements.Checkpoint ∷ checkpoint_checks old user statements.Checkpoint) allowed in
    let none = not-some old.active (require-Ok (not (is_some old.active)) lacks.Busy all.1.0) in
    let room = ltb-true old.begun old.limits.checkpoints (require-Ok (ltb old.begun old.limits.checkpoints) (lacks.Full whats.Checkpoints) all.1.1.0) in
    record { journal = h.journal; checkpoints = sound-begun old none room h.checkpoints }

carried-lawful : (old new : World) (e : Entry) (reply : Reply) → verdict_of old e.user e.statement ≡ Ok tt → IsLawfulWorld old → CarriesOut old e reply new → IsLawfulWorld new
carried-lawful old new e (replies.Done at) allowed h c = same-lawful (with_entry old e) new (entered-lawful old e c.0 allowed h) c.2
carried-lawful old new e (replies.Begun number at) allowed h c =
    same-lawful (with_begun old) new (begun-lawful old e.user (subst (λ asked. verdict_of old e.user asked ≡ Ok tt) c.0 allowed) h) c.3
carried-lawful old new e (replies.Rows at rows) allowed h c = same-lawful old new h c.2
carried-lawful old new e (replies.Listed at entries) allowed h c = same-lawful old new h c.3
carried-lawful old new e (replies.Export ticket) allowed h c = same-lawful old new h c.1
carried-lawful old new e (replies.Refused at lack) allowed h c = same-lawful old new h c.3
carried-lawful old new e (replies.Described at columns) allowed h c = absurd c
carried-lawful old new e (replies.Denied at lack) allowed h c = absurd c
carried-lawful old new e replies.Idle allowed h c = absurd c
carried-lawful old new e (replies.Stepped number left) allowed h c = absurd c
carried-lawful old new e (replies.Finished number) allowed h c = absurd c
carried-lawful old new e (replies.Abandoned number) allowed h c = absurd c

responded-lawful : (old new : World) (e : Entry) (check : Check) (reply : Reply) → verdict_of old e.user e.statement ≡ check → IsLawfulWorld old → Responds old e check reply new → IsLawfulWorld new
responded-lawful old new e (Ok u) reply is h r = carried-lawful old new e reply is h r
responded-lawful old new e (Err lack) reply is h r = same-lawful old new h r.1

advanced-lawful : (old new : World) (o : Option ActiveCheckpoint) (reply : Reply) → old.active ≡ o → IsLawfulWorld old → Advances old o reply new → IsLawfulWorld new
advanced-lawful old new None reply is h a = same-lawful old new h a.1
advanced-lawful old new (Some active) (replies.Stepped number left) is h a =
    same-lawful (with_left old active left) new (record { journal = h.journal; checkpoints = sound-left old active is h.checkpoints left (omega (arith, a.0, a.2)) (omega (arith, a.2)) }) a.3
advanced-lawful old new (Some active) (replies.Finished number) is h a =
    same-lawful (with_finished old active) new (record { journal = h.journal; checkpoints = sound-finished old active is h.checkpoints }) a.2
advanced-lawful old new (Some active) (replies.Refused at lack) is h a = same-lawful old new h a.2
advanced-lawful old new (Some active) (replies.Done at) is h a = absurd a
advanced-lawful old new (Some active) (replies.Rows at rows) is h a = absurd a
advanced-lawful old new (Some active) (replies.Listed at entries) is h a = absurd a
advanced-lawful old new (Some active) (replies.Begun number at) is h a = absurd a
advanced-lawful old new (Some active) (replies.Export ticket) is h a = absurd a
advanced-lawful old new (Some active) (replies.Described at columns) is h a = absurd a
advanced-lawful old new (Some active) (replies.Denied at lack) is h a = absurd a
advanced-lawful old new (Some active) replies.Idle is h a = absurd a
advanced-lawful old new (Some active) (replies.Abandoned number) is h a = absurd a

given_up-lawful : (old new : World) (o : Option ActiveCheckpoint) (reply : Reply) → old.active ≡ o → IsLawfulWorld old → GivesUp old o reply new → IsLawfulWorld new
given_up-lawful old new None reply is h g = same-lawful old new h g.1
given_up-lawful old new (Some active) reply is h g =
    same-lawful (with_none_active old) new (record { journal = h.journal; checkpoints = sound-given_up old active is h.checkpoints }) g.1

-- **a step from a lawful world leads to a lawful world**
pub step-lawful : (old new : World) (event : Event) (reply : Reply) → IsLawfulWorld old → Step old event reply new → IsLawfulWorld new
step-lawful old new (events.Say pass user asked) reply h s = responded-lawful old new (entry pass user asked) (verdict_of old user asked) reply refl h s
step-lawful old new (events.Describe user asked) reply h s = same-lawful old new h s.1
step-lawful old new events.Step reply h s = advanced-lawful old new old.active reply refl h s
step-lawful old new events.Abandon reply h s = given_up-lawful old new old.active reply refl h s
