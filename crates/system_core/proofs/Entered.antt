-- A step enters what was done.
use Rattle.std.proofs.Common.{◌≡◌, ◌≤◌, ℕ, List, [], ◌∷◌, ◌++◌, Bool, true, false, Option, Some, None, Ok, Err, refl, sym, ap, ◌∙◌, subst, le_refl, arith, append-nil, if◌then◌else◌, ◌⊎◌, inl, inr}
use Rattle.base_core.specs.Lacks.{is_denial}
use Rattle.base_core.specs.declared.name.User.{User}
use Rattle.base_core.specs.declared.lack.Lack.{Lack}
use Rattle.base_core.specs.declared.value.Moment.{Moment}
use Rattle.reader_core.specs.declared.statement.Statement.{Statement}
use Rattle.monitor_core.specs.Verdict.{Check}
use Rattle.system_core.specs.declared.machine.event.Entry.{Entry}
use Rattle.system_core.specs.declared.machine.event.Event.{Event}
use Rattle.system_core.specs.declared.machine.event.Event.TheVariants as events
use Rattle.system_core.specs.declared.machine.event.Reply.{Reply}
use Rattle.system_core.specs.declared.machine.event.Reply.TheVariants as replies
use Rattle.system_core.specs.Entering.{entered, Enters}
use Rattle.system_core.specs.Judging.{verdict_of}
use Rattle.system_core.specs.World.{World, ActiveCheckpoint, entry}
use Rattle.system_core.specs.Step.{CarriesOut, Responds, Advances, GivesUp, Step, with_begun, with_left, with_finished, with_none_active}

still : (old new : World) → new ≡ old → Enters [] old new
still old new e = subst (λ (w : World). Enters [] old w) (sym e) (record { journal = sym (append-nil old.journal); begun = le_refl old.begun; chunk = refl; limits = refl })

-- only the checkpoints are others
checked : (old next new : World) → new ≡ next → next.journal ≡ old.journal → old.begun ≤ next.begun → next.chunk ≡ old.chunk → next.limits ≡ old.limits → Enters [] old new
checked old next new e journal begun chunk limits =
    subst (λ (w : World). Enters [] old w) (sym e) (record { journal = journal ∙ sym (append-nil old.journal); begun = begun; chunk = chunk; limits = limits })

none_entered : (pass : ℕ) (user : User) (asked : Statement) (at : Moment) (lack : Lack) (denied : Bool) → entered (events.Say pass user asked) (if denied then replies.Denied at lack else replies.Refused at lack) ≡ []
none_entered pass user asked at lack true = refl
none_entered pass user asked at lack false = refl

carried_enters : (old new : World) (pass : ℕ) (user : User) (asked : Statement) (reply : Reply) → CarriesOut old (entry pass user asked) reply new → Enters (entered (events.Say pass user asked) reply) old new
carried_enters old new pass user asked (replies.Done at) h = subst (λ (w : World). Enters (entry pass user asked ∷ []) old w) (sym h.2) (record { journal = refl; begun = le_refl old.begun; chunk = refl; limits = refl })
carried_enters old new pass user asked (replies.Rows at rows) h = still old new h.2
carried_enters old new pass user asked (replies.Listed at entries) h = still old new h.3
carried_enters old new pass user asked (replies.Begun number at) h = checked old (with_begun old) new h.3 refl (omega arith) refl refl
carried_enters old new pass user asked (replies.Export ticket) h = still old new h.1
carried_enters old new pass user asked (replies.Refused at lack) h = still old new h.3
carried_enters old new pass user asked (replies.Described at columns) h = absurd h
carried_enters old new pass user asked (replies.Denied at lack) h = absurd h
carried_enters old new pass user asked replies.Idle h = absurd h
carried_enters old new pass user asked (replies.Stepped number left) h = absurd h
carried_enters old new pass user asked (replies.Finished number) h = absurd h
carried_enters old new pass user asked (replies.Abandoned number) h = absurd h

responded_enters : (old new : World) (pass : ℕ) (user : User) (asked : Statement) (check : Check) (reply : Reply) → Responds old (entry pass user asked) check reply new → Enters (entered (events.Say pass user asked) reply) old new
responded_enters old new pass user asked (Ok u) reply h = carried_enters old new pass user asked reply h
responded_enters old new pass user asked (Err lack) reply h = subst (λ es. Enters es old new) (sym (ap (entered (events.Say pass user asked)) h.0 ∙ none_entered pass user asked _ lack (is_denial lack))) (still old new h.1)

advanced_enters : (old new : World) (active : Option ActiveCheckpoint) (reply : Reply) → Advances old active reply new → Enters [] old new
advanced_enters old new None reply h = still old new h.1
advanced_enters old new (Some a) (replies.Stepped number left) h = checked old (with_left old a left) new h.3 refl (le_refl old.begun) refl refl
advanced_enters old new (Some a) (replies.Finished number) h = checked old (with_finished old a) new h.2 refl (le_refl old.begun) refl refl
advanced_enters old new (Some a) (replies.Refused at lack) h = still old new h.2
advanced_enters old new (Some a) (replies.Done at) h = absurd h
advanced_enters old new (Some a) (replies.Rows at rows) h = absurd h
advanced_enters old new (Some a) (replies.Listed at entries) h = absurd h
advanced_enters old new (Some a) (replies.Begun number at) h = absurd h
advanced_enters old new (Some a) (replies.Export ticket) h = absurd h
advanced_enters old new (Some a) (replies.Described at columns) h = absurd h
advanced_enters old new (Some a) (replies.Denied at lack) h = absurd h
advanced_enters old new (Some a) replies.Idle h = absurd h
advanced_enters old new (Some a) (replies.Abandoned number) h = absurd h

given_up_enters : (old new : World) (active : Option ActiveCheckpoint) (reply : Reply) → GivesUp old active reply new → Enters [] old new
given_up_enters old new None reply h = still old new h.1
given_up_enters old new (Some a) reply h = checked old (with_none_active old) new h.1 refl (le_refl old.begun) refl refl

-- a step enters a statement that was done, and else nothing
pub step_enters : (old new : World) (event : Event) (reply : Reply) → Step old event reply new → Enters (entered event reply) old new
step_enters old new (events.Say pass user asked) reply h = responded_enters old new pass user asked (verdict_of old user asked) reply h
step_enters old new (events.Describe user asked) reply h = still old new h.1
step_enters old new events.Step reply h = advanced_enters old new old.active reply h
step_enters old new events.Abandon reply h = given_up_enters old new old.active reply h

-- so it enters one entry at most, of the pass that asked
pub one_at_most : (pass : ℕ) (user : User) (asked : Statement) (reply : Reply) (old new : List Entry) → new ≡ old ++ entered (events.Say pass user asked) reply
    → (new ≡ old) ⊎ ((e : Entry) × (e.pass ≡ pass) × (new ≡ old ++ e ∷ []))
one_at_most pass user asked (replies.Done at) old new e = inr (entry pass user asked, refl, e)
one_at_most pass user asked (replies.Rows at rows) old new e = inl (e ∙ append-nil old)
one_at_most pass user asked (replies.Listed at entries) old new e = inl (e ∙ append-nil old)
one_at_most pass user asked (replies.Begun number at) old new e = inl (e ∙ append-nil old)
one_at_most pass user asked (replies.Export ticket) old new e = inl (e ∙ append-nil old)
one_at_most pass user asked (replies.Refused at lack) old new e = inl (e ∙ append-nil old)
one_at_most pass user asked (replies.Described at columns) old new e = inl (e ∙ append-nil old)
one_at_most pass user asked (replies.Denied at lack) old new e = inl (e ∙ append-nil old)
one_at_most pass user asked replies.Idle old new e = inl (e ∙ append-nil old)
one_at_most pass user asked (replies.Stepped number left) old new e = inl (e ∙ append-nil old)
one_at_most pass user asked (replies.Finished number) old new e = inl (e ∙ append-nil old)
one_at_most pass user asked (replies.Abandoned number) old new e = inl (e ∙ append-nil old)
