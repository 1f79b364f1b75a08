-- No step answers that turns are worn.
use Rattle.std.proofs.Common.{◌≡◌, Bool, true, false, Option, Some, None, Ok, Err, inl, inr, refl, ap, ◌∙◌}
use Rattle.std.proofs.lemmas.Bool.{both_ways}
use Rattle.base_core.specs.declared.lack.Lack.{Lack}
use Rattle.base_core.specs.declared.lack.Lack.TheVariants as lacks
use Rattle.base_core.specs.declared.value.Moment.{Moment}
use Rattle.monitor_core.specs.Verdict.{Check}
use Rattle.monitor_core.proofs.Lacking.{Sound}
use Rattle.system_core.specs.declared.machine.event.Entry.{Entry}
use Rattle.system_core.specs.declared.machine.event.Event.{Event}
use Rattle.system_core.specs.declared.machine.event.Event.TheVariants as events
use Rattle.system_core.specs.declared.machine.event.Reply.{Reply}
use Rattle.system_core.specs.declared.machine.event.Reply.TheVariants as replies
use Rattle.reader_core.specs.declared.statement.Statement.{Statement}
use Rattle.system_core.specs.World.{World, ActiveCheckpoint, entry}
use Rattle.system_core.specs.Judging.{verdict_of}
use Rattle.system_core.specs.Describing.{denial_in, Describes}
use Rattle.system_core.specs.Step.{lack_reply, CarriesOut, Responds, Advances, GivesUp, Step}
use Rattle.system_core.proofs.Judged.{verdict_of-sound}

-- whether a reply says that turns are worn
abbrev is_worn : Reply → Bool
is_worn (replies.Refused at lacks.Worn) = true
is_worn reply = false

turned_away-unworn : (at : Moment) (lack : Lack) → Sound (Err lack) → is_worn (lack_reply at lack) ≡ false
turned_away-unworn at (lacks.NoTable t) h = refl
turned_away-unworn at (lacks.TableExists t) h = refl
turned_away-unworn at (lacks.NoColumn t c) h = refl
turned_away-unworn at (lacks.NoPrivilege u a) h = refl
turned_away-unworn at (lacks.NoGrantOption u a) h = refl
turned_away-unworn at (lacks.NoGrant b u a) h = refl
turned_away-unworn at (lacks.NoOptionGiven b u a) h = refl
turned_away-unworn at (lacks.NoCheckpoint n) h = refl
turned_away-unworn at (lacks.NoTableThen t n) h = refl
turned_away-unworn at (lacks.NoSelectThen u t) h = refl
turned_away-unworn at (lacks.NoSelectNow u t) h = refl
turned_away-unworn at (lacks.WrongCount g w) h = refl
turned_away-unworn at (lacks.WrongType c w) h = refl
turned_away-unworn at (lacks.Full what) h = refl
turned_away-unworn at lacks.Busy h = refl
turned_away-unworn at lacks.NoMemory h = absurd h
turned_away-unworn at lacks.Worn h = absurd h

refused-unworn : (at : Moment) (lack : Lack) → lack ≡ lacks.NoMemory → is_worn (replies.Refused at lack) ≡ false
refused-unworn at lack e = ap (λ l. is_worn (replies.Refused at l)) e

carried-unworn : (old new : World) (e : Entry) (reply : Reply) → CarriesOut old e reply new → is_worn reply ≡ false
carried-unworn old new e (replies.Refused at lack) h = refused-unworn at lack h.1
carried-unworn old new e (replies.Done at) h = refl
carried-unworn old new e (replies.Rows at rows) h = refl
carried-unworn old new e (replies.Listed at entries) h = refl
carried-unworn old new e (replies.Begun number at) h = refl
carried-unworn old new e (replies.Export ticket) h = refl
carried-unworn old new e (replies.Described at columns) h = refl
carried-unworn old new e (replies.Denied at lack) h = refl
carried-unworn old new e replies.Idle h = refl
carried-unworn old new e (replies.Stepped number left) h = refl
carried-unworn old new e (replies.Finished number) h = refl
carried-unworn old new e (replies.Abandoned number) h = refl

answered-unworn : (old new : World) (e : Entry) (check : Check) (reply : Reply) → Sound check → Responds old e check reply new → is_worn reply ≡ false
answered-unworn old new e (Ok u) reply sound h = carried-unworn old new e reply h
answered-unworn old new e (Err lack) reply sound h = ap is_worn h.0 ∙ turned_away-unworn _ lack sound

advanced-unworn : (old new : World) (active : Option ActiveCheckpoint) (reply : Reply) → Advances old active reply new → is_worn reply ≡ false
advanced-unworn old new None reply h = ap is_worn h.0
advanced-unworn old new (Some a) (replies.Refused at lack) h = refused-unworn at lack h.0
advanced-unworn old new (Some a) (replies.Done at) h = refl
advanced-unworn old new (Some a) (replies.Rows at rows) h = refl
advanced-unworn old new (Some a) (replies.Listed at entries) h = refl
advanced-unworn old new (Some a) (replies.Begun number at) h = refl
advanced-unworn old new (Some a) (replies.Export ticket) h = refl
advanced-unworn old new (Some a) (replies.Described at columns) h = refl
advanced-unworn old new (Some a) (replies.Denied at lack) h = refl
advanced-unworn old new (Some a) replies.Idle h = refl
advanced-unworn old new (Some a) (replies.Stepped number left) h = refl
advanced-unworn old new (Some a) (replies.Finished number) h = refl
advanced-unworn old new (Some a) (replies.Abandoned number) h = refl

described-unworn : (w : World) (asked : Statement) (denial : Option Lack) (reply : Reply) → Describes w asked denial reply → is_worn reply ≡ false
described-unworn w asked (Some lack) reply h = ap is_worn h
described-unworn w asked None reply (inl h) = ap is_worn h
described-unworn w asked None reply (inr h) = ap is_worn h

given_up-unworn : (old new : World) (active : Option ActiveCheckpoint) (reply : Reply) → GivesUp old active reply new → is_worn reply ≡ false
given_up-unworn old new None reply h = ap is_worn h.0
given_up-unworn old new (Some a) reply h = ap is_worn h.0

step-unworn : (old new : World) (event : Event) (reply : Reply) → Step old event reply new → is_worn reply ≡ false
step-unworn old new (events.Say pass user asked) reply h = answered-unworn old new (entry pass user asked) (verdict_of old user asked) reply (verdict_of-sound old user asked) h
step-unworn old new (events.Describe user asked) reply h = described-unworn old asked (denial_in (verdict_of old user asked)) reply h.0
step-unworn old new events.Step reply h = advanced-unworn old new old.active reply h
step-unworn old new events.Abandon reply h = given_up-unworn old new old.active reply h

-- **no step answers that turns are worn**
pub never-worn : (old new : World) (event : Event) (reply : Reply) (at : Moment) → Step old event reply new → reply ≡ replies.Refused at lacks.Worn → ⊥
never-worn old new event reply at h worn = both_ways _ (step-unworn old new event reply h) (ap is_worn worn)
