use Rattle.std.proofs.Common.{false, sym, ap, subst, ◌∙◌}
use Rattle.std.proofs.lemmas.Bool.{false≢true}
use Rattle.base_core.specs.declared.value.Moment.{Moment}
use Rattle.base_core.specs.declared.lack.Lack.TheVariants as lacks
use Rattle.system_core.specs.Step.{Step}
use Rattle.system_core.specs.declared.machine.event.Event.{Event}
use Rattle.system_core.specs.declared.machine.event.Reply.{Reply}
use Rattle.system_core.specs.declared.machine.event.Reply.TheVariants as replies
use Rattle.journal_core.specs.Recorder.{with_keeper, event_of_entry, IsSpelledEvent, StepsKept}
use Rattle.journal_core.proofs.Entering.{unasked-steps, unsettled-steps, settled-steps}
use Rattle.journal_core.proofs.recorder.say_owing.Goals as goal

pub returns-then-not-may_change : goal.returns-then-not-may_change
returns-then-not-may_change g c =
    let old = c.args.system.now in
    let new = c.step-reply.new.self in
    let e = c.args.entry in
    let step = subst (λ (event : Event). Step old event c.step-reply.result new) c.event_of.ensures c.step-reply.ensures in
    unasked-steps g.K.Keeper old new c.args.keeper.now e c.step-reply.result c.requires.owing (λ both. false≢true (sym c.if-not-may_change.true ∙ c.may_change.ensures.1 both)) step

pub act_next-requires-clause-spelled : goal.act_next-requires-clause-spelled
act_next-requires-clause-spelled g c = subst IsSpelledEvent (sym c.event_of-in-Ok.ensures) c.requires.spelled

pub returns-in-Ok : goal.returns-in-Ok
returns-in-Ok g c =
    let r = c.act_next.result in
    settled-steps g.K.Keeper c.args.system.now c.act_next.new.system c.args.keeper.now c.settle.new.self c.act_next.new.keeper c.event_of-in-Ok.result (event_of_entry c.args.entry) r.reply r.told c.event_of-in-Ok.ensures c.requires.owing
    (record { owing = c.in-Ok.ensures.owing; keeps = c.in-Ok.ensures.ok }) c.act_next.ensures.step c.act_next.ensures.keeping c.act_next.ensures.withheld

pub returns-in-Err : goal.returns-in-Err
returns-in-Err g c =
    let old = c.args.system.now in
    let k = c.args.keeper.now in
    let k' = c.settle.new.self in
    let e = c.args.entry in
    let may = c.may_change.ensures.0 c.if-not-may_change.false in
    let said = c.to_change-reply.ensures ∙ ap (λ (at : Moment). replies.Refused at lacks.NoMemory) c.moment.ensures in
    subst (λ (reply : Reply). StepsKept g.K.Keeper (with_keeper old k) (event_of_entry e) reply false (with_keeper old k')) (sym said)
    (unsettled-steps g.K.Keeper old k k' e c.requires.owing (record { owing = c.in-Err.ensures.owing; owes = c.in-Err.ensures.err }) may.0 may.1)
