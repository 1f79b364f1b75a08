use Rattle.std.proofs.Common.{◌<◌}
use Rattle.system_core.specs.declared.machine.event.Reply.{Reply}
use Rattle.desk_core.specs.Guarded.{origin_of}
use Rattle.desk_core.specs.Kept.{IsKept}
use Rattle.desk_core.proofs.Taking.{acted_turn, turn_taken, turn_kept, turn_change, answered_if, kept_if, change_if, withheld_if}
use Rattle.desk_core.proofs.desk.Desk.turn.Goals as goal

pub returns-in-Ok-clause-answered : goal.returns-in-Ok-clause-answered
returns-in-Ok-clause-answered g c =
    let K = g.K.Keeper in
    let a = c.in-Ok.answer.acted in
    answered_if c.args.self.now c.args.ask a.reply a.told c.args.pass.now c.turn.new.pass c.into_reply.result c.into_reply.ensures
    (turn_taken K c.args.self.now c.args.ask a c.args.pass.now c.turn.new.pass (acted_turn K c.args.self.now c.args.ask c.in-Ok.answer c.args.pass.now c.turn.new.pass (rw c.self.view_is at c.in-Ok.ensures.done)) c.in-Ok.ensures.drawn c.in-Ok.ensures.counted)

pub returns-in-Ok-clause-kept : goal.returns-in-Ok-clause-kept
returns-in-Ok-clause-kept g c =
    let K = g.K.Keeper in
    let desk = c.args.self.now in
    let a = c.in-Ok.answer.acted in
    let old = c.args.pass.now in
    let new = c.turn.new.pass in
    kept_if desk c.args.ask a.reply a.told old new (λ (reply : Reply). old.turns < new.turns → IsKept K (origin_of desk) reply new.seen) c.into_reply.result c.into_reply.ensures
    (λ told _. turn_kept K desk c.args.ask a old new (acted_turn K c.args.self.now c.args.ask c.in-Ok.answer c.args.pass.now c.turn.new.pass (rw c.self.view_is at c.in-Ok.ensures.done)) told)

pub returns-in-Ok-clause-change : goal.returns-in-Ok-clause-change
returns-in-Ok-clause-change g c =
    let K = g.K.Keeper in
    let desk = c.args.self.now in
    let a = c.in-Ok.answer.acted in
    let old = c.args.pass.now in
    let new = c.turn.new.pass in
    change_if desk c.args.ask a.reply a.told old new c.into_reply.result c.into_reply.ensures
    (turn_change K desk c.args.ask a old new (acted_turn K c.args.self.now c.args.ask c.in-Ok.answer c.args.pass.now c.turn.new.pass (rw c.self.view_is at c.in-Ok.ensures.done)))

pub returns-in-Ok-clause-withheld : goal.returns-in-Ok-clause-withheld
returns-in-Ok-clause-withheld g c =
    let K = g.K.Keeper in
    let a = c.in-Ok.answer.acted in
    withheld_if c.args.self.now c.args.ask a.reply a.told c.args.pass.now c.turn.new.pass c.into_reply.result c.into_reply.ensures
    (turn_taken K c.args.self.now c.args.ask a c.args.pass.now c.turn.new.pass (acted_turn K c.args.self.now c.args.ask c.in-Ok.answer c.args.pass.now c.turn.new.pass (rw c.self.view_is at c.in-Ok.ensures.done)) c.in-Ok.ensures.drawn c.in-Ok.ensures.counted)
