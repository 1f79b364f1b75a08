use Rattle.base_core.proofs.Fronts.{write-map}
use Rattle.script_core.specs.Replying.{TellsAsked, TellsThen}
use Rattle.script_core.specs.declared.scripts.answer.Said.TheVariants as says
use Rattle.script_core.proofs.Answering.{asked-then}
use Rattle.script_core.proofs.scripts.answer.ask_any.Goals as goal

pub returns : goal.returns
returns g c =
    let old = c.args.system.now in
    let mid = c.reply_to-reply.new.system in
    let new = c.tell_reply.new.system in
    let reply = c.reply_to-reply.result in
    write-map g.W.Sink.failed g.W.Sink.taken _ _ (TellsThen (says.Answer reply) mid new) (TellsAsked c.args.entry old new) c.tell_reply.result
    (asked-then old mid new c.args.entry reply c.reply_to-reply.ensures) c.tell_reply.ensures
