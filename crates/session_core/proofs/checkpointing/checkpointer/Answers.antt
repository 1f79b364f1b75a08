use Rattle.std.proofs.Common.{ap, ◌∙◌}
use Rattle.base_core.specs.declared.lack.Lack.{Lack}
use Rattle.system_core.specs.declared.machine.event.Reply.TheVariants as replies
use Rattle.session_core.specs.Checking.{unchecked, checked}
use Rattle.session_core.proofs.Growing.{Watches-refl, Watches-trans}
use Rattle.session_core.proofs.Checked.{looks_watches, looks_worn}
use Rattle.session_core.proofs.checkpointing.checkpointer.Goals as goal

pub loop-init : goal.loop-init
loop-init g c = record { looks = unchecked; watches = Watches-refl c.args.pass.now }

pub loop-preserved : goal.loop-preserved
loop-preserved g c = record {
  looks = checked c.look-reply.result c.loop.pass c.look-reply.new.pass c.loop.invariant.looks c.look-reply.ensures;
  watches = Watches-trans c.args.pass.now c.loop.pass c.look-reply.new.pass c.loop.invariant.watches (looks_watches c.args.desk.now c.look-reply.result c.loop.pass c.look-reply.new.pass c.look-reply.ensures);
}

pub returns-in-Worn-clause-looks : goal.returns-in-Worn-clause-looks
returns-in-Worn-clause-looks g c = checked c.look-reply.result c.loop.pass c.look-reply.new.pass c.loop.invariant.looks c.look-reply.ensures

pub returns-in-Worn-clause-watches : goal.returns-in-Worn-clause-watches
returns-in-Worn-clause-watches g c =
    Watches-trans c.args.pass.now c.loop.pass c.look-reply.new.pass c.loop.invariant.watches (looks_watches c.args.desk.now c.look-reply.result c.loop.pass c.look-reply.new.pass c.look-reply.ensures)

pub returns-in-Worn-clause-worn : goal.returns-in-Worn-clause-worn
returns-in-Worn-clause-worn g c =
    let at = c.in-Refused.at in
    let is = c.in-Refused.is ∙ ap (λ (lack : Lack). replies.Refused at lack) c.in-Worn.is in
    looks_worn c.args.desk.now c.look-reply.result c.loop.pass c.look-reply.new.pass at is c.look-reply.ensures
