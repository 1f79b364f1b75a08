use Rattle.std.proofs.Common.{subst, ap, ◌∙◌}
use Rattle.base_core.specs.declared.lack.Lack.{Lack}
use Rattle.system_core.specs.declared.machine.event.Reply.{Reply}
use Rattle.system_core.specs.declared.machine.event.Reply.TheVariants as replies
use Rattle.desk_core.specs.declared.object.Ask.TheVariants as asks
use Rattle.desk_core.specs.Turns.{Answered}
use Rattle.session_core.specs.Checking.{gave_up}
use Rattle.session_core.proofs.checkpointing.look.Goals as goal

pub returns-in-NoMemory : goal.returns-in-NoMemory
returns-in-NoMemory g c =
    let said = c.in-Refused.is ∙ ap (λ (lack : Lack). replies.Refused c.in-Refused.at lack) c.in-NoMemory.is in
    let answered = subst (λ (reply : Reply). Answered c.args.desk.now asks.Step reply c.args.pass.now c.checkpoint_turn.new.pass) said c.checkpoint_turn.ensures.answered in
    gave_up c.in-Refused.at c.checkpoint_turn.new.pass c.checkpoint_turn.ensures.same answered c.abandon_turn.ensures.same c.abandon_turn.ensures.answered
