use Rattle.std.proofs.Common.{◌++◌, false, ap, sym, ◌∙◌, subst, arith}
use Rattle.utility_core.specs.declared.command.Command.{Command}
use Rattle.sending_core.specs.Queue.{Queue, capacity}
use Rattle.sending_core.specs.declared.problem.Problem.TheVariants as problems
use Rattle.conversation_core.specs.State.{Adds}
use Rattle.conversation_core.specs.Telling.{Obeys, command_items, error}
use Rattle.conversation_core.proofs.Additions.{adds_to}
use Rattle.conversation_core.proofs.CommandLemmas.{plain}
use Rattle.conversation_core.proofs.conversation.Conversation.obey.Goals as goal

pub returns-in-UnknownSetting-clause-adds : goal.returns-in-UnknownSetting-clause-adds
returns-in-UnknownSetting-clause-adds c =
    let old = c.args.self.now in
    let told = c.tell.ensures in
    subst (λ (k : Command). Adds old c.tell.new.self (λ answer n. Obeys c.args.telling.now c.args.line.now old.state k answer n false)) (sym c.in-UnknownSetting.is)
    (adds_to _ old c.tell.new.self (error problems.UnknownSetting) old.state Obeys.unknown told.items told.capacity told.state)

pub returns-in-Unserved-clause-adds : goal.returns-in-Unserved-clause-adds
returns-in-Unserved-clause-adds c =
    let old = c.args.self.now in
    let new = c.tell-in-Unserved.new.self in
    let told = c.tell-in-Unserved.ensures in
    subst (λ (k : Command). Adds old new (λ answer n. Obeys c.args.telling.now c.args.line.now old.state k answer n false)) (sym c.in-Unserved.is)
    (adds_to _ old new (error problems.Unserved) old.state Obeys.unserved told.items told.capacity told.state)

pub returns-in_default : goal.returns-in_default
returns-in_default c =
    let old = c.args.self.now in
    let command = c.args.command in
    let items = command_items c.args.telling.now command in
    let same = c.do_command.ensures.sending in
    let told = c.tell_command.ensures in
    record {
      adds = adds_to _ old c.tell_command.new.self items _
          (Obeys.done (plain old.state.block command c.in_default.not-UnknownSetting c.in_default.not-Unserved (λ token is. c.in_default.not-Deallocate token is) c.in_default.not-DeallocateUnderscored c.in_default.not-Commit))
          (told.items ∙ ap (λ (q : Queue). q.items ++ items) same) (told.capacity ∙ ap capacity same) (told.state ∙ c.do_command.ensures.state);
      room = omega (arith, told.room, ap (λ (q : Queue). q.room) same);
    }
