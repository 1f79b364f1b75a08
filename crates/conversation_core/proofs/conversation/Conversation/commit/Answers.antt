use Rattle.std.proofs.Common.{◌≡◌, ◌++◌, true, ap, subst, arith, ◌∙◌}
use Rattle.sending_core.specs.Queue.{Queue, capacity}
use Rattle.sending_core.specs.declared.plain.Plain.TheVariants as plains
use Rattle.utility_core.specs.declared.command.Command.TheVariants as commands
use Rattle.messages_core.specs.declared.server.Status.TheVariants as statuses
use Rattle.conversation_core.specs.State.{Conversing}
use Rattle.conversation_core.specs.Telling.{Obeys, command_items, is_plain_command, plain}
use Rattle.conversation_core.proofs.Additions.{adds_to}
use Rattle.conversation_core.proofs.CommandLemmas.{plain_commit}
use Rattle.conversation_core.proofs.conversation.Conversation.commit.Goals as goal

pub returns-in-InFailedTransaction-clause-adds : goal.returns-in-InFailedTransaction-clause-adds
returns-in-InFailedTransaction-clause-adds c =
    adds_to _ _ c.add.new.self (plain plains.RolledBack) _ (λ line. Obeys.rolled_back (subst (λ (old : Conversing). old.state.block ≡ statuses.InFailedTransaction) c.self.view_is c.in-InFailedTransaction.is))
    (c.add.ensures.items ∙ ap (λ (s : Queue). s.items ++ plain plains.RolledBack) c.end_block.ensures.sending)
    (c.add.ensures.capacity ∙ ap capacity c.end_block.ensures.sending) (c.add.ensures.state ∙ c.end_block.ensures.state)

pub returns-in_default : goal.returns-in_default
returns-in_default c =
    let telling = c.args.telling.now in
    let kept = c.end_block-in_default.ensures.sending in
    let plain_one = subst (λ (old : Conversing). is_plain_command old.state.block commands.Commit ≡ true) c.self.view_is
    (plain_commit c.self.inside.block c.in_default.not-InFailedTransaction) in
    record {
      adds = adds_to _ _ c.tell_command.new.self (command_items telling commands.Commit) _ (λ line. Obeys.done plain_one)
          (c.tell_command.ensures.items ∙ ap (λ (s : Queue). s.items ++ command_items telling commands.Commit) kept)
          (c.tell_command.ensures.capacity ∙ ap capacity kept) (c.tell_command.ensures.state ∙ c.end_block-in_default.ensures.state);
      room = omega (arith, c.tell_command.ensures.room, ap (λ (s : Queue). s.room) kept);
    }
