use Rattle.std.proofs.Common.{◌≡◌, ◌++◌, true, false, ap, sym, ◌∙◌}
use Rattle.base_core.specs.Words.{folded}
use Rattle.sending_core.specs.Queue.{Queue, capacity}
use Rattle.sending_core.specs.declared.problem.Problem.TheVariants as problems
use Rattle.conversation_core.specs.State.{is_called}
use Rattle.conversation_core.specs.Telling.{Drops, command_items, error}
use Rattle.conversation_core.proofs.Additions.{adds_to}
use Rattle.conversation_core.proofs.CommandLemmas.{found, not_found}
use Rattle.conversation_core.proofs.conversation.Conversation.deallocate_named.Goals as goal

pub returns-then-not-has_statement-clause-adds : goal.returns-then-not-has_statement-clause-adds
returns-then-not-has_statement-clause-adds c =
    let old = c.args.self.now in
    let none : c.has_statement.result ≡ false = c.if-not-has_statement.true in
    adds_to _ old c.tell.new.self (error problems.NoStatement) old.state
    (Drops.not_prepared (not_found (is_called (folded c.args.name.now)) old.state.statements (sym c.has_statement.ensures ∙ none)))
    c.tell.ensures.items c.tell.ensures.capacity c.tell.ensures.state

pub returns-clause-adds : goal.returns-clause-adds
returns-clause-adds c =
    let old = c.args.self.now in
    let items = command_items c.args.telling.now c.args.command in
    let some : c.has_statement.result ≡ true = c.if-not-has_statement.false in
    let same = c.drop_statement.ensures.sending in
    let told = c.tell_command.ensures in
    adds_to _ old c.tell_command.new.self items _
    (Drops.dropped (found (is_called (folded c.args.name.now)) old.state.statements (sym c.has_statement.ensures ∙ some)))
    (told.items ∙ ap (λ (q : Queue). q.items ++ items) same) (told.capacity ∙ ap capacity same) (told.state ∙ c.drop_statement.ensures.state)
