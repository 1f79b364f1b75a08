use Rattle.std.proofs.Common.{◌≡◌, refl, rules}
use Rattle.std.proofs.lemmas.Fn.{filter_same}
use Rattle.base_core.specs.Words.{folded}
use Rattle.conversation_core.specs.State.{without_statement}
use Rattle.conversation_core.proofs.conversation.Conversation.drop_statement.Goals as goal

pub returns-clause-state : goal.returns-clause-state
returns-clause-state c =
    let kept : c.retain.new.self.items ≡ without_statement (folded c.args.word.now) c.self.inside.statements.items =
    filter_same _ _ _ (λ x b f' k. search rules) _ _ c.retain.ensures.filtered in
    rw (kept, ← c.self.view_is) refl
