use Rattle.std.proofs.Common.{◌≡◌, ◌++◌, [], ◌∷◌, ℕ, List, rules, ap, ◌∙◌}
use Rattle.std.proofs.lemmas.Fn.{filter_same}
use Rattle.conversation_core.specs.State.{without_statement}
use Rattle.conversation_core.specs.declared.statements.NamedStatement.{NamedStatement}
use Rattle.conversation_core.proofs.statements.keep_statement.Goals as goal

pub returns-clause-ok : goal.returns-clause-ok
returns-clause-ok c =
    let name = c.args.name in
    let added : NamedStatement = record { name = name; prepared = c.args.prepared } in
    let others : c.retain.new.self.items ≡ without_statement c.as_slice-called.result.now c.reserve.new.self.items
    = filter_same _ _ _ (λ x b f' k. search rules) _ _ c.retain.ensures.filtered in
    let kept : c.retain.new.self.items ≡ without_statement name c.args.statements.now.items
    = others ∙ (ap (λ (n : List ℕ). without_statement n c.reserve.new.self.items) c.as_slice-called.ensures
    ∙ ap (λ (xs : List NamedStatement). without_statement name xs) c.in_ok-reserve.ensures.items) in
    c.push_reserved.ensures.items ∙ ap (λ (xs : List NamedStatement). xs ++ added ∷ []) kept
