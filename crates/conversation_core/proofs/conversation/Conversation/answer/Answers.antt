use Rattle.std.proofs.Common.{◌≡◌, ◌++◌, List, sym, ap, subst, ◌∙◌}
use Rattle.sending_core.specs.declared.item.Item.{Item}
use Rattle.conversation_core.specs.Messages.{ComesTo, heard, passed_over}
use Rattle.conversation_core.proofs.conversation.Conversation.answer.Goals as goal

pub returns-then-passes_over-clause-comes : goal.returns-then-passes_over-clause-comes
returns-then-passes_over-clause-comes g c =
    let old = c.args.self.now in
    subst (λ (q : List Item). ComesTo c.args.lent.now.desk.now c.args.user old.state c.args.pass.now c.args.message q old.state c.args.pass.now) (sym c.requires.free)
    (passed_over (sym c.passes_over.ensures ∙ c.if-passes_over.true))

pub returns-clause-comes : goal.returns-clause-comes
returns-clause-comes g c =
    let old = c.args.self.now in
    let new = c.hear.new.self in
    let adds = c.hear.ensures.adds in
    let added : new.sending.items ≡ adds.answer = adds.added ∙ ap (λ (q : List Item). q ++ adds.answer) c.requires.free in
    subst (λ (q : List Item). ComesTo c.args.lent.now.desk.now c.args.user old.state c.args.pass.now c.args.message q new.state c.hear.new.pass) (sym added)
    (heard (sym c.passes_over.ensures ∙ c.if-passes_over.false) adds.is)
