use Rattle.base_core.specs.declared.name.User.{User}
use Rattle.lexer_core.specs.declared.token.TokenKind.TheVariants as kinds
use Rattle.reader_core.specs.Grammar.{End}
use Rattle.reader_core.proofs.Exits.{exits}
use Rattle.reader_core.proofs.Lists.{firsts_push}
use Rattle.reader_core.proofs.parsing.items.UserItem.read.Goals as goal

pub returns-in_err-name-clause-leads : goal.returns-in_err-name-clause-leads
returns-in_err-name-clause-leads c = exits _ _ _ _ _ _ _ c.from_residual.ensures.1 (c.in_err-name.ensures.leads End)

pub returns-clause-leads : goal.returns-clause-leads
returns-clause-leads c =
    let user : User = record { 0 = c.in_ok-name.name } in
    rw (firsts_push (λ x. kinds.Name x.0) c.args.before.now user) (c.in_ok-name.ensures.leads End)
