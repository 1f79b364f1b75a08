use Rattle.std.proofs.Common.{◌++◌, Some, codes, sym, ap, ◌∙◌}
use Rattle.std.proofs.lemmas.Bool.Decides.{Decides-eqb}
use Rattle.std.proofs.lemmas.Slice.Eq.{strip_prefix_is}
use Rattle.login_core.proofs.Beginnings.{no-opening}
use Rattle.login_core.proofs.opening.read_opening.Goals as goal

pub returns-in_err-user : goal.returns-in_err-user
returns-in_err-user c =
    let front = strip_prefix_is Decides-eqb c.args.line.now (codes "LOGIN ") (Some c.in_ok-named.named) c.in_ok-named.ensures.cases in
    let nobody = sym c.read.ensures ∙ c.in_err-user.was in
    rw c.from_residual-in_err-user.ensures
    (no-opening c.args.line.now c.in_ok-named.named.now c.in_ok-word.word.now c.in_ok-word.message.now front c.in_ok-word.ensures
    (λ user channel_binding bare nonce named says. cc))

pub returns-in_err-first : goal.returns-in_err-first
returns-in_err-first c =
    let front = strip_prefix_is Decides-eqb c.args.line.now (codes "LOGIN ") (Some c.in_ok-named.named) c.in_ok-named.ensures.cases in
    let none = rw c.in_err-first.was at c.read_first.ensures in
    rw c.from_residual-in_err-first.ensures
    (no-opening c.args.line.now c.in_ok-named.named.now c.in_ok-word.word.now c.in_ok-word.message.now front c.in_ok-word.ensures
    (λ user channel_binding bare nonce named says. none channel_binding bare nonce says))

pub returns : goal.returns
returns c =
    let front = strip_prefix_is Decides-eqb c.args.line.now (codes "LOGIN ") (Some c.in_ok-named.named) c.in_ok-named.ensures.cases in
    let at = c.in_ok-word.ensures in
    record {
      word = c.in_ok-word.word.now;
      first = c.in_ok-word.message.now;
      said = front ∙ ap (λ m. codes "LOGIN " ++ m) at.said;
      named = sym c.read.ensures ∙ c.in_ok-user.was;
      says = rw c.in_ok-first.was at c.read_first.ensures;
    }
