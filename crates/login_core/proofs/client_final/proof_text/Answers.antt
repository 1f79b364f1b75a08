use Rattle.std.proofs.Common.{Some, None, codes}
use Rattle.std.proofs.lemmas.Slice.Eq.{strip_prefix_is}
use Rattle.std.proofs.lemmas.Bool.Decides.{Decides-eqb}
use Rattle.login_core.proofs.LastMessages.{no_front, behind_front}
use Rattle.login_core.proofs.client_final.proof_text.Goals as goal

pub returns-in_err-behind : goal.returns-in_err-behind
returns-in_err-behind c =
    rw c.from_residual.ensures
    (no_front c.args.front.now c.args.message.now (strip_prefix_is Decides-eqb c.args.message.now c.args.front.now None c.in_err-behind.ensures.cases))

pub returns : goal.returns
returns c =
    let begins = strip_prefix_is Decides-eqb c.args.message.now c.args.front.now (Some c.in_ok-behind.behind) c.in_ok-behind.ensures.cases in
    behind_front c.args.front.now c.args.message.now c.in_ok-behind.behind.now c.strip_prefix-2.result begins
    (strip_prefix_is Decides-eqb c.in_ok-behind.behind.now (codes ",p=") c.strip_prefix-2.result c.strip_prefix-2.ensures.cases)
