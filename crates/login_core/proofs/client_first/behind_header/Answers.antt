use Rattle.std.proofs.Common.{Some, codes, inl, inr, refl}
use Rattle.std.proofs.lemmas.Slice.Eq.{strip_prefix_is}
use Rattle.std.proofs.lemmas.Bool.Decides.{Decides-eqb}
use Rattle.login_core.proofs.client_first.behind_header.Goals as goal

pub returns-in-Some : goal.returns-in-Some
returns-in-Some c = (
  codes "n,,",
  inl (refl, c.as_slice.ensures),
  strip_prefix_is Decides-eqb c.args.message.now (codes "n,,") (Some c.in-Some.bare) c.in-Some.ensures.cases,
)

pub returns : goal.returns
returns c = (
  codes "y,,",
  inr (refl, c.as_slice-2.ensures),
  strip_prefix_is Decides-eqb c.args.message.now (codes "y,,") (Some c.in_ok-bare.bare) c.in_ok-bare.ensures.cases,
)
