use Rattle.std.proofs.Common.{◌≡◌, true, is_some, sym, subst}
use Rattle.std.specs.List.{All, list_any}
use Rattle.std.proofs.lemmas.Bool.{or_from}
use Rattle.grants_core.specs.Owners.{owns}
use Rattle.grants_core.specs.Content.{gives}
use Rattle.grants_core.specs.History.{owners_after, in_force_after}
use Rattle.explain_core.specs.Life.{left}
use Rattle.explain_core.specs.declared.life.Life.{Life}
use Rattle.explain_core.proofs.LifeLemmas.{given-fallen}
use Rattle.explain_core.proofs.SupportLemmas.{explained}
use Rattle.explain_core.proofs.history.History.why.Goals as goal

pub returns-in_ok-chain-in-Some-standing : goal.returns-in_ok-chain-in-Some-standing
unfolding gives
returns-in_ok-chain-in-Some-standing c =
    let (life, at, stands, gives_it) = c.in-Some-standing.ensures in
    (c.in_default.ensures, left life, gives_it, c.in_ok-chain-in-Some-standing.ensures life at stands)

pub returns-in_ok-given-in-None : goal.returns-in_ok-given-in-None
returns-in_ok-given-in-None c =
    let changes = c.args.self.now in
    let h = explained _ _ c.self.view_is c.self.invariant in
    let lacks = or_from (owns (owners_after changes) c.args.user.now c.args.atom.now) (list_any (gives c.args.user.now c.args.atom.now) (in_force_after changes)) c.in_default.ensures c.in-None.ensures in (
      lacks,
      c.in_ok-given-in-None.ensures,
      subst (All (λ (life : Life). is_some life.fell ≡ true)) (sym c.in_ok-given-in-None.ensures) (given-fallen changes c.args.user.now c.args.atom.now h.lawful lacks),
    )
