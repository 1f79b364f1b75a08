use Rattle.std.proofs.Common.{rules, ap, sym, ◌∙◌, ◌∷◌, [], Some}
use Rattle.atomic_table.specs.Table.{rest}
use Rattle.turnstile.specs.Steps.{view_after}
use Rattle.turnstile.proofs.Keeps.{ends_goes}
use Rattle.turnstile.proofs.turnstile.Turnstile.end.Goals as goal

pub fetch_add-requires : goal.fetch_add-requires
fetch_add-requires g c = let h = c.requires.has in let now = c.exchange.ensures.3 in (
  c.exchange.ensures.0 ∙ (c.requires.own ∙ ap (λ l. l.identity) (sym c.self.view_is)),
  search rules,
  ends_goes _ _ _ _ _ _ _ _ h.0 h.1 c.args.object (ap (λ m. m.0.passes) now ∙ h.2) (ap (λ m. m.0.taken) now ∙ h.3) (ap (λ m. m.1) now ∙ ap (λ z. (0, Some c.args.object) ∷ rest z) h.4) h.5,
)

pub returns-clause-rest : goal.returns-clause-rest
returns-clause-rest g c = let h = c.requires.has in let now = c.exchange.ensures.3 in
    c.fetch_add.ensures.2 c.args.object (ap (λ m. m.1) now ∙ ap (λ z. (0, Some c.args.object) ∷ rest z) h.4) ∙ ap (λ m. (view_after g.O.Object.log g.O.Object.mark c.args.object m.0, [])) now
