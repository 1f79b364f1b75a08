use Rattle.std.proofs.Common.{◌≡◌, ◌∙◌, ℕ, ◌&&◌, ◌==◌, Bool, false, ap, sym, arith, rules}
use Rattle.std.proofs.lemmas.Grind.{common_steps}
use Rattle.std.proofs.lemmas.Bool.{eq-eqb, ne_eqb}
use Rattle.links_core.specs.declared.link.Link.{Link}
use Rattle.links_core.specs.Links.{passes}
use Rattle.links_core.proofs.ChangeLemmas.{one_is, none_is}
use Rattle.links_core.proofs.options.take_option.Goals.{else-link-via-then-link+else-link-by, else-link-via-else-link}
use Rattle.links_core.proofs.options.take_option.Goals as goal

-- whether the link has the option, and the user made it
abbrev asked : ℕ → Link → Bool
asked by l = l.option && (l.grantor == by)

pub returns-in_default-clause-contents : goal.returns-in_default-clause-contents
returns-in_default-clause-contents c =
    none_is c.args.by c.args.end.now c.args.store.now.contents c.requires.own c.requires.rising
    (ap (passes (asked c.args.by)) (sym c.get.ensures ∙ sym c.copied.ensures ∙ c.in_default.is))

pub returns-then-link-by-clause-contents : goal.returns-then-link-by-clause-contents
returns-then-link-by-clause-contents c =
    let one = one_is c.args.by c.args.end.now c.in-Some.link c.args.store.now.contents c.requires.own c.requires.rising
    (sym c.get.ensures ∙ sym c.copied.ensures ∙ c.in-Some.is) (eq-eqb c.in-Some.link.grantor c.args.by c.if-link-by.true) in
    grind (arith, common_steps, one)

pub returns-else-link-clause-contents : goal.returns-else-link-clause-contents
returns-else-link-clause-contents c =
    let found = sym c.get.ensures ∙ sym c.copied.ensures ∙ c.in-Some.is in
    let idle : asked c.args.by c.in-Some.link ≡ false = elim c.else-link.branch [
      | else-link-via-then-link+else-link-by w ↦ ap (λ b. b && (c.in-Some.link.grantor == c.args.by)) w.if-link.true ∙ ne_eqb c.in-Some.link.grantor c.args.by w.if-link-by.false
      | else-link-via-else-link w ↦ ap (λ b. b && (c.in-Some.link.grantor == c.args.by)) w.if-link.false
    ] in
    none_is c.args.by c.args.end.now c.args.store.now.contents c.requires.own c.requires.rising (ap (passes (asked c.args.by)) found ∙ idle)

pub returns-then-link-by-clause-rest : goal.returns-then-link-by-clause-rest
returns-then-link-by-clause-rest c = search rules
