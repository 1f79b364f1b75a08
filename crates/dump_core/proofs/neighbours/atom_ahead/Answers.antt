use Rattle.std.proofs.Common.{List, refl, sym, ◌∙◌}
use Rattle.grants_core.specs.declared.grant.Grant.{Grant}
use Rattle.dump_core.specs.Dump.{are_of_one_atom}
use Rattle.dump_core.proofs.Grouping.{grows-first, grows-more, grows-over, grows-all}
use Rattle.dump_core.proofs.Joining.{tested}
use Rattle.dump_core.proofs.neighbours.atom_ahead.Goals as goal

pub loop-count-init : goal.loop-count-init
loop-count-init c = grows-first are_of_one_atom c.args.grants.now c.requires (λ g. refl)

pub returns-then-not-goes_on : goal.returns-then-not-goes_on
returns-then-not-goes_on c =
    let gs : List Grant = c.args.grants.now in
    let test = tested gs c.loop-count.count c.loop-count.invariant c.index-grants-0.result c.index-grants-count.result c.index-grants-0.is in
    grows-over are_of_one_atom gs c.loop-count.count c.index-grants-count.result c.loop-count.invariant c.loop-count-test.true c.index-grants-count.is (test ∙ sym c.goes_on.ensures ∙ c.if-not-goes_on.true)

pub loop-count-preserved : goal.loop-count-preserved
loop-count-preserved c =
    let gs : List Grant = c.args.grants.now in
    let test = tested gs c.loop-count.count c.loop-count.invariant c.index-grants-0.result c.index-grants-count.result c.index-grants-0.is in
    grows-more are_of_one_atom gs c.loop-count.count c.index-grants-count.result c.loop-count.invariant c.loop-count-test.true c.index-grants-count.is (test ∙ sym c.goes_on.ensures ∙ c.if-not-goes_on.false)

pub returns : goal.returns
returns c = grows-all are_of_one_atom c.args.grants.now c.loop-count.count c.loop-count.invariant c.loop-count-test.false
