use Rattle.std.proofs.Common.{◌||◌, arith, ◌∙◌, refl}
use Rattle.links_core.specs.Links.{comes_from}
use Rattle.graph_core.specs.Pruning.{Falls}
use Rattle.graph_core.proofs.PruningLemmas.{taken_out, falls_then, SupportedBut-settled}
use Rattle.graph_core.proofs.prune.+prune.Goals as goal

pub prune-requires : goal.prune-requires
prune-requires t c =
    let out = taken_out c.args.owner c.loop-lost.links.links c.take_out.new.self.links c.args.user c.args.atom c.in-Some.lost c.take_out.ensures.taken c.in-Some.ensures.made c.in-Some.ensures.lost c.loop-lost.invariant.in_order in
    let less = out.fewer in
    let fewer = c.loop-lost.invariant.fewer in
    (omega (arith, less, fewer), out.in_order)

pub loop-lost-init : goal.loop-lost-init
loop-lost-init t c = record { in_order = c.requires; next = refl; rest = refl; fewer = omega arith; falls = Falls.none; settles = λ excused h. h }

pub loop-lost-preserved : goal.loop-lost-preserved
loop-lost-preserved t c =
    let owner = c.args.owner in
    let atom = c.args.atom in
    let excusing = comes_from c.args.user atom in
    let out = taken_out owner c.loop-lost.links.links c.take_out.new.self.links c.args.user atom c.in-Some.lost c.take_out.ensures.taken c.in-Some.ensures.made c.in-Some.ensures.lost c.loop-lost.invariant.in_order in
    let less = out.fewer in
    let fewer = c.loop-lost.invariant.fewer in
    let then = c.prune.ensures.fewer in
    record {
      in_order = c.prune.ensures.in_order;
      next = c.prune.ensures.next ∙ c.take_out.ensures.next ∙ c.loop-lost.invariant.next;
      rest = c.prune.ensures.rest ∙ c.take_out.ensures.rest ∙ c.loop-lost.invariant.rest;
      fewer = omega (arith, less, fewer, then);
      falls = falls_then owner atom c.args.links.now.links c.loop-lost.links.links c.prune.new.links.links c.loop-lost.invariant.falls
          (falls_then owner atom c.loop-lost.links.links c.take_out.new.self.links c.prune.new.links.links out.falls c.prune.ensures.falls);
      settles = λ excused h. c.prune.ensures.settles (λ l. excused l || excusing l) (out.settles (λ l. excused l || excusing l) (c.loop-lost.invariant.settles excused h));
    }

pub returns-clause-settles : goal.returns-clause-settles
returns-clause-settles t c =
    λ excused h.
    SupportedBut-settled c.args.owner c.loop-lost.links.links c.args.user c.args.atom excused c.in_default.ensures.none (c.loop-lost.invariant.settles excused h)

pub loop-lost-smaller : goal.loop-lost-smaller
loop-lost-smaller t c =
    let out = taken_out c.args.owner c.loop-lost.links.links c.take_out.new.self.links c.args.user c.args.atom c.in-Some.lost c.take_out.ensures.taken c.in-Some.ensures.made c.in-Some.ensures.lost c.loop-lost.invariant.in_order in
    let less = out.fewer in
    let then = c.prune.ensures.fewer in
    omega (arith, less, then)
