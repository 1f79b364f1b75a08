use Rattle.std.proofs.Common.{◌≡◌, ℕ, Err, List, [], ◌∷◌, ◌++◌, map, drop, ap, sym, ◌∙◌, append_assoc, rules}
use Rattle.grants_core.specs.declared.grant.Grant.{Grant}
use Rattle.system_core.specs.World.{entry}
use Rattle.system_core.specs.declared.machine.event.Entry.{Entry}
use Rattle.dump_core.specs.Dump.{granting, grants_together}
use Rattle.dump_core.proofs.WritingLemmas.{granting-plain, nowhere-stop, then}
use Rattle.dump_core.proofs.writing.write_grants.Goals as goal

abbrev statements : List Grant → List Entry
statements grants = map granting (grants_together grants)

pub write_made-requires-clause-plain : goal.write_made-requires-clause-plain
write_made-requires-clause-plain g c =
    let made = c.in_ok-made.made in
    granting-plain (grants_together c.loop-rest.rest.now) (entry 0 made.grantor made.statement) (statements (drop made.count c.loop-rest.rest.now)) c.in_ok-made.ensures.first

pub loop-rest-preserved : goal.loop-rest-preserved
loop-rest-preserved g c =
    let done : List Entry = c.loop-rest.invariant.0 in
    let made = c.in_ok-made.made in
    let e : Entry = entry 0 made.grantor made.statement in
    let rest : List Grant = c.loop-rest.rest.now in
    let left : List Grant = c.split_at.result.1.now in
    let more : statements left ≡ statements (drop made.count rest) = ap statements (c.split_at.ensures.back ∙ ap (λ (n : ℕ). drop n rest) c.in_ok-count.ensures.count) in (
      done ++ e ∷ [],
      c.in_ok-count.ensures.failed,
      then done (e ∷ []) (g.W.Sink.taken c.args.writer.now) (g.W.Sink.taken c.loop-rest.writer) (g.W.Sink.taken c.write_made.new.writer) c.loop-rest.invariant.2 c.in_ok-count.ensures.ends,
      append_assoc done (e ∷ []) (statements left) ∙ ap (λ t. done ++ e ∷ t) more ∙ ap (λ t. done ++ t) (sym c.in_ok-made.ensures.first) ∙ c.loop-rest.invariant.3,
    )

pub returns-in_err-count-clause-ends : goal.returns-in_err-count-clause-ends
returns-in_err-count-clause-ends g c =
    let done : List Entry = c.loop-rest.invariant.0 in
    let made = c.in_ok-made.made in
    let e : Entry = entry 0 made.grantor made.statement in
    let more : List Entry = statements (drop made.count c.loop-rest.rest.now) in
    let all : List Entry = statements c.args.grants.now in
    let whole : all ≡ done ++ e ∷ more = sym c.loop-rest.invariant.3 ∙ ap (λ t. done ++ t) c.in_ok-made.ensures.first in
    let same : c.from_residual-in_err-count.result ≡ Err c.in_err-count.field-0.0 = search rules in
    nowhere-stop ℕ done (e ∷ []) more all
    (g.W.Sink.taken c.args.writer.now) (g.W.Sink.taken c.loop-rest.writer) (g.W.Sink.taken c.write_made.new.writer) c.from_residual-in_err-count.result c.in_err-count.field-0.0
    whole same c.loop-rest.invariant.2 c.in_err-count.ensures.ends
