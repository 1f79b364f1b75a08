use Rattle.std.proofs.Common.{◌≤◌, All, Contains, ℕ, List, refl, subst, sym, ◌∙◌}
use Rattle.std.proofs.lemmas.List.Elements.{All-contains}
use Rattle.recovery_core.specs.declared.recovering.Read.{Read}
use Rattle.recovery_core.specs.Reading.{IsMadeWith}
use Rattle.recovery_core.proofs.Made.{empty_made, made_further}
use Rattle.recovery_core.proofs.Newest.{no_dumps, the_newest}
use Rattle.recovery_core.proofs.recovering.base_read.Goals as goal

pub dump_read-requires-clause-point : goal.dump_read-requires-clause-point
dump_read-requires-clause-point g c =
    All-contains (λ (point : ℕ). point ≤ 9999999999) c.in_ok-points.points.items c.in-Some.point c.in_ok-points.ensures.small (subst (λ (points : List ℕ). Contains points c.in-Some.point) c.as_slice.ensures.value c.in-Some.ensures.some)

pub returns-in-None-clause-reads : goal.returns-in-None-clause-reads
returns-in-None-clause-reads g c =
    no_dumps c.args.chunk c.args.limits (g.F.Folder.state c.args.folder.now) c.in_ok-points.points.items c.in-Ok.system c.nothing_read.result c.in_ok-points.ensures.named (sym c.as_slice.ensures.value ∙ c.in-None.ensures.none refl) c.in-Ok.ensures c.nothing_read.ensures

pub returns-in-Some-clause-reads : goal.returns-in-Some-clause-reads
returns-in-Some-clause-reads g c =
    let bound = subst (λ (points : List ℕ). All (λ p. p ≤ c.in-Some.point) points) c.as_slice.ensures.value c.in-Some.ensures.greatest in
    the_newest c.args.chunk c.args.limits (g.F.Folder.state c.args.folder.now) c.in_ok-points.points.items c.in-Some.point c.in-Ok.system c.in_ok-points.ensures.named bound c.in-Ok.ensures c.dump_read.result c.dump_read.ensures.reads

pub dump_read-requires-clause-made : goal.dump_read-requires-clause-made
dump_read-requires-clause-made g c = (empty_made c.args.chunk c.args.limits c.in-Ok.system c.in-Ok.ensures).0

pub returns-in-None-clause-made : goal.returns-in-None-clause-made
returns-in-None-clause-made g c = subst (λ (read : Read). IsMadeWith c.args.chunk c.args.limits read.recovered.system) (sym c.nothing_read.ensures) (empty_made c.args.chunk c.args.limits c.in-Ok.system c.in-Ok.ensures)
