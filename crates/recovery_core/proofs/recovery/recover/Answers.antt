use Rattle.std.proofs.Common.{IfSome, List, ℕ, subst, sym}
use Rattle.folder_core.specs.FileNames.{piece}
use Rattle.folder_core.specs.Calls.{AreNamed}
use Rattle.recovery_core.proofs.FoundThere.{is_restored, is_found, recovers}
use Rattle.recovery_core.proofs.recovery.recover.Goals as goal

pub make_ready-requires-clause-named : goal.make_ready-requires-clause-named
make_ready-requires-clause-named g c =
    subst (λ (points : List ℕ). IfSome (g.F.Folder.state c.args.folder.now) (λ s. AreNamed piece s points)) (sym c.as_slice-2.ensures.value) c.in_ok-points.ensures.named

pub make_ready-requires-clause-under : goal.make_ready-requires-clause-under
make_ready-requires-clause-under g c = c.in_ok-recovered.ensures.under

pub make_ready-requires-clause-found : goal.make_ready-requires-clause-found
make_ready-requires-clause-found g c =
    let named = subst (λ (points : List ℕ). IfSome (g.F.Folder.state c.args.folder.now) (λ s. AreNamed piece s points)) (sym c.as_slice.ensures.value) c.in_ok-points.ensures.named in
    is_found c.args.chunk c.args.limits c.in_ok-recovered.recovered c.as_slice.result.now (g.F.Folder.state c.args.folder.now) c.requires.over
    (is_restored c.args.chunk c.args.limits c.in_ok-recovered.recovered c.as_slice.result.now (g.F.Folder.state c.args.folder.now) named c.in_ok-recovered.ensures.restores)

pub returns-in-Ok-clause-moves : goal.returns-in-Ok-clause-moves
returns-in-Ok-clause-moves g c =
    let named = subst (λ (points : List ℕ). IfSome (g.F.Folder.state c.args.folder.now) (λ s. AreNamed piece s points)) (sym c.as_slice.ensures.value) c.in_ok-points.ensures.named in
    recovers c.args.chunk c.args.limits c.in_ok-recovered.recovered c.as_slice.result.now (g.F.Folder.state c.args.folder.now) (g.F.Folder.state c.make_ready.new.folder)
    (is_restored c.args.chunk c.args.limits c.in_ok-recovered.recovered c.as_slice.result.now (g.F.Folder.state c.args.folder.now) named c.in_ok-recovered.ensures.restores) c.in-Ok.ensures
