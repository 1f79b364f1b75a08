use Rattle.std.proofs.Common.{◌≡◌, ◌≤◌, true, sym, subst, arith, rules}
use Rattle.std.specs.Arc.{arc_value}
use Rattle.capture_core.specs.declared.image.Image.{Image}
use Rattle.dump_core.specs.Dump.{dump_of_image}
use Rattle.dump_core.specs.Laws.{AreWellFormed}
use Rattle.data_core.specs.Errands.{MayRun}
use Rattle.recovery_core.specs.History.{IsDumpOfHistory}
use Rattle.desk_core.specs.Guarded.{origin_of}
use Rattle.checkpoint_core.specs.Beginning.{IsSeen, AreLinesOfImage}
use Rattle.checkpoint_core.proofs.Found.{point_small, formed, may_be_put}
use Rattle.checkpoint_core.proofs.putting.FolderArchiveArchiveFolderKeeper.put.Goals as goal

pub overflow_add-point : goal.overflow_add-point
overflow_add-point g c =
    let image : Image = arc_value c.in_ok-image.image in
    let same : c.deref-2.result.now ≡ image = search rules in
    let small = point_small c.found.new.pass.seen image c.in_ok-image.ensures.image in
    let here = subst (λ (i : Image). i.point.0 ≤ 1000000000) (sym same) small in
    let few = c.requires.begins.0 in
    omega arith

pub written-requires : goal.written-requires
written-requires g c =
    let image : Image = arc_value c.in_ok-image.image in
    let same : image ≡ c.deref-3.result.now = search rules in
    let b = c.requires.begins in
    let kept = c.in_ok-image.ensures.kept in
    let may_run = MayRun IsDumpOfHistory g.F.Folder.lines_of in
    subst (λ (i : Image). AreWellFormed (dump_of_image i)) same
    (formed may_run g.F.Folder.knows c.args.self.now.begun.count b.1 c.args.pass.now.seen c.found.new.pass.seen (origin_of c.args.desk.now) image b.4 b.3 c.found.ensures.seen c.in_ok-image.ensures.image kept.0 kept.1)

pub tend-requires-clause-may : goal.tend-requires-clause-may
tend-requires-clause-may g c =
    let image : Image = c.deref-2.result.now in
    let same : arc_value c.in_ok-image.image ≡ image = search rules in
    let again : c.deref-3.result.now ≡ image = search rules in
    let b = c.requires.begins in
    let lines = g.F.Folder.lines_of c.in_ok-dump.dump in
    let found = subst (IsSeen c.found.new.pass.seen) same c.in_ok-image.ensures.image in
    let are = subst (λ (i : Image). g.F.Folder.knows ≡ true → AreLinesOfImage i lines) again c.in_ok-dump.ensures in
    let within : c.args.self.now.begun.start ≤ image.point.0 = search rules in
    may_be_put g.F.Folder.lines_of g.F.Folder.knows c.args.self.now.begun.count c.args.self.now.begun.start b.1 c.args.pass.now.seen c.found.new.pass.seen (origin_of c.args.desk.now) image
    b.2 b.4 b.3 c.found.ensures.seen found c.in_ok-synced.synced c.in_ok-dump.dump within are
