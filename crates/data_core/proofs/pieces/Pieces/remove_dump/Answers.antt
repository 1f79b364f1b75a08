use Rattle.std.proofs.Common.{◌<◌, rules}
use Rattle.data_core.proofs.Placed.{known_dump_gone}
use Rattle.data_core.proofs.pieces.Pieces.remove_dump.Goals as goal

pub invariant_of-self-2 : goal.invariant_of-self-2
invariant_of-self-2 g c =
    let p = c.self.inside in
    let older : c.args.point < p.place.base = search rules in
    known_dump_gone g.D.Dumping.is_dump g.D.Dumping.none (g.F.Folder.state p.folder) (g.F.Folder.state c.remove_dump.new.self) (g.met.F.Folder.reached p.folder) p.place c.args.point older c.self.invariant c.in-Ok.ensures.moves
