use Rattle.std.proofs.Common.{ap}
use Rattle.recovery_core.proofs.PieceLoaded.{longer, sound_so, goes_on_so, reads_so}
use Rattle.recovery_core.proofs.pieces.piece_read.Goals as goal

pub gone_on-requires-clause-before : goal.gone_on-requires-clause-before
gone_on-requires-clause-before g c =
    longer c.args.read c.in-Ok-loaded.loaded (g.F.Reader.Source.left c.in-Ok.reader) (g.F.Reader.Source.left c.load_behind-loaded.new.reader) c.requires c.in-Ok-loaded.ensures.ends c.moment-before.result.0 (ap (λ m. m.0) c.moment-before.ensures)

pub returns-in-Ok-loaded-clause-sound : goal.returns-in-Ok-loaded-clause-sound
returns-in-Ok-loaded-clause-sound g c =
    sound_so c.args.read c.in-Ok-loaded.loaded (g.F.Reader.Source.left c.in-Ok.reader) (g.F.Reader.Source.left c.load_behind-loaded.new.reader) c.requires c.in-Ok-loaded.ensures.ends c.moment-before.result.0 (ap (λ m. m.0) c.moment-before.ensures)
    c.gone_on.result c.gone_on.ensures c.in-Ok-loaded.ensures.few

pub returns-in-Ok-loaded-clause-goes_on : goal.returns-in-Ok-loaded-clause-goes_on
returns-in-Ok-loaded-clause-goes_on g c =
    goes_on_so c.args.read c.in-Ok-loaded.loaded (g.F.Reader.Source.left c.in-Ok.reader) (g.F.Reader.Source.left c.load_behind-loaded.new.reader) c.requires c.in-Ok-loaded.ensures.ends c.moment-before.result.0 (ap (λ m. m.0) c.moment-before.ensures)
    c.gone_on.result c.gone_on.ensures

pub returns-in-Ok-loaded-clause-reads : goal.returns-in-Ok-loaded-clause-reads
returns-in-Ok-loaded-clause-reads g c =
    reads_so c.args.read c.in-Ok-loaded.loaded (g.F.Reader.Source.left c.in-Ok.reader) (g.F.Reader.Source.left c.load_behind-loaded.new.reader) c.requires c.in-Ok-loaded.ensures.ends c.moment-before.result.0 (ap (λ m. m.0) c.moment-before.ensures)
    c.gone_on.result c.gone_on.ensures (g.F.Folder.state c.args.folder.now) (g.met.F.Folder.texts c.args.folder.now) c.in-Ok.ensures.opens
