use Rattle.checkpoint_core.proofs.Found.{lines_written}
use Rattle.checkpoint_core.proofs.putting.written.Goals as goal

pub returns : goal.returns
returns g c = λ known.
    let lines = g.F.Folder.lines_of c.in_ok-finish.field-0 in
    lines_written c.args.image.now lines (g.O.Writer.Sink.taken c.in_ok-writer.writer) (g.O.Writer.Sink.taken c.write_image.new.writer) (c.in_ok-writer.ensures.empty known) c.in_ok-write_image.ensures.ends (c.in_ok-finish.ensures known)
