use Rattle.recovery_core.proofs.DumpLoaded.{dump_loaded}
use Rattle.recovery_core.proofs.Made.{still_made}
use Rattle.recovery_core.proofs.recovering.dump_read.Goals as goal

pub returns-in-Ok-loaded-clause-reads : goal.returns-in-Ok-loaded-clause-reads
returns-in-Ok-loaded-clause-reads g c =
    dump_loaded c.args.system c.args.point c.in-Ok.opened.1 (g.F.Reader.Source.left c.in-Ok.opened.0) (g.F.Reader.Source.left c.load_behind-loaded.new.reader) c.in-Ok-loaded.field-0 c.requires.empty c.in-Ok-loaded.ensures.ends
    (g.F.Folder.state c.args.folder.now) (g.met.F.Folder.texts c.args.folder.now) c.in-Ok.ensures.opens c.whole_dump.result c.whole_dump.ensures.read

pub whole_dump-requires-clause-made : goal.whole_dump-requires-clause-made
whole_dump-requires-clause-made g c =
    still_made c.args.system 0 c.in-Ok-loaded.field-0 (g.F.Reader.Source.left c.in-Ok.opened.0) (g.F.Reader.Source.left c.load_behind-loaded.new.reader) c.requires.made c.in-Ok-loaded.ensures.ends
