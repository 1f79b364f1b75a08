use Rattle.std.proofs.Common.{◌≡◌, ◌∙◌, sym, Err}
use Rattle.lines_core.specs.declared.serving.SessionFault.TheVariants as SessionFault
use Rattle.load_core.specs.Loader.{loaded_of}
use Rattle.load_core.proofs.ReplayInput.{no_fault}
use Rattle.load_core.proofs.SkippedLines.{number_is_small, loaded_so, faulty_so, broken_so, never_read}
use Rattle.load_core.proofs.behind.load_behind.Goals as goal

pub finish-requires : goal.finish-requires
finish-requires g c =
    number_is_small c.args.begins c.args.skips _ _ c.new-loader.result c.new-loader.ensures.world c.new-loader.ensures.stop c.in-Ok.cut c.read_whole.new.server c.requires.few c.in-Ok.ensures.ends

pub returns-in-Ok-finish-clause-ends : goal.returns-in-Ok-finish-clause-ends
returns-in-Ok-finish-clause-ends g c =
    loaded_so c.args.begins c.args.skips (g.S.Source.left c.args.reader.now) (g.S.Source.left c.read_whole.new.reader) c.new-loader.result c.new-loader.ensures.world c.new-loader.ensures.stop c.in-Ok.cut c.read_whole.new.server c.in-Ok-finish.loaded c.in-Ok.ensures.ends (sym c.in-Ok-finish.is ∙ c.finish.ensures)

pub returns-in-Err-finish-clause-read : goal.returns-in-Err-finish-clause-read
returns-in-Err-finish-clause-read g c =
    let given : Err c.in-Err-finish.fault ≡ loaded_of c.read_whole.new.server.loader.world c.read_whole.new.server.loader.stop c.in-Ok.cut = sym c.in-Err-finish.is ∙ c.finish.ensures in (
      (λ e. never_read c.args.begins c.args.skips (g.S.Source.left c.args.reader.now) (g.S.Source.left c.read_whole.new.reader) c.read_whole.new.server.loader.world c.read_whole.new.server.loader.stop c.in-Ok.cut c.in-Err-finish.fault given e),
      λ e. no_fault c.in-Ok.cut SessionFault.Read (c.in-Ok.ensures.read.1 e),
    )

pub returns-in-Err-finish-clause-ends : goal.returns-in-Err-finish-clause-ends
returns-in-Err-finish-clause-ends g c =
    faulty_so c.args.begins c.args.skips (g.S.Source.left c.args.reader.now) (g.S.Source.left c.read_whole.new.reader) c.new-loader.result c.new-loader.ensures.world c.new-loader.ensures.stop c.in-Ok.cut c.read_whole.new.server c.in-Err-finish.fault c.in-Ok.ensures.ends (sym c.in-Err-finish.is ∙ c.finish.ensures)

pub returns-in-Err-clause-ends : goal.returns-in-Err-clause-ends
returns-in-Err-clause-ends g c =
    broken_so c.args.begins c.args.skips (g.S.Source.left c.args.reader.now) (g.S.Source.left c.read_whole.new.reader) c.new-loader.result c.new-loader.ensures.world c.new-loader.ensures.stop c.in-Err.fault c.load_fault.result c.read_whole.new.server c.in-Err.ensures.ends c.load_fault.ensures
