use Rattle.std.proofs.Common.{◌∙◌}
use Rattle.load_core.proofs.Again.{ends_passes, ends_read}
use Rattle.load_core.proofs.Ending.{ends_so, number_is_small, few_entries, few_loaded}
use Rattle.load_core.proofs.loading.load_whole.Goals as goal

pub finish-requires : goal.finish-requires
finish-requires g c =
    number_is_small c.args.chunk c.args.limits _ _ c.in-Ok-read_whole.cut c.new-loader.result c.read_whole.new.server (c.new-loader.ensures.world ∙ c.in-Ok.ensures) c.new-loader.ensures.stop c.in-Ok-read_whole.ensures.ends

pub returns-in-Ok-read_whole-clause-ends : goal.returns-in-Ok-read_whole-clause-ends
returns-in-Ok-read_whole-clause-ends g c =
    let ends = ends_so c.args.chunk c.args.limits (g.S.Source.left c.args.reader.now) (g.S.Source.left c.read_whole.new.reader) c.in-Ok-read_whole.cut c.new-loader.result c.read_whole.new.server (c.new-loader.ensures.world ∙ c.in-Ok.ensures) c.new-loader.ensures.stop c.in-Ok-read_whole.ensures.ends in
    rw c.finish.ensures ends

pub returns-in-Ok-read_whole-clause-few : goal.returns-in-Ok-read_whole-clause-few
returns-in-Ok-read_whole-clause-few g c =
    let few = few_entries c.args.chunk c.args.limits (g.S.Source.left c.args.reader.now) (g.S.Source.left c.read_whole.new.reader) c.in-Ok-read_whole.cut c.new-loader.result c.read_whole.new.server (c.new-loader.ensures.world ∙ c.in-Ok.ensures) c.new-loader.ensures.stop c.in-Ok-read_whole.ensures.ends in
    rw c.finish.ensures (few_loaded c.read_whole.new.server.world c.read_whole.new.server.stop c.in-Ok-read_whole.cut few)

pub returns-in-Ok-read_whole-clause-passes : goal.returns-in-Ok-read_whole-clause-passes
returns-in-Ok-read_whole-clause-passes g c =
    ends_passes c.args.chunk c.args.limits c.finish.result (g.S.Source.left c.args.reader.now) (g.S.Source.left c.read_whole.new.reader) (returns-in-Ok-read_whole-clause-ends g c)

pub returns-in-Ok-read_whole-clause-entries : goal.returns-in-Ok-read_whole-clause-entries
returns-in-Ok-read_whole-clause-entries g c =
    ends_read c.args.chunk c.args.limits c.finish.result (g.S.Source.left c.args.reader.now) (g.S.Source.left c.read_whole.new.reader) (returns-in-Ok-read_whole-clause-ends g c)
