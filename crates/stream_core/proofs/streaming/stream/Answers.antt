use Rattle.std.proofs.Common.{ap}
use Rattle.stream_core.specs.Streamer.{StreamerState}
use Rattle.stream_core.proofs.Ending.{ends_so, from_start, going, number_is_small}
use Rattle.stream_core.proofs.streaming.stream.Goals as goal

pub finish-requires : goal.finish-requires
finish-requires g c =
    let left = g.S.Source.left c.args.reader.now in
    let left' = g.S.Source.left c.serve_whole-ending.new.reader in
    let taken = g.W.Sink.taken c.args.writer.now in
    let taken' = g.W.Sink.taken c.serve_whole-ending.new.writer in
    let new = c.serve_whole-ending.new.server in
    let ending = c.serve_whole-ending.result in
    number_is_small c.args.chunk c.args.limits c.args.from left left' taken taken' new ending
    (from_start c.args.chunk c.args.limits c.args.from left left' taken taken' c.new-streamer.result new c.in-Ok.system ending c.in-Ok.ensures c.new-streamer.ensures c.serve_whole-ending.ensures.ends)

pub returns-clause-ends : goal.returns-clause-ends
returns-clause-ends g c =
    let left = g.S.Source.left c.args.reader.now in
    let left' = g.S.Source.left c.serve_whole-ending.new.reader in
    let taken = g.W.Sink.taken c.args.writer.now in
    let taken' = g.W.Sink.taken c.serve_whole-ending.new.writer in
    let new = c.serve_whole-ending.new.server in
    let ending = c.serve_whole-ending.result in
    let none = ap (λ (s : StreamerState). s.stop) c.new-streamer.ensures in
    let is_open = going c.new-streamer.result new ending (g.W.Sink.failed c.serve_whole-ending.new.writer) none c.serve_whole-ending.ensures.write.1 c.serve_whole-ending.ensures.not_over in
    let ends = from_start c.args.chunk c.args.limits c.args.from left left' taken taken' c.new-streamer.result new c.in-Ok.system ending c.in-Ok.ensures c.new-streamer.ensures c.serve_whole-ending.ensures.ends in
    ends_so c.args.chunk c.args.limits c.args.from left left' taken taken' new ending c.finish.result c.result_of.result ends is_open c.finish.ensures c.result_of.ensures
