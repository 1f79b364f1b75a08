use Rattle.std.proofs.Common.{sym, ◌∙◌}
use Rattle.journal_core.proofs.Owed.{within-owed, is_some-left, rest_kept, rest_owed}
use Rattle.journal_core.proofs.line_keeper.write_rest.Goals as goal

pub advance-requires : goal.advance-requires
advance-requires g c = within-owed c.args.unwritten.now c.as_slice.result.now c.in-Err.count c.as_slice.ensures c.in-Err.ensures.within

pub returns-in-Ok-clause-ok : goal.returns-in-Ok-clause-ok
returns-in-Ok-clause-ok g c = λ start entry o.
    rest_kept start entry (g.W.Sink.taken c.args.sink.now) (g.W.Sink.handed_on c.args.sink.now) (g.W.Sink.taken c.resume.new.self) (g.W.Sink.taken c.write_through.new.sink) (g.W.Sink.handed_on c.write_through.new.sink) c.args.unwritten.now c.clear.new.self c.as_slice.result.now o c.as_slice.ensures c.resume.ensures.bytes
    c.in-Ok.ensures.ok c.in-Ok.ensures.handed_on c.clear.ensures

pub returns-in-Err-clause-err : goal.returns-in-Err-clause-err
returns-in-Err-clause-err g c = λ start entry o.
    rest_owed start entry (g.W.Sink.taken c.args.sink.now) (g.W.Sink.handed_on c.args.sink.now) (g.W.Sink.taken c.resume.new.self) (g.W.Sink.taken c.write_through.new.sink) (g.W.Sink.handed_on c.write_through.new.sink) c.args.unwritten.now c.advance.new.self c.as_slice.result.now o c.as_slice.ensures c.resume.ensures.bytes
    c.in-Err.count c.in-Err.ensures.err c.advance.ensures

pub returns-in-Err-clause-owing : goal.returns-in-Err-clause-owing
returns-in-Err-clause-owing g c = is_some-left c.args.unwritten.now c.advance.new.self c.in-Err.count c.advance.ensures c.requires

pub returns-in-Err-clause-failed : goal.returns-in-Err-clause-failed
returns-in-Err-clause-failed g c = c.in-Err.ensures.failed ∙ sym (is_some-left c.args.unwritten.now c.advance.new.self c.in-Err.count c.advance.ensures c.requires)
