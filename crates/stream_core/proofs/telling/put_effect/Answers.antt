use Rattle.std.proofs.lemmas.Result.{on_ok_weaker}
use Rattle.export_core.specs.Record.{text_in}
use Rattle.stream_core.proofs.Texts.{line-from}
use Rattle.stream_core.proofs.telling.put_effect.Goals as goal

pub returns-clause-text : goal.returns-clause-text
returns-clause-text c =
    on_ok_weaker c.end.result
    (λ ended. line-from (text_in c.args.writer.now) (text_in c.put_head.new.writer) (text_in c.put_rest.new.writer) (text_in c.end.new.writer) c.args.moment c.args.left c.args.effect.now
    c.in_ok-put_head.ensures.text c.in_ok-put_rest.ensures.text ended)
    c.end.ensures.text
