use Rattle.std.proofs.Common.{refl}
use Rattle.base_core.proofs.Fronts.{write-map}
use Rattle.lexer_core.specs.declared.lexer.TheConstants.{MAX_LINE}
use Rattle.script_core.specs.Addressed.{Asks}
use Rattle.journal_core.specs.Recorder.{with_keeper}
use Rattle.script_core.specs.Keeping.{AnswersKept}
use Rattle.script_core.specs.Replying.{TellsThen, TellsKept}
use Rattle.script_core.specs.declared.scripts.answer.Said.TheVariants as says
use Rattle.system_core.specs.World.{entry}
use Rattle.script_core.proofs.KeptAnswers.{then-kept, kept-answers}
use Rattle.script_core.proofs.scripts.answer.answer.Goals as goal

pub returns-in-Ok : goal.returns-in-Ok
returns-in-Ok g c =
    let K = g.K.Keeper in
    let line = c.args.line.now in
    let old = with_keeper c.args.system.now c.args.keeper.now in
    let new = with_keeper c.ask.new.system c.ask.new.keeper in
    let user = c.in-Ok.user in
    let asked = c.in-Ok.statement in
    let asks : Asks MAX_LINE line user asked = c.in-Ok.ensures.asks in
    write-map g.W.Sink.failed g.W.Sink.taken _ _ (TellsKept K (entry 0 user asked) old new)
    (λ text. AnswersKept K old line text new) c.ask.result
    (kept-answers K old new line user asked c.requires.settled asks) c.ask.ensures

pub returns-in-Err : goal.returns-in-Err
returns-in-Err g c =
    let K = g.K.Keeper in
    let k = c.args.keeper.now in
    let line = c.args.line.now in
    let old = c.args.system.now in
    let new = c.tell_fault.new.system in
    let what = says.Fault c.in-Err.fault in
    write-map g.W.Sink.failed g.W.Sink.taken _ _ (TellsThen what old new)
    (λ text. AnswersKept K (with_keeper old k) line text (with_keeper new k)) c.tell_fault.result
    (then-kept K old new k line what c.requires.settled (c.in-Err.ensures.unread, refl)) c.tell_fault.ensures
