use Rattle.std.proofs.Common.{◌∙◌, sym}
use Rattle.std.proofs.lemmas.Bool.{false≢true}
use Rattle.base_core.proofs.Fronts.{write-map}
use Rattle.journal_core.specs.Recorder.{with_keeper}
use Rattle.script_core.specs.Replying.{TellsAsked, TellsKept}
use Rattle.script_core.proofs.KeptAnswers.{any-kept}
use Rattle.script_core.proofs.scripts.answer.ask.Goals as goal

pub ask_any-requires-clause-unchanged : goal.ask_any-requires-clause-unchanged
ask_any-requires-clause-unchanged g c = λ both. false≢true (sym c.if-may_change.false ∙ c.may_change.ensures.1 both)

pub returns : goal.returns
returns g c =
    let K = g.K.Keeper in
    let k = c.args.keeper.now in
    let old = c.args.system.now in
    let new = c.ask_any.new.system in
    let Kept = TellsKept K c.args.entry (with_keeper old k) (with_keeper new k) in
    let told = any-kept K old new k c.args.entry c.requires.settled (λ both. false≢true (sym c.if-may_change.false ∙ c.may_change.ensures.1 both)) in
    write-map g.W.Sink.failed g.W.Sink.taken _ _ (TellsAsked c.args.entry old new) Kept c.ask_any.result told c.ask_any.ensures
