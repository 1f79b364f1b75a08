use Rattle.std.proofs.Common.{true, refl, sym, subst}
use Rattle.system_core.specs.declared.machine.event.Event.{Event}
use Rattle.journal_core.specs.Recorder.{with_keeper, unasked, StepsKept}
use Rattle.journal_core.proofs.Entering.{never-both}
use Rattle.journal_core.proofs.recorder.act_owing.Goals as goal

pub returns-in-Step : goal.returns-in-Step
returns-in-Step g c =
    let k = c.args.keeper.now in
    subst (λ (event : Event). StepsKept g.K.Keeper (with_keeper c.args.system.now k) event c.step.result true (with_keeper c.step.new.self k)) (sym c.in-Step.is)
    (record { step = c.step.ensures; keeping = unasked c.requires.owing refl; withheld = λ untold. never-both true refl untold })

pub returns-in-Abandon : goal.returns-in-Abandon
returns-in-Abandon g c =
    let k = c.args.keeper.now in
    subst (λ (event : Event). StepsKept g.K.Keeper (with_keeper c.args.system.now k) event c.step-in-Abandon.result true (with_keeper c.step-in-Abandon.new.self k)) (sym c.in-Abandon.is)
    (record { step = c.step-in-Abandon.ensures; keeping = unasked c.requires.owing refl; withheld = λ untold. never-both true refl untold })

pub returns-in-Describe : goal.returns-in-Describe
returns-in-Describe g c =
    let k = c.args.keeper.now in
    subst (λ (event : Event). StepsKept g.K.Keeper (with_keeper c.args.system.now k) event c.step-in-Describe.result true (with_keeper c.step-in-Describe.new.self k)) (sym c.in-Describe.is)
    (record { step = c.step-in-Describe.ensures; keeping = unasked c.requires.owing refl; withheld = λ untold. never-both true refl untold })
