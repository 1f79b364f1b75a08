use Rattle.std.proofs.Common.{List, sym, subst, ◌∙◌, refl, true}
use Rattle.std.proofs.lemmas.Result.{on_ok_weaker, on_err_weaker}
use Rattle.system_core.specs.declared.machine.event.Entry.{Entry}
use Rattle.journal_core.specs.Recorder.{KeepsNext, kept}
use Rattle.journal_core.proofs.Entering.{done_enters, done_is_change, not_done, entered_spelled, one_kept}
use Rattle.journal_core.proofs.recorder.act_next.Goals as goal

pub returns-then-not-is_done-clause-keeping : goal.returns-then-not-is_done-clause-keeping
returns-then-not-is_done-clause-keeping g c =
    let K = g.K.Keeper in
    let keeper = c.args.keeper.now in
    let none = not_done c.args.event c.step-reply.result (sym c.is_done.ensures ∙ c.if-not-is_done.true) in
    subst (λ (es : List Entry). KeepsNext K keeper es true keeper) (sym none) (kept c.requires.settled c.requires.settled refl)

pub keep_last-requires-clause-last : goal.keep_last-requires-clause-last
keep_last-requires-clause-last g c =
    let old = c.args.system.now in
    let done = sym c.is_done.ensures ∙ c.if-not-is_done.false in
    let e = done_enters old c.step-reply.new.self c.args.event c.step-reply.result done c.step-reply.ensures in
    let s = entered_spelled c.args.event c.step-reply.result e.0 done c.requires.spelled e.1 in
    (old.journal, e.0, s.0, e.2, s.1)

pub returns-clause-keeping : goal.returns-clause-keeping
returns-clause-keeping g c =
    let K = g.K.Keeper in
    let old = c.args.system.now in
    let k = c.args.keeper.now in
    let k' = c.keep_last.new.keeper in
    let r = c.keep_last.result in
    let e = done_enters old c.step-reply.new.self c.args.event c.step-reply.result (sym c.is_done.ensures ∙ c.if-not-is_done.false) c.step-reply.ensures in
    subst (λ (es : List Entry). KeepsNext K k es c.is_ok-told.result k') (sym e.1)
    (one_kept K k k' e.0 r c.is_ok-told.result c.is_ok-told.ensures.value c.requires.settled c.keep_last.ensures.owing
    (on_ok_weaker r (λ h. h old.journal e.0 e.2) c.keep_last.ensures.ok) (on_err_weaker r (λ h. h old.journal e.0 e.2) c.keep_last.ensures.err))

pub returns-clause-withheld : goal.returns-clause-withheld
returns-clause-withheld g c = λ _. done_is_change c.args.system.now c.step-reply.new.self c.args.event c.step-reply.result (sym c.is_done.ensures ∙ c.if-not-is_done.false) c.step-reply.ensures
