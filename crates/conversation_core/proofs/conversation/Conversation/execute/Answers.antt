use Rattle.std.proofs.Common.{refl, sym}
use Rattle.sending_core.specs.declared.problem.Problem.TheVariants as problems
use Rattle.conversation_core.specs.Extending.AnswersExecute.{found, not_bound}
use Rattle.conversation_core.specs.State.{behind_problem}
use Rattle.conversation_core.specs.Telling.{error}
use Rattle.conversation_core.proofs.AddedAnswers.{adds, adds_as}
use Rattle.conversation_core.proofs.SetPlaces.{stands_at}
use Rattle.conversation_core.proofs.conversation.Conversation.execute.Goals as goal

pub returns-in-Some-clause-adds : goal.returns-in-Some-clause-adds
returns-in-Some-clause-adds g c =
    let old = c.args.self.now in
    let place = c.in-Some.place in
    let named = stands_at c.args.name.now old.state.portals place (sym c.in-Some.ensures.place) in
    adds_as old old c.execute_at.new.self _ _ refl
    (λ answer new executes. found {place = place} {portal = named.0} (sym c.in-Some.ensures.place) named.1 executes)
    (c.execute_at.ensures.adds named.0 named.1)

pub returns-in-None-clause-adds : goal.returns-in-None-clause-adds
returns-in-None-clause-adds g c =
    adds c.args.self.now c.refuse.new.self _ (error problems.NoPortal) (behind_problem c.args.self.now.state)
    c.refuse.ensures.items c.refuse.ensures.capacity c.refuse.ensures.state (not_bound (sym c.in-None.ensures.place))
