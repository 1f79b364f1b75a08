use Rattle.std.proofs.Common.{List, ℕ, Ok, Err, ap, subst, ◌∙◌}
use Rattle.sending_core.specs.declared.plain.Plain.TheVariants as plains
use Rattle.sending_core.specs.declared.problem.Problem.TheVariants as problems
use Rattle.preparing_core.specs.Preparing.{Prepares}
use Rattle.conversation_core.specs.Extending.{IsNameFault, IsNameFree, IsPreparePlace, fault_items}
use Rattle.conversation_core.specs.Extending.AnswersParse.{exhausted, misnamed, prepared, refused}
use Rattle.conversation_core.specs.State.{ConversationState, behind_problem, with_statement}
use Rattle.conversation_core.specs.Telling.{error, plain}
use Rattle.conversation_core.proofs.AddedAnswers.{adds, adds_behind}
use Rattle.conversation_core.proofs.conversation.Conversation.parse.Goals as goal

pub returns-in-Some-clause-adds : goal.returns-in-Some-clause-adds
returns-in-Some-clause-adds g c =
    let old = c.args.self.now in
    let fault = subst (λ (n : List ℕ). IsNameFault old.state.statements n c.in-Some.problem) c.as_slice-name.ensures c.in-Some.ensures in
    adds old c.refuse.new.self _ (error c.in-Some.problem) (behind_problem old.state)
    c.refuse.ensures.items c.refuse.ensures.capacity c.refuse.ensures.state (misnamed fault)

pub returns-in-Ok-keep_prepared-clause-adds : goal.returns-in-Ok-keep_prepared-clause-adds
returns-in-Ok-keep_prepared-clause-adds g c =
    let old = c.args.self.now in
    let parse = c.args.parse.now in
    let kept : List ℕ → ConversationState = λ n. record (old.state) { statements = with_statement n c.in-Ok.made old.state.statements } in
    let free = subst (λ (n : List ℕ). IsNameFree old.state.statements n) c.as_slice-name.ensures c.in_default.ensures in
    let prepares = subst (λ (t : List ℕ). Prepares c.args.lent.now.desk.now c.args.user t parse.types c.args.pass.now (Ok c.in-Ok.made) c.prepare-prepared.new.pass) c.as_slice-text.ensures c.in-Ok.ensures.prepares in
    adds_behind old c.send.new.self _ (plain plains.ParseComplete) (kept parse.name) c.keep_prepared.new.self
    c.in-Ok-keep_prepared.ensures.sending c.send.ensures.items c.send.ensures.capacity
    (c.send.ensures.state ∙ (c.in-Ok-keep_prepared.ensures.ok ∙ ap kept c.as_slice-name.ensures)) (prepared free prepares)

pub returns-in-Err-keep_prepared-clause-adds : goal.returns-in-Err-keep_prepared-clause-adds
returns-in-Err-keep_prepared-clause-adds g c =
    let old = c.args.self.now in
    let parse = c.args.parse.now in
    let free = subst (λ (n : List ℕ). IsNameFree old.state.statements n) c.as_slice-name.ensures c.in_default.ensures in
    let prepares = subst (λ (t : List ℕ). Prepares c.args.lent.now.desk.now c.args.user t parse.types c.args.pass.now (Ok c.in-Ok.made) c.prepare-prepared.new.pass) c.as_slice-text.ensures c.in-Ok.ensures.prepares in
    adds_behind old c.refuse-in-Err-keep_prepared.new.self _ (error problems.NoMemory) (behind_problem old.state) c.keep_prepared.new.self
    c.in-Err-keep_prepared.ensures.sending c.refuse-in-Err-keep_prepared.ensures.items c.refuse-in-Err-keep_prepared.ensures.capacity
    (c.refuse-in-Err-keep_prepared.ensures.state ∙ ap behind_problem c.in-Err-keep_prepared.ensures.err) (exhausted free prepares)

pub returns-in-Err-clause-adds : goal.returns-in-Err-clause-adds
returns-in-Err-clause-adds g c =
    let old = c.args.self.now in
    let parse = c.args.parse.now in
    let place = c.prepare_place-place.result in
    let free = subst (λ (n : List ℕ). IsNameFree old.state.statements n) c.as_slice-name.ensures c.in_default.ensures in
    let prepares = subst (λ (t : List ℕ). Prepares c.args.lent.now.desk.now c.args.user t parse.types c.args.pass.now (Err c.in-Err.fault) c.prepare-prepared.new.pass) c.as_slice-text.ensures c.in-Err.ensures.prepares in
    let placed = subst (λ (t : List ℕ). IsPreparePlace t c.in-Err.fault place) c.as_slice-text.ensures c.prepare_place-place.ensures in
    adds old c.refuse_by.new.self _ (fault_items c.in-Err.fault place) (behind_problem old.state)
    c.refuse_by.ensures.items c.refuse_by.ensures.capacity c.refuse_by.ensures.state (refused place free prepares placed)
