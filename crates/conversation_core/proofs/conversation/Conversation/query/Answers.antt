use Rattle.std.proofs.Common.{◌++◌, ◌==◌, ℕ, List, length, ap, subst, ◌∙◌, arith}
use Rattle.sending_core.specs.Queue.{capacity}
use Rattle.sending_core.specs.declared.item.Item.{Item}
use Rattle.sending_core.specs.declared.plain.Plain.TheVariants as plains
use Rattle.sending_core.specs.declared.problem.Problem.TheVariants as problems
use Rattle.conversation_core.specs.State.{Conversing, ConversationState, behind_error}
use Rattle.conversation_core.specs.Telling.{error, plain}
use Rattle.conversation_core.specs.Querying.{AnswersFrom, AnswersQuery, HasStatements}
use Rattle.conversation_core.proofs.Queried.{readied}
use Rattle.conversation_core.proofs.conversation.Conversation.query.Goals as goal
use Rattle.conversation_core.proofs.conversation.Conversation.query.Goals.{then-count-eq0, else-count-eq0+then-count-gt-MOST_STATEMENTS, else-count-eq0+else-count-gt-MOST_STATEMENTS+then-is_err, else-count-eq0+else-count-gt-MOST_STATEMENTS+else-is_err}

pub returns-clause-adds : goal.returns-clause-adds
returns-clause-adds g c =
    let desk = c.args.lent.now.desk.now in
    let user = c.args.user in
    let text = c.args.text.now in
    let old = c.args.self.now in
    let before = c.args.pass.now in
    let mid = c.if-count-eq0.self in
    let end = c.tell_ready.new.self in
    let count : ℕ = c.count_statements-count.result in
    let counted = c.count_statements-count.ensures in
    let told = c.tell_ready.ensures in
    elim c.if-count-eq0.branch [
      | then-count-eq0 w ↦
          rw w.pass-is
          (readied desk user text old mid end before before (plain plains.EmptyQuery) old.state
          (AnswersQuery.silent (subst (λ (n : ℕ). HasStatements text n) w.if-count-eq0.true counted))
          (ap (λ (v : Conversing). v.sending.items) w.self-is ∙ w.send.ensures.items)
          (omega (arith, ap (λ (v : Conversing). capacity v.sending) w.self-is, w.send.ensures.capacity))
          (ap (λ (v : Conversing). v.state) w.self-is ∙ w.send.ensures.state)
          told.items told.capacity told.state)
      | else-count-eq0+then-count-gt-MOST_STATEMENTS w ↦
          rw w.pass-is
          (readied desk user text old mid end before before (error problems.TooManyInQuery) (behind_error old.state)
          (AnswersQuery.too_many counted w.if-count-gt-MOST_STATEMENTS.true)
          (ap (λ (v : Conversing). v.sending.items) w.self-is ∙ w.refuse_query.ensures.items)
          (omega (arith, ap (λ (v : Conversing). capacity v.sending) w.self-is, w.refuse_query.ensures.capacity))
          (ap (λ (v : Conversing). v.state) w.self-is ∙ w.refuse_query.ensures.state)
          told.items told.capacity told.state)
      | else-count-eq0+else-count-gt-MOST_STATEMENTS+then-is_err w ↦
          let refused = w.refuse_query-then-is_err.ensures in
          let same = w.reserve.ensures.items in
          rw w.pass-is
          (readied desk user text old mid end before before (error problems.NoMemory) (behind_error old.state)
          (AnswersQuery.exhausted counted (omega arith) (omega arith))
          (ap (λ (v : Conversing). v.sending.items) w.self-is ∙ (refused.items ∙ ap (λ (xs : List Item). xs ++ error problems.NoMemory) same))
          (omega (arith, ap (λ (v : Conversing). capacity v.sending) w.self-is, refused.capacity, w.reserve.ensures.room, ap length same))
          (ap (λ (v : Conversing). v.state) w.self-is ∙ (refused.state ∙ ap behind_error w.reserve.ensures.state))
          told.items told.capacity told.state)
      | else-count-eq0+else-count-gt-MOST_STATEMENTS+else-is_err w ↦
          let a = w.answer_statements.ensures.adds in
          let same = w.reserve.ensures.items in
          let stays = w.reserve.ensures.state in
          let new = w.answer_statements.new.self in
          rw w.pass-is
          (readied desk user text old mid end before w.answer_statements.new.pass a.answer new.state
          (AnswersQuery.answered counted (omega arith) (omega arith)
          (subst (λ (s : ConversationState). AnswersFrom desk user text (count == 1) 0 text s before a.answer new.state w.answer_statements.new.pass) stays a.is))
          (ap (λ (v : Conversing). v.sending.items) w.self-is ∙ (a.added ∙ ap (λ (xs : List Item). xs ++ a.answer) same))
          (omega (arith, ap (λ (v : Conversing). capacity v.sending) w.self-is, a.room, w.reserve.ensures.room, ap length same))
          (ap (λ (v : Conversing). v.state) w.self-is)
          told.items told.capacity told.state)
    ]
