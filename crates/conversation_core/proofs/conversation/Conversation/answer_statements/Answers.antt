use Rattle.std.proofs.Common.{◌≡◌, ◌≤◌, ◌+◌, ℕ, None, Some, length, ap, subst, arith}
use Rattle.std.specs.Option.{option_copied}
use Rattle.parameters_core.specs.Statements.{StandsFirst}
use Rattle.session_core.proofs.Growing.{Gains-trans}
use Rattle.sending_core.specs.Queue.{Queue}
use Rattle.conversation_core.specs.Querying.{said_count}
use Rattle.conversation_core.proofs.Counting.{first_counted}
use Rattle.conversation_core.proofs.Going.{Going, begun, last_one, one_more, stopped}
use Rattle.conversation_core.proofs.conversation.Conversation.answer_statements.Goals as goal

pub statements-init : goal.statements-init
statements-init g c =
    begun c.args.lent.now.desk.now c.args.user.now c.args.text.now c.args.is_alone c.args.self.now c.args.pass.now c.requires.room.0 c.requires.room.1 c.requires.room.2

pub answer_statement-requires-clause-room : goal.answer_statement-requires-clause-room
answer_statement-requires-clause-room g c =
    let going = c.statements.invariant in
    let statement = c.first_statement.result.0.now in
    let few : said_count statement ≤ going.count = first_counted c.statements.left.now statement (option_copied c.first_statement.result.1) going.count going.counted c.first_statement.ensures in
    omega (arith, few, going.room)

pub returns-then-not-answer_statement : goal.returns-then-not-answer_statement
returns-then-not-answer_statement g c =
    let desk = c.args.lent.now.desk.now in
    let user = c.args.user.now in
    let going = c.statements.invariant in
    let left = c.statements.left.now in
    let behind = option_copied c.first_statement.result.1 in
    let statement = c.first_statement.result.0.now in
    let new = c.answer_statement.new.self in
    let after = c.answer_statement.new.pass in
    let few : said_count statement ≤ going.count = first_counted left statement behind going.count going.counted c.first_statement.ensures in
    record {
      adds = stopped desk user c.args.text.now c.args.is_alone c.args.self.now c.args.pass.now c.statements.start left c.statements.self c.statements.pass going statement new after
          behind c.first_statement.ensures c.if-not-answer_statement.ensures.adds c.fail.new.self c.fail.ensures.sending c.fail.ensures.state;
      gained = Gains-trans user c.args.pass.now c.statements.pass after going.gained c.answer_statement.ensures.gained;
      room = omega (arith, few, going.room, c.answer_statement.ensures.room, ap (λ (q : Queue). q.room) c.fail.ensures.sending);
    }

pub returns-in_default : goal.returns-in_default
returns-in_default g c =
    let desk = c.args.lent.now.desk.now in
    let user = c.args.user.now in
    let going = c.statements.invariant in
    let left = c.statements.left.now in
    let statement = c.first_statement.result.0.now in
    let new = c.answer_statement.new.self in
    let after = c.answer_statement.new.pass in
    let stands : StandsFirst left statement None = rw c.in_default.is at c.first_statement.ensures in
    let few : said_count statement ≤ going.count = first_counted left statement None going.count going.counted stands in
    record {
      adds = last_one desk user c.args.text.now c.args.is_alone c.args.self.now c.args.pass.now c.statements.start left c.statements.self c.statements.pass going statement new after
          stands c.if-not-answer_statement.ensures.adds;
      gained = Gains-trans user c.args.pass.now c.statements.pass after going.gained c.answer_statement.ensures.gained;
      room = omega (arith, few, going.room, c.answer_statement.ensures.room);
    }

pub statements-preserved : goal.statements-preserved
statements-preserved g c =
    let desk = c.args.lent.now.desk.now in
    let user = c.args.user.now in
    let left = c.statements.left.now in
    let statement = c.first_statement.result.0.now in
    let behind = c.in-Some.behind.now in
    let new = c.answer_statement.new.self in
    let after = c.answer_statement.new.pass in
    let stands : StandsFirst left statement (Some behind) = rw c.in-Some.is at c.first_statement.ensures in
    let further : c.statements.start + length statement + 1 ≡ c.statements.start + (length statement + 1) = omega arith in
    subst (λ (n : ℕ). Going desk user c.args.text.now c.args.is_alone c.args.self.now c.args.pass.now n behind new after) further
    (one_more desk user c.args.text.now c.args.is_alone c.args.self.now c.args.pass.now c.statements.start left c.statements.self c.statements.pass c.statements.invariant statement new after
    behind stands c.if-not-answer_statement.ensures.adds c.answer_statement.ensures.gained c.answer_statement.ensures.room)
