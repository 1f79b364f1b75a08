use Rattle.std.proofs.Common.{◌≡◌, List, Some, None, subst, ap, ◌∙◌}
use Rattle.base_core.specs.declared.value.Column.{Column}
use Rattle.reader_core.specs.declared.statement.Statement.{Statement}
use Rattle.reader_core.proofs.Exactness.{spelled_once}
use Rattle.answer_core.specs.declared.tag.Tag.{Tag}
use Rattle.session_core.proofs.Growing.{Gains-trans, Watches-gains}
use Rattle.asking_core.specs.Asking.{AsksLine, AsksStatement, described, undescribed, unread_behind}
use Rattle.asking_core.specs.Columns.{result_columns}
use Rattle.asking_core.specs.declared.asking.Asked.TheVariants as askeds
use Rattle.asking_core.proofs.Turning.{described_watches, select_tag}
use Rattle.asking_core.proofs.asking.say_described.Goals as goal

pub returns-in_default : goal.returns-in_default
returns-in_default g c =
    let user = c.args.user in
    let asked = c.args.statement in
    let old = c.args.pass.now in
    let new = c.describe.new.pass in record {
      asks = λ manner free wants.
          subst (λ (tag : Tag). AsksLine c.args.desk.now user manner c.args.line.now old (askeds.Told tag c.describe.result None) new) (select_tag manner.wants_columns asked wants)
          (undescribed c.requires.spelled free wants (c.describe.ensures.same, c.describe.ensures.answered) (λ at columns is. c.in_default.not-Described at columns is));
      gained = Watches-gains user old new (described_watches c.args.desk.now user asked c.describe.result old new c.describe.ensures.same c.describe.ensures.answered);
    }

pub returns-in_default-read_with-clause-asks : goal.returns-in_default-read_with-clause-asks
returns-in_default-read_with-clause-asks g c = λ manner free wants. unread_behind c.requires.spelled free wants (c.in-Described.ensures.same, c.in-Described.ensures.answered)

pub returns-in-Some-clause-asks : goal.returns-in-Some-clause-asks
returns-in-Some-clause-asks g c = λ manner free wants.
    let asked = c.args.statement in
    let user = c.args.user in
    let mid = c.describe.new.pass in
    let new = c.say.new.pass in
    let same : c.in-Ok.statement ≡ asked = spelled_once c.args.line.now c.in-Ok.statement asked c.in-Ok.ensures.spelled c.requires.spelled in
    let chosen = c.in-Some.ensures.some ∙ (c.in-Ok-result_columns.ensures ∙ ap (λ (s : Statement). result_columns s c.in-Described.columns) same) in
    described {asked = asked} c.requires.spelled free wants (c.in-Described.ensures.same, c.in-Described.ensures.answered)
    (subst (λ (s : Statement). AsksStatement c.args.desk.now user s (Some (result_columns asked c.in-Described.columns)) mid c.say.result new) same
    (subst (λ (cs : List Column). AsksStatement c.args.desk.now user c.in-Ok.statement (Some cs) mid c.say.result new) chosen c.say.ensures.says))

pub returns-in-Some-clause-gained : goal.returns-in-Some-clause-gained
returns-in-Some-clause-gained g c =
    Gains-trans c.args.user c.args.pass.now c.describe.new.pass c.say.new.pass
    (Watches-gains c.args.user c.args.pass.now c.describe.new.pass (described_watches c.args.desk.now c.args.user c.args.statement c.describe.result c.args.pass.now c.describe.new.pass c.describe.ensures.same c.describe.ensures.answered))
    c.say.ensures.gained

pub returns-in-None-clause-asks : goal.returns-in-None-clause-asks
returns-in-None-clause-asks g c = λ manner free wants. unread_behind c.requires.spelled free wants (c.in-Described.ensures.same, c.in-Described.ensures.answered)

pub returns-in-None-clause-gained : goal.returns-in-None-clause-gained
returns-in-None-clause-gained g c =
    Watches-gains c.args.user c.args.pass.now c.describe.new.pass (described_watches c.args.desk.now c.args.user c.args.statement c.describe.result c.args.pass.now c.describe.new.pass c.describe.ensures.same c.describe.ensures.answered)

pub returns-in_default-result_columns-clause-asks : goal.returns-in_default-result_columns-clause-asks
returns-in_default-result_columns-clause-asks g c = λ manner free wants. unread_behind c.requires.spelled free wants (c.in-Described.ensures.same, c.in-Described.ensures.answered)

pub returns-in_default-result_columns-clause-gained : goal.returns-in_default-result_columns-clause-gained
returns-in_default-result_columns-clause-gained g c =
    Watches-gains c.args.user c.args.pass.now c.describe.new.pass (described_watches c.args.desk.now c.args.user c.args.statement c.describe.result c.args.pass.now c.describe.new.pass c.describe.ensures.same c.describe.ensures.answered)
