use Rattle.std.proofs.Common.{sym, subst}
use Rattle.answer_core.specs.declared.tag.Tag.{Tag}
use Rattle.desk_core.specs.Turns.{took}
use Rattle.session_core.proofs.Growing.{said_gains}
use Rattle.asking_core.specs.Asking.{AsksStatement, told, withheld}
use Rattle.asking_core.specs.declared.asking.Asked.TheVariants as askeds
use Rattle.asking_core.proofs.asking.say.Goals as goal

pub returns-in-Ok-clause-says : goal.returns-in-Ok-clause-says
returns-in-Ok-clause-says g c =
    subst (λ (tag : Tag). AsksStatement c.args.desk.now c.args.user c.args.statement c.args.columns c.args.pass.now (askeds.Told tag c.in-Ok.reply c.args.columns) c.execute.new.pass)
    (sym c.of-tag.ensures) (told c.in-Ok.ensures.same c.in-Ok.ensures.answered)

pub returns-in-Ok-clause-gained : goal.returns-in-Ok-clause-gained
returns-in-Ok-clause-gained g c =
    said_gains c.args.desk.now c.args.user c.args.statement c.in-Ok.reply c.args.pass.now c.execute.new.pass c.in-Ok.ensures.same c.in-Ok.ensures.answered

pub returns-in-Err-clause-says : goal.returns-in-Err-clause-says
returns-in-Err-clause-says g c = withheld c.in-Err.ensures.change c.in-Err.ensures.same c.in-Err.ensures.withheld.1

pub returns-in-Err-clause-gained : goal.returns-in-Err-clause-gained
returns-in-Err-clause-gained g c =
    said_gains c.args.desk.now c.args.user c.args.statement c.in-Err.ensures.withheld.0 c.args.pass.now c.execute.new.pass c.in-Err.ensures.same (took c.in-Err.ensures.withheld.1)
