use Rattle.session_core.specs.Tending.{untended, began}
use Rattle.checkpoint_core.proofs.Spelled.{checkpoint_spelled}
use Rattle.checkpoint_core.proofs.beginning.begun.Goals as goal

pub execute-requires-clause-spelled : goal.execute-requires-clause-spelled
execute-requires-clause-spelled g c = checkpoint_spelled

pub returns-in-Begun : goal.returns-in-Begun
returns-in-Begun g c = began c.args.user.now c.in-Ok.reply c.args.pass.now c.execute.new.pass untended c.in-Ok.ensures.same c.in-Ok.ensures.answered

pub returns-in-Busy : goal.returns-in-Busy
returns-in-Busy g c = began c.args.user.now c.in-Ok.reply c.args.pass.now c.execute.new.pass untended c.in-Ok.ensures.same c.in-Ok.ensures.answered

pub returns-in-Worn : goal.returns-in-Worn
returns-in-Worn g c = began c.args.user.now c.in-Ok.reply c.args.pass.now c.execute.new.pass untended c.in-Ok.ensures.same c.in-Ok.ensures.answered

pub returns-in-Refused : goal.returns-in-Refused
returns-in-Refused g c = began c.args.user.now c.in-Ok.reply c.args.pass.now c.execute.new.pass untended c.in-Ok.ensures.same c.in-Ok.ensures.answered

pub returns : goal.returns
returns g c = began c.args.user.now c.in-Ok.reply c.args.pass.now c.execute.new.pass untended c.in-Ok.ensures.same c.in-Ok.ensures.answered
