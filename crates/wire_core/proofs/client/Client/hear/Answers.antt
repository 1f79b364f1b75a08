use Rattle.std.proofs.Common.{◌≡◌, Option, Some, None, refl}
use Rattle.std.specs.Prelude.{MatchOption}
use Rattle.wire_core.proofs.Heard.{heard_before}
use Rattle.wire_core.proofs.client.Client.hear.Goals as goal

pub returns-in-None-Some-clause-heard : goal.returns-in-None-Some-clause-heard
returns-in-None-Some-clause-heard g c =
    heard_before c.args.lent.now.desk.now c.args.admission.now c.args.self.now c.args.came.now c.hear_login.new.self c.args.pass.now c.requires.open c.hear_login.result c.hear_login.ensures.heard

pub returns-in-None-None-clause-heard : goal.returns-in-None-None-clause-heard
returns-in-None-None-clause-heard g c =
    heard_before c.args.lent.now.desk.now c.args.admission.now c.args.self.now c.args.came.now c.hear_start.new.self c.args.pass.now c.requires.open c.hear_start.result c.hear_start.ensures.heard
