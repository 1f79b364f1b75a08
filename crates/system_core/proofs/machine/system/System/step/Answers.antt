use Rattle.std.proofs.Common.{rules, sym, subst}
use Rattle.system_core.specs.declared.machine.event.Event.{Event}
use Rattle.system_core.specs.Step.{Step}
use Rattle.system_core.proofs.machine.system.System.step.Goals as goal

pub returns-in-Describe : goal.returns-in-Describe
returns-in-Describe c =
    subst (λ (event : Event). Step c.args.self.now event c.describe.result c.args.self.now) (sym c.in-Describe.is) c.describe.ensures

pub returns-in-Abandon : goal.returns-in-Abandon
returns-in-Abandon c = search rules
