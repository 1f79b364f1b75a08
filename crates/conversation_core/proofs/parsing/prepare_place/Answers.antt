use Rattle.std.proofs.Common.{sym, subst}
use Rattle.preparing_core.specs.declared.fault.PrepareFault.{PrepareFault}
use Rattle.conversation_core.specs.Extending.{IsPreparePlace}
use Rattle.conversation_core.proofs.parsing.prepare_place.Goals as goal

pub returns-in-Faulty : goal.returns-in-Faulty
returns-in-Faulty c =
    subst (λ (f : PrepareFault). IsPreparePlace c.args.text.now f c.place_in.result) (sym c.in-Faulty.is) c.place_in.ensures
