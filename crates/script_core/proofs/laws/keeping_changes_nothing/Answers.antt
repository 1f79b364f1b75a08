use Rattle.script_core.proofs.KeptLemmas.{plain-end, plain-fault, no-journal-fault}
use Rattle.script_core.proofs.laws.keeping_changes_nothing.Goals as goal

pub returns : goal.returns
returns g c =
    let K = g.K.Keeper in record {
      ok = λ chunk new keeper keeper' traffic works. plain-end K works chunk new keeper keeper' traffic;
      fault = λ chunk fault keeper keeper' traffic works. plain-fault K works chunk fault keeper keeper' traffic;
      journal = λ chunk keeper keeper' traffic works. no-journal-fault K works chunk keeper keeper' traffic;
    }
