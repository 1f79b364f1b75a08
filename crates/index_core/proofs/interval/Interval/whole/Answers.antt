use Rattle.std.proofs.Common.{arith}
use Rattle.index_core.specs.Keys.{key_of}
use Rattle.index_core.specs.declared.interval.Interval.{Interval}
use Rattle.index_core.proofs.IntervalLemmas.{admits-from}
use Rattle.index_core.proofs.KeyLemmas.{key-below}
use Rattle.index_core.proofs.interval.Interval.whole.Goals as goal

pub returns : goal.returns
returns c = λ k v.
    let whole : Interval = record { lowest = 0; highest = 18446744073709551615 } in
    admits-from whole (key_of k v) (omega arith) (key-below k v)
