use Rattle.script_core.proofs.KeptLemmas.{answered-front, grown-kept, journal-kept}
use Rattle.script_core.proofs.laws.what_was_told_is_kept.Goals as goal

pub returns : goal.returns
returns g c =
    let K = g.K.Keeper in record { front = answered-front K; grown = grown-kept K; journal = journal-kept K }
