use Rattle.std.proofs.Common.{sym}
use Rattle.std.proofs.lemmas.List.{take_all}
use Rattle.lines_core.specs.declared.line.TheConstants.{KEPT_BYTES}
use Rattle.lines_core.proofs.FeedLemmas.{kept_clean}
use Rattle.lines_core.proofs.feeding.Feeding.feed.Goals as goal

pub invariant_of-self-2 : goal.invariant_of-self-2
invariant_of-self-2 g c =
    let line = c.self.inside.line in
    let clean = c.self.invariant in
    let fed = c.in-Ok.ensures.ok line clean.0 (sym (take_all KEPT_BYTES line clean.1)) in
    kept_clean fed.now c.feed.new.line fed.kept_is fed.cut.open_rest
