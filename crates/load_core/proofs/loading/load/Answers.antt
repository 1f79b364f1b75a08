use Rattle.std.proofs.Common.{◌≡◌, ◌+◌, Some, length, rules}
use Rattle.load_core.proofs.Ending.{cut_off}
use Rattle.load_core.proofs.loading.load.Goals as goal

pub returns-in-Some-clause-ends : goal.returns-in-Some-clause-ends
returns-in-Some-clause-ends g c =
    let loaded = c.in_ok-system.field-0 in
    let is : loaded.cut ≡ Some c.in-Some.front = search rules in
    let count : c.moment-number.result.0 + 1 ≡ length loaded.system.journal + 1 = search rules in
    cut_off c.args.chunk c.args.limits (g.S.Source.left c.args.reader.now) (g.S.Source.left c.load_whole.new.reader) loaded c.in-Some.front (c.moment-number.result.0 + 1) is count c.in_ok-system.ensures.ends
