use Rattle.std.proofs.Common.{◌≡◌, length, take, flat_map}
use Rattle.messages_core.proofs.writing.size_of_all.Given as goal

abbrev pub invariant-loop-field : goal.invariant-loop-field
invariant-loop-field g l = l.size ≡ length (flat_map g.F.Field.spelled (take l.field-index l.fields))
