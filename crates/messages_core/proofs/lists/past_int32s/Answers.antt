use Rattle.std.proofs.Common.{sym}
use Rattle.std.specs.Int.{w32}
use Rattle.std.proofs.lemmas.List.{take_rest}
use Rattle.messages_core.proofs.Skips.{past_short, past_long}
use Rattle.messages_core.proofs.lists.past_int32s.Goals as goal

pub returns-then-bytes-length : goal.returns-then-bytes-length
returns-then-bytes-length c = sym (past_short w32 c.args.count c.args.bytes.now (rw c.from-length.ensures at c.if-bytes-length.true))

pub returns : goal.returns
returns c = rw (take_rest, c.from-length.ensures) (sym (past_long w32 c.args.count c.args.bytes.now (rw c.from-length.ensures at c.if-bytes-length.false)))
