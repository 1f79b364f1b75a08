use Rattle.std.proofs.Common.{arith}
use Rattle.std.proofs.lemmas.Bool.{ltb-true}
use Rattle.index_core.specs.declared.entry.Entry.{Entry}
use Rattle.index_core.proofs.ListedLemmas.{none-below, none-above}
use Rattle.index_core.proofs.outside.are_outside.Goals as goal

nothing : Entry
nothing = record { key = 0; number = 0 }

pub returns-then-entries-length : goal.returns-then-entries-length
unfolding nothing
returns-then-entries-length c = λ yes. none-below c.args.interval c.args.entries.now nothing c.requires (omega (arith, c.if-length-eq0.false)) c.if-entries-length.true

pub returns : goal.returns
unfolding nothing
returns c = λ yes. none-above c.args.interval c.args.entries.now nothing c.requires (ltb-true _ _ yes)
