-- A dump that was written is a file to load.
use Rattle.std.specs.Prelude.{ℕ, List, Option}
use Rattle.base_core.specs.declared.limits.Limits.{Limits}
use Rattle.system_core.specs.declared.machine.event.Entry.{Entry}
use Rattle.load_core.specs.Kept.{CanBeLoaded}
use Rattle.dump_core.specs.Dump.{dump}
use Rattle.dump_core.specs.Laws.{MayBeDumped}
use Rattle.dump_core.specs.Ending.{WritesLines}

-- the lines that were written of the dump of a journal load that dump, entry by entry
abbrev pub DumpIsLoaded : Type 0
DumpIsLoaded =
    (limits : Limits) (journal : List Entry) (taken taken' : Option (List ℕ))
    → MayBeDumped limits journal
    → WritesLines (dump journal) taken taken'
    → CanBeLoaded limits taken taken' (dump journal)
