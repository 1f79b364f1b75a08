use Rattle.std.proofs.Common.{◌≡◌, ◌++◌, map, drop}
use Rattle.system_core.specs.Journal.{change_of}
use Rattle.system_core.proofs.machine.change.changes_of.Given as goal

-- the changes so far and those to come
abbrev pub invariant-loop-entry : goal.invariant-loop-entry
invariant-loop-entry l = l.changes.items ++ map (λ e. change_of l.tables.tables e.user e.statement) (drop l.entry-index l.journal) ≡ map (λ e. change_of l.tables.tables e.user e.statement) l.journal
