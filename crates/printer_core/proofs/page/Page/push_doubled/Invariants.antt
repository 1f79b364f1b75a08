use Rattle.std.proofs.Common.{◌≡◌, ℕ, List, ◌++◌, length}
use Rattle.printer_core.specs.Printing.{Adds, doubled}
use Rattle.printer_core.proofs.page.Page.push_doubled.Given as goal

-- what was added is the text but for the rest
abbrev pub invariant-loop-n : goal.invariant-loop-n
invariant-loop-n l = (part : List ℕ) × Adds part l.initial.self l.self × (part ++ doubled l.rest ≡ doubled l.text)

abbrev pub decreases-loop-n : goal.decreases-loop-n
decreases-loop-n l = length l.rest
