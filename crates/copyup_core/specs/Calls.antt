-- What each call makes of what a store holds.
use Rattle.std.specs.Prelude.{ℕ, ◌+◌, Bool, [], ◌∷◌, ◌++◌, Some, None, drop}
use Rattle.std.specs.List.{filter}
use Rattle.copyup_core.specs.Holding.{Holding, due, unfinished, with_item, without_item}

-- nothing yet, the first number being n
abbrev pub empty_from : {V : Type 0} → ℕ → Holding V
empty_from n = record { contents = []; next = n; rest = None; spare = 0 }

-- a push puts its value behind all others, under the next number
abbrev pub pushed : {V : Type 0} → V → Holding V → Holding V
pushed v h = record h { contents = h.contents ++ (h.next, v) ∷ []; next = h.next + 1 }

-- the item numbered n becomes v
abbrev pub replaced : {V : Type 0} → ℕ → V → Holding V → Holding V
replaced n v h = record h { contents = with_item n v h.contents }

-- the item numbered n goes, and its number is not given again
abbrev pub removed : {V : Type 0} → ℕ → Holding V → Holding V
removed n h = record h { contents = without_item n h.contents }

-- the items whose values pass the test stay
abbrev pub retained : {V : Type 0} → (V → Bool) → Holding V → Holding V
retained keeps h = record h { contents = filter (λ e. keeps e.1) h.contents }

-- a capture begins: what it has to give is what there is
abbrev pub begun : {V : Type 0} → Holding V → Holding V
begun h = record h { rest = Some h.contents }

-- a step takes the first k items, or all, off what the capture has to give; with none left it ends
abbrev pub stepped : {V : Type 0} → ℕ → Holding V → Holding V
stepped k h = record h { rest = unfinished (drop k (due h)) }

-- a capture that is given up
abbrev pub abandoned : {V : Type 0} → Holding V → Holding V
abandoned h = record h { rest = None }
