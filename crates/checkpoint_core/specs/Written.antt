-- Files of lines, as they were written.
use Rattle.std.specs.Prelude.{◌≡◌, ℕ, List}
use Rattle.std.specs.List.{AllByRecursion}
use Rattle.folder_core.specs.Texts.{lines_text, IsInOneLine}

-- a text is these lines
abbrev pub AreLinesOf : List (List ℕ) → List ℕ → Type 0
AreLinesOf lines text = AllByRecursion IsInOneLine lines × (text ≡ lines_text lines)
