-- The bytes of files of lines.
use Rattle.std.specs.Prelude.{◌≢◌, ℕ, List, [], ◌∷◌, ◌++◌, Option, Some, None}
use Rattle.std.specs.List.{flat_map, AllByRecursion}
use Rattle.folder_core.specs.Disk.{File, Disk, Is}

-- a line and its line feed
abbrev pub line_text : List ℕ → List ℕ
line_text line = line ++ 10 ∷ []

-- lines, one behind another
abbrev pub lines_text : List (List ℕ) → List ℕ
lines_text = flat_map line_text

-- the part of a line that stands at the end of a file
abbrev pub part_text : Option (List ℕ) → List ℕ
part_text None = []
part_text (Some part) = part

-- all that stands in a file
abbrev pub file_text : File (List ℕ) → List ℕ
file_text file = lines_text file.lines ++ part_text file.part

-- it has no line feed
abbrev pub IsInOneLine : List ℕ → Type 0
IsInOneLine text = AllByRecursion (λ byte. byte ≢ 10) text

-- lines, and behind them a part of one
abbrev pub AreLines : List (List ℕ) → Option (List ℕ) → Type 0
AreLines lines part = AllByRecursion IsInOneLine lines × IsInOneLine (part_text part)

-- each file has lines, and a part of one behind them
abbrev pub HasTexts : Disk (List ℕ) → Type 0
HasTexts disk =
    (number : ℕ) (file : File (List ℕ))
    → Is disk number file
    → AreLines file.lines file.part
