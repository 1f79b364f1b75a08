-- Where texts in quotes are open, and the statements of a text.
use Rattle.std.specs.Prelude.{◌≡◌, ℕ, Bool, true, false, not, ◌==◌, ◌&&◌, ◌||◌, List, [], ◌∷◌, ◌++◌, Option, Some, None, if◌then◌else◌}
use Rattle.std.specs.List.{list_all}

-- whether a text is open behind the byte, by whether one was open before it: a quote turns that
abbrev pub inside_behind : Bool → ℕ → Bool
inside_behind inside b = if b == 39 then not inside else inside

-- the same behind these bytes
abbrev pub open_behind : Bool → List ℕ → Bool
open_behind inside [] = inside
open_behind inside (b ∷ bs) = open_behind (inside_behind inside b) bs

-- whether the byte ends a statement, by whether a text is open before it
abbrev pub ends_statement : Bool → ℕ → Bool
ends_statement inside b = (b == 59) && not inside

-- the bytes leave no text open: they have an even number of quotes
abbrev pub IsClosed : List ℕ → Type 0
IsClosed bytes = open_behind false bytes ≡ false

-- each ";" of the bytes stands inside a text
abbrev pub IsOneStatement : List ℕ → Type 0
IsOneStatement bytes =
    (front rest : List ℕ) → bytes ≡ front ++ 59 ∷ rest → open_behind false front ≡ true

-- the statement that stands first in the text, and what is behind its ";", or that it is the last
abbrev pub StandsFirst : List ℕ → List ℕ → Option (List ℕ) → Type 0
StandsFirst text statement None = (text ≡ statement) × IsOneStatement statement
StandsFirst text statement (Some rest) =
    (text ≡ statement ++ 59 ∷ rest) × IsClosed statement × IsOneStatement statement

-- a line feed or a carriage return
abbrev pub is_line_end : ℕ → Bool
is_line_end b = (b == 10) || (b == 13)

-- a space, a tab or a line end
abbrev pub is_layout : ℕ → Bool
is_layout b = (b == 32) || (b == 9) || is_line_end b

-- no byte of the statement says anything
abbrev pub is_empty_statement : List ℕ → Bool
is_empty_statement statement = list_all is_layout statement
