-- What a filled line says: what its segments say in turn, with one literal for each place.
use Rattle.std.specs.Prelude.{◌≡◌, ◌⊎◌, ℕ, List, [], ◌∷◌, ◌++◌}
use Rattle.lexer_core.specs.Lexing.{Lexeme, Number, Text, Says}
use Rattle.parameters_core.specs.Places.{Part, place_number}
use Rattle.parameters_core.specs.Filling.{as_line}

-- each segment says its own, as if it stood alone, and each place what its number says
abbrev pub SayInTurn : (ℕ → Lexeme) → List Part → List ℕ → List Lexeme → Type 0
SayInTurn says [] last said = Says (as_line last) said
SayInTurn says (part ∷ parts) last said =
    (front : List Lexeme) × (behind : List Lexeme)
    × (said ≡ front ++ says (place_number part.place) ∷ behind) × Says (as_line part.segment) front
    × SayInTurn says parts last behind

-- a number or a text
abbrev pub IsLiteral : Lexeme → Type 0
IsLiteral (Number z) = Unit {0}
IsLiteral (Text t) = Unit {0}
IsLiteral _ = ⊥

-- the same thing, or two literals
abbrev pub IsAlike : Lexeme → Lexeme → Type 0
IsAlike l m = (l ≡ m) ⊎ (IsLiteral l × IsLiteral m)
