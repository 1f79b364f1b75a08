-- The language: what a line of it says, or its one fault.
use Rattle.std.specs.Prelude.{◌≡◌, ℕ, List, [], ◌∷◌, ◌++◌, ◌⊎◌, length, Result, Err}
use Rattle.lexer_core.specs.Lexing.{Lexeme, Says, AreTokens, IsLineFault}
use Rattle.lexer_core.specs.Lexing as lexemes
use Rattle.lexer_core.specs.declared.token.Token as tokens
use Rattle.lexer_core.specs.declared.token.Mark.TheVariants as marks
use Rattle.lexer_core.specs.declared.fault.Code.{Code}
use Rattle.lexer_core.specs.declared.fault.Code.TheVariants as codes
use Rattle.lexer_core.specs.declared.fault.ReadFault.{ReadFault}
use Rattle.lexer_core.specs.declared.fault.ReadFault.TheVariants as faults
use Rattle.reader_core.specs.declared.statement.Statement.{Statement}
use Rattle.reader_core.specs.Matches.{IsFault}
use Rattle.reader_core.specs.Sentences.{statement}
use Rattle.reader_core.specs.Saying.{statement_says}
use Rattle.reader_core.specs.Forming.{IsWellFormed}

-- the tokens say the statement, with or without a ";" behind it
abbrev pub SaysStatement : List Lexeme → Statement → Type 0
SaysStatement said s =
    (said ≡ statement_says s) ⊎ (said ≡ statement_says s ++ lexemes.Sign marks.Semicolon ∷ [])

-- the line spells the statement
pub record Spells (line : List ℕ) (s : Statement) : Type 0 where
  pub said : List Lexeme
  pub says : Says line said
  pub statement_of : SaysStatement said s
  pub well_formed : IsWellFormed s

-- the one fault of a line that spells no statement: its leftmost lexical fault, no token at all, or
-- the leftmost fault of the grammar
pub data IsReadFault (line : List ℕ) : Code → ℕ → Type 0 where
  lexical : {code : Code} {offset : ℕ} → IsLineFault line code offset → IsReadFault line code offset
  nothing : AreTokens line [] → IsReadFault line codes.Empty 0
  ungrammatical : {code : Code} {offset : ℕ} {t : tokens.Token} {ts : List tokens.Token}
      → AreTokens line (t ∷ ts) → IsFault statement (length line) (t ∷ ts) (code, offset)
      → IsReadFault line code offset

-- where it is a fault, it is the one of the line
abbrev pub IsReadFaultOf : List ℕ → ReadFault → Type 0
IsReadFaultOf line faults.NoMemory = Unit {0}
IsReadFaultOf line (faults.At code offset) = IsReadFault line code offset

-- the answer is this, unless memory ran out
abbrev pub UnlessNoMemory : Result Statement ReadFault → Result Statement ReadFault → Type 0
UnlessNoMemory result answer = (result ≡ answer) ⊎ (result ≡ Err faults.NoMemory)
