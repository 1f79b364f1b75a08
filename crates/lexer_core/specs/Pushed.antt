-- One token more, or the fault that stands in its place.
use Rattle.std.specs.Prelude.{◌≡◌, ℕ, ◌+◌, List, [], ◌∷◌, ◌++◌}
use Rattle.lexer_core.specs.declared.fault.ReadFault.{ReadFault}
use Rattle.lexer_core.specs.declared.fault.ReadFault.TheVariants as read_faults
use Rattle.lexer_core.specs.declared.token.TokenKind.{TokenKind}
use Rattle.lexer_core.specs.declared.token.Token as tokens
use Rattle.lexer_core.specs.Lexing.{BeginsKind, Fails}

-- behind the tokens before stands one more: the one that the bytes begin with, from start to end
pub record IsPushed (bytes : List ℕ) (start : ℕ) (before after : List tokens.Token)
    (end : ℕ) : Type 0 where
  pub kind : TokenKind
  pub len : ℕ
  pub begins : BeginsKind bytes kind len
  pub ends : end ≡ start + len
  pub pushed : after ≡ before ++ record { kind = kind; start = start; end = end } ∷ []

-- the fault, told from start on, stands at the front of the bytes, or memory was refused
abbrev pub IsFaultAt : List ℕ → ℕ → ReadFault → Type 0
IsFaultAt bytes start read_faults.NoMemory = Unit {0}
IsFaultAt bytes start (read_faults.At code offset) =
    (by : ℕ) × (offset ≡ start + by) × Fails bytes code by
