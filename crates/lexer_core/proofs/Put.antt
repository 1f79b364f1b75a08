-- A token is put behind the others, or a fault stands at the front.
use Rattle.std.proofs.Common.{◌≡◌, ℕ, ◌+◌, List, [], ◌∷◌, ◌++◌, Result, Ok, Err, sym, subst, arith}
use Rattle.std.specs.Prelude.{MatchResult}
use Rattle.lexer_core.specs.declared.fault.Code.{Code}
use Rattle.lexer_core.specs.declared.fault.ReadFault.{ReadFault}
use Rattle.lexer_core.specs.declared.fault.ReadFault.TheVariants as read_faults
use Rattle.lexer_core.specs.declared.token.TokenKind.{TokenKind}
use Rattle.lexer_core.specs.declared.token.Token as tokens
use Rattle.lexer_core.specs.Lexing.{BeginsKind, Fails}
use Rattle.lexer_core.specs.Pushed.{IsPushed, IsFaultAt}

module _ (bytes : List ℕ) (start : ℕ) where
  -- what `Token::push` made of the token that stands first
  pub put : (before after : List tokens.Token) (kind : TokenKind) (len : ℕ) (r : Result ℕ ReadFault) → BeginsKind bytes kind len → MatchResult r (λ end. (end ≡ start + len) × (after ≡ before ++ record { kind = kind; start = start; end = end } ∷ [])) (λ e. e ≡ read_faults.NoMemory) → MatchResult r (λ end. IsPushed bytes start before after end) (λ e. IsFaultAt bytes start e)
  put before after kind len (Ok end) begins h = record { kind = kind; len = len; begins = begins; ends = h.0; pushed = h.1 }
  put before after kind len (Err e) begins h = subst (IsFaultAt bytes start) (sym h) tt

  pub fault_first : (code : Code) → Fails bytes code 0 → IsFaultAt bytes start (read_faults.At code start)
  fault_first code h = (0, omega arith, h)
