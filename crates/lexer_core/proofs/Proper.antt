-- What a line says is proper.
use Rattle.std.proofs.Common.{◌≡◌, ℕ, Bool, true, false, List, All, Some, None, refl, subst}
use Rattle.std.specs.Prelude.{if◌then◌else◌}
use Rattle.std.proofs.lemmas.List.Elements.{All-nil, All-push}
use Rattle.base_core.specs.Words.{is_name, folded, IsName}
use Rattle.lexer_core.specs.Lexing.{Lexeme, Key, Named, Number, Text, Sign, SpellsLexeme, Lexed, start, blank, token, IsProper}
use Rattle.lexer_core.specs.declared.token.Token as tokens
use Rattle.base_core.proofs.Folded.{IsName-folded}
use Rattle.lexer_core.proofs.Undoubled.{quoted_text}

proper_of : (l : Lexeme) (bytes : List ℕ) → SpellsLexeme l bytes → IsProper l
proper_of (Key k) bytes p = tt
proper_of (Named n) bytes p = go (is_name bytes) refl p.1
  where
    go : (b : Bool) → is_name bytes ≡ b → (if b then Some (folded bytes) else None) ≡ Some n → IsName n
    go true h e = let same : folded bytes ≡ n = cc in subst IsName same (IsName-folded bytes h)
    go false h e = cc
proper_of (Number z) bytes p = p.fits
proper_of (Text t) bytes p = quoted_text t bytes p
proper_of (Sign m) bytes p = tt

pub proper_lexed : (line : List ℕ) (n : ℕ) (ts : List tokens.Token) (said : List Lexeme) → Lexed line n ts said → All IsProper said
proper_lexed line _ _ _ start = All-nil IsProper
proper_lexed line _ _ _ (blank {n} {ts} {ls} m h b) = proper_lexed line n ts ls m
proper_lexed line _ _ _ (token {n} {k} {ts} {ls} {l} m b) = All-push IsProper ls l (proper_lexed line n ts ls m) (proper_of l _ b.spelled)
