-- How far a line is read.
use Rattle.std.proofs.Common.{◌≡◌, ℕ, ◌+◌, ◌-◌, ◌<◌, ◌≤◌, true, List, [], ◌∷◌, ◌++◌, length, take, drop, slice_index, sym, subst, arith, length-drop}
use Rattle.std.proofs.lemmas.List.{take_rest}
use Rattle.lexer_core.specs.declared.fault.ReadFault.{ReadFault}
use Rattle.lexer_core.specs.declared.fault.ReadFault.TheVariants as read_faults
use Rattle.lexer_core.specs.declared.token.TokenKind.{TokenKind}
use Rattle.lexer_core.specs.declared.token.Token as tokens
use Rattle.lexer_core.specs.Lexing.{Lexeme, kind_of, BeginsLexeme, BeginsKind, Fails, is_blank, Lexed, start, blank, token, AreTokens, IsFaultOf, IsLineFault, behind}
use Rattle.lexer_core.specs.Pushed.{IsPushed, IsFaultAt}

pub record Reached (line : List ℕ) (n : ℕ) (ts : List tokens.Token) : Type 0 where
  pub within : n ≤ length line
  pub short : length line ≤ 4096
  pub lexemes : List Lexeme
  pub lexed : Lexed line n ts lexemes

pub nothing : (line : List ℕ) → length line ≤ 4096 → Reached line 0 []
nothing line h = record { within = omega arith; short = h; lexemes = []; lexed = start }

module _ (line : List ℕ) (n : ℕ) (ts : List tokens.Token) (r : Reached line n ts) where
  pub one_blank : n < length line → is_blank (slice_index line n) ≡ true → Reached line (n + 1) ts
  one_blank h b = record { within = omega arith; short = r.short; lexemes = r.lexemes; lexed = blank r.lexed h b }

  pub one_token : (kind : TokenKind) (k : ℕ) → BeginsKind (take (length line - n) (drop n line)) kind k → Reached line (n + k) (ts ++ record { kind = kind; start = n; end = n + k } ∷ [])
  one_token kind k h =
      let b : BeginsLexeme (drop n line) h.lexeme k = subst (λ (bytes : List ℕ). BeginsLexeme bytes h.lexeme k) (take_rest line n) h.begins in
      let more : Lexed line (n + k) (ts ++ record { kind = kind_of h.lexeme; start = n; end = n + k } ∷ []) (r.lexemes ++ h.lexeme ∷ []) = token r.lexed b in
      record {
        within = omega (arith, b.within, length-drop n line, r.within);
        short = r.short;
        lexemes = r.lexemes ++ h.lexeme ∷ [];
        lexed = subst (λ (x : TokenKind). Lexed line (n + k) (ts ++ record { kind = x; start = n; end = n + k } ∷ []) (r.lexemes ++ h.lexeme ∷ [])) h.same more;
      }

  pub whole : length line ≤ n → AreTokens line ts
  whole h =
      let e : n ≡ length line = omega (arith, r.within) in
      record { short = r.short; lexemes = r.lexemes; lexed = subst (λ (m : ℕ). Lexed line m ts r.lexemes) e r.lexed }

  pub one_more : (after : List tokens.Token) (end : ℕ) → IsPushed (take (length line - n) (drop n line)) n ts after end → Reached line end after
  one_more after end p =
      let here : Reached line (n + p.len) (ts ++ record { kind = p.kind; start = n; end = n + p.len } ∷ []) = one_token p.kind p.len p.begins in
      let there : Reached line end (ts ++ record { kind = p.kind; start = n; end = end } ∷ []) = subst (λ (m : ℕ). Reached line m (ts ++ record { kind = p.kind; start = n; end = m } ∷ [])) (sym p.ends) here in
      subst (Reached line end) (sym p.pushed) there

  pub goes_on : (after : List tokens.Token) (end : ℕ) → IsPushed (take (length line - n) (drop n line)) n ts after end → n < end
  goes_on after end p = omega (arith, p.begins.begins.some, p.ends)

  pub one_fault : (e : ReadFault) → IsFaultAt (take (length line - n) (drop n line)) n e → IsFaultOf line e
  one_fault read_faults.NoMemory h = tt
  one_fault (read_faults.At code offset) h =
      let there : IsLineFault line code (n + h.0) = behind r.short r.lexed (subst (λ (bytes : List ℕ). Fails bytes code h.0) (take_rest line n) h.2) in
      subst (IsLineFault line code) (sym h.1) there
