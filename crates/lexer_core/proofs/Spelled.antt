-- What the tokens of a line say, and how they lie.
use Rattle.std.proofs.Common.{◌≡◌, ℕ, ◌+◌, ◌-◌, ◌≤◌, All, List, [], ◌∷◌, ◌++◌, length, map, take, drop, refl, sym, ◌∙◌, ap, subst, arith, length-drop}
use Rattle.std.proofs.lemmas.List.{map-append}
use Rattle.std.proofs.lemmas.List.Elements.{All-nil, All-append, All-cons}
use Rattle.std.proofs.lemmas.List.Quantifiers.{all_pairs_push}
use Rattle.std.specs.List.{AllPairs}
use Rattle.lexer_core.specs.declared.token.Token as tokens
use Rattle.lexer_core.specs.Lexing.{Lexeme, Key, Named, Number, Text, Sign, kind_of, SpellsLexeme, BeginsLexeme, Lexed, start, blank, token, IsSpelled, lexeme_of, located, AreSpelled, AreTokens, Says}
use Rattle.lexer_core.proofs.Undoubled.{says_unquoted}

-- a token says what its slice spells
says_lexeme : (l : Lexeme) (bytes : List ℕ) → SpellsLexeme l bytes → lexeme_of (kind_of l) bytes ≡ l
says_lexeme (Key k) bytes s = refl
says_lexeme (Named n) bytes s = refl
says_lexeme (Number z) bytes s = refl
says_lexeme (Text t) bytes s = ap (λ (u : List ℕ). Text u) (sym (says_unquoted t bytes s))
says_lexeme (Sign m) bytes s = refl

-- what each token of a line says
abbrev pub lexemes_of : List ℕ → List tokens.Token → List Lexeme
lexemes_of line ts = map (λ (t : tokens.Token). (located line t).lexeme) ts

abbrev IsBefore : tokens.Token → tokens.Token → Type 0
IsBefore earlier later = earlier.end ≤ later.start

module _ (line : List ℕ) where
  one_heard : (ts : List tokens.Token) (t : tokens.Token) → AreSpelled line ts → IsSpelled line t (located line t).lexeme → AreSpelled line (ts ++ t ∷ [])
  one_heard [] t h s = (s, tt)
  one_heard (u ∷ ts) t h s = (h.0, one_heard ts t h.1 s)

  ends_before : (n m : ℕ) (ts : List tokens.Token) → n ≤ m → All (λ (t : tokens.Token). t.end ≤ n) ts → All (λ (t : tokens.Token). t.end ≤ m) ts
  ends_before n m ts h a k d l = omega (arith, a k d l)

  module _ (n k : ℕ) (l : Lexeme) (b : BeginsLexeme (drop n line) l k) where
    abbrev here : tokens.Token
    here = record { kind = kind_of l; start = n; end = n + k }

    slice : SpellsLexeme l (take ((n + k) - n) (drop n line))
    slice = let e : (n + k) - n ≡ k = omega arith in subst (λ (m : ℕ). SpellsLexeme l (take m (drop n line))) (sym e) b.spelled

    lexeme_here : (located line here).lexeme ≡ l
    lexeme_here = says_lexeme l (take ((n + k) - n) (drop n line)) slice

    spelled_here : IsSpelled line here (located line here).lexeme
    spelled_here = subst (IsSpelled line here) (sym lexeme_here) record {
      kind = refl;
      some = omega (arith, b.some);
      within = omega (arith, b.some, b.within, length-drop n line);
      spelled = slice;
    }

  are_heard : (n : ℕ) (ts : List tokens.Token) (ls : List Lexeme) → Lexed line n ts ls → AreSpelled line ts
  are_heard _ _ _ start = tt
  are_heard _ _ _ (blank {n} {ts} {ls} m h b) = are_heard n ts ls m
  are_heard _ _ _ (token {n} {k} {ts} {ls} {l} m b) = one_heard ts (here n k l b) (are_heard n ts ls m) (spelled_here n k l b)

  pub are_said : (n : ℕ) (ts : List tokens.Token) (ls : List Lexeme) → Lexed line n ts ls → lexemes_of line ts ≡ ls
  are_said _ _ _ start = refl
  are_said _ _ _ (blank {n} {ts} {ls} m h b) = are_said n ts ls m
  are_said _ _ _ (token {n} {k} {ts} {ls} {l} m b) =
      map-append (λ (t : tokens.Token). (located line t).lexeme) ts (here n k l b ∷ [])
      ∙ (ap (λ (ms : List Lexeme). ms ++ (located line (here n k l b)).lexeme ∷ []) (are_said n ts ls m)
      ∙ ap (λ (x : Lexeme). ls ++ x ∷ []) (lexeme_here n k l b))

  are_ended : (n : ℕ) (ts : List tokens.Token) (ls : List Lexeme) → Lexed line n ts ls → All (λ (t : tokens.Token). t.end ≤ n) ts
  are_ended _ _ _ start = All-nil (λ (t : tokens.Token). t.end ≤ 0)
  are_ended _ _ _ (blank {n} {ts} {ls} m h b) = ends_before n (n + 1) ts (omega arith) (are_ended n ts ls m)
  are_ended _ _ _ (token {n} {k} {ts} {ls} {l} m b) =
      All-append (λ (t : tokens.Token). t.end ≤ n + k) ts (here n k l b ∷ []) (ends_before n (n + k) ts (omega arith) (are_ended n ts ls m))
      (All-cons (λ (t : tokens.Token). t.end ≤ n + k) (here n k l b) [] (omega arith) (All-nil (λ (t : tokens.Token). t.end ≤ n + k)))

  are_ordered : (n : ℕ) (ts : List tokens.Token) (ls : List Lexeme) → Lexed line n ts ls → AllPairs IsBefore ts
  are_ordered _ _ _ start = λ i j d h k. absurd (omega (arith, k))
  are_ordered _ _ _ (blank {n} {ts} {ls} m h b) = are_ordered n ts ls m
  are_ordered _ _ _ (token {n} {k} {ts} {ls} {l} m b) = all_pairs_push IsBefore ts (here n k l b) (are_ordered n ts ls m) (are_ended n ts ls m)

  module _ (ts : List tokens.Token) (a : AreTokens line ts) where
    pub tokens_heard : AreSpelled line ts
    tokens_heard = are_heard (length line) ts a.lexemes a.lexed

    pub tokens_say : Says line (map (λ (t : tokens.Token). (located line t).lexeme) ts)
    tokens_say = record { short = a.short; tokens_of = ts; lexed = subst (Lexed line (length line) ts) (sym (are_said (length line) ts a.lexemes a.lexed)) a.lexed }

    pub tokens_within : All (λ (t : tokens.Token). t.end ≤ length line) ts
    tokens_within = are_ended (length line) ts a.lexemes a.lexed

    pub tokens_ordered : AllPairs IsBefore ts
    tokens_ordered = are_ordered (length line) ts a.lexemes a.lexed
