-- What a line says, told from its front on.
use Rattle.std.proofs.Common.{◌≡◌, ℕ, ◌+◌, ◌<◌, ◌≤◌, true, List, [], ◌∷◌, ◌++◌, length, drop, get_or, refl, sym, ◌∙◌, ap, subst, arith, append_assoc, length-drop}
use Rattle.std.proofs.lemmas.List.{append-nil, drop_more, drop_all, drop-drop}
use Rattle.lexer_core.specs.declared.token.Token as tokens
use Rattle.lexer_core.specs.Lexing.{Lexeme, kind_of, is_blank, BeginsLexeme, Lexed, start, blank, token, Says}
use Rattle.lexer_core.proofs.Class.{no_blank}
use Rattle.lexer_core.proofs.FirstToken.{once}

-- the bytes say these things one after another
pub data Told : List ℕ → List Lexeme → Type 0 where
  done : Told [] []
  past : {b : ℕ} {bs : List ℕ} {ls : List Lexeme} → is_blank b ≡ true → Told bs ls → Told (b ∷ bs) ls
  over : {bytes : List ℕ} {l : Lexeme} {k : ℕ} {ls : List Lexeme} → BeginsLexeme bytes l k → Told (drop k bytes) ls → Told bytes (l ∷ ls)

module _ (line : List ℕ) where
  told_from : (n : ℕ) (ts : List tokens.Token) (ls ms : List Lexeme) → Lexed line n ts ls → Told (drop n line) ms → Told line (ls ++ ms)
  told_from _ _ _ ms start t = t
  told_from _ _ _ ms (blank {n} {ts} {ls} m h b) t =
      told_from n ts ls ms m (subst (λ (bytes : List ℕ). Told bytes ms) (sym (drop_more line n 0 h)) (past b t))
  told_from _ _ _ ms (token {n} {k} {ts} {ls} {l} m b) t =
      let rest : Told (drop k (drop n line)) ms = subst (λ (bytes : List ℕ). Told bytes ms) (sym (drop-drop k n line)) t in
      subst (Told line) (sym (append_assoc ls (l ∷ []) ms)) (told_from n ts ls (l ∷ ms) m (over b rest))

  pub told : (said : List Lexeme) → Says line said → Told line said
  told said s =
      let end : drop (length line) line ≡ [] = drop_all (length line) line (omega arith) in
      subst (Told line) (append-nil said) (told_from (length line) s.tokens_of said [] s.lexed (subst (λ (bytes : List ℕ). Told bytes []) (sym end) done))

  abbrev Ends : List Lexeme → Type 0
  Ends said = (ts : List tokens.Token) × Lexed line (length line) ts said

  lexed_from : (bytes : List ℕ) (ms : List Lexeme) → Told bytes ms → (n : ℕ) (ts : List tokens.Token) (ls : List Lexeme) → bytes ≡ drop n line → n ≤ length line → Lexed line n ts ls → Ends (ls ++ ms)
  lexed_from _ _ done n ts ls e h m =
      let end : n ≡ length line = omega (arith, h, ap length e, length-drop n line) in
      (ts, subst (λ (x : List Lexeme). Lexed line (length line) ts x) (sym (append-nil ls)) (subst (λ (k : ℕ). Lexed line k ts ls) end m))
  lexed_from _ _ (past {b} {bs} {ls = ms} i t) n ts ls e h m =
      let inside : n < length line = omega (arith, ap length e, length-drop n line) in
      let both : b ∷ bs ≡ get_or line n 0 ∷ drop (n + 1) line = e ∙ drop_more line n 0 inside in
      let first : b ≡ get_or line n 0 = cc in
      let rest : bs ≡ drop (n + 1) line = cc in
      lexed_from bs ms t (n + 1) ts ls rest (omega (arith, inside)) (blank m inside (ap is_blank (sym first) ∙ i))
  lexed_from bytes _ (over {l = l} {k = k} {ls = ms} b t) n ts ls e h m =
      let here : BeginsLexeme (drop n line) l k = subst (λ (x : List ℕ). BeginsLexeme x l k) e b in
      let rest : drop k bytes ≡ drop (n + k) line = ap (drop k) e ∙ drop-drop k n line in
      let more = lexed_from (drop k bytes) ms t (n + k) (ts ++ record { kind = kind_of l; start = n; end = n + k } ∷ []) (ls ++ l ∷ []) rest (omega (arith, h, here.within, length-drop n line)) (token m here) in
      (more.0, subst (λ (x : List Lexeme). Lexed line (length line) more.0 x) (append_assoc ls (l ∷ []) ms) more.1)

  pub says : (said : List Lexeme) → length line ≤ 4096 → Told line said → Says line said
  says said h t =
      let r = lexed_from line said t 0 [] [] refl (omega arith) start in
      record { short = h; tokens_of = r.0; lexed = r.1 }

-- behind a blank
pub told_past : (bytes bs : List ℕ) (ls : List Lexeme) → Told bytes ls → bytes ≡ 32 ∷ bs → Told bs ls
told_past _ bs _ done e = absurd (omega (arith, ap length e))
told_past _ bs _ (past {b} {bs = cs} {ls} i t) e = let same : cs ≡ bs = cc in subst (λ (x : List ℕ). Told x ls) same t
told_past bytes bs _ (over {l = l} {k = k} b t) e =
    let first : is_blank (get_or bytes 0 0) ≡ true = ap (λ (x : List ℕ). is_blank (get_or x 0 0)) e in
    absurd (no_blank bytes l k first b)

-- behind the token that stands first
pub told_over : (bytes : List ℕ) (l : Lexeme) (k : ℕ) (said : List Lexeme) → BeginsLexeme bytes l k → Told bytes said → (ls : List Lexeme) × (said ≡ l ∷ ls) × Told (drop k bytes) ls
told_over _ l k _ b done = absurd (omega (arith, b.some, b.within))
told_over _ l k _ b (past {b = x} {bs} i t) = absurd (no_blank (x ∷ bs) l k i b)
told_over bytes l k _ b (over {l = m} {k = n} {ls = ls} c t) =
    let same = once bytes l m k n b c in
    (ls, ap (λ (x : Lexeme). x ∷ ls) (sym same.0), subst (λ (j : ℕ). Told (drop j bytes) ls) (sym same.1) t)
