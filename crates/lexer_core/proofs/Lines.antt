-- A line is read in one way, if what stands first is one thing.
use Rattle.std.proofs.Common.{◌≡◌, ℕ, ◌+◌, ◌<◌, true, List, [], ◌∷◌, ◌++◌, length, drop, slice_index, refl, sym, ◌∙◌, ap, subst, arith, length-drop}
use Rattle.lexer_core.specs.declared.token.Token as tokens
use Rattle.std.proofs.lemmas.List.{get_or-drop, drop_all}
use Rattle.std.proofs.Common.{get_or}
use Rattle.lexer_core.proofs.FirstToken.{once}
use Rattle.lexer_core.proofs.Class.{no_blank as token_no_blank}
use Rattle.lexer_core.proofs.FirstFault.{one_fault, no_blank, no_token, none_at_end}
use Rattle.lexer_core.proofs.Spelled.{are_said, lexemes_of}
use Rattle.lexer_core.specs.declared.fault.Code.{Code}
use Rattle.lexer_core.specs.Lexing.{AreTokens, Says, Lexeme, kind_of, BeginsLexeme, Fails, Lexed, start, blank, token, IsLineFault, long_line, behind, is_blank}

-- from place n with the tokens ts on, the reading comes to place m with the tokens us
pub data Reads (line : List ℕ) : ℕ → List tokens.Token → ℕ → List tokens.Token → Type 0 where
  here : {n : ℕ} {ts : List tokens.Token} → Reads line n ts n ts
  past : {n m : ℕ} {ts us : List tokens.Token} → n < length line → is_blank (slice_index line n) ≡ true → Reads line (n + 1) ts m us → Reads line n ts m us
  over : {n k m : ℕ} {ts us : List tokens.Token} {l : Lexeme} → BeginsLexeme (drop n line) l k → Reads line (n + k) (ts ++ record { kind = kind_of l; start = n; end = n + k } ∷ []) m us → Reads line n ts m us

module _ (line : List ℕ) where
  then_past : (n : ℕ) (ts : List tokens.Token) (m : ℕ) (us : List tokens.Token) → Reads line n ts m us → m < length line → is_blank (slice_index line m) ≡ true → Reads line n ts (m + 1) us
  then_past n ts _ _ here h b = past h b here
  then_past n ts m us (past g a r) h b = past g a (then_past (n + 1) ts m us r h b)
  then_past n ts m us (over {k = k} {l = l} a r) h b = over a (then_past (n + k) (ts ++ record { kind = kind_of l; start = n; end = n + k } ∷ []) m us r h b)

  then_over : (n : ℕ) (ts : List tokens.Token) (m : ℕ) (us : List tokens.Token) (l : Lexeme) (k : ℕ) → Reads line n ts m us → BeginsLexeme (drop m line) l k → Reads line n ts (m + k) (us ++ record { kind = kind_of l; start = m; end = m + k } ∷ [])
  then_over n ts _ _ l k here b = over b here
  then_over n ts m us l k (past g a r) b = past g a (then_over (n + 1) ts m us l k r b)
  then_over n ts m us l k (over {k = j} {l = i} a r) b = over a (then_over (n + j) (ts ++ record { kind = kind_of i; start = n; end = n + j } ∷ []) m us l k r b)

  pub reads : (n : ℕ) (ts : List tokens.Token) (ls : List Lexeme) → Lexed line n ts ls → Reads line 0 [] n ts
  reads _ _ _ start = here
  reads _ _ _ (blank {n} {ts} {ls} m h b) = then_past 0 [] n ts (reads n ts ls m) h b
  reads _ _ _ (token {n} {k} {ts} {ls} {l} m b) = then_over 0 [] n ts l k (reads n ts ls m) b

  -- nothing is read at n
  abbrev pub IsStop : ℕ → Type 0
  IsStop n = (n < length line → is_blank (slice_index line n) ≡ true → ⊥) × ((l : Lexeme) (k : ℕ) → BeginsLexeme (drop n line) l k → ⊥)

  module _ (once : (bytes : List ℕ) (l m : Lexeme) (n k : ℕ) → BeginsLexeme bytes l n → BeginsLexeme bytes m k → (l ≡ m) × (n ≡ k)) (apart : (n : ℕ) (l : Lexeme) (k : ℕ) → is_blank (slice_index line n) ≡ true → BeginsLexeme (drop n line) l k → ⊥) where
    pub one_stop : (n : ℕ) (ts : List tokens.Token) (m k : ℕ) (us vs : List tokens.Token) → Reads line n ts m us → Reads line n ts k vs → IsStop m → IsStop k → (m ≡ k) × (us ≡ vs)
    one_stop n ts _ _ _ _ here here x y = (refl, refl)
    one_stop n ts _ k _ vs here (past h b r) x y = absurd (x.0 h b)
    one_stop n ts _ k _ vs here (over {k = j} {l = l} b r) x y = absurd (x.1 l j b)
    one_stop n ts m _ us _ (past h b r) here x y = absurd (y.0 h b)
    one_stop n ts m k us vs (past h b r) (past g a s) x y = one_stop (n + 1) ts m k us vs r s x y
    one_stop n ts m k us vs (past h b r) (over {k = j} {l = l} a s) x y = absurd (apart n l j b a)
    one_stop n ts m _ us _ (over {k = j} {l = l} b r) here x y = absurd (y.1 l j b)
    one_stop n ts m k us vs (over {k = j} {l = l} b r) (past h a s) x y = absurd (apart n l j a b)
    one_stop n ts m k us vs (over {k = j} {l = l} b r) (over {k = q} {l = i} a s) x y =
        let e = once (drop n line) l i j q b a in
        one_stop (n + j) (ts ++ record { kind = kind_of l; start = n; end = n + j } ∷ []) m k us vs r
        (subst (λ (z : ℕ). Reads line (n + z) (ts ++ record { kind = kind_of l; start = n; end = n + z } ∷ []) k vs) (sym e.1)
        (subst (λ (z : Lexeme). Reads line (n + q) (ts ++ record { kind = kind_of z; start = n; end = n + q } ∷ []) k vs) (sym e.0) s)) x y

pub first_is : {A : Type 0} (line : List ℕ) (n : ℕ) (test : ℕ → A) (a : A) → test (slice_index line n) ≡ a → test (slice_index (drop n line) 0) ≡ a
first_is line n test a e = ap test (get_or-drop n line 0 0 ∙ ap (λ (m : ℕ). get_or line m 0) (let z : n + 0 ≡ n = omega arith in z)) ∙ e

apart_at : (line : List ℕ) (n : ℕ) (l : Lexeme) (k : ℕ) → is_blank (slice_index line n) ≡ true → BeginsLexeme (drop n line) l k → ⊥
apart_at line n l k e b = token_no_blank (drop n line) l k (first_is line n is_blank true e) b

end_stops : (line : List ℕ) → IsStop line (length line)
end_stops line = (λ h e. omega arith, λ l k b. omega (arith, b.some, b.within, length-drop (length line) line))

module _ (line : List ℕ) where
  stops_once : (n m : ℕ) (ts us : List tokens.Token) (ls ms : List Lexeme) → Lexed line n ts ls → Lexed line m us ms → IsStop line n → IsStop line m → (n ≡ m) × (ts ≡ us)
  stops_once n m ts us ls ms a b x y = one_stop line once (apart_at line) 0 [] n m ts us (reads line n ts ls a) (reads line m us ms b) x y

  -- a line has one list of tokens
  pub tokens_once : (ts us : List tokens.Token) → AreTokens line ts → AreTokens line us → ts ≡ us
  tokens_once ts us a b = (stops_once (length line) (length line) ts us a.lexemes b.lexemes a.lexed b.lexed (end_stops line) (end_stops line)).1

  -- and says one thing
  pub says_once : (said other : List Lexeme) → Says line said → Says line other → said ≡ other
  says_once said other a b =
      let same = (stops_once (length line) (length line) a.tokens_of b.tokens_of said other a.lexed b.lexed (end_stops line) (end_stops line)).1 in
      sym (are_said line (length line) a.tokens_of said a.lexed) ∙ (ap (lexemes_of line) same ∙ are_said line (length line) b.tokens_of other b.lexed)

  fault_stops : (n : ℕ) (c : Code) (by : ℕ) → Fails (drop n line) c by → IsStop line n
  fault_stops n c by f = (λ h e. no_blank (drop n line) c by f (first_is line n is_blank true e), λ l k b. no_token (drop n line) k c by l f b)

  -- and has one fault
  pub fault_once : (c d : Code) (m n : ℕ) → IsLineFault line c m → IsLineFault line d n → (c ≡ d) × (m ≡ n)
  fault_once _ _ _ _ (long_line h) (long_line g) = (refl, refl)
  fault_once _ _ _ _ (long_line h) (behind short lexed f) = absurd (omega arith)
  fault_once _ _ _ _ (behind short lexed f) (long_line h) = absurd (omega arith)
  fault_once _ _ _ _ (behind {n} {by} {c} {ts} {ls} short lexed f) (behind {n = m} {by = to} {c = d} {ts = us} {ls = ms} short' lexed' g) =
      let place = (stops_once n m ts us ls ms lexed lexed' (fault_stops n c by f) (fault_stops m d to g)).0 in
      let same = one_fault (drop n line) c d by to f (subst (λ (k : ℕ). Fails (drop k line) d to) (sym place) g) in
      (same.0, omega (arith, place, same.1))

  -- or says something
  pub says_no_fault : (said : List Lexeme) (c : Code) (at : ℕ) → Says line said → IsLineFault line c at → ⊥
  says_no_fault said _ _ a (long_line h) = omega (arith, a.short)
  says_no_fault said _ _ a (behind {n} {by} {c} {ts} {ls} short lexed f) =
      let place = (stops_once n (length line) ts a.tokens_of ls said lexed a.lexed (fault_stops n c by f) (end_stops line)).0 in
      none_at_end c by (subst (λ (bytes : List ℕ). Fails bytes c by) (drop_all n line (omega (arith, place))) f)
