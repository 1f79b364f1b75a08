-- What a grammar means, and what is wrong with a list of tokens by it.
use Rattle.std.specs.Prelude.{◌≡◌, ℕ, Bool, true, false, List, [], ◌∷◌, ◌++◌, map, Option, Some, None}
use Rattle.lexer_core.specs.declared.token.TokenKind.{TokenKind}
use Rattle.lexer_core.specs.declared.token.Token as tokens
use Rattle.lexer_core.specs.declared.fault.Code.{Code}
use Rattle.lexer_core.specs.declared.fault.Code.TheVariants as codes
use Rattle.reader_core.specs.Grammar.{Grammar, End, One, Case, Items, More, Class, Rule, fits, item_fault, followed_by, Fault}

-- a token of a sentence, and what is wrong with it as the first of a list's item
pub record TokenWithFault : Type 0 where
  pub kind : TokenKind
  pub wrong : Option Code

-- a token without fault
abbrev pub faultless : TokenKind → TokenWithFault
faultless t = record { kind = t; wrong = None }

-- whether a token of the class comes next
abbrev pub is_next : Class → List TokenWithFault → Bool
is_next c [] = false
is_next c (s ∷ ss) = fits c s.kind

-- The tokens are a sentence of the grammar.
pub data Matches : Grammar → List TokenWithFault → Type 0 where
  done : Matches End []
  one : {c : Class} {g : Grammar} {t : TokenKind} {ss : List TokenWithFault} → fits c t ≡ true
      → Matches g ss → Matches (One c g) (faultless t ∷ ss)
  this : {c : Class} {a b : Grammar} {t : TokenKind} {ss : List TokenWithFault} → fits c t ≡ true
      → Matches a ss → Matches (Case c a b) (faultless t ∷ ss)
  other : {c : Class} {a b : Grammar} {ss : List TokenWithFault} → is_next c ss ≡ false
      → Matches b ss → Matches (Case c a b) ss
  item : {r : Rule} {s : List TokenKind} {i g : Grammar} {t : TokenKind} {ss : List TokenWithFault}
      → Matches (followed_by i (More r (s ++ t ∷ []) i g)) (faultless t ∷ ss)
      → Matches (Items r s i g) (record { kind = t; wrong = item_fault r s t } ∷ ss)
  next : {r : Rule} {s : List TokenKind} {i g : Grammar} {t : TokenKind} {ss : List TokenWithFault}
      → fits r.separator t ≡ true → Matches (Items r s i g) ss
      → Matches (More r s i g) (faultless t ∷ ss)
  last : {r : Rule} {s : List TokenKind} {i g : Grammar} {ss : List TokenWithFault}
      → is_next r.separator ss ≡ false → Matches g ss → Matches (More r s i g) ss

-- the tokens are a sentence, and no item of a list is wrong
abbrev pub IsSentence : Grammar → List TokenKind → Type 0
IsSentence g ks = Matches g (map faultless ks)

-- without fault so far, they begin a sentence
abbrev pub IsViablePrefix : Grammar → List TokenKind → Type 0
IsViablePrefix g ks = (ss : List TokenWithFault) × Matches g (map faultless ks ++ ss)

-- and so they do with one more, which has this fault or none
abbrev pub CanFollow : Grammar → List TokenKind → TokenKind → Option Code → Type 0
CanFollow g ks t wrong =
    (ss : List TokenWithFault)
    × Matches g (map faultless ks ++ record { kind = t; wrong = wrong } ∷ ss)

-- the token is wrong with this code, behind these
abbrev pub IsWrongAt : Grammar → List TokenKind → TokenKind → Code → Type 0
IsWrongAt g ks t codes.Trailing =
    IsSentence g ks × ((wrong : Option Code) → CanFollow g ks t wrong → ⊥)
IsWrongAt g ks t codes.Expected =
    (IsSentence g ks → ⊥) × ((wrong : Option Code) → CanFollow g ks t wrong → ⊥)
IsWrongAt g ks t codes.Duplicate = CanFollow g ks t (Some codes.Duplicate)
IsWrongAt g ks t codes.TooMany = CanFollow g ks t (Some codes.TooMany)
IsWrongAt g ks t _ = ⊥

-- the same of what comes next, a token or the end
abbrev pub IsWrongHere : Grammar → List TokenKind → ℕ → List tokens.Token → Fault → Type 0
IsWrongHere g ks end [] fault = (IsSentence g ks → ⊥) × (fault ≡ (codes.Expected, end))
IsWrongHere g ks end (t ∷ ts) fault = IsWrongAt g ks t.kind fault.0 × (fault.1 ≡ t.start)

-- The tokens before begin a sentence, and none of them is wrong; what comes then is.
pub record IsFault (g : Grammar) (end : ℕ) (ts : List tokens.Token) (fault : Fault) : Type 0 where
  pub before : List tokens.Token
  pub rest : List tokens.Token
  pub split : ts ≡ before ++ rest
  pub begins : IsViablePrefix g (map (λ t. t.kind) before)
  pub wrong : IsWrongHere g (map (λ t. t.kind) before) end rest fault
