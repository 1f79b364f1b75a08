-- What it means that a grammar leaves no choice open.
use Rattle.std.specs.Prelude.{◌≡◌, Bool, true, false, ◌||◌, List, [], ◌∷◌, ◌++◌}
use Rattle.lexer_core.specs.declared.token.TokenKind.{TokenKind}
use Rattle.reader_core.specs.Grammar.{Grammar, End, One, Case, Items, More, Class, Rule, fits, item_fault, followed_by}
use Rattle.reader_core.specs.Matches.{TokenWithFault, faultless}

-- The tokens are a sentence by any choice: the same rules, but a part may be left out, or the next
-- one taken, whatever comes next.
pub data Derives : Grammar → List TokenWithFault → Type 0 where
  stop : Derives End []
  token : {c : Class} {g : Grammar} {t : TokenKind} {ss : List TokenWithFault} → fits c t ≡ true
      → Derives g ss → Derives (One c g) (faultless t ∷ ss)
  left : {c : Class} {a b : Grammar} {t : TokenKind} {ss : List TokenWithFault} → fits c t ≡ true
      → Derives a ss → Derives (Case c a b) (faultless t ∷ ss)
  right : {c : Class} {a b : Grammar} {ss : List TokenWithFault} → Derives b ss
      → Derives (Case c a b) ss
  first : {r : Rule} {s : List TokenKind} {i g : Grammar} {t : TokenKind} {ss : List TokenWithFault}
      → Derives (followed_by i (More r (s ++ t ∷ []) i g)) (faultless t ∷ ss)
      → Derives (Items r s i g) (record { kind = t; wrong = item_fault r s t } ∷ ss)
  further : {r : Rule} {s : List TokenKind} {i g : Grammar} {t : TokenKind} {ss : List TokenWithFault}
      → fits r.separator t ≡ true → Derives (Items r s i g) ss
      → Derives (More r s i g) (faultless t ∷ ss)
  behind : {r : Rule} {s : List TokenKind} {i g : Grammar} {ss : List TokenWithFault} → Derives g ss
      → Derives (More r s i g) ss

-- whether the tokens of the grammar, and then what begins by the test, can begin with this token
abbrev pub can_begin : Grammar → (TokenKind → Bool) → TokenKind → Bool
can_begin End follows t = follows t
can_begin (One c g) follows t = fits c t
can_begin (Case c a b) follows t = fits c t || can_begin b follows t
can_begin (Items r s i g) follows t =
    can_begin i (λ u. fits r.separator u || can_begin g follows u) t
can_begin (More r s i g) follows t = fits r.separator t || can_begin g follows t

-- no token of the class passes the test
abbrev pub IsApart : Class → (TokenKind → Bool) → Type 0
IsApart c test = (t : TokenKind) → fits c t ≡ true → test t ≡ false

-- Before what begins by the test, no choice of the grammar is between parts that begin with the
-- same token.
abbrev pub IsPredictive : Grammar → (TokenKind → Bool) → Type 0
IsPredictive End follows = Unit {0}
IsPredictive (One c g) follows = IsPredictive g follows
IsPredictive (Case c a b) follows =
    IsApart c (can_begin b follows) × IsPredictive a follows × IsPredictive b follows
IsPredictive (Items r s i g) follows =
    IsPredictive i (λ u. fits r.separator u || can_begin g follows u)
    × IsApart r.separator (can_begin g follows) × IsPredictive g follows
IsPredictive (More r s i g) follows =
    IsPredictive i (λ u. fits r.separator u || can_begin g follows u)
    × IsApart r.separator (can_begin g follows) × IsPredictive g follows

-- no token
abbrev pub no_token : TokenKind → Bool
no_token t = false
