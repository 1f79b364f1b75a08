-- A grammar as a machine that takes token after token: what it may still be, and the leftmost
-- fault.
use Rattle.std.specs.Prelude.{◌≡◌, ℕ, Bool, true, false, if◌then◌else◌, List, [], ◌∷◌, ◌++◌, Option, Some, None}
use Rattle.lexer_core.specs.declared.token.TokenKind.{TokenKind}
use Rattle.lexer_core.specs.declared.token.Token as tokens
use Rattle.lexer_core.specs.declared.fault.Code.{Code}
use Rattle.lexer_core.specs.declared.fault.Code.TheVariants as codes
use Rattle.reader_core.specs.Grammar.{Grammar, End, One, Case, Items, More, Rule, Fault, fits, followed_by, item_fault}

-- whether nothing may come
abbrev pub can_end : Grammar → Bool
can_end End = true
can_end (One c g) = false
can_end (Case c a b) = can_end b
can_end (Items r s i g) = false
can_end (More r s i g) = can_end g

-- each of the first tokens is as the list's rule wants it, after those seen
abbrev pub AreFaultless : Rule → List TokenKind → List TokenKind → Type 0
AreFaultless r seen [] = Unit {0}
AreFaultless r seen (t ∷ ts) = (item_fault r seen t ≡ None) × AreFaultless r (seen ++ t ∷ []) ts

-- what may follow a token, the first of the grammar
abbrev pub enter : Grammar → Grammar → TokenKind → Option Grammar
enter End k t = None
enter (One c g) k t = if fits c t then Some (followed_by g k) else None
enter (Case c a b) k t = if fits c t then Some (followed_by a k) else enter b k t
enter (Items r s i g) k t = None
enter (More r s i g) k t = None

-- the item's fault, and what may follow
abbrev pub with_fault : Option Code → Option Grammar → Option (Option Code × Grammar)
with_fault m None = None
with_fault m (Some g) = Some (m, g)

-- what a token makes of a grammar: its fault if it begins an item, and what may follow
abbrev pub step : Grammar → TokenKind → Option (Option Code × Grammar)
step End t = None
step (One c g) t = if fits c t then Some (None, g) else None
step (Case c a b) t = if fits c t then Some (None, a) else step b t
step (Items r s i g) t = with_fault (item_fault r s t) (enter i (More r (s ++ t ∷ []) i g) t)
step (More r s i g) t = if fits r.separator t then Some (None, Items r s i g) else step g t

-- the first token that is wrong, as its code and its place; or `Expected` at the end, where they
-- are not whole
unfoldable pub first_fault : ℕ → Grammar → List tokens.Token → Option Fault
first_fault end g [] = if can_end g then None else Some (codes.Expected, end)
first_fault end g (t ∷ ts) = elim (step g t.kind) [
  | None ↦ Some ((if can_end g then codes.Trailing else codes.Expected), t.start)
  | Some s ↦ elim s.0 [ None ↦ first_fault end s.1 ts | Some code ↦ Some (code, t.start) ]
]
