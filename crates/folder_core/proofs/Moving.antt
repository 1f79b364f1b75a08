-- States that are known, one behind another.
use Rattle.std.proofs.Common.{None, Some, Option, IfSome, refl, subst, sym}
use Rattle.folder_core.specs.Calls.{TextState, Moves}

-- two moves are one
pub moves_then : (A B C : TextState → TextState → Type 0) → ((s t u : TextState) → A s t → B t u → C s u) → (o p q : Option TextState) → Moves A o p → Moves B p q → Moves C o q
moves_then A B C both None p q a b = subst (λ (x : Option TextState). Moves B x q) a b
moves_then A B C both (Some s) p q (t, is, a) b =
    let (u, is', b') = subst (λ (x : Option TextState). Moves B x q) is b in
    (u, is', both s t u a b')

-- what a move says of its end
pub moved_has : (A : TextState → TextState → Type 0) (P Q : TextState → Type 0) → ((s t : TextState) → P s → A s t → Q t) → (o p : Option TextState) → IfSome o P → Moves A o p → IfSome p Q
moved_has A P Q says None p h a = subst (λ (x : Option TextState). IfSome x Q) (sym a) tt
moved_has A P Q says (Some s) p h (t, is, a) = subst (λ (x : Option TextState). IfSome x Q) (sym is) (says s t h a)

-- a move that says more
pub moved_more : (A B : TextState → TextState → Type 0) (P : TextState → Type 0) → ((s t : TextState) → P s → A s t → B s t) → (o p : Option TextState) → IfSome o P → Moves A o p → Moves B o p
moved_more A B P says None p h a = a
moved_more A B P says (Some s) p h (t, is, a) = (t, is, says s t h a)

-- no move
pub not_moved : (A : TextState → TextState → Type 0) (P : TextState → Type 0) → ((s : TextState) → P s → A s s) → (o : Option TextState) → IfSome o P → Moves A o o
not_moved A P says None h = refl
not_moved A P says (Some s) h = (s, refl, says s h)
