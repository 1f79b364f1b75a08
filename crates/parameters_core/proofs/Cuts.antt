-- The first statement of a text.
use mathlib.Core.Logic.{⊎_elim}
use Rattle.std.proofs.Common.{◌≡◌, ℕ, ◌+◌, ◌<◌, ◌≤◌, Bool, true, false, not, List, [], ◌∷◌, ◌++◌, Option, Some, None, length, take, drop, get_or, refl, sym, ◌∙◌, ap, subst, arith, length-append}
use Rattle.std.specs.Prelude.{◌==◌}
use borrow.Author.Count.{below_more}
use Rattle.std.proofs.lemmas.Bool.{cases_order, and_parts, not-true}
use Rattle.std.proofs.lemmas.List.{take_at, get_or_at, get_or-take, take-take, take_all, take-append-drop, drop_more, length-take-le}
use Rattle.parameters_core.specs.Statements.{inside_behind, open_behind, ends_statement, IsClosed, IsOneStatement, StandsFirst}
use Rattle.lexer_core.proofs.Numbers.{equal}
use Rattle.parameters_core.proofs.Overlaps.{overlap, same_cut}
use Rattle.parameters_core.proofs.Quotes.{clash, one_turn}

-- no ";" before this place ends a statement
abbrev pub NoEndBefore : List ℕ → ℕ → Type 0
NoEndBefore text n = (k : ℕ) → k < n → get_or text k 0 ≡ 59 → open_behind false (take k text) ≡ true

pub one_before : (text : List ℕ) (n : ℕ) → n ≤ length text → NoEndBefore text n → IsOneStatement (take n text)
one_before text n within h front rest e =
    let k = length front in
    let size : length (take n text) ≡ n = length-take-le n text within in
    let inside : k < n = omega (arith, size, ap length e, length-append front (59 ∷ rest)) in
    let here : get_or text k 0 ≡ 59 = sym (get_or-take n text k 0 inside) ∙ (ap (λ (bytes : List ℕ). get_or bytes k 0) e ∙ get_or_at front 59 rest 0 k refl) in
    let before : take k text ≡ front = sym (take-take k n text (omega arith)) ∙ (ap (take k) e ∙ take_at front (59 ∷ rest) k refl) in
    subst (λ (bytes : List ℕ). open_behind false bytes ≡ true) before (h k inside here)

-- two statements that stand first, each before a ";"
shorter : (s t r u : List ℕ) → s ++ 59 ∷ r ≡ t ++ 59 ∷ u → IsClosed s → IsOneStatement t → length s < length t → ⊥
shorter s t r u e closed one h = let w = overlap s t (59 ∷ r) (59 ∷ u) e (omega arith) in by w.0 w.1 w.2
  where
    by : (ws : List ℕ) → t ≡ s ++ ws → 59 ∷ r ≡ ws ++ 59 ∷ u → ⊥
    by [] f g = omega (arith, ap length f, length-append s [])
    by (x ∷ ws) f g =
        let first : 59 ≡ x = cc in
        clash (open_behind false s) (one s ws (f ∙ ap (λ (z : ℕ). s ++ z ∷ ws) (sym first))) closed

pub first_once : (text s t : List ℕ) (r q : Option (List ℕ)) → StandsFirst text s r → StandsFirst text t q → (s ≡ t) × (r ≡ q)
first_once text s t None None a b = (sym a.0 ∙ b.0, refl)
first_once text s t None (Some q) a b = absurd (clash (open_behind false t) (a.1 t q (sym a.0 ∙ b.0)) b.1)
first_once text s t (Some r) None a b = absurd (clash (open_behind false s) (b.1 s r (sym b.0 ∙ a.0)) a.1)
first_once text s t (Some r) (Some q) a b =
    let e : s ++ 59 ∷ r ≡ t ++ 59 ∷ q = sym a.0 ∙ b.0 in
    ⊎_elim
    (λ same. let p = same_cut s t (59 ∷ r) (59 ∷ q) e same in let rest : r ≡ q = cc in (p.0, ap Some rest))
    (λ o. ⊎_elim (λ less. absurd (shorter s t r q e a.1 b.2 less)) (λ more. absurd (shorter t s q r (sym e) b.1 a.2 more)) o)
    (cases_order (length s) (length t))

-- ---- along the text
pub end_further : (text : List ℕ) (n : ℕ) → NoEndBefore text n → (get_or text n 0 ≡ 59 → open_behind false (take n text) ≡ true) → NoEndBefore text (n + 1)
end_further text n h here = below_more (λ k. get_or text k 0 ≡ 59 → open_behind false (take k text) ≡ true) n h here

-- a ";" that ends no statement stands inside a text
pub inside_there : (inside : Bool) (b : ℕ) → ends_statement inside b ≡ false → b ≡ 59 → inside ≡ true
inside_there true b e is = refl
inside_there false b e is = let t : ends_statement false 59 ≡ false = ap (ends_statement false) (sym is) ∙ e in cc t

pub no_end_here : (text : List ℕ) (n b : ℕ) (inside : Bool) → b ≡ get_or text n 0 → inside ≡ open_behind false (take n text) → ends_statement inside b ≡ false → get_or text n 0 ≡ 59 → open_behind false (take n text) ≡ true
no_end_here text n b inside is open_is e f = sym open_is ∙ inside_there inside b e (is ∙ f)

pub one_byte : (text : List ℕ) (n : ℕ) (inside next : Bool) → inside ≡ open_behind false (take n text) → NoEndBefore text n → n < length text → ends_statement inside (get_or text n 0) ≡ false → next ≡ inside_behind inside (get_or text n 0)
    → (next ≡ open_behind false (take (n + 1) text)) × NoEndBefore text (n + 1)
one_byte text n inside next is h less e f = (
  one_turn text n inside next is less f,
  end_further text n h (no_end_here text n (get_or text n 0) inside refl is e),
)

pub end_here : (inside : Bool) (b : ℕ) → ends_statement inside b ≡ true → (b ≡ 59) × (inside ≡ false)
end_here inside b e =
    let p = and_parts (b == 59) (not inside) e in
    (equal b 59 p.0, not-true inside p.1)

-- the statement that stands first, by how long it is
pub first_with : (text rest : List ℕ) (n : ℕ) → n < length text → IsOneStatement (take n text) → IsClosed (take n text) → get_or text n 0 ≡ 59 → rest ≡ drop (n + 1) text → StandsFirst text (take n text) (Some rest)
first_with text rest n h one closed ends is =
    let here : drop n text ≡ 59 ∷ rest = drop_more text n 0 h ∙ (ap (λ (b : ℕ). b ∷ drop (n + 1) text) ends ∙ ap (λ (bytes : List ℕ). 59 ∷ bytes) (sym is)) in
    (sym (take-append-drop n text) ∙ ap (λ (bytes : List ℕ). take n text ++ bytes) here, closed, one)

pub last_with : (text : List ℕ) (n : ℕ) → length text ≤ n → IsOneStatement (take n text) → StandsFirst text text None
last_with text n h one = (refl, subst IsOneStatement (take_all n text h) one)
