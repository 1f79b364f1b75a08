-- Where texts are open, byte by byte.
use Rattle.std.proofs.Common.{◌≡◌, ℕ, ◌+◌, ◌<◌, Bool, true, false, not, List, [], ◌∷◌, ◌++◌, length, take, get_or, refl, sym, ◌∙◌, ap}
use Rattle.std.specs.Prelude.{◌==◌, if◌then◌else◌}
use Rattle.std.proofs.lemmas.List.{take_more}
use Rattle.parameters_core.specs.Statements.{inside_behind, open_behind}

pub open-append : (q : Bool) (xs ys : List ℕ) → open_behind q (xs ++ ys) ≡ open_behind (open_behind q xs) ys
open-append q [] ys = refl
open-append q (x ∷ xs) ys = open-append (inside_behind q x) xs ys

pub open_more : (q : Bool) (xs : List ℕ) (i : ℕ) → i < length xs → open_behind q (take (i + 1) xs) ≡ inside_behind (open_behind q (take i xs)) (get_or xs i 0)
open_more q xs i h = ap (open_behind q) (take_more xs i 0 h) ∙ open-append q (take i xs) (get_or xs i 0 ∷ [])

-- the same along a text that is gone over
pub one_turn : (text : List ℕ) (n : ℕ) (inside next : Bool) → inside ≡ open_behind false (take n text) → n < length text → next ≡ inside_behind inside (get_or text n 0) → next ≡ open_behind false (take (n + 1) text)
one_turn text n inside next is h e = e ∙ (ap (λ (q : Bool). inside_behind q (get_or text n 0)) is ∙ sym (open_more false text n h))

pub twice : (q : Bool) → not (not q) ≡ q
twice true = refl
twice false = refl

-- a byte that is no quote turns nothing
pub turns_not : (q : Bool) (b : ℕ) → (b == 39) ≡ false → inside_behind q b ≡ q
turns_not q b e = ap (λ (x : Bool). if x then not q else q) e

-- what is open at first and behind is never both open and closed
pub clash : {A : Type 0} (q : Bool) → q ≡ true → q ≡ false → A
clash q e f = let t : true ≡ false = sym e ∙ f in cc t
