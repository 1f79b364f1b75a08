-- A ring's items from the back, and images behind their pointers.
use Rattle.std.proofs.Common.{◌≡◌, Bool, true, false, cond, List, [], ◌∷◌, ◌++◌, length, reverse, map, Some, option_map, refl, ap, sym, ◌∙◌}
use Rattle.std.specs.List.{find}
use Rattle.std.specs.Map.Iter.{TakesLast, deref}
use Rattle.std.specs.declared.iter.Rev.{Rev}
use Rattle.std.specs.Iterator.Adapters.{rev_source, rev_steps}
use Rattle.std.proofs.lemmas.List.{reverse-append, map-append}
use Rattle.std.proofs.lemmas.Iterator.{YieldsList}
use Rattle.std.proofs.lemmas.Iterator.Consumers.{YieldsList-from_shown}

-- a chain over a ring's items, the last first
pub YieldsList-from_rev_ring : {X : Type 0} {s : Rev (List X)} (xs : List X) → rev_source s ≡ xs → YieldsList (rev_steps (TakesLast (deref {X = X}))) (λ y. y.now) s (reverse xs)
YieldsList-from_rev_ring {X} {s} xs is =
    rw (← is) (YieldsList-from_shown (rev_steps (TakesLast (deref {X = X}))) (λ y. y.now) (λ r. reverse (rev_source r))
    (λ s t none. ap (λ l. length (reverse l)) none.0)
    (λ s x t some. ap reverse some ∙ reverse-append (rev_source t) (x.now ∷ []))
    s)

-- what is found behind pointers
pub find-map : {X Y : Type 0} (f : X → Y) (p : Y → Bool) (xs : List X) → option_map f (find (λ x. p (f x)) xs) ≡ find p (map f xs)
find-map f p [] = refl
find-map f p (x ∷ xs) = by (p (f x)) (find-map f p xs)
  where
    by : (b : Bool) → option_map f (find (λ x. p (f x)) xs) ≡ find p (map f xs)
        → option_map f (cond b (Some x) (find (λ x. p (f x)) xs)) ≡ cond b (Some (f x)) (find p (map f xs))
    by true rest = refl
    by false rest = rest

pub map-reverse : {X Y : Type 0} (f : X → Y) (xs : List X) → map f (reverse xs) ≡ reverse (map f xs)
map-reverse f [] = refl
map-reverse f (x ∷ xs) =
    ap (map f) (reverse-append (x ∷ []) xs)
    ∙ (map-append f (reverse xs) (x ∷ [])
    ∙ (ap (λ l. l ++ f x ∷ []) (map-reverse f xs)
    ∙ sym (reverse-append (f x ∷ []) (map f xs))))

pub map-map : {X Y Z : Type 0} (f : X → Y) (g : Y → Z) (xs : List X) → map (λ x. g (f x)) xs ≡ map g (map f xs)
map-map f g [] = refl
map-map f g (x ∷ xs) = ap (λ l. g (f x) ∷ l) (map-map f g xs)
