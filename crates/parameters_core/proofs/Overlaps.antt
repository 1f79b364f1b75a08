-- Two ways to cut a list in two.
use Rattle.std.proofs.Common.{◌≡◌, ℕ, ◌<◌, ◌≤◌, List, [], ◌∷◌, ◌++◌, length, get_or, refl, sym, ◌∙◌, ap, arith}

-- the shorter front begins the longer one
pub overlap : (xs ys us vs : List ℕ) → xs ++ us ≡ ys ++ vs → length xs ≤ length ys → (ws : List ℕ) × (ys ≡ xs ++ ws) × (us ≡ ws ++ vs)
overlap [] ys us vs e h = (ys, refl, e)
overlap (x ∷ xs) [] us vs e h = absurd (omega (arith, h))
overlap (x ∷ xs) (y ∷ ys) us vs e h =
    let both : x ∷ (xs ++ us) ≡ y ∷ (ys ++ vs) = e in
    let first : x ≡ y = cc in
    let rest : xs ++ us ≡ ys ++ vs = cc in
    let r = overlap xs ys us vs rest (omega (arith, h)) in
    (r.0, ap (λ (z : ℕ). z ∷ ys) (sym first) ∙ ap (λ (zs : List ℕ). x ∷ zs) r.1, r.2)

-- fronts of one length are one
pub same_cut : (xs ys us vs : List ℕ) → xs ++ us ≡ ys ++ vs → length xs ≡ length ys → (xs ≡ ys) × (us ≡ vs)
same_cut [] [] us vs e h = (refl, e)
same_cut [] (y ∷ ys) us vs e h = absurd (omega (arith, h))
same_cut (x ∷ xs) [] us vs e h = absurd (omega (arith, h))
same_cut (x ∷ xs) (y ∷ ys) us vs e h =
    let both : x ∷ (xs ++ us) ≡ y ∷ (ys ++ vs) = e in
    let first : x ≡ y = cc in
    let rest : xs ++ us ≡ ys ++ vs = cc in
    let r = same_cut xs ys us vs rest (omega (arith, h)) in
    (ap (λ (z : ℕ). z ∷ xs) first ∙ ap (λ (zs : List ℕ). y ∷ zs) r.0, r.1)

-- what stands first in the second part
pub first_of_both : (xs ys : List ℕ) → 0 < length xs → get_or (xs ++ ys) 0 0 ≡ get_or xs 0 0
first_of_both [] ys h = absurd (omega (arith, h))
first_of_both (x ∷ xs) ys h = refl
