-- Different numbers below n, as many as n, are all of them.
use Rattle.std.proofs.Common.{◌≡◌, ◌≢◌, ℕ, suc, ◌<◌, Bool, true, false, ◌||◌, eqb, List, [], ◌∷◌, map, length, arith, sym, refl, ap, ◌∙◌, All, AllPairs, Contains}
use Rattle.std.proofs.lemmas.List.{length-map}
use Rattle.std.proofs.lemmas.List.Elements.{All-cons, All-map, All-contains}
use Rattle.std.proofs.lemmas.List.Kept.{AllPairs-cons}
use Rattle.std.proofs.lemmas.Map.Made.{IsDistinct-from_AllPairs}
use Rattle.std.proofs.lemmas.Map.Steps.{length-le_from_distinct_below, le-length_from_below}
use Rattle.std.proofs.lemmas.Map.Views.{Contains-from_any, list_any-from_Contains}
use Rattle.std.specs.Cmp.{nat_eq_equiv, unsigned_Decides}
use Rattle.std.specs.List.{list_any, IsDistinct, AllByRecursion}
use Rattle.turnstile.specs.Passes.{TurnstileState, PassState}
use Rattle.turnstile.specs.Closed.{AreAll}

none_equal : (q : ℕ) (xs : List ℕ) → list_any (eqb q) xs ≡ false → AllByRecursion (λ y. eqb q y ≡ false) xs
none_equal q [] h = tt
none_equal q (x ∷ xs) h = go (none_equal q xs) (eqb q x) refl
  where
    go : (list_any (eqb q) xs ≡ false → AllByRecursion (λ y. eqb q y ≡ false) xs) → (b : Bool) → eqb q x ≡ b → AllByRecursion (λ y. eqb q y ≡ false) (x ∷ xs)
    go rest true e = absurd (let c : true ≡ false = sym (ap (λ b. b || list_any (eqb q) xs) e) ∙ h in cc)
    go rest false e = (e, rest (sym (ap (λ b. b || list_any (eqb q) xs) e) ∙ h))

one_more : (q : ℕ) (xs : List ℕ) → list_any (eqb q) xs ≡ false → IsDistinct eqb xs → IsDistinct eqb (q ∷ xs)
unfolding IsDistinct
one_more q xs h d = (none_equal q xs h, d)

every : (xs : List ℕ) (n : ℕ) → AllPairs (λ x y. x ≢ y) xs → All (λ x. x < n) xs → length xs ≡ n → (q : ℕ) → q < n → Contains xs q
every xs n apart below whole q less = go (list_any (eqb q) xs) refl
  where
    go : (b : Bool) → list_any (eqb q) xs ≡ b → Contains xs q
    go true h = Contains-from_any (λ x y e. (unsigned_Decides x y).0 e) q xs h
    go false h = absurd (let most = length-le_from_distinct_below (q ∷ xs) n (one_more q xs h (IsDistinct-from_AllPairs unsigned_Decides xs apart))
        (λ p has. All-contains (λ x. x < n) (q ∷ xs) p (All-cons (λ x. x < n) q xs less below) (Contains-from_any (λ x y e. (unsigned_Decides x y).0 e) p (q ∷ xs) has)) in omega arith)

module _ {X Y : Type 0} (f : X → Y) (R : Y → Y → Type 0) where
  AllPairs-map : (xs : List X) → AllPairs (λ x y. R (f x) (f y)) xs → AllPairs R (map f xs)
  AllPairs-map [] h = λ i j d l m. absurd (omega arith)
  AllPairs-map (x ∷ xs) h = AllPairs-cons R (f x) (map f xs) (All-map (R (f x)) f xs (λ k d l. h 0 (suc k) d (omega arith) (omega arith)))
      (AllPairs-map xs (λ i j d l m. h (suc i) (suc j) d (omega arith) (omega arith)))

module _ {E F : Type 0} (lock : TurnstileState F) (ps : List (PassState E F)) where
  abbrev number_of : PassState E F → ℕ
  number_of p = p.number

  pub are_all : length ps ≡ lock.count → AllPairs (λ p q. p.number ≢ q.number) ps → All (λ p. p.number < lock.count) ps → AreAll lock ps
  are_all whole apart below = record {
    apart = apart;
    below = below;
    each = every (map number_of ps) lock.count (AllPairs-map number_of (λ x y. x ≢ y) ps apart) (All-map (λ x. x < lock.count) number_of ps below) (length-map ps number_of ∙ whole);
  }

  -- the number of passes says whether they are all
  pub are_as_many : AreAll lock ps → length ps ≡ lock.count
  are_as_many all = let pairs = AllPairs-map number_of (λ x y. x ≢ y) ps all.apart in let below = All-map (λ x. x < lock.count) number_of ps all.below in
      let most = length-le_from_distinct_below (map number_of ps) lock.count (IsDistinct-from_AllPairs unsigned_Decides (map number_of ps) pairs)
      (λ q has. All-contains (λ x. x < lock.count) (map number_of ps) q below (Contains-from_any (λ x y e. (unsigned_Decides x y).0 e) q (map number_of ps) has)) in
      let least = le-length_from_below (map number_of ps) lock.count (λ q less. list_any-from_Contains nat_eq_equiv q (map number_of ps) (all.each q less)) in
      let long : length (map number_of ps) ≡ length ps = length-map ps number_of in omega arith

  pub not_all : length ps ≢ lock.count → ¬ AreAll lock ps
  not_all other all = other (are_as_many all)
