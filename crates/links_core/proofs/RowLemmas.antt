-- The ends of a block behind those that are gone.
use Rattle.std.proofs.Common.{◌≡◌, ◌∙◌, ℕ, ◌+◌, ◌≤◌, List, [], ◌∷◌, ◌++◌, length, take, drop, append_assoc, ap, sym, refl, zero, suc, arith}
use Rattle.std.proofs.Math.Seq.{drop-nil}

module _ {A : Type 0} where
  -- **a change behind the first items, of which some are gone, is the change of the others**
  pub spliced_behind : (xs zs : List A) (gone i m j k : ℕ) → gone ≤ length xs → j ≡ gone + i → k ≡ gone + m → drop gone (take j xs ++ (zs ++ drop k xs)) ≡ take i (drop gone xs) ++ (zs ++ drop m (drop gone xs))
  spliced_behind xs zs zero i m j k le here there =
      let at : j ≡ i = omega (arith, here) in
      let from : k ≡ m = omega (arith, there) in
      ap (λ n. take n xs ++ (zs ++ drop k xs)) at ∙ ap (λ n. take i xs ++ (zs ++ drop n xs)) from
  spliced_behind [] zs (suc gone) i m j k le here there = absurd (omega (arith, le))
  spliced_behind (x ∷ xs) zs (suc gone) i m zero k le here there = absurd (omega (arith, here))
  spliced_behind (x ∷ xs) zs (suc gone) i m (suc j) zero le here there = absurd (omega (arith, there))
  spliced_behind (x ∷ xs) zs (suc gone) i m (suc j) (suc k) le here there = spliced_behind xs zs gone i m j k (omega (arith, le)) (omega (arith, here)) (omega (arith, there))

  drop_taken : (xs ys : List A) (d : ℕ) → d ≤ length xs → drop d (take d xs ++ ys) ≡ ys
  drop_taken xs ys zero le = refl
  drop_taken [] ys (suc d) le = absurd (omega (arith, le))
  drop_taken (x ∷ xs) ys (suc d) le = drop_taken xs ys d (omega (arith, le))

  dropped_behind : (xs : List A) (gone m k : ℕ) → k ≡ gone + m → drop k xs ≡ drop m (drop gone xs)
  dropped_behind xs zero m k is = let same : k ≡ m = omega (arith, is) in ap (λ n. drop n xs) same
  dropped_behind [] (suc gone) m k is = drop-nil k ∙ sym (drop-nil m)
  dropped_behind (x ∷ xs) (suc gone) m zero is = absurd (omega (arith, is))
  dropped_behind (x ∷ xs) (suc gone) m (suc k) is = dropped_behind xs gone m k (omega (arith, is))

  -- **the first i items behind the gone ones moved up by one, and one more is gone**
  pub moved_up : (xs : List A) (gone i n d k : ℕ) → n ≡ i → d ≡ gone + 1 → k ≡ gone + (i + 1) → d ≤ length xs → drop d ((take d xs ++ take n (drop gone xs)) ++ drop k xs) ≡ take i (drop gone xs) ++ drop (i + 1) (drop gone xs)
  moved_up xs gone i n d k same first there le =
      ap (drop d) (append_assoc (take d xs) (take n (drop gone xs)) (drop k xs))
      ∙ drop_taken xs (take n (drop gone xs) ++ drop k xs) d le
      ∙ ap (λ m. take m (drop gone xs) ++ drop k xs) same
      ∙ ap (λ l. take i (drop gone xs) ++ l) (dropped_behind xs gone (i + 1) k there)
