-- The grants of one number, and what the effects on a grant make of them.
use Rattle.std.proofs.Common.{◌≡◌, ◌≢◌, ℕ, Bool, true, false, not, cond, List, [], ◌∷◌, map, length, refl, sym, ap, ◌∙◌}
use Rattle.std.specs.List.{filter}
use Rattle.std.proofs.lemmas.Bool.{eqb-true, ne_eqb}
use Rattle.std.proofs.lemmas.List.{length-map}
use Rattle.grants_core.specs.declared.grant.Grant.{Grant}
use Rattle.grants_core.specs.Content.{option_off}
use Rattle.grants_core.proofs.OptionLemmas.{option_kept, options_filter}
use Rattle.stream_core.specs.Effects.{has_number}

abbrev pub of_number : ℕ → List Grant → List Grant
of_number n gs = filter (has_number n) gs

abbrev pub unoptioned : ℕ → List Grant → List Grant
unoptioned n gs = map (option_off (has_number n)) gs

abbrev pub without_number : ℕ → List Grant → List Grant
without_number n gs = filter (λ g. not (has_number n g)) gs

-- as many have the number after their options came off
pub length-unoptioned : (n : ℕ) (gs : List Grant) → length (of_number n (unoptioned n gs)) ≡ length (of_number n gs)
length-unoptioned n gs =
    ap length (sym (options_filter (has_number n) (has_number n) gs (λ g. refl))) ∙ length-map (of_number n gs) (option_off (has_number n))

-- where these are as they were, all grants are
pub unoptioned-same : (n : ℕ) (gs : List Grant) → of_number n (unoptioned n gs) ≡ of_number n gs → unoptioned n gs ≡ gs
unoptioned-same n [] same = refl
unoptioned-same n (g ∷ gs) same = by (has_number n g) refl (unoptioned-same n gs) same
  where
    by : (b : Bool) → has_number n g ≡ b → (of_number n (unoptioned n gs) ≡ of_number n gs → unoptioned n gs ≡ gs)
        → cond b (option_off (has_number n) g ∷ of_number n (unoptioned n gs)) (of_number n (unoptioned n gs)) ≡ cond b (g ∷ of_number n gs) (of_number n gs) → unoptioned n (g ∷ gs) ≡ g ∷ gs
    by true here later is = let rest = later (cc) in let first : option_off (has_number n) g ≡ g = cc in cc
    by false here later is = let rest = later is in let first = option_kept (has_number n) g here in cc

-- none that fell is left
pub none-left : (n : ℕ) (gs : List Grant) → of_number n (without_number n gs) ≡ []
none-left n [] = refl
none-left n (g ∷ gs) = by (has_number n g) refl (none-left n gs)
  where
    by : (b : Bool) → has_number n g ≡ b → of_number n (without_number n gs) ≡ [] → of_number n (cond (not b) (g ∷ without_number n gs) (without_number n gs)) ≡ []
    by true here later = later
    by false here later = rw here later

-- where none has the number, all grants stay
pub all-stay : (n : ℕ) (gs : List Grant) → of_number n gs ≡ [] → without_number n gs ≡ gs
all-stay n [] none = refl
all-stay n (g ∷ gs) none = by (has_number n g) (all-stay n gs) none
  where
    by : (b : Bool) → (of_number n gs ≡ [] → without_number n gs ≡ gs) → cond b (g ∷ of_number n gs) (of_number n gs) ≡ [] → cond (not b) (g ∷ without_number n gs) (without_number n gs) ≡ g ∷ gs
    by true later is = cc
    by false later is = ap (λ k. g ∷ k) (later is)

-- ---- effects on another number
module _ (n m : ℕ) (differs : m ≢ n) where
  apart : (g : Grant) → has_number m g ≡ true → has_number n g ≡ false
  apart g here = ne_eqb g.number n (λ q. differs (sym (eqb-true g.number m here) ∙ q))

  pub other-unoptioned : (gs : List Grant) → of_number n (unoptioned m gs) ≡ of_number n gs
  other-unoptioned [] = refl
  other-unoptioned (g ∷ gs) = by (has_number m g) refl (other-unoptioned gs)
    where
      by : (b : Bool) → has_number m g ≡ b → of_number n (unoptioned m gs) ≡ of_number n gs → of_number n (unoptioned m (g ∷ gs)) ≡ of_number n (g ∷ gs)
      by true here later = rw (apart g here, later) refl
      by false here later = ap (λ k. of_number n (k ∷ unoptioned m gs)) (option_kept (has_number m) g here) ∙ ap (λ k. cond (has_number n g) (g ∷ k) k) later

  pub other-fell : (gs : List Grant) → of_number n (without_number m gs) ≡ of_number n gs
  other-fell [] = refl
  other-fell (g ∷ gs) = by (has_number m g) refl (other-fell gs)
    where
      by : (b : Bool) → has_number m g ≡ b → of_number n (without_number m gs) ≡ of_number n gs
          → of_number n (cond (not b) (g ∷ without_number m gs) (without_number m gs)) ≡ of_number n (g ∷ gs)
      by true here later = rw (apart g here) later
      by false here later = ap (λ k. cond (has_number n g) (g ∷ k) k) later
