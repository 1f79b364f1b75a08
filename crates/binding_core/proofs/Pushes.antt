-- What holds of each element of a list, with one more, and what a `?` returns.
use mathlib.Core.Logic.{⊎_elim}
use Rattle.std.proofs.Common.{◌≡◌, ℕ, ◌<◌, List, [], ◌∷◌, ◌++◌, Result, Ok, Err, IfErr, length, get_or, refl, sym, subst, arith}
use Rattle.std.specs.Result.{IsErrAnd}
use Rattle.std.proofs.lemmas.Bool.{cases_lt}
use Rattle.std.proofs.lemmas.List.{get_or_append_left, get_or_push, length_push}

pub push_each : {X : Type 0} (P : ℕ → X → Type 0) (d : X) (xs : List X) (x : X) → ((k : ℕ) → k < length xs → P k (get_or xs k d)) → P (length xs) x → (k : ℕ) → k < length (xs ++ x ∷ []) → P k (get_or (xs ++ x ∷ []) k d)
push_each P d xs x all here k h = ⊎_elim
    (λ less. subst (P k) (sym (get_or_append_left xs (x ∷ []) d k less)) (all k less))
    (λ more.
    let is : length xs ≡ k = omega (arith, h, more, length_push xs x) in
    subst (λ n. P n (get_or (xs ++ x ∷ []) n d)) is (subst (P (length xs)) (sym (get_or_push xs x d (length xs) refl)) here))
    (cases_lt k (length xs))

pub exit : {V E : Type 0} (P : E → Type 0) (r : Result V E) (e : E) → IsErrAnd r (λ y. y ≡ e) → P e → IfErr r P
exit P (Ok v) e p f = absurd p
exit P (Err y) e p f = subst P (sym p) f
