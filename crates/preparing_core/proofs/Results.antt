-- What holds of a result, by its cases.
use Rattle.std.proofs.Common.{◌≡◌, Result, Ok, Err, IfOk, IfErr, sym, subst}
use Rattle.std.specs.Result.{IsErrAnd}

-- what holds of a fault holds of what a `?` returns
pub exits : {V E : Type 0} (P : Result V E → Type 0) (r : Result V E) (e : E) → IsErrAnd r (λ y. y ≡ e) → P (Err e) → P r
exits P (Ok v) e h p = absurd h
exits {E = E} P (Err y) e h p = subst (λ (x : E). P (Err x)) (sym h) p

-- what holds of a value, and of a fault, holds of the result
pub either : {V E : Type 0} (P : Result V E → Type 0) (Q : V → Type 0) (F : E → Type 0) (r : Result V E) → IfOk r Q → IfErr r F → ((v : V) → Q v → P (Ok v)) → ((e : E) → F e → P (Err e)) → P r
either P Q F (Ok v) q f ok err = ok v q
either P Q F (Err e) q f ok err = err e f
