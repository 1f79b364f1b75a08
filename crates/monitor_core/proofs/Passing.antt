-- What a passed check says.
use Rattle.std.proofs.Common.{◌≡◌, Bool, true, false, not, List, [], ◌∷◌, map, refl, ap, ◌∙◌, Ok, Err, Option, Some, None}
use Rattle.std.specs.Option.{is_some}
use Rattle.std.specs.List.{AllByRecursion}
use Rattle.base_core.specs.declared.lack.Lack.{Lack}
use Rattle.monitor_core.specs.Verdict.{Check, require, first_lack, each}

pub require-Ok : (b : Bool) (lack : Lack) → require b lack ≡ Ok tt → b ≡ true
require-Ok true lack h = refl
require-Ok false lack h = cc

-- where no check fails, each has passed
pub passed : (checks : List Check) → first_lack checks ≡ Ok tt → AllByRecursion (λ check. check ≡ Ok tt) checks
passed [] h = tt
passed (Ok u ∷ more) h = (refl, passed more h)
passed (Err lack ∷ more) h = cc

pub not-some : {A : Type 0} (o : Option A) → not (is_some o) ≡ true → o ≡ None
not-some None h = refl
not-some (Some x) h = cc

pub some_is : {A : Type 0} (o : Option A) → is_some o ≡ true → (x : A) × (o ≡ Some x)
some_is None h = cc
some_is (Some x) h = (x, refl)

-- each check of the items has passed
pub each-Ok : {A : Type 0} (f : A → Check) (xs : List A) → each xs f ≡ Ok tt → AllByRecursion (λ x. f x ≡ Ok tt) xs
each-Ok f [] h = tt
each-Ok f (x ∷ xs) h = let parts = passed (f x ∷ map f xs) h in (parts.0, each-Ok f xs (behind_passed (f x) (map f xs) parts.0 h))
  where
    behind_passed : (check : Check) (more : List Check) → check ≡ Ok tt → first_lack (check ∷ more) ≡ Ok tt → first_lack more ≡ Ok tt
    behind_passed (Ok u) more e k = k
    behind_passed (Err lack) more e k = cc

-- checks alike of each item
pub each-alike : {A : Type 0} (f g : A → Check) (xs : List A) → AllByRecursion (λ x. f x ≡ g x) xs → each xs f ≡ each xs g
each-alike f g xs h = ap first_lack (maps f g xs h)
  where
    maps : {A : Type 0} (f g : A → Check) (xs : List A) → AllByRecursion (λ x. f x ≡ g x) xs → map f xs ≡ map g xs
    maps f g [] h = refl
    maps f g (x ∷ xs) h = ap (λ k. k ∷ map f xs) h.0 ∙ ap (λ k. g x ∷ k) (maps f g xs h.1)

-- after a check, only what follows where it passed counts
pub guarded : (b : Bool) (lack : Lack) (xs ys : List Check) → (b ≡ true → first_lack xs ≡ first_lack ys) → first_lack (require b lack ∷ xs) ≡ first_lack (require b lack ∷ ys)
guarded true lack xs ys h = h refl
guarded false lack xs ys h = refl

-- where each check passes, all pass
pub each-all : {A : Type 0} (f : A → Check) (xs : List A) → ((x : A) → f x ≡ Ok tt) → each xs f ≡ Ok tt
each-all f [] h = refl
each-all f (x ∷ xs) h = ap (λ c. first_lack (c ∷ map f xs)) (h x) ∙ each-all f xs h
