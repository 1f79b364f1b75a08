-- One item of a list, and of what the list is mapped to.
use Rattle.std.proofs.Common.{◌∙◌, List, ◌∷◌, map, sym, ap, subst}
use Rattle.std.specs.List.{AllByRecursion}
use Rattle.std.proofs.lemmas.List.{map-append}
use Rattle.links_core.specs.Lists.{TakesOut}
use Rattle.links_core.proofs.EndsLemmas.{all_split, all_join}

-- an item that is taken out has what all have
pub taken_has : {A : Type 0} (P : A → Type 0) (x : A) (old new : List A) → AllByRecursion P old → TakesOut x old new → P x
taken_has P x old new all one = (all_split P one.before (x ∷ one.after) (subst (λ k. AllByRecursion P k) one.was all)).1.0

-- and the others keep it without one
pub all_without : {A : Type 0} (P : A → Type 0) (x : A) (old new : List A) → AllByRecursion P old → TakesOut x old new → AllByRecursion P new
all_without P x old new all one =
    let parts = all_split P one.before (x ∷ one.after) (subst (λ k. AllByRecursion P k) one.was all) in
    subst (λ k. AllByRecursion P k) (sym one.is) (all_join P one.before one.after parts.0 parts.1.1)

-- an item taken out is taken out of what the list is mapped to
pub taken_over : {A B : Type 0} (f : A → B) (x : A) (old new : List A) → TakesOut x old new → TakesOut (f x) (map f old) (map f new)
taken_over f x old new one = record {
  before = map f one.before;
  after = map f one.after;
  was = ap (map f) one.was ∙ map-append f one.before (x ∷ one.after);
  is = ap (map f) one.is ∙ map-append f one.before one.after;
}
