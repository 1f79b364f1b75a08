-- What the steps of a capture give, and what it has still to give.
use Rattle.std.proofs.Common.{◌≡◌, ℕ, List, [], ◌∷◌, ◌++◌, take, drop, refl, ap, ◌∙◌, append_assoc}
use Rattle.std.specs.Option.{unwrap_or}
use Rattle.std.proofs.lemmas.List.{take-append-drop}
use Rattle.copyup_core.specs.Holding.{Holding, due, unfinished}
use Rattle.copyup_core.specs.Run.{Leads, nothing, push, replace, remove, retain, step}

module _ {V : Type 0} where
  unfinished-due : (l : List (ℕ × V)) → unwrap_or (unfinished l) [] ≡ l
  unfinished-due [] = refl
  unfinished-due (x ∷ xs) = refl

  pub given-due : (first : Holding V) (given : List (ℕ × V)) (h : Holding V) → Leads first given h → given ++ due h ≡ due first
  given-due first _ _ nothing = refl
  given-due first _ _ (push {given} {h} v s l) = given-due first given h l
  given-due first _ _ (replace {given} {h} n v s l) = given-due first given h l
  given-due first _ _ (remove {given} {h} n s l) = given-due first given h l
  given-due first _ _ (retain {given} {h} p s l) = given-due first given h l
  given-due first _ _ (step {given} {h} k l) =
      append_assoc given (take k (due h)) _ ∙ ap (λ t. given ++ (take k (due h) ++ t)) (unfinished-due (drop k (due h))) ∙ ap (λ t. given ++ t) (take-append-drop k (due h)) ∙ given-due first given h l
