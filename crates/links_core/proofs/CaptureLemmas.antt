-- What a step of a capture leaves.
use Rattle.std.proofs.Common.{◌≡◌, ◌∙◌, ◌⊎◌, inl, inr, ℕ, List, [], ◌∷◌, Result, Ok, Err, drop, refl, sym, ap, zero, suc}
use Rattle.std.specs.Result.{OnOk, OnErr}
use Rattle.std.specs.Option.{unwrap_or}
use Rattle.copyup_core.specs.Holding.{Holding, due, unfinished}
use Rattle.copyup_core.specs.Calls.{stepped}
use Rattle.links_core.specs.declared.link.Link.{Link}
use Rattle.links_core.specs.Links.{numbered_as, links_in}

pub either : {A E : Type 0} {P Q : Type 0} (r : Result A E) → OnOk r P → OnErr r Q → P ⊎ Q
either (Ok x) p q = inl p
either (Err e) p q = inr q

pub then_ok : {A E : Type 0} {P Q : Type 0} (r : Result A E) → (P → Q) → OnOk r P → OnOk r Q
then_ok (Ok x) f p = f p
then_ok (Err e) f p = p

due_unfinished : (xs : List (ℕ × Link)) → unwrap_or (unfinished xs) [] ≡ xs
due_unfinished [] = refl
due_unfinished (x ∷ xs) = refl

pub due_stepped : (count : ℕ) (old new : Holding Link) → new ≡ stepped count old → due new ≡ drop count (due old)
due_stepped count old new is = ap (λ (h : Holding Link). due h) is ∙ due_unfinished (drop count (due old))

-- links under their own numbers stay so
own_dropped : (k : ℕ) (xs : List (ℕ × Link)) → xs ≡ numbered_as (links_in xs) → drop k xs ≡ numbered_as (links_in (drop k xs))
own_dropped zero xs own = own
own_dropped (suc k) [] own = refl
own_dropped (suc k) (x ∷ xs) own = own_dropped k xs (ap (drop 1) own)

-- **after a step, or none, the links stay, and those due stand under their own numbers**
pub record IsStepped (old new : Holding Link) : Type 0 where
  pub contents : new.contents ≡ old.contents
  pub next : new.next ≡ old.next
  pub own : due new ≡ numbered_as (links_in (due new))

pub is_stepped : (count : ℕ) (old new : Holding Link) → (new ≡ stepped count old) ⊎ (new ≡ old) → due old ≡ numbered_as (links_in (due old)) → IsStepped old new
is_stepped count old new (inl step) own = record {
  contents = ap (λ (h : Holding Link). h.contents) step;
  next = ap (λ (h : Holding Link). h.next) step;
  own = let left = due_stepped count old new step in left ∙ own_dropped count (due old) own ∙ ap (λ k. numbered_as (links_in k)) (sym left);
}
is_stepped count old new (inr same) own = record {
  contents = ap (λ (h : Holding Link). h.contents) same;
  next = ap (λ (h : Holding Link). h.next) same;
  own = let left = ap (λ (h : Holding Link). due h) same in left ∙ own ∙ ap (λ k. numbered_as (links_in k)) (sym left);
}
