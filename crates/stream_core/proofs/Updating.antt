-- The effects of an UPDATE, told row by row.
use Rattle.std.proofs.Common.{◌≡◌, ◌≢◌, ℕ, List, [], ◌∷◌, ◌++◌, Option, Some, None, IsSome, IsSomeAnd, refl, sym, ap, subst, ◌∙◌, append_assoc, append-nil, inl, inr}
use Rattle.std.specs.Option.{option_map}
use Rattle.std.proofs.lemmas.Option.{same_Some}
use Rattle.base_core.specs.declared.name.Name.{Name}
use Rattle.base_core.specs.declared.value.Row.{Row}
use Rattle.base_core.specs.declared.value.Value.{Value}
use Rattle.base_core.specs.declared.condition.Assignment.{Assignment}
use Rattle.tables_core.specs.Contents.{Table, assigned_values}
use Rattle.stream_core.specs.declared.effect.Effect.{Effect}
use Rattle.stream_core.specs.declared.effect.Effect.TheVariants as effects
use Rattle.stream_core.specs.Updates.{AreUpdates}

-- what is so of what was found is so of what is there
pub found-mapped : {A B : Type 0} (f : A → B) (P : B → Type 0) (o : Option A) (x : B) → option_map f o ≡ Some x → P x → IsSomeAnd o (λ a. P (f a))
found-mapped f P (Some a) x is p = subst P (sym (same_Some (f a) x is)) p
found-mapped f P None x is p = cc

module _ (name : Name) (sets : List Assignment) (rows : List (ℕ × Row)) where
  abbrev assign : Table → List Value → List Value
  assign t = assigned_values t.columns sets

  -- with the effects of the rows to come, those so far are the effects of all rows
  abbrev pub SoFar : Option Table → List (ℕ × Row) → List Effect → Type 0
  SoFar o rest so_far = IsSomeAnd o (λ t. (later : List Effect) → AreUpdates name (assign t) rest later → AreUpdates name (assign t) rows (so_far ++ later))

  pub so_far-begins : (o : Option Table) → IsSome o → SoFar o rows []
  so_far-begins (Some t) there = λ later told. told
  so_far-begins None there = cc

  -- a row to which its own values are given
  pub so_far-same : (o : Option Table) (r : ℕ × Row) (rest : List (ℕ × Row)) (so_far : List Effect) (made : List Value) → option_map (λ t. assign t r.1.values) o ≡ Some made → made ≡ r.1.values
      → SoFar o (r ∷ rest) so_far → SoFar o rest so_far
  so_far-same (Some t) r rest so_far made is same before = λ later told. before later (inl (same_Some (assign t r.1.values) made is ∙ same, told))
  so_far-same None r rest so_far made is same before = cc

  -- a row to which others are given
  pub so_far-changed : (o : Option Table) (r : ℕ × Row) (rest : List (ℕ × Row)) (so_far : List Effect) (made : Row) → option_map (λ t. assign t r.1.values) o ≡ Some made.values → made.values ≢ r.1.values
      → SoFar o (r ∷ rest) so_far → SoFar o rest (so_far ++ effects.RowUpdated name r.0 made ∷ [])
  so_far-changed (Some t) r rest so_far made is other before =
      let given : assign t r.1.values ≡ made.values = same_Some (assign t r.1.values) made.values is in
      λ later told.
      subst (AreUpdates name (assign t) rows) (sym (append_assoc so_far (effects.RowUpdated name r.0 made ∷ []) later))
      (before (effects.RowUpdated name r.0 made ∷ later)
      (inr ((λ same. other (sym given ∙ same)), (later, told, ap (λ vs. effects.RowUpdated name r.0 (record { values = vs }) ∷ later) (sym given)))))
  so_far-changed None r rest so_far made is other before = cc

  pub so_far-ends : (o : Option Table) (all : List Effect) → SoFar o [] all → IsSomeAnd o (λ t. AreUpdates name (assign t) rows all)
  so_far-ends (Some t) all before = subst (AreUpdates name (assign t) rows) (append-nil all) (before [] refl)
  so_far-ends None all before = before
