-- Columns with different names: one column after the other.
use Rattle.std.proofs.Common.{◌≡◌, Bool, true, false, ◌&&◌, ◌||◌, not, List, [], ◌∷◌, map, refl, sym, ap, ◌∙◌}
use Rattle.std.specs.List.{list_any}
use Rattle.base_core.specs.Distinct.{are_distinct}
use Rattle.base_core.specs.Words.{same_name}
use Rattle.base_core.specs.declared.name.Name.{Name}
use Rattle.base_core.specs.declared.value.Column.{Column}

abbrev differ : List Column → Bool
differ columns = are_distinct (map (λ c. c.name) columns)

named_in : (name : Name) (columns : List Column) → list_any (same_name name) (map (λ c. c.name) columns) ≡ list_any (λ c. same_name name c.name) columns
named_in name [] = refl
named_in name (c ∷ cs) = ap (λ b. same_name name c.name || b) (named_in name cs)

module _ (all rest others : List Column) (first : Column) (split : rest ≡ first ∷ others) (kept : differ rest ≡ differ all) where
  by : (b : Bool) → list_any (λ c. same_name first.name c.name) others ≡ b → differ all ≡ (not b && differ others)
  by b e = sym kept ∙ (ap differ split ∙ ap (λ v. not v && differ others) (named_in first.name others ∙ e))

  -- a column whose name stands again
  pub differ-again : list_any (λ c. same_name first.name c.name) others ≡ true → differ all ≡ false
  differ-again e = by true e

  -- a column whose name does not
  pub differ-once : list_any (λ c. same_name first.name c.name) others ≡ false → differ others ≡ differ all
  differ-once e = sym (by false e)
