-- The numbers of a table's rows rise, and its next number is above them all.
use Rattle.std.proofs.Common.{◌≡◌, ◌<◌, ◌+◌, ℕ, zero, suc, Bool, true, false, cond, List, [], ◌∷◌, not, length, get_or, map, refl, ap, ◌∙◌, arith}
use Rattle.std.proofs.lemmas.List.{length-map, get_or-map}
use Rattle.std.proofs.lemmas.List.Elements.{All-append, All-filter}
use Rattle.std.proofs.lemmas.List.Kept.{AllPairs-filter}
use Rattle.std.proofs.lemmas.List.Quantifiers.{all_pairs_push}
use Rattle.base_core.specs.declared.name.User.{User}
use Rattle.base_core.specs.declared.value.Row.{Row}
use Rattle.base_core.specs.declared.value.Column.{Column}
use Rattle.base_core.specs.declared.condition.Condition.{Condition}
use Rattle.base_core.specs.declared.condition.Assignment.{Assignment}
use Rattle.tables_core.specs.Contents.{satisfies, assigned_row, updated_row, empty_table, with_row, without_chosen_rows, with_updated_rows}
use Rattle.tables_core.specs.Laws.{HasRisingNumbers, KeepsNumbered}

pub IsNumbered-opened : (owner : User) (columns : List Column) → HasRisingNumbers (empty_table owner columns)
IsNumbered-opened owner columns = record {
  rising = λ i j d less within. absurd (omega arith);
  fresh = λ k d within. absurd (omega arith);
}

pub IsNumbered-with_row : (row : Row) → KeepsNumbered (with_row row)
IsNumbered-with_row row t h = record {
  rising = all_pairs_push (λ earlier later. earlier.0 < later.0) t.rows (t.inserted, row) h.rising h.fresh;
  fresh = All-append (λ numbered. numbered.0 < t.inserted + 1) t.rows ((t.inserted, row) ∷ []) (λ k d within. let before = h.fresh k d within in omega arith) last;
}
  where
    last : (k : ℕ) (d : ℕ × Row) → k < 1 → (get_or ((t.inserted, row) ∷ []) k d).0 < t.inserted + 1
    last zero d within = omega arith
    last (suc k) d within = absurd (omega arith)

pub IsNumbered-deleted : (conditions : List Condition) → KeepsNumbered (without_chosen_rows conditions)
IsNumbered-deleted conditions t h = record {
  rising = AllPairs-filter (λ earlier later. earlier.0 < later.0) (λ numbered. not (satisfies t.columns conditions numbered)) t.rows h.rising;
  fresh = All-filter (λ numbered. not (satisfies t.columns conditions numbered)) (λ numbered. numbered.0 < t.inserted) t.rows h.fresh;
}

module _ (columns : List Column) (sets : List Assignment) (conditions : List Condition) (rows : List (ℕ × Row)) where
  -- an updated row keeps its number
  number-updated_row : (numbered : ℕ × Row) → (updated_row columns sets conditions numbered).0 ≡ numbered.0
  number-updated_row numbered = by (satisfies columns conditions numbered)
    where
      by : (b : Bool) → (cond b (assigned_row columns sets numbered) numbered).0 ≡ numbered.0
      by true = refl
      by false = refl

  pub number-updated : (i : ℕ) (d : ℕ × Row) → i < length rows → (get_or (map (updated_row columns sets conditions) rows) i d).0 ≡ (get_or rows i d).0
  number-updated i d within = ap (λ numbered. numbered.0) (get_or-map (updated_row columns sets conditions) rows i d d within) ∙ number-updated_row (get_or rows i d)

pub IsNumbered-updated : (sets : List Assignment) (conditions : List Condition) → KeepsNumbered (with_updated_rows sets conditions)
IsNumbered-updated sets conditions t h = record {
  rising = λ i j d less within.
      let inside : j < length t.rows = rw length-map at within in
      let first = number-updated t.columns sets conditions t.rows i d (omega arith) in
      let second = number-updated t.columns sets conditions t.rows j d inside in
      let before = h.rising i j d less inside in
      omega arith;
  fresh = λ k d within.
      let inside : k < length t.rows = rw length-map at within in
      let same = number-updated t.columns sets conditions t.rows k d inside in
      let before = h.fresh k d inside in
      omega arith;
}
