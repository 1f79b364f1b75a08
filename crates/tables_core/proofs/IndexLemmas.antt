-- What the indexes of a table list.
use Rattle.std.proofs.Common.{◌≡◌, ◌≢◌, ◌<◌, ℕ, zero, suc, Bool, true, false, cond, List, [], ◌∷◌, ◌++◌, Option, Some, None, length, map, get_or, set, slice_get, slice_set, nat_eq, refl, sym, ap, subst, ◌∙◌}
use Rattle.std.specs.List.{All, Contains}
use Rattle.std.specs.Option.{option_eq}
use Rattle.std.proofs.lemmas.Bool.{eqb-false, or_parts}
use Rattle.std.proofs.lemmas.List.Elements.{All-push, All-weaker, All-set, All-get_or, All-map, All-same}
use Rattle.base_core.specs.Filter.{column_index, with_value, is_chosen}
use Rattle.base_core.specs.declared.value.Value.{Value}
use Rattle.base_core.specs.declared.value.Column.{Column}
use Rattle.base_core.specs.declared.condition.Assignment.{Assignment}
use Rattle.base_core.specs.declared.condition.Condition.{Condition}
use Rattle.index_core.specs.declared.index.Index.{Index}
use Rattle.index_core.specs.declared.interval.Interval.{Interval}
use Rattle.index_core.specs.declared.key.Key.{Key}
use Rattle.index_core.specs.Listed.{ListsFor, listed}
use Rattle.index_core.specs.Within.{IsWithin}
use Rattle.tables_core.specs.declared.column_index.ColumnIndex.{ColumnIndex}
use Rattle.tables_core.specs.declared.reach.Reach.{Reach}
use Rattle.tables_core.specs.declared.reach.Reach.TheVariants as reaches
use Rattle.tables_core.specs.Contents.{assigned_row, assigned_values, satisfies}
use Rattle.tables_core.specs.Indexing.{Numbered, Lists, IsReached, ColumnLists, EachLists, ListAll, ListsEachPassing, IsCellWithin, assigns}
use Rattle.tables_core.specs.Picking.{Covers}

pub some-same : {A : Type 0} (x y : A) → Some x ≡ Some y → x ≡ y
some-same x y e = cc

-- an index that keeps its keys, and lists all that it listed, lists the rows that it listed
pub lists-kept : (old new : Index) → new.key ≡ old.key → ((i : Interval) (n : ℕ) → Contains (listed old i) n → Contains (listed new i) n) → (place : ℕ) (r : Numbered) → Lists old place r → Lists new place r
lists-kept old new same keeps place r lists = λ v cell i within. keeps i r.0 (lists v cell i (subst (λ (k : Key). IsWithin k i v) same within))

-- of a column's index, made so far, the rows that it has to list
pub below-listed : (column : ColumnIndex) (index : Index) (from : ℕ) (rows : List Numbered) → column.index ≡ Some index → column.reach ≡ reaches.Below from → All (λ r. ColumnLists column r) rows → All (λ r. r.0 < from → Lists index column.place r) rows
below-listed column index from rows there is h = λ j d less below.
    h j d less index there (subst (λ (reach : Reach). IsReached reach (get_or rows j d).0) (sym is) below)

-- and so of a column with an index that lists the rows that it has to
pub reached-listed : (place : ℕ) (made : Index) (reach : Reach) (rows : List Numbered) → All (λ r. IsReached reach r.0 → Lists made place r) rows → All (λ r. (index : Index) → Some made ≡ Some index → IsReached reach r.0 → Lists index place r) rows
reached-listed place made reach rows h = λ j d less index same reached. subst (λ (i : Index). Lists i place (get_or rows j d)) (some-same made index same) (h j d less reached)

-- a column is written that lists what the one before listed
pub each-set : (kept : List ColumnIndex) (at : ℕ) (old new : ColumnIndex) → at < length kept → old ≡ get_or kept at old → ((r : Numbered) → ColumnLists old r → ColumnLists new r) → (r : Numbered) → EachLists kept r → EachLists (set kept at new) r
each-set kept at old new lt is f r h =
    let Has : ColumnIndex → Type 0 = λ c. ColumnLists c r in
    All-set Has kept at new (f r (subst Has (sym is) (All-get_or Has kept at old lt h))) h

module _ (kept : List ColumnIndex) (rows : List Numbered) where
  -- a column is written that lists each row where the one before did
  pub all-set : (at : ℕ) (old new : ColumnIndex) → at < length kept → old ≡ get_or kept at old → (All (λ r. ColumnLists old r) rows → All (λ r. ColumnLists new r) rows) → ListAll kept rows → ListAll (set kept at new) rows
  all-set at old new lt is f h = λ j d within.
      let listed : All (λ r. ColumnLists old r) rows = λ i e less. subst (λ (c : ColumnIndex). ColumnLists c (get_or rows i e)) (sym is) (All-get_or (λ c. ColumnLists c (get_or rows i e)) kept at old lt (h i e less)) in
      All-set (λ c. ColumnLists c (get_or rows j d)) kept at new (f listed j d within) (h j d within)

  -- or is added, if there was memory
  pub all-pushed : (b : Bool) (new : ColumnIndex) → ((r : Numbered) → ColumnLists new r) → ListAll kept rows → ListAll (cond b (kept ++ new ∷ []) kept) rows
  all-pushed true new f h = λ j d within. All-push (λ c. ColumnLists c (get_or rows j d)) kept new (h j d within) (f (get_or rows j d))
  all-pushed false new f h = h

-- what an index lists of the cells within an interval
in-cell : (index : Index) (interval : Interval) (n : ℕ) (cell : Option Value) → ((v : Value) → cell ≡ Some v → ListsFor index v n) → IsCellWithin index.key interval cell → Contains (listed index interval) n
in-cell index interval n None lists none = absurd none
in-cell index interval n (Some v) lists within = lists v refl interval within

module _ (kept : List ColumnIndex) where
  -- the index of a column that is kept in mind
  kept-lists : (at : ℕ) (column : ColumnIndex) (r : Numbered) → at < length kept → column ≡ get_or kept at column → EachLists kept r → ColumnLists column r
  kept-lists at column r lt is h =
      let Has : ColumnIndex → Type 0 = λ c. ColumnLists c r in
      subst Has (sym is) (All-get_or Has kept at column lt h)

  -- in an interval that has the cells of all chosen rows its index lists these
  pub leads-within : (columns : List Column) (filter : List Condition) (at : ℕ) (column : ColumnIndex) (index : Index) (interval : Interval) → at < length kept → column ≡ get_or kept at column → ((r : Numbered) → ColumnLists column r → Lists index column.place r) → ((row : List Value) → is_chosen columns filter row ≡ true → IsCellWithin index.key interval (slice_get row column.place)) → ListsEachPassing kept (satisfies columns filter) (listed index interval)
  leads-within columns filter at column index interval lt is lists within r h met =
      in-cell index interval r.0 (slice_get r.1.values column.place) (lists r (kept-lists at column r lt is h)) (within r.1.values met)

  -- so all rows that pass the test are among the numbers that it lists
  pub covers-listed : (rows : List Numbered) (test : Numbered → Bool) (numbers : List ℕ) → ListsEachPassing kept test numbers → ListAll kept rows → Covers test numbers rows
  covers-listed rows test numbers leads h = λ j d within yes. leads (get_or rows j d) (h j d within) yes

-- a value is written at another place
slice-other : (vs : List Value) (i j : ℕ) (v : Value) → i ≢ j → slice_get (slice_set vs i v) j ≡ slice_get vs j
slice-other [] i j v ne = refl
slice-other (x ∷ xs) zero zero v ne = absurd (ne refl)
slice-other (x ∷ xs) zero (suc j) v ne = refl
slice-other (x ∷ xs) (suc i) zero v ne = refl
slice-other (x ∷ xs) (suc i) (suc j) v ne = slice-other xs i j v (λ q. ne (ap suc q))

value-other : (vs : List Value) (o : Option ℕ) (place : ℕ) (v : Value) → option_eq nat_eq o (Some place) ≡ false → slice_get (with_value vs o v) place ≡ slice_get vs place
value-other vs None place v e = refl
value-other vs (Some i) place v e = slice-other vs i place v (eqb-false i place e)

-- assignments to other columns leave the value at the place
pub unassigned : (columns : List Column) (sets : List Assignment) (place : ℕ) (vs : List Value) → assigns columns sets place ≡ false → slice_get (assigned_values columns sets vs) place ≡ slice_get vs place
unassigned columns [] place vs e = refl
unassigned columns (set ∷ sets) place vs e =
    let parts = or_parts (option_eq nat_eq (column_index columns set.column) (Some place)) (assigns columns sets place) e in
    unassigned columns sets place (with_value vs (column_index columns set.column) set.value) parts.1 ∙ value-other vs (column_index columns set.column) place set.value parts.0

-- so an index of the place lists the rows as they are after them
pub lists-unassigned : (columns : List Column) (sets : List Assignment) (column : ColumnIndex) (was rows : List Numbered) → assigns columns sets column.place ≡ false → rows ≡ map (assigned_row columns sets) was → All (λ r. ColumnLists column r) was → All (λ r. ColumnLists column r) rows
lists-unassigned columns sets column was rows e is h =
    let step = λ (r : Numbered) (old : ColumnLists column r) (index : Index) (there : column.index ≡ Some index) (reached : IsReached column.reach r.0) (v : Value) (cell : slice_get (assigned_values columns sets r.1.values) column.place ≡ Some v). old index there reached v (sym (unassigned columns sets column.place r.1.values e) ∙ cell) in
    let New : Numbered → Type 0 = λ r. ColumnLists column r in
    All-same New rows (map (assigned_row columns sets) was) is (All-map New (assigned_row columns sets) was (All-weaker New (λ r. ColumnLists column (assigned_row columns sets r)) step was h))
