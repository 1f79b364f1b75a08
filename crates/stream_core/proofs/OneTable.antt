-- Effects on one table, one after another.
use Rattle.std.proofs.Common.{◌≡◌, ◌≢◌, Bool, true, false, cond, List, [], ◌∷◌, map, Some, refl, sym, ap, subst, ◌∙◌}
use Rattle.std.specs.List.{fold}
use Rattle.std.specs.Map.{lookup, set_value}
use Rattle.std.proofs.lemmas.Map.Steps.{set_value_same}
use Rattle.std.proofs.lemmas.Option.{same_Some}
use Rattle.base_core.specs.Words.{same_name}
use Rattle.base_core.specs.declared.name.Name.{Name}
use Rattle.tables_core.specs.Contents.{Table, table_of}
use Rattle.tables_core.proofs.ContentsLemmas.{with_change-some}
use Rattle.stream_core.specs.declared.effect.Effect.{Effect}
use Rattle.stream_core.specs.Effects.{Contents, EachChanges, after_effects, applied, in_table}

module _ {K X : Type 0} (test : K → Bool) where
  -- a value that is put in is found
  found-put : (es : List (K × X)) (v w : X) → lookup test es ≡ Some v → lookup test (set_value test es w) ≡ Some w
  found-put [] v w there = cc
  found-put (e ∷ es) v w there = by (test e.0) refl there (λ later. found-put es v w later)
    where
      by : (b : Bool) → test e.0 ≡ b → cond b (Some e.1) (lookup test es) ≡ Some v → (lookup test es ≡ Some v → lookup test (set_value test es w) ≡ Some w)
          → lookup test (cond b ((e.0, w) ∷ es) (e ∷ set_value test es w)) ≡ Some w
      by true here there later = ap (λ b. cond b (Some w) (lookup test es)) here
      by false here there later = ap (λ b. cond b (Some e.1) (lookup test (set_value test es w))) here ∙ later there

  -- the last of two that are put in stays
  put-twice : (es : List (K × X)) (v w : X) → set_value test (set_value test es v) w ≡ set_value test es w
  put-twice [] v w = refl
  put-twice (e ∷ es) v w = by (test e.0) refl (put-twice es v w)
    where
      by : (b : Bool) → test e.0 ≡ b → set_value test (set_value test es v) w ≡ set_value test es w
          → set_value test (cond b ((e.0, v) ∷ es) (e ∷ set_value test es v)) w ≡ cond b ((e.0, w) ∷ es) (e ∷ set_value test es w)
      by true here later = ap (λ b. cond b ((e.0, w) ∷ es) ((e.0, v) ∷ set_value test es w)) here
      by false here later = ap (λ b. cond b ((e.0, w) ∷ set_value test es v) (e ∷ set_value test (set_value test es v) w)) here ∙ ap (λ k. e ∷ k) later

module _ (name : Name) where
  -- the contents with this as the table of the name
  abbrev pub with_table : Contents → Table → Contents
  with_table c t = record c { tables = set_value (same_name name) c.tables t }

  pub in_table-there : (c : Contents) (t : Table) (change : Table → Table) → table_of c.tables name ≡ Some t → in_table name change c ≡ with_table c (change t)
  in_table-there c t change there = ap (λ ts. record c { tables = ts }) (with_change-some name change c.tables t there)

  with_table-there : (c : Contents) (t u : Table) → table_of c.tables name ≡ Some t → table_of (with_table c u).tables name ≡ Some u
  with_table-there c t u there = found-put (same_name name) c.tables t u there

  -- a change of the table is one of the contents
  pub in_table-changes : (c : Contents) (t : Table) (change : Table → Table) → table_of c.tables name ≡ Some t → change t ≢ t → in_table name change c ≢ c
  in_table-changes c t change there turns same =
      let put : with_table c (change t) ≡ c = sym (in_table-there c t change there) ∙ same in
      let found : Some (change t) ≡ Some t = sym (with_table-there c t (change t) there) ∙ ap (λ d. table_of d.tables name) put ∙ there in
      turns (same_Some (change t) t found)

module _ {X : Type 0} (name : Name) (made : X → Effect) (change : X → Table → Table) (is : (c : Contents) (x : X) → applied c (made x) ≡ in_table name (change x) c) where
  -- the table after all of them
  abbrev pub changed : Table → List X → Table
  changed t xs = fold (λ u x. change x u) t xs

  -- each changes the table
  abbrev pub EachTurns : Table → List X → Type 0
  EachTurns t [] = Unit {0}
  EachTurns t (x ∷ xs) = (change x t ≢ t) × EachTurns (change x t) xs

  pub leads-on : (c : Contents) (t : Table) (xs : List X) → table_of c.tables name ≡ Some t → after_effects c (map made xs) ≡ with_table name c (changed t xs)
  leads-on c t [] there = ap (λ ts. record c { tables = ts }) (sym (set_value_same (same_name name) c.tables t there))
  leads-on c t (x ∷ xs) there =
      let d : Contents = with_table name c (change x t) in
      let first : applied c (made x) ≡ d = is c x ∙ in_table-there name c t (change x) there in
      ap (λ k. after_effects k (map made xs)) first
      ∙ leads-on d (change x t) xs (with_table-there name c t (change x t) there)
      ∙ ap (λ ts. record c { tables = ts }) (put-twice (same_name name) c.tables (change x t) (changed (change x t) xs))

  pub changes-on : (c : Contents) (t : Table) (xs : List X) → table_of c.tables name ≡ Some t → EachTurns t xs → EachChanges c (map made xs)
  changes-on c t [] there turns = tt
  changes-on c t (x ∷ xs) there turns =
      let d : Contents = with_table name c (change x t) in
      let first : applied c (made x) ≡ d = is c x ∙ in_table-there name c t (change x) there in (
        (λ same. in_table-changes name c t (change x) there turns.0 (sym (is c x) ∙ same)),
        subst (λ k. EachChanges k (map made xs)) (sym first) (changes-on d (change x t) xs (with_table-there name c t (change x t) there) turns.1),
      )
