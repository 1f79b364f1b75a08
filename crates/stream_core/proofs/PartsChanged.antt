-- An effect that changes the contents changes what there is of its subject, and this says which effect it was.
use Rattle.std.proofs.Common.{◌≡◌, ◌≢◌, ◌<◌, ◌+◌, ℕ, cond, eqb, List, [], ◌∷◌, ◌++◌, map, length, Option, Some, None, option_map, refl, sym, ap, subst, ◌∙◌, arith, length-append, ⊎_elim}
use Rattle.std.specs.List.{filter}
use Rattle.std.specs.Map.{set_value}
use Rattle.std.proofs.lemmas.Bool.{eq-eqb}
use Rattle.std.proofs.lemmas.List.{append_cancel_left, length-map, map-append}
use Rattle.std.proofs.lemmas.Map.Steps.{set_value_same}
use Rattle.base_core.specs.Words.{same_name}
use Rattle.base_core.specs.declared.name.Name.{Name}
use Rattle.base_core.specs.declared.value.Row.{Row}
use Rattle.base_core.proofs.SameLemmas.{same_name-refl}
use Rattle.tables_core.specs.Contents.{Table, empty_table, table_of}
use Rattle.tables_core.proofs.ContentsLemmas.{table_of-with_change, with_change-none, with_change-some}
use Rattle.grants_core.specs.declared.grant.Grant.{Grant}
use Rattle.stream_core.specs.declared.effect.Effect.{Effect}
use Rattle.stream_core.specs.declared.effect.Effect.TheVariants as effects
use Rattle.stream_core.specs.Effects.{Contents, a_row, applied, has_number, in_table, subject_of, with_deleted, with_inserted, with_updated}
use Rattle.stream_core.proofs.NumberedRows.{IsMissing, IsThere, is-there, numbered}
use Rattle.stream_core.proofs.NumberedGrants.{all-stay, length-unoptioned, none-left, of_number, unoptioned, unoptioned-same}
use Rattle.stream_core.proofs.Parts.{emptied, filter-passing, named, parts, row_made, rows_of, table_made}

-- ---- a change of one table
module _ (c : Contents) (name : Name) (change : Table → Table) where
  -- the table is there, and the change leaves it
  unchanged : (t : Table) → table_of c.tables name ≡ Some t → change t ≡ t → in_table name change c ≡ c
  unchanged t there same =
      ap (λ ts. record c { tables = ts })
      (with_change-some name change c.tables t there ∙ ap (set_value (same_name name) c.tables) same ∙ set_value_same (same_name name) c.tables t there)

  -- the table is there, and the change is one
  record IsTurned : Type 0 where
    t : Table
    there : table_of c.tables name ≡ Some t
    turns : change t ≢ t

  is-turned : in_table name change c ≢ c → IsTurned
  is-turned turns = by (table_of c.tables name) refl
    where
      by : (found : Option Table) → table_of c.tables name ≡ found → IsTurned
      by None none = absurd (turns (ap (λ ts. record c { tables = ts }) (with_change-none name change c.tables none)))
      by (Some t) there = record { t = t; there = there; turns = λ same. turns (unchanged t there same) }

  rows-after : (t : Table) (n : ℕ) → table_of c.tables name ≡ Some t → parts (a_row name n) (in_table name change c) ≡ map (row_made name) (numbered n (change t).rows)
  rows-after t n there =
      ap (λ found. map (row_made name) (numbered n (rows_of found)))
      (table_of-with_change c.tables name name change
      ∙ ap (λ b. cond b (option_map change (table_of c.tables name)) (table_of c.tables name)) (same_name-refl name) ∙ ap (option_map change) there)

rows-before : (c : Contents) (name : Name) (t : Table) (n : ℕ) → table_of c.tables name ≡ Some t → parts (a_row name n) c ≡ map (row_made name) (numbered n t.rows)
rows-before c name t n there = ap (λ found. map (row_made name) (numbered n (rows_of found))) there

-- there is a row of the number, and an update or a deletion is of it
record IsRow (c : Contents) (name : Name) (n : ℕ) : Type 0 where
  row : Row
  others : List Effect
  before : parts (a_row name n) c ≡ effects.RowInserted name n row ∷ others
  put : (new : Row) → parts (a_row name n) (applied c (effects.RowUpdated name n new)) ≡ effects.RowInserted name n new ∷ others
  same : applied c (effects.RowUpdated name n row) ≡ c
  out : parts (a_row name n) (applied c (effects.RowDeleted name n)) ≡ others

is-row : (c : Contents) (name : Name) (n : ℕ) (change : Table → Table) → in_table name change c ≢ c → ((t : Table) → IsMissing n t.rows → change t ≡ t) → IsRow c name n
is-row c name n change turns idle =
    let k = is-turned c name change turns in
    ⊎_elim
    (λ (missing : IsMissing n k.t.rows). absurd (k.turns (idle k.t missing)))
    (λ (r : IsThere n k.t.rows). record {
      row = r.value;
      others = map (row_made name) r.others;
      before = rows-before c name k.t n k.there ∙ ap (map (row_made name)) r.is;
      put = λ new. rows-after c name (with_updated n new) k.t n k.there ∙ ap (map (row_made name)) (r.put new);
      same = unchanged c name (with_updated n r.value) k.t k.there (ap (λ rows. record k.t { rows = rows }) r.same);
      out = rows-after c name (with_deleted n) k.t n k.there ∙ ap (map (row_made name)) r.out;
    })
    (is-there n k.t.rows)

updated-row : (c : Contents) (name : Name) (n : ℕ) (row : Row) → applied c (effects.RowUpdated name n row) ≢ c → IsRow c name n
updated-row c name n row turns = is-row c name n (with_updated n row) turns (λ t m. ap (λ rows. record t { rows = rows }) (m.put row))

deleted-row : (c : Contents) (name : Name) (n : ℕ) → applied c (effects.RowDeleted name n) ≢ c → IsRow c name n
deleted-row c name n turns = is-row c name n (with_deleted n) turns (λ t m. ap (λ rows. record t { rows = rows }) m.out)

-- ---- an effect makes a part, puts another in its place, or takes some
data EffectKind : Type 0 where
  makes : EffectKind
  alters : EffectKind
  takes : EffectKind

abbrev kind_of : Effect → EffectKind
kind_of (effects.TableMade name owner columns) = makes
kind_of (effects.RowInserted name n row) = makes
kind_of (effects.RowUpdated name n row) = alters
kind_of (effects.RowDeleted name n) = takes
kind_of (effects.GrantMade g) = makes
kind_of (effects.OptionLost n) = alters
kind_of (effects.GrantFell n) = takes

-- what is made stands behind the others
abbrev Makes : Contents → Effect → Type 0
Makes c e = parts (subject_of e) (applied c e) ≡ parts (subject_of e) c ++ e ∷ []

made : (c : Contents) (e : Effect) → applied c e ≢ c → kind_of e ≡ makes → Makes c e
made c (effects.TableMade name owner columns) turns is =
    let new : Name × Table = (name, empty_table owner columns) in
    ap (λ ts. map table_made (filter (named name) ts)) (map-append emptied c.tables (new ∷ []))
    ∙ ap (map table_made) (filter-passing (named name) (map emptied c.tables) new (same_name-refl name))
    ∙ map-append table_made (filter (named name) (map emptied c.tables)) (new ∷ [])
made c (effects.RowInserted name n row) turns is =
    let k = is-turned c name (with_inserted n row) turns in
    rows-after c name (with_inserted n row) k.t n k.there
    ∙ ap (map (row_made name)) (filter-passing (λ (e : ℕ × Row). eqb e.0 n) k.t.rows (n, row) (eq-eqb n n refl))
    ∙ map-append (row_made name) (numbered n k.t.rows) ((n, row) ∷ [])
    ∙ ap (λ before. before ++ effects.RowInserted name n row ∷ []) (sym (rows-before c name k.t n k.there))
made c (effects.GrantMade g) turns is =
    ap (map effects.GrantMade) (filter-passing (has_number g.number) c.grants g (eq-eqb g.number g.number refl)) ∙ map-append effects.GrantMade (of_number g.number c.grants) (g ∷ [])
made c e turns is = cc

-- how many parts there are before it, and after it
abbrev Counts : EffectKind → List Effect → List Effect → Type 0
Counts makes before after = length after ≡ length before + 1
Counts alters before after = length after ≡ length before
Counts takes before after = length after < length before

-- the counts tell the kind
one-kind : (k l : EffectKind) (before after : List Effect) → Counts k before after → Counts l before after → k ≡ l
one-kind makes makes before after p q = refl
one-kind alters alters before after p q = refl
one-kind takes takes before after p q = refl
one-kind makes alters before after p q = absurd (omega arith)
one-kind makes takes before after p q = absurd (omega arith)
one-kind alters makes before after p q = absurd (omega arith)
one-kind alters takes before after p q = absurd (omega arith)
one-kind takes makes before after p q = absurd (omega arith)
one-kind takes alters before after p q = absurd (omega arith)

one-more : (c : Contents) (e : Effect) → Makes c e → length (parts (subject_of e) (applied c e)) ≡ length (parts (subject_of e) c) + 1
one-more c e m = ap length m ∙ length-append (parts (subject_of e) c) (e ∷ [])

some-fell : (c : Contents) (n : ℕ) → applied c (effects.GrantFell n) ≢ c → length (of_number n (applied c (effects.GrantFell n)).grants) < length (of_number n c.grants)
some-fell c n turns = by (of_number n c.grants) refl
  where
    by : (own : List Grant) → of_number n c.grants ≡ own → length (of_number n (applied c (effects.GrantFell n)).grants) < length own
    by [] none = absurd (turns (ap (λ gs. record c { grants = gs }) (all-stay n c.grants none)))
    by (g ∷ gs) is = let none = ap length (none-left n c.grants) in omega arith

counts : (c : Contents) (e : Effect) → applied c e ≢ c → Counts (kind_of e) (parts (subject_of e) c) (parts (subject_of e) (applied c e))
counts c (effects.TableMade name owner columns) turns = let e = effects.TableMade name owner columns in one-more c e (made c e turns refl)
counts c (effects.RowInserted name n row) turns = let e = effects.RowInserted name n row in one-more c e (made c e turns refl)
counts c (effects.GrantMade g) turns = let e = effects.GrantMade g in one-more c e (made c e turns refl)
counts c (effects.RowUpdated name n row) turns = let r = updated-row c name n row turns in ap length (r.put row) ∙ sym (ap length r.before)
counts c (effects.RowDeleted name n) turns = let r = deleted-row c name n turns in let before = ap length r.before in let after = ap length r.out in omega arith
counts c (effects.OptionLost n) turns =
    length-map (of_number n (unoptioned n c.grants)) effects.GrantMade ∙ length-unoptioned n c.grants ∙ sym (length-map (of_number n c.grants) effects.GrantMade)
counts c (effects.GrantFell n) turns =
    let before = length-map (of_number n c.grants) effects.GrantMade in
    let after = length-map (of_number n (applied c (effects.GrantFell n)).grants) effects.GrantMade in
    let less = some-fell c n turns in
    omega arith

-- ---- **a change of the contents is one of the effect's subject**
grants-made : (gs hs : List Grant) → map effects.GrantMade gs ≡ map effects.GrantMade hs → gs ≡ hs
grants-made [] [] same = refl
grants-made (g ∷ gs) (h ∷ hs) same = let rest = grants-made gs hs (cc) in let first : g ≡ h = cc in cc
grants-made [] (h ∷ hs) same = cc
grants-made (g ∷ gs) [] same = cc

altered : (c : Contents) (e : Effect) → applied c e ≢ c → kind_of e ≡ alters → parts (subject_of e) (applied c e) ≢ parts (subject_of e) c
altered c (effects.RowUpdated name n row) turns is same =
    let r = updated-row c name n row turns in
    let heads : effects.RowInserted name n row ∷ r.others ≡ effects.RowInserted name n r.row ∷ r.others = sym (r.put row) ∙ same ∙ r.before in
    let rows : row ≡ r.row = cc heads in
    turns (ap (λ new. applied c (effects.RowUpdated name n new)) rows ∙ r.same)
altered c (effects.OptionLost n) turns is same =
    turns (ap (λ gs. record c { grants = gs }) (unoptioned-same n c.grants (grants-made (of_number n (unoptioned n c.grants)) (of_number n c.grants) same)))
altered c e turns is same = cc is

pub changes : (c : Contents) (e : Effect) → applied c e ≢ c → parts (subject_of e) (applied c e) ≢ parts (subject_of e) c
changes c e turns same =
    altered c e turns (one-kind (kind_of e) alters (parts (subject_of e) c) (parts (subject_of e) (applied c e)) (counts c e turns) (ap length same)) same

-- ---- **two effects of one subject that make the same of it are one**
-- the subject and the kind tell all but what is made or put
settled : (e f : Effect) → subject_of e ≡ subject_of f → kind_of e ≡ kind_of f → (kind_of e ≡ makes → e ≡ f)
    → ((name : Name) (n : ℕ) (row new : Row) → e ≡ effects.RowUpdated name n row → f ≡ effects.RowUpdated name n new → row ≡ new) → e ≡ f
settled (effects.TableMade name owner columns) f s k one put = one refl
settled (effects.RowInserted name n row) f s k one put = one refl
settled (effects.GrantMade g) f s k one put = one refl
settled (effects.RowUpdated name n row) (effects.RowUpdated other m new) s k one put =
    let f_is : effects.RowUpdated other m new ≡ effects.RowUpdated name n new = cc in ap (effects.RowUpdated name n) (put name n row new refl f_is) ∙ sym f_is
settled (effects.RowDeleted name n) (effects.RowDeleted other m) s k one put = cc
settled (effects.OptionLost n) (effects.OptionLost m) s k one put = cc
settled (effects.GrantFell n) (effects.GrantFell m) s k one put = cc
settled e f s k one put = cc

module _ (c : Contents) (e f : Effect) (turns-e : applied c e ≢ c) (turns-f : applied c f ≢ c) (s : subject_of e ≡ subject_of f)
    (same : parts (subject_of e) (applied c e) ≡ parts (subject_of e) (applied c f)) where
  same-kind : kind_of e ≡ kind_of f
  same-kind =
      one-kind (kind_of e) (kind_of f) (parts (subject_of e) c) (parts (subject_of e) (applied c f))
      (subst (Counts (kind_of e) (parts (subject_of e) c)) same (counts c e turns-e))
      (subst (λ t. Counts (kind_of f) (parts t c) (parts t (applied c f))) (sym s) (counts c f turns-f))

  same-made : kind_of e ≡ makes → e ≡ f
  same-made is =
      let made-f = subst (λ t. parts t (applied c f) ≡ parts t c ++ f ∷ []) (sym s) (made c f turns-f (sym same-kind ∙ is)) in
      let ends : e ∷ [] ≡ f ∷ [] = append_cancel_left (parts (subject_of e) c) (e ∷ []) (f ∷ []) (sym (made c e turns-e is) ∙ same ∙ made-f) in
      cc ends

  same-put : (name : Name) (n : ℕ) (row new : Row) → e ≡ effects.RowUpdated name n row → f ≡ effects.RowUpdated name n new → row ≡ new
  same-put name n row new e-is f-is =
      let r = updated-row c name n row (subst (λ x. applied c x ≢ c) e-is turns-e) in
      let at = subst (λ x. parts (subject_of x) (applied c x) ≡ parts (subject_of x) (applied c f)) e-is same in
      let heads : effects.RowInserted name n row ∷ r.others ≡ effects.RowInserted name n new ∷ r.others =
      sym (r.put row) ∙ at ∙ ap (λ x. parts (a_row name n) (applied c x)) f-is ∙ r.put new in
      cc heads

  pub tells : e ≡ f
  tells = settled e f s same-kind same-made same-put
