-- A dump asks for no numbers and no moments; nor does a query.
use Rattle.std.proofs.Common.{◌≡◌, ℕ, Bool, true, false, cond, List, [], ◌∷◌, ◌++◌, map, Option, Some, None, option_map, refl, sym, ap, ◌∙◌}
use Rattle.std.specs.Prelude.{◌↔◌}
use Rattle.std.specs.List.{flat_map, filter}
use Rattle.base_core.specs.declared.name.Name.{Name}
use Rattle.base_core.specs.declared.name.User.{User}
use Rattle.base_core.specs.declared.limits.Limits.{Limits}
use Rattle.base_core.specs.declared.value.Column.{Column}
use Rattle.base_core.specs.declared.value.Row.{Row}
use Rattle.base_core.specs.declared.condition.Condition.{Condition}
use Rattle.reader_core.specs.declared.statement.Statement.{Statement}
use Rattle.reader_core.specs.declared.statement.Statement.TheVariants as statements
use Rattle.tables_core.specs.Contents.{Table, satisfies, projected_values, selected_rows, table_of}
use Rattle.monitor_core.specs.Atoms.{columns_given}
use Rattle.monitor_core.specs.Verdict.{columns_of}
use Rattle.grants_core.specs.declared.grant.Grant.{Grant}
use Rattle.system_core.specs.declared.machine.event.Entry.{Entry}
use Rattle.system_core.specs.Journal.{tables_at, rights_at}
use Rattle.system_core.specs.Step.{IsAnswer}
use Rattle.dump_core.specs.Dump.{creation, insertion, insertions, grants_together, granting, dump_of, dump}
use Rattle.dump_core.specs.Alike.{unnumbered, plain_tables, plain_grants, AreAlike}
use Rattle.dump_core.specs.Laws.{MayBeDumped}
use Rattle.dump_core.proofs.Together.{together-plain}
use Rattle.dump_core.proofs.PlainTables.{plain_rows, found-alike, columns-alike}
use Rattle.dump_core.proofs.Dumped.{dump-alike}

-- ---- dumps
creations-plain : (ts : List (Name × Table)) → map creation (plain_tables ts) ≡ map creation ts
creations-plain [] = refl
creations-plain (t ∷ ts) = ap (λ k. creation t ∷ k) (creations-plain ts)

rows-plain : (table : Name) (owner : User) (rows : List (ℕ × Row)) → map (insertion table owner) (plain_rows rows) ≡ map (insertion table owner) rows
rows-plain table owner [] = refl
rows-plain table owner (r ∷ rs) = ap (λ k. insertion table owner r ∷ k) (rows-plain table owner rs)

insertions-plain : (ts : List (Name × Table)) → flat_map insertions (plain_tables ts) ≡ flat_map insertions ts
insertions-plain [] = refl
insertions-plain (t ∷ ts) = ap (λ k. k ++ flat_map insertions (plain_tables ts)) (rows-plain t.0 t.1.owner t.1.rows) ∙ ap (λ k. insertions t ++ k) (insertions-plain ts)

dump-plain : (ts : List (Name × Table)) (gs : List Grant) → dump_of (plain_tables ts) (plain_grants gs) ≡ dump_of ts gs
dump-plain ts gs =
    ap (λ k. k ++ (flat_map insertions (plain_tables ts) ++ map granting (grants_together (plain_grants gs)))) (creations-plain ts)
    ∙ ap (λ k. map creation ts ++ (k ++ map granting (grants_together (plain_grants gs)))) (insertions-plain ts)
    ∙ ap (λ k. map creation ts ++ (flat_map insertions ts ++ k)) (together-plain gs)

pub same-dump : (a b : List Entry) → AreAlike a b → dump a ≡ dump b
same-dump a b h =
    sym (dump-plain (tables_at a) (rights_at a).in_force)
    ∙ ap (λ ts. dump_of ts (plain_grants (rights_at a).in_force)) h.tables
    ∙ ap (dump_of (plain_tables (tables_at b))) h.grants
    ∙ dump-plain (tables_at b) (rights_at b).in_force

-- **journals leave the same exactly where they have one dump**
pub one-dump : (l : Limits) (a b : List Entry) → MayBeDumped l a → MayBeDumped l b → AreAlike a b ↔ (dump a ≡ dump b)
one-dump l a b h k = (same-dump a b, back)
  where
    back : dump a ≡ dump b → AreAlike a b
    back same =
        let of_a = dump-alike l a h in
        let of_b = dump-alike l b k in
        record {
          tables = of_a.tables ∙ ap (λ j. plain_tables (tables_at j)) same ∙ sym of_b.tables;
          grants = of_a.grants ∙ ap (λ j. plain_grants (rights_at j).in_force) same ∙ sym of_b.grants;
        }

-- **a dump is its own dump**
pub dump-again : (l : Limits) (journal : List Entry) → MayBeDumped l journal → dump (dump journal) ≡ dump journal
dump-again l journal h = sym (same-dump journal (dump journal) (dump-alike l journal h))

-- ---- queries
module _ (columns : List Column) (names : List Name) (conditions : List Condition) where
  abbrev cut : List (ℕ × Row) → List Row
  cut rows = map {B = Row} (λ n. record { values = projected_values columns names n.1.values }) (filter (satisfies columns conditions) rows)

  cut-plain : (rows : List (ℕ × Row)) → cut (plain_rows rows) ≡ cut rows
  cut-plain [] = refl
  cut-plain (r ∷ rs) = by (satisfies columns conditions r) (cut-plain rs)
    where
      by : (b : Bool) → cut (plain_rows rs) ≡ cut rs
          → map {B = Row} (λ n. record { values = projected_values columns names n.1.values }) (cond b ((0, r.1) ∷ filter (satisfies columns conditions) (plain_rows rs)) (filter (satisfies columns conditions) (plain_rows rs)))
          ≡ map {B = Row} (λ n. record { values = projected_values columns names n.1.values }) (cond b (r ∷ filter (satisfies columns conditions) rs) (filter (satisfies columns conditions) rs))
      by true rest = ap (λ k. record { values = projected_values columns names r.1.values } ∷ k) rest
      by false rest = rest

selected-plain : (names : List Name) (conditions : List Condition) (o : Option Table) → option_map (selected_rows names conditions) (option_map unnumbered o) ≡ option_map (selected_rows names conditions) o
selected-plain names conditions None = refl
selected-plain names conditions (Some t) = ap Some (cut-plain t.columns names conditions t.rows)

-- **the same rows answer a query**
pub same-answer : (a b : List Entry) (asked : Statement) (rows : List Row) → AreAlike a b → IsAnswer a asked rows → IsAnswer b asked rows
same-answer a b (statements.Select list table filter) rows h answer =
    sym (found-alike (option_map (selected_rows (columns_given (columns_of (tables_at b) table) list) filter)) (selected-plain (columns_given (columns_of (tables_at b) table) list) filter) (tables_at a) (tables_at b) h.tables table)
    ∙ ap (λ (columns : List Column). option_map (selected_rows (columns_given columns list) filter) (table_of (tables_at a) table)) (sym (columns-alike (tables_at a) (tables_at b) h.tables table))
    ∙ answer
same-answer a b _ rows h answer = absurd answer
