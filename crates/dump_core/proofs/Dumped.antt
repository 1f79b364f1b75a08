-- The dump of a lawful journal is lawful, and leaves the same.
use Rattle.std.proofs.Common.{◌≡◌, ℕ, ◌+◌, ◌≤◌, true, subst, List, [], ◌∷◌, ◌++◌, map, length, refl, sym, ap, ◌∙◌, append_assoc, append-nil, arith}
use Rattle.std.specs.Prelude.{is_some}
use Rattle.std.specs.List.{AllByRecursion, flat_map}
use Rattle.std.specs.Map.{values_of}
use Rattle.std.proofs.lemmas.List.{map-append, length-append, length-map}
use Rattle.std.proofs.lemmas.List.Elements.{recursion_from_All}
use Rattle.base_core.specs.declared.name.Name.{Name}
use Rattle.base_core.specs.declared.limits.Limits.{Limits}
use Rattle.base_core.specs.declared.value.Column.{Column}
use Rattle.base_core.specs.declared.value.Row.{Row}
use Rattle.base_core.specs.declared.privilege.Atom.{Atom}
use Rattle.tables_core.specs.Contents.{Table, with_row, all_rows}
use Rattle.tables_core.specs.Fitting.{RowsFit}
use Rattle.grants_core.specs.declared.grant.Grant.{Grant}
use Rattle.grants_core.specs.History.{owners_after, left_after}
use Rattle.grants_core.specs.Valid.{AreSupported}
use Rattle.grants_core.proofs.ValidLemmas.{valid-supported}
use Rattle.grants_core.proofs.GrantLemmas.{All-implied}
use Rattle.monitor_core.specs.Atoms.{columns_listed}
use Rattle.system_core.specs.declared.machine.event.Entry.{Entry}
use Rattle.system_core.specs.Journal.{tables_at, changes, rights_at, IsLawful}
use Rattle.system_core.proofs.Agreeing.{owns-alike}
use Rattle.system_core.proofs.Owning.{owner_in}
use Rattle.system_core.proofs.Sound.{rows-at, names-at}
use Rattle.dump_core.specs.Grouped.{Group}
use Rattle.dump_core.specs.Dump.{creation, insertion, insertions, privilege_of, grants_together, granting, dump}
use Rattle.dump_core.specs.Alike.{unnumbered, plain_tables, AreAlike}
use Rattle.dump_core.specs.Laws.{MayBeDumped, AreLawfulAlike}
use Rattle.dump_core.proofs.Undated.{OwnAlike}
use Rattle.dump_core.proofs.Facts.{known, found, AtomStands}
use Rattle.dump_core.proofs.Counted.{within}
use Rattle.dump_core.proofs.PlainTables.{plain_rows, is_table-alike, columns-alike, owner-alike}
use Rattle.dump_core.proofs.Steps.{owners-stand, stay-alike}
use Rattle.dump_core.proofs.Dumping.{Reaches, apart-from_distinct, inserted, filled, created, all_in}
use Rattle.dump_core.proofs.Together.{grants_of_group, together-same, together-each}
use Rattle.dump_core.proofs.Granted.{granted_in}

-- ---- how many statements there are
length-insertions : (ts : List (Name × Table)) → length (flat_map insertions ts) ≡ length (all_rows ts)
length-insertions [] = refl
length-insertions (t ∷ ts) =
    let named : List (Name × (ℕ × Row)) = map (λ numbered. (t.0, numbered)) t.1.rows in
    let one = length-append (insertions t) (flat_map insertions ts) in
    let other = length-append named (all_rows ts) in
    let here : length (insertions t) ≡ length named = length-map t.1.rows (insertion t.0 t.1.owner) ∙ sym (length-map t.1.rows (λ numbered. (t.0, numbered))) in
    omega (arith, one, other, here, length-insertions ts)

-- **one for each table, each row and all grants in force that are together**
pub length-dump : (journal : List Entry) → length (dump journal) ≡ length (tables_at journal) + length (all_rows (tables_at journal)) + length (grants_together (rights_at journal).in_force)
length-dump journal =
    let ts : List (Name × Table) = tables_at journal in
    let gs : List (Group (Group Grant)) = grants_together (rights_at journal).in_force in
    let all = length-append (map creation ts) (flat_map insertions ts ++ map granting gs) in
    let rest = length-append (flat_map insertions ts) (map granting gs) in
    omega (arith, all, rest, length-map ts creation, length-insertions ts, length-map gs granting)

-- ---- the rows are the same once they are inserted
inserted-plain : (t : Table) (rows : List (ℕ × Row)) → unnumbered (inserted t rows) ≡ record t { inserted = 0; rows = plain_rows t.rows ++ plain_rows rows }
inserted-plain t [] = ap (λ k. record t { inserted = 0; rows = k }) (sym (append-nil (plain_rows t.rows)))
inserted-plain t (r ∷ rs) =
    inserted-plain (with_row r.1 t) rs
    ∙ ap (λ k. record t { inserted = 0; rows = k })
    (ap (λ k. k ++ plain_rows rs) (map-append (λ n. (0, n.1)) t.rows ((t.inserted, r.1) ∷ [])) ∙ append_assoc (plain_rows t.rows) ((0, r.1) ∷ []) (plain_rows rs))

filled-plain : (ts : List (Name × Table)) → plain_tables (filled ts) ≡ plain_tables ts
filled-plain [] = refl
filled-plain (t ∷ ts) =
    ap (λ k. (t.0, k) ∷ plain_tables (filled ts)) (inserted-plain (record { owner = t.1.owner; columns = t.1.columns; inserted = 0; rows = [] }) t.1.rows)
    ∙ ap (λ k. (t.0, unnumbered t.1) ∷ k) (filled-plain ts)

-- an atom that stands does so where the tables are the same but for their numbers
stands-alike : (ts us : List (Name × Table)) (e : plain_tables ts ≡ plain_tables us) (a : Atom) → AtomStands ts a → AtomStands us a
stands-alike ts us e a h = record {
  table = sym (is_table-alike ts us e a.table) ∙ h.table;
  columns =
      let Here : List Column → Type 0 = λ columns. AllByRecursion (λ name. is_some (found columns name) ≡ true) (columns_listed (privilege_of a.kind)) in
      subst Here (columns-alike ts us e a.table) h.columns;
}

-- the rows of each table fit it
pub each-fits : (ts : List (Name × Table)) → AllByRecursion RowsFit (values_of ts) → AllByRecursion (λ t. RowsFit t.1) ts
each-fits [] h = tt
each-fits (t ∷ ts) h = (h.0, each-fits ts h.1)

module _ (l : Limits) (journal : List Entry) (h : MayBeDumped l journal) where
  abbrev ts : List (Name × Table)
  ts = tables_at journal

  abbrev grants : List Grant
  grants = (rights_at journal).in_force

  same_owners : (j : List Entry) (gs : List Grant) → Reaches l j (filled ts) gs → OwnAlike (rights_at j).owners (rights_at journal).owners
  same_owners j gs r user atom =
      owns-alike (rights_at j).owners (rights_at journal).owners user atom
      (owners-stand l j r.lawful atom.table
      ∙ ap (λ k. owner_in k atom.table) r.tables
      ∙ owner-alike (filled ts) ts (filled-plain ts) atom.table
      ∙ sym (owners-stand l journal h.lawful atom.table))

  -- **statement by statement, the dump leads to the tables and the grants**
  reached : Reaches l (dump journal) (filled ts) grants
  reached =
      let facts = known l journal h.lawful in
      let apart = apart-from_distinct ts (names-at l journal h.lawful) in
      let fit = each-fits ts (recursion_from_All RowsFit (values_of ts) (rows-at l journal h.lawful)) in
      let supported : AreSupported (rights_at journal).owners grants grants = valid-supported (owners_after (changes journal)) (left_after (changes journal)) in
      let first : List Entry = map creation ts in
      let second : List Entry = flat_map insertions ts in
      let groups : List (Group (Group Grant)) = grants_together grants in
      let third : List Entry = map granting groups in
      let few : length (first ++ (second ++ third)) ≤ l.changes = h.few in
      let length_all : length (first ++ (second ++ third)) ≡ length first + length (second ++ third) = length-append first (second ++ third) in
      let length_rest : length (second ++ third) ≡ length second + length third = length-append second third in
      let length_first : length first ≡ length ts = length-map ts creation in
      let length_third : length third ≡ length groups = length-map groups granting in
      let same : flat_map grants_of_group groups ≡ grants = together-same grants in
      let length_both : length (first ++ second) ≡ length first + length second = length-append first second in
      let opening : Reaches l [] [] [] = record { lawful = tt; tables = refl; grants = refl } in
      let tables = created l [] [] ts opening apart (omega (arith, few, length_all, length_first)) (omega (arith, facts.few)) in
      let rows = all_in l first [] ts tables apart fit (omega (arith, few, length_all, length_rest)) in
      let stand = All-implied (λ g. AtomStands ts g.atom) (λ g. AtomStands (filled ts) g.atom) grants (λ g. stands-alike ts (filled ts) (sym (filled-plain ts)) g.atom) facts.stand in
      let all = granted_in l (rights_at journal).owners (filled ts) grants facts.turn (within l journal h.lawful h.well_formed).few same_owners
      (first ++ second) [] groups same rows (together-each grants) (subst (AreSupported (rights_at journal).owners grants) (sym same) supported) (subst (AllByRecursion (λ g. AtomStands (filled ts) g.atom)) (sym same) stand)
      (omega (arith, few, length_all, length_rest, length_third, length_both)) in
      let P : List Entry → Type 0 = λ j. Reaches l j (filled ts) grants in
      subst P (append_assoc first second third) all

  pub dump-lawful : IsLawful l (dump journal)
  dump-lawful = reached.lawful

  pub dump-alike : AreAlike journal (dump journal)
  dump-alike = record {
    tables = sym (filled-plain ts) ∙ sym (ap plain_tables reached.tables);
    grants = sym reached.grants;
  }

  -- **and from then on it serves as well**
  pub dump-serves : (more : List Entry) → IsLawful l (journal ++ more) → length (dump journal ++ more) ≤ l.changes → AreLawfulAlike l (journal ++ more) (dump journal ++ more)
  dump-serves more lawful room = stay-alike l journal (dump journal) more (record { first = h.lawful; second = dump-lawful; alike = dump-alike }) lawful room
