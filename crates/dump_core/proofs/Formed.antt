-- The statements of a dump are well formed.
use Rattle.std.proofs.Common.{◌≡◌, ◌<◌, ◌≤◌, subst, List, [], ◌∷◌, ◌++◌, map, length, sym, append_assoc, arith, ℕ}
use Rattle.std.specs.List.{AllByRecursion, flat_map}
use Rattle.std.proofs.lemmas.List.Elements.{recursion_from_All}
use Rattle.std.specs.Map.{values_of}
use Rattle.base_core.specs.declared.name.Name.{Name}
use Rattle.base_core.specs.declared.name.User.{User}
use Rattle.base_core.specs.declared.limits.Limits.{Limits}
use Rattle.base_core.specs.declared.value.Column.{Column}
use Rattle.base_core.specs.declared.value.Row.{Row}
use Rattle.reader_core.specs.Forming.{AreNamed, IsWellFormed}
use Rattle.tables_core.specs.Contents.{Table, table_of}
use Rattle.tables_core.specs.Fitting.{ValuesFit, RowsFit}
use Rattle.grants_core.specs.declared.grant.Grant.{Grant}
use Rattle.grants_core.proofs.OwnersLemmas.{AllByRecursion-append}
use Rattle.system_core.specs.declared.machine.event.Entry.{Entry}
use Rattle.system_core.specs.Journal.{tables_at, rights_at, IsLawful}
use Rattle.system_core.proofs.Sound.{rows-at, names-at}
use Rattle.dump_core.specs.Grouped.{Group}
use Rattle.dump_core.specs.Dump.{creation, insertion, insertions, grants_together, granting, dump}
use Rattle.dump_core.specs.Laws.{MayBeDumped, AreWellFormed}
use Rattle.dump_core.proofs.Dumping.{Apart, apart-from_distinct, new_to, there, fits-length}
use Rattle.dump_core.proofs.Counted.{IsFormed, within}
use Rattle.dump_core.proofs.Dumped.{each-fits}
use Rattle.dump_core.proofs.Together.{AreOfOneStatement, together-each}

abbrev pub HasColumns : Name × Table → Type 0
HasColumns t = AreNamed 32 (λ (c : Column). c.name) t.1.columns

-- what holds by name holds table by table
each-formed : (done ts : List (Name × Table)) → Apart (done ++ ts) → ((name : Name) → IsFormed (table_of (done ++ ts) name)) → AllByRecursion HasColumns ts
each-formed done [] apart h = tt
each-formed done (t ∷ ts) apart h =
    let same : (done ++ t ∷ []) ++ ts ≡ done ++ t ∷ ts = append_assoc done (t ∷ []) ts in
    let Tables : List (Name × Table) → Type 0 = Apart in
    let Formed : List (Name × Table) → Type 0 = λ k. (name : Name) → IsFormed (table_of k name) in (
      subst IsFormed (there t.0 t.1 done ts (new_to done t ts apart)) (h t.0),
      each-formed (done ++ t ∷ []) ts (subst Tables (sym same) apart) (subst Formed (sym same) h),
    )

formed-creations : (ts : List (Name × Table)) → AllByRecursion HasColumns ts → AreWellFormed (map creation ts)
formed-creations [] h = tt
formed-creations (t ∷ ts) h = (h.0, formed-creations ts h.1)

module _ (l : Limits) where
  -- as many values as columns
  formed-rows : (name : Name) (owner : User) (columns : List Column) (rows : List (ℕ × Row)) → AreNamed 32 (λ c. c.name) columns → AllByRecursion (λ r. ValuesFit columns r.1.values) rows → AreWellFormed (map (insertion name owner) rows)
  formed-rows name owner columns [] named h = tt
  formed-rows name owner columns (r ∷ rows) named h =
      let same = fits-length l columns r.1.values h.0 in
      let some : 0 < length columns = named.0.0 in
      let few : length columns ≤ 32 = named.0.1 in
      ((omega (arith, same, some), omega (arith, same, few)), formed-rows name owner columns rows named h.1)

  formed-insertions : (ts : List (Name × Table)) → AllByRecursion HasColumns ts → AllByRecursion (λ t. RowsFit t.1) ts → AreWellFormed (flat_map insertions ts)
  formed-insertions [] named fit = tt
  formed-insertions (t ∷ ts) named fit =
      AllByRecursion-append (λ e. IsWellFormed e.statement) (insertions t) (flat_map insertions ts) (formed-rows t.0 t.1.owner t.1.columns t.1.rows named.0 fit.0) (formed-insertions ts named.1 fit.1)

  formed-grants : (groups : List (Group (Group Grant))) → AllByRecursion AreOfOneStatement groups → AreWellFormed (map granting groups)
  formed-grants [] h = tt
  formed-grants (g ∷ groups) h = (h.0.formed, formed-grants groups h.1)

  -- **the columns of each table are as a statement may have them**
  pub columns-formed : (journal : List Entry) → IsLawful l journal → AreWellFormed journal → AllByRecursion HasColumns (tables_at journal)
  columns-formed journal lawful formed = each-formed [] (tables_at journal) (apart-from_distinct (tables_at journal) (names-at l journal lawful)) (within l journal lawful formed).formed

  pub creations-formed : (journal : List Entry) → IsLawful l journal → AreWellFormed journal → AreWellFormed (map creation (tables_at journal))
  creations-formed journal lawful formed = formed-creations (tables_at journal) (columns-formed journal lawful formed)

  pub insertions-formed : (journal : List Entry) → IsLawful l journal → AreWellFormed journal → AreWellFormed (flat_map insertions (tables_at journal))
  insertions-formed journal lawful formed =
      let ts : List (Name × Table) = tables_at journal in
      let fit = each-fits ts (recursion_from_All RowsFit (values_of ts) (rows-at l journal lawful)) in
      formed-insertions ts (columns-formed journal lawful formed) fit

  -- **each is as a statement may be**
  pub dump-formed : (journal : List Entry) → IsLawful l journal → AreWellFormed journal → AreWellFormed (dump journal)
  dump-formed journal lawful formed =
      let ts : List (Name × Table) = tables_at journal in
      let groups : List (Group (Group Grant)) = grants_together (rights_at journal).in_force in
      let Formed : Entry → Type 0 = λ e. IsWellFormed e.statement in
      AllByRecursion-append Formed (map creation ts) (flat_map insertions ts ++ map granting groups) (creations-formed journal lawful formed)
      (AllByRecursion-append Formed (flat_map insertions ts) (map granting groups) (insertions-formed journal lawful formed) (formed-grants groups (together-each (rights_at journal).in_force)))
