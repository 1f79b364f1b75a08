use Rattle.std.proofs.Common.{◌≡◌, ◌++◌, ◌∷◌, [], None, Option, Some, List, option_map, refl, sym, ap, subst, ◌∙◌}
use Rattle.std.specs.Map.{lookup}
use Rattle.base_core.specs.Words.{same_name}
use Rattle.base_core.specs.declared.name.Name.{Name}
use Rattle.indexmap.proofs.CallerLemmas.{insert_entry-new}
use Rattle.tables_core.specs.Contents.{Table, table_of}
use Rattle.tables_core.specs.Capture.{StoredTable, IsWalk, rest_in, shown_tables}
use Rattle.tables_core.proofs.ChangeLemmas.{shown-found, shown-added, rest-added, walk-added}
use Rattle.tables_core.proofs.tables.Tables.create.Goals as goal

-- no table where callers see none
none-there : (name : Name) (ts : List (Name × StoredTable)) → table_of (shown_tables ts) name ≡ None → lookup (same_name name) ts ≡ None
none-there name ts none = by (lookup (same_name name) ts) (sym (shown-found name ts) ∙ none)
  where
    by : (o : Option StoredTable) → option_map (λ (t : StoredTable). t.contents) o ≡ None → o ≡ None
    by None e = refl
    by (Some t) e = let no : ⊥ = cc in absurd no

pub invariant_of-self-2 : goal.invariant_of-self-2
invariant_of-self-2 c =
    let w = c.self.inside.walk in
    let ts = c.self.inside.tables.entries in
    let absent = none-there c.args.name ts (rw (← c.self.view_is) at c.requires.new) in
    let entries = c.in_ok-insert.ensures.entries ∙ insert_entry-new same_name c.self.inside.tables c.args.name c.new-table.result absent in
    subst (λ l. IsWalk l w c.self.inside.total) (sym entries) (walk-added ts c.args.name c.new-table.result w c.self.inside.total c.new-table.ensures.capture (ap (λ (k : Table). k.rows) c.new-table.ensures.contents) c.self.invariant)

pub returns-clause-ok : goal.returns-clause-ok
returns-clause-ok c =
    let ts = c.self.inside.tables.entries in
    let absent = none-there c.args.name ts (rw (← c.self.view_is) at c.requires.new) in
    let entries = c.in_ok-insert.ensures.entries ∙ insert_entry-new same_name c.self.inside.tables c.args.name c.new-table.result absent in
    rw (← c.self.view_is) (ap shown_tables entries ∙ (shown-added ts c.args.name c.new-table.result c.self.inside.walk ∙ ap (λ (k : Table). shown_tables ts ++ (c.args.name, k) ∷ []) c.new-table.ensures.contents))

pub returns-clause-rest : goal.returns-clause-rest
returns-clause-rest c =
    let w = c.self.inside.walk in
    let ts = c.self.inside.tables.entries in
    let absent = none-there c.args.name ts (rw (← c.self.view_is) at c.requires.new) in
    let entries = c.in_ok-insert.ensures.entries ∙ insert_entry-new same_name c.self.inside.tables c.args.name c.new-table.result absent in
    rw (← c.self.view_is) (ap (rest_in w) entries ∙ rest-added ts c.args.name c.new-table.result w c.self.invariant.within)
