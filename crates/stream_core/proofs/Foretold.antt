-- The effects of an allowed change that is no revocation are the difference that it makes.
use Rattle.std.proofs.Common.{◌≡◌, ◌+◌, ℕ, Bool, true, false, List, [], ◌∷◌, ◌++◌, map, Ok, Option, Some, IsSomeAnd, length, refl, sym, ap, subst, ◌∙◌, arith, append-nil}
use Rattle.std.specs.List.{filter}
use Rattle.std.specs.Option.{option_map_or}
use Rattle.base_core.specs.declared.name.Name.{Name}
use Rattle.base_core.specs.declared.name.User.{User}
use Rattle.base_core.specs.declared.privilege.Atom.{Atom}
use Rattle.base_core.specs.declared.value.Moment.{Moment}
use Rattle.base_core.specs.declared.value.Row.{Row}
use Rattle.base_core.specs.declared.limits.Limits.{Limits}
use Rattle.reader_core.specs.declared.statement.Statement.{Statement}
use Rattle.reader_core.specs.declared.statement.Statement.TheVariants as statements
use Rattle.tables_core.specs.Contents.{Table, assigned_values, satisfies, table_of, with_row, with_updated_rows, without_chosen_rows}
use Rattle.grants_core.specs.declared.grant.Grant.{Grant}
use Rattle.grants_core.specs.Content.{singles}
use Rattle.grants_core.specs.History.{grants_of}
use Rattle.grants_core.proofs.NumberLemmas.{IsNumbered-added}
use Rattle.monitor_core.specs.Verdict.{State, atoms_at, checks, is_change, table_stands}
use Rattle.monitor_core.proofs.Passing.{passed, require-Ok, some_is}
use Rattle.system_core.specs.declared.machine.event.Entry.{Entry}
use Rattle.system_core.specs.Journal.{tables_after, tables_at, change_of, rights_at, state_of, verdict_at, IsLawful}
use Rattle.system_core.proofs.Keeping.{contents-more}
use Rattle.stream_core.specs.declared.effect.Effect.{Effect}
use Rattle.stream_core.specs.declared.effect.Effect.TheVariants as effects
use Rattle.stream_core.specs.Effects.{AreEffectsOf, Contents, in_table}
use Rattle.stream_core.specs.Losses.{is_revoking}
use Rattle.stream_core.specs.Streams.{contents_at}
use Rattle.stream_core.specs.Updates.{AreUpdates, row_deleted}
use Rattle.stream_core.proofs.Edits.{Up, up-from}
use Rattle.stream_core.proofs.GrantEffects.{AreEffectsOf-granted}
use Rattle.stream_core.proofs.RowEffects.{AreEffectsOf-created, AreEffectsOf-deleted, AreEffectsOf-inserted, AreEffectsOf-updated}
use Rattle.stream_core.proofs.Rights.{in_force-made}
use Rattle.stream_core.proofs.TablesNumbered.{numbered-at}

-- what is made of a statement at these tables, which makes these grants
abbrev pub Makes : List (Name × Table) → User → List Grant → Statement → List Effect → Type 0
Makes tables user grants (statements.CreateTable table columns) all = all ≡ effects.TableMade table user columns ∷ []
Makes tables user grants (statements.Insert table values) all =
    all ≡ effects.RowInserted table (option_map_or (λ t. t.inserted) (table_of tables table) 0) (record { values = values }) ∷ []
Makes tables user grants (statements.Delete table filtered) all =
    IsSomeAnd (table_of tables table) (λ t. all ≡ map (row_deleted table) (filter (satisfies t.columns filtered) t.rows))
Makes tables user grants (statements.Update table sets filtered) all =
    IsSomeAnd (table_of tables table) (λ t. AreUpdates table (assigned_values t.columns sets) (filter (satisfies t.columns filtered) t.rows) all)
Makes tables user grants (statements.Grant privileges table users option) all = all ≡ map effects.GrantMade grants
Makes tables user grants (statements.Revoke privileges table users) all = ⊥
Makes tables user grants (statements.RevokeOption privileges table users) all = ⊥
Makes tables user grants (statements.Select list table filtered) all = ⊥
Makes tables user grants statements.Checkpoint all = ⊥
Makes tables user grants statements.Checkpoints all = ⊥
Makes tables user grants (statements.Export number only) all = ⊥

-- a table that a check asked for is there
there : (at : State) (table : Name) → table_stands at table ≡ Ok tt → (t : Table) × (table_of at.tables table ≡ Some t)
there at table h = some_is (table_of at.tables table) (require-Ok _ _ h)

-- the numbers of single grants rise
up-singles : (n : ℕ) (at : Moment) (by : User) (atoms : List Atom) (whom : List User) (option : Bool) → Up (λ (g : Grant). g.number) (singles n at by atoms whom option)
up-singles n at by atoms whom option =
    up-from (λ (g : Grant). g.number) (singles n at by atoms whom option)
    (IsNumbered-added n [] at by atoms whom option (record { rising = λ i j d less within. absurd (omega arith); below = λ k d within. absurd (omega arith) })).rising

module _ (l : Limits) (journal : List Entry) (h : IsLawful l journal) where
  abbrev ts : List (Name × Table)
  ts = tables_at journal

  abbrev gs : List Grant
  gs = (rights_at journal).in_force

  -- what there is, with these tables and these grants more
  abbrev pub having : List (Name × Table) → List Grant → Contents
  having tables more = record { tables = tables; grants = gs ++ more }

  abbrev now : Contents
  now = contents_at journal

  -- a change of rows makes no grants
  rows-alone : (after : Contents) (all : List Effect) → AreEffectsOf now after all → after.grants ≡ gs → AreEffectsOf now (having after.tables []) all
  rows-alone after all are same = subst (λ k. AreEffectsOf now (record { tables = after.tables; grants = k }) all) (same ∙ sym (append-nil gs)) are

  by-statement : (user : User) (s : Statement) (all : List Effect) → verdict_at l journal user s ≡ Ok tt
      → (grants : List Grant) → grants ≡ grants_of (rights_at journal).made (length journal + 1) (change_of ts user s) → Makes ts user grants s all → AreEffectsOf now (having (tables_after ts user s) grants) all
  by-statement user (statements.CreateTable table columns) all ok grants is makes =
      subst (λ k. AreEffectsOf now (having (tables_after ts user (statements.CreateTable table columns)) k) all) (sym is)
      (subst (λ es. AreEffectsOf now (having (tables_after ts user (statements.CreateTable table columns)) []) es) (sym makes)
      (rows-alone (record now { tables = tables_after ts user (statements.CreateTable table columns) }) _ (AreEffectsOf-created now table user columns) refl))
  by-statement user (statements.Insert table values) all ok grants is makes =
      let found = there (state_of l journal) table (passed (checks (state_of l journal) user (statements.Insert table values)) ok).0 in
      let row : Row = record { values = values } in
      let number : option_map_or (λ t. t.inserted) (table_of ts table) 0 ≡ found.0.inserted = ap (λ o. option_map_or (λ (t : Table). t.inserted) o 0) found.1 in
      subst (λ k. AreEffectsOf now (having (tables_after ts user (statements.Insert table values)) k) all) (sym is)
      (subst (λ es. AreEffectsOf now (having (tables_after ts user (statements.Insert table values)) []) es) (sym (makes ∙ ap (λ n. effects.RowInserted table n row ∷ []) number))
      (rows-alone (in_table table (with_row row) now) _ (AreEffectsOf-inserted now table found.0 row found.1) refl))
  by-statement user (statements.Delete table filtered) all ok grants is makes =
      let found = there (state_of l journal) table (passed (checks (state_of l journal) user (statements.Delete table filtered)) ok).0 in
      let P : Option Table → Type 0 = λ o. IsSomeAnd o (λ t. all ≡ map (row_deleted table) (filter (satisfies t.columns filtered) t.rows)) in
      let made : all ≡ map (row_deleted table) (filter (satisfies found.0.columns filtered) found.0.rows) = subst P found.1 makes in
      subst (λ k. AreEffectsOf now (having (tables_after ts user (statements.Delete table filtered)) k) all) (sym is)
      (subst (λ es. AreEffectsOf now (having (tables_after ts user (statements.Delete table filtered)) []) es) (sym made)
      (rows-alone (in_table table (without_chosen_rows filtered) now) _ (AreEffectsOf-deleted now table found.0 filtered found.1 (numbered-at journal table found.0 found.1)) refl))
  by-statement user (statements.Update table sets filtered) all ok grants is makes =
      let found = there (state_of l journal) table (passed (checks (state_of l journal) user (statements.Update table sets filtered)) ok).0 in
      let P : Option Table → Type 0 = λ o. IsSomeAnd o (λ t. AreUpdates table (assigned_values t.columns sets) (filter (satisfies t.columns filtered) t.rows) all) in
      subst (λ k. AreEffectsOf now (having (tables_after ts user (statements.Update table sets filtered)) k) all) (sym is)
      (rows-alone (in_table table (with_updated_rows sets filtered) now) all
      (AreEffectsOf-updated now table found.0 sets filtered all found.1 (numbered-at journal table found.0 found.1) (subst P found.1 makes)) refl)
  by-statement user (statements.Grant privileges table users option) all ok grants is makes =
      let made = singles (rights_at journal).made (record { 0 = length journal + 1 }) user (atoms_at ts table privileges) users option in
      let up = up-singles (rights_at journal).made (record { 0 = length journal + 1 }) user (atoms_at ts table privileges) users option in
      subst (λ es. AreEffectsOf now (having ts grants) es) (sym makes)
      (subst (λ k. AreEffectsOf now (having ts k) (map effects.GrantMade k)) (sym is) (AreEffectsOf-granted ts gs made up))
  by-statement user (statements.Revoke privileges table users) all ok grants is makes = absurd makes
  by-statement user (statements.RevokeOption privileges table users) all ok grants is makes = absurd makes
  by-statement user (statements.Select list table filtered) all ok grants is makes = absurd makes
  by-statement user statements.Checkpoint all ok grants is makes = absurd makes
  by-statement user statements.Checkpoints all ok grants is makes = absurd makes
  by-statement user (statements.Export number only) all ok grants is makes = absurd makes

  -- **what is made of it before it is carried out is the difference**
  pub foretold-are : (e : Entry) (grants : List Grant) (all : List Effect) → is_change e.statement ≡ true → is_revoking e.statement ≡ false → verdict_at l journal e.user e.statement ≡ Ok tt
      → grants ≡ grants_of (rights_at journal).made (length journal + 1) (change_of ts e.user e.statement) → Makes ts e.user grants e.statement all
      → AreEffectsOf (contents_at journal) (contents_at (journal ++ e ∷ [])) all
  foretold-are e grants all change gives ok is makes =
      let in_force : (rights_at (journal ++ e ∷ [])).in_force ≡ gs ++ grants = in_force-made l journal h e change gives ok ∙ ap (λ k. gs ++ k) (sym is) in
      let after : contents_at (journal ++ e ∷ []) ≡ having (tables_after ts e.user e.statement) grants =
      ap (λ k. record { tables = k; grants = (rights_at (journal ++ e ∷ [])).in_force }) (contents-more journal e)
      ∙ ap (λ k. record { tables = tables_after ts e.user e.statement; grants = k }) in_force in
      subst (λ k. AreEffectsOf (contents_at journal) k all) (sym after) (by-statement e.user e.statement all ok grants is makes)
