use Rattle.std.proofs.Common.{List, sym, ap, subst, ◌∙◌}
use Rattle.std.specs.Option.{option_copied_mut}
use Rattle.base_core.specs.declared.name.Name.{Name}
use Rattle.tables_core.specs.Capture.{StoredTable, IsWalk, rest_in, shown_tables}
use Rattle.tables_core.proofs.ContentsLemmas.{same_database}
use Rattle.tables_core.proofs.ChangeLemmas.{same-written}
use Rattle.tables_core.proofs.tables.Tables.prepare.Goals as goal
use Rattle.tables_core.proofs.tables.Tables.prepare.Goals.{in-Some, in_default}

pub invariant_of-self : goal.invariant_of-self
invariant_of-self c =
    let w = c.self.inside.walk in
    let total = c.self.inside.total in
    elim c.match-get_mut.branch [
      | in-Some b ↦
          let found = sym c.get_mut.ensures.value ∙ ap option_copied_mut b.in-Some.is in
          let same = same-written c.args.name c.self.inside.tables.entries _ b.in-Some.table.now b.prepare.new.self found (c.get_mut.follows.holds b.prepare.new.self).0 b.prepare.ensures in
          rw b.self-inside-is (subst (λ (l : List (Name × StoredTable)). IsWalk l w total) (sym same) c.self.invariant)
      | in_default b ↦ rw b.self-inside-is (rw c.get_mut.follows.holds-at-none c.self.invariant)
    ]

pub returns : goal.returns
returns c =
    let w = c.self.inside.walk in
    rw (← c.self.view_is) (elim c.match-get_mut.branch [
      | in-Some b ↦
          let found = sym c.get_mut.ensures.value ∙ ap option_copied_mut b.in-Some.is in
          let same = same-written c.args.name c.self.inside.tables.entries _ b.in-Some.table.now b.prepare.new.self found (c.get_mut.follows.holds b.prepare.new.self).0 b.prepare.ensures in
          rw b.self-inside-is (same_database (ap shown_tables same) (ap (rest_in w) same))
      | in_default b ↦ rw b.self-inside-is (rw c.get_mut.follows.holds-at-none)
    ])
