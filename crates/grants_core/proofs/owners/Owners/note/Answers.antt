use Rattle.std.proofs.Common.{ap, sym, ◌∙◌}
use Rattle.std.specs.Option.{option_copied_mut}
use Rattle.grants_core.specs.Owned.{ownerships}
use Rattle.grants_core.proofs.OwnedLemmas.{with_granted-there, with_granted-none}
use Rattle.grants_core.proofs.owners.Owners.note.Goals as goal
use Rattle.grants_core.proofs.owners.Owners.note.Goals.{in-Some, in_default}

pub returns : goal.returns
returns c =
    rw (← c.self.view_is) (elim c.match-get_mut.branch [
      | in-Some w ↦
          let found = sym c.get_mut.ensures.value ∙ ap option_copied_mut w.in-Some.is in
          ap (λ i. ownerships i.tables.entries) w.self-inside-is ∙ ap ownerships (c.get_mut.follows.holds _).0 ∙ with_granted-there c.args.atom.now c.self.inside.tables.entries _ c.get_mut.ensures.unique found
      | in_default w ↦
          let none = sym c.get_mut.ensures.value ∙ ap option_copied_mut w.in_default.is in
          ap (λ i. ownerships i.tables.entries) w.self-inside-is ∙ ap (λ m. ownerships m.entries) c.get_mut.follows.holds-at-none ∙ sym (with_granted-none c.args.atom.now c.self.inside.tables.entries none)
    ])
