use Rattle.std.proofs.Common.{ap, sym, ◌∙◌, false}
use Rattle.std.specs.Option.{option_copied_mut}
use Rattle.indexmap.specs.IndexMap.{insert_entry}
use Rattle.indexmap.proofs.CallerLemmas.{insert_entry-new}
use Rattle.base_core.specs.Words.{same_name}
use Rattle.grants_core.specs.declared.owners.Owned.{Owned}
use Rattle.grants_core.specs.Owned.{ownerships}
use Rattle.grants_core.proofs.OwnedLemmas.{with_owner-there, with_owner-new}
use Rattle.grants_core.proofs.owners.Owners.set.Goals as goal

pub returns-in-Some-clause-ok : goal.returns-in-Some-clause-ok
returns-in-Some-clause-ok c =
    let found = sym c.get_mut.ensures.value ∙ ap option_copied_mut c.in-Some.is in
    rw (← c.self.view_is) (ap ownerships (c.get_mut.follows.holds _).0 ∙ with_owner-there c.args.table c.args.owner c.self.inside.tables.entries _ found)

pub returns-in_ok-insert-in-None-clause-ok : goal.returns-in_ok-insert-in-None-clause-ok
returns-in_ok-insert-in-None-clause-ok c =
    let none = sym c.get_mut.ensures.value ∙ ap option_copied_mut c.in-None.is in
    let new : Owned = record { owner = c.args.owner; granted = false } in
    rw (← c.self.view_is) (ap ownerships (c.in_ok-insert-in-None.ensures.entries
    ∙ ap (λ m. insert_entry same_name m.entries c.args.table new) c.get_mut.follows.holds-at-none
    ∙ insert_entry-new same_name c.self.inside.tables c.args.table new none)
    ∙ with_owner-new c.args.table c.args.owner c.self.inside.tables.entries none)
