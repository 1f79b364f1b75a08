use Rattle.std.proofs.Common.{ap, sym, ◌∙◌}
use Rattle.export_core.specs.Export as exports
use Rattle.export_core.proofs.Places.{position-found, position-missed}
use Rattle.export_core.proofs.ticket.chosen.Goals as goal

pub returns-in-Some-place_of-clause-tables : goal.returns-in-Some-place_of-clause-tables
returns-in-Some-place_of-clause-tables c =
    position-found _ c.args.tables.now _ (sym c.place_of.ensures ∙ c.in-Some-place_of.is) ∙ ap (exports.chosen c.args.tables.now) (sym c.in-Some.is)

pub returns-in-None-clause-tables : goal.returns-in-None-clause-tables
returns-in-None-clause-tables c =
    sym (ap (exports.chosen c.args.tables.now) c.in-Some.is ∙ position-missed _ c.args.tables.now (sym c.place_of.ensures ∙ c.in-None.is))
