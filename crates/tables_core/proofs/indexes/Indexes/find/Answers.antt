use Rattle.std.proofs.Common.{rules}
use Rattle.tables_core.specs.Contents.{satisfies}
use Rattle.tables_core.proofs.IndexLemmas.{covers-listed}
use Rattle.tables_core.proofs.indexes.Indexes.find.Goals as goal

pub keep_chosen-requires-clause-covers : goal.keep_chosen-requires-clause-covers
keep_chosen-requires-clause-covers c =
    let test = satisfies c.args.conditions.now.columns.now c.args.conditions.now.items.now in
    covers-listed c.args.self.now.kept.items c.args.rows.now.contents test c.in_ok-numbers.numbers.items c.in_ok-numbers.ensures.all c.requires

pub returns-clause-found : goal.returns-clause-found
returns-clause-found c = search rules
