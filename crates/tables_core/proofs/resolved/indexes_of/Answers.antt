use Rattle.std.proofs.Common.{◌≡◌, ◌<◌, None, length, get_or, ap, ◌∙◌, arith}
use Rattle.std.proofs.Math.ListN.{set}
use Rattle.std.proofs.lemmas.Grind.{common_steps}
use Rattle.base_core.specs.Filter.{column_index}
use Rattle.tables_core.proofs.ResolvedLemmas.{found_more}
use Rattle.tables_core.proofs.resolved.indexes_of.Goals as goal

pub loop-at-preserved : goal.loop-at-preserved
loop-at-preserved g c =
    let columns = c.args.columns.now in
    let indexes = c.loop-at.indexes in
    let at = c.loop-at.at in
    let size : length indexes ≡ 32 = c.loop-at.invariant.size in
    let room : at < length indexes = grind (arith, common_steps) in
    let index : c.column_index.result ≡ column_index columns (g.T.Named.name_of c.index-items-at.result) = c.column_index.ensures ∙ ap (column_index columns) c.name.ensures in
    record {
      size = grind (arith, common_steps);
      known = λ k item under found.
          ap (λ v. get_or (set indexes at v) k None) index
          ∙ found_more (λ x. column_index columns (g.T.Named.name_of x)) c.args.items.now indexes None at c.index-items-at.result room c.index-items-at.is c.loop-at.invariant.known k item under found;
    }
