use Rattle.std.proofs.Common.{length, ap, arith}
use Rattle.monitor_core.specs.declared.atoms.ByColumn.TheVariants as by_column
use Rattle.dump_core.proofs.Ahead.{select-ahead, update-ahead, few-ahead, first-of}
use Rattle.dump_core.proofs.privileges.first_privilege.Goals as goal

pub distinct_ahead-requires : goal.distinct_ahead-requires
distinct_ahead-requires c =
    let h = select-ahead c.args.kinds.now _ _ c.requires.some c.index-kinds-0.is c.in-Select.is in
    record { some = h.some; few = few-ahead by_column.Select c.args.kinds.now h c.requires.few }

pub distinct_ahead-requires-in-Update : goal.distinct_ahead-requires-in-Update
distinct_ahead-requires-in-Update c =
    let h = update-ahead c.args.kinds.now _ _ c.requires.some c.index-kinds-0.is c.in-Update.is in
    record { some = h.some; few = few-ahead by_column.Update c.args.kinds.now h c.requires.few }

pub returns-in_ok-columns-in-Select : goal.returns-in_ok-columns-in-Select
returns-in_ok-columns-in-Select c =
    let h = select-ahead c.args.kinds.now _ _ c.requires.some c.index-kinds-0.is c.in-Select.is in
    let same = c.as_slice-count.ensures in
    let f = first-of by_column.Select c.args.kinds.now c.in_ok-columns-in-Select.columns (length c.as_slice-count.result.now) h c.in_ok-columns-in-Select.ensures (ap length same.items) in
    record { first = f.first; some = omega (arith, ap length same.items, same.some); within = f.within }

pub returns-in_ok-columns-in-Update : goal.returns-in_ok-columns-in-Update
returns-in_ok-columns-in-Update c =
    let h = update-ahead c.args.kinds.now _ _ c.requires.some c.index-kinds-0.is c.in-Update.is in
    let same = c.as_slice-count-in-Update.ensures in
    let f = first-of by_column.Update c.args.kinds.now c.in_ok-columns-in-Update.columns (length c.as_slice-count-in-Update.result.now) h c.in_ok-columns-in-Update.ensures (ap length same.items) in
    record { first = f.first; some = omega (arith, ap length same.items, same.some); within = f.within }
