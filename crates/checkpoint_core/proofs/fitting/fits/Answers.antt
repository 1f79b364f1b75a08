use Rattle.std.proofs.Common.{◌≡◌, ◌<◌, ◌≤◌, length, rules}
use Rattle.checkpoint_core.proofs.Sizes.{no_statements, one_more, few_statements}
use Rattle.checkpoint_core.proofs.fitting.fits.Goals as goal

pub loop-table-init : goal.loop-table-init
loop-table-init c = no_statements c.as_slice-table-items.result.now c.args.most

pub loop-table-preserved : goal.loop-table-preserved
loop-table-preserved c =
    let within : c.loop-table.table-index < length c.as_slice-table-items.result.now = search rules in
    let size : c.len-rows.result ≡ length c.table-item.result.rows = search rules in
    let room : c.len-rows.result < c.loop-table.left = search rules in
    one_more c.as_slice-table-items.result.now c.loop-table.table-index c.table-item.result c.loop-table.left c.len-rows.result c.args.most within c.table-item.is size room c.loop-table.invariant

pub returns : goal.returns
returns c = λ yes.
    let same : c.as_slice-table-items.result.now ≡ c.args.image.now.tables = search rules in
    let all : length c.as_slice-table-items.result.now ≤ c.loop-table.table-index = search rules in
    let grants : length c.args.image.now.grants ≤ c.loop-table.left = search rules in
    few_statements c.args.image.now c.as_slice-table-items.result.now c.loop-table.table-index c.args.most c.loop-table.left same all c.loop-table.invariant grants
