use Rattle.std.proofs.Common.{◌+◌, ◌-◌, ◌*◌, ◌<◌, ◌∙◌, drop, slice_index, refl, sym, arith}
use Rattle.index_core.specs.Rank.{leading}
use Rattle.index_core.proofs.RankLemmas.{leading-more, leading-fits, leading-whole, leading-done}
use Rattle.index_core.proofs.rank.leading.Goals as goal

pub loop-at-preserved : goal.loop-at-preserved
loop-at-preserved c =
    sym (leading-more c.loop-at.so_far c.loop-at.at c.byte_at.result c.args.bytes.now c.loop-at-test.true c.byte_at.ensures.value c.byte_at.ensures.byte) ∙ c.loop-at.invariant

pub overflow_mul-so_far : goal.overflow_mul-so_far
overflow_mul-so_far c =
    let bytes = c.args.bytes.now in
    let at = c.loop-at.at in
    let byte = slice_index bytes at in
    let below : byte < 256 = (c.type_inv.bytes at).fits in
    let next = sym (leading-more c.loop-at.so_far at byte bytes c.loop-at-test.true refl below) ∙ c.loop-at.invariant in
    let upto = leading-fits (c.loop-at.so_far * 256 + byte) (8 - (at + 1)) (leading (8 - (at + 1)) (drop (at + 1) bytes)) (leading 8 bytes) next in
    let whole = leading-whole bytes in
    record { fits = omega (arith, upto, whole) }

pub overflow_add-so_far : goal.overflow_add-so_far
overflow_add-so_far c =
    let bytes = c.args.bytes.now in
    let at = c.loop-at.at in
    let byte = c.byte_at.result in
    let next = sym (leading-more c.loop-at.so_far at byte bytes c.loop-at-test.true c.byte_at.ensures.value c.byte_at.ensures.byte) ∙ c.loop-at.invariant in
    let upto = leading-fits (c.loop-at.so_far * 256 + byte) (8 - (at + 1)) (leading (8 - (at + 1)) (drop (at + 1) bytes)) (leading 8 bytes) next in
    let whole = leading-whole bytes in
    record { fits = omega (arith, upto, whole) }

pub returns : goal.returns
returns c = leading-done c.loop-at.so_far c.loop-at.at c.args.bytes.now (omega (arith, c.loop-at-test.false)) c.loop-at.invariant
