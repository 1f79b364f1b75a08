use Rattle.std.proofs.Common.{◌≡◌, true, arith, sym, ◌∙◌, slice_index}
use Rattle.std.proofs.lemmas.List.Sums.{prefix_len-drop_yes, prefix_len-drop_all}
use Rattle.lexer_core.specs.Text.{is_plain_byte}
use Rattle.lexer_core.proofs.text.plain_run.Goals as goal

pub loop-len-preserved : goal.loop-len-preserved
loop-len-preserved c =
    let yes : is_plain_byte (slice_index c.args.bytes.now c.loop-len.len) ≡ true = sym c.is_plain_byte.ensures ∙ c.if-not-is_plain_byte.false in
    (omega (arith, c.loop-len-test.true), omega (arith, c.loop-len.invariant.1, prefix_len-drop_yes is_plain_byte c.args.bytes.now c.loop-len.len 0 c.loop-len-test.true yes))

pub returns : goal.returns
returns c = record {
  len = omega (arith, c.loop-len.invariant.1, prefix_len-drop_all is_plain_byte c.args.bytes.now c.loop-len.len c.loop-len-test.false);
  within = c.loop-len.invariant.0;
}
