use Rattle.std.proofs.Common.{arith, refl, sym, ◌∙◌, ◌≡◌, ◌+◌, get_or}
use Rattle.lexer_core.proofs.Put.{fault_first}
use Rattle.lexer_core.proofs.Texts.{one_run, one_plain, one_quote, one_bad, no_end, too_long, whole_text, quote_within, plain_some}
use Rattle.lexer_core.proofs.text.text_len.Goals as goal

pub loop-at-preserved-then-run-gt0 : goal.loop-at-preserved-then-run-gt0
loop-at-preserved-then-run-gt0 c = one_run c.args.bytes.now c.loop-at.at c.loop-at.size c.loop-at.invariant c.plain_run-run.result c.plain_run-run.ensures.len

pub returns-in_default : goal.returns-in_default
returns-in_default c = (
  c.loop-at.at,
  refl,
  one_bad c.args.bytes.now c.loop-at.at c.loop-at.size c.loop-at.invariant c.in_default.ensures c.loop-at-test.true (λ e. c.if-byte_at-ne39.true (c.byte_at.ensures ∙ e)),
)

pub loop-at-smaller-then-byte_at-ne39 : goal.loop-at-smaller-then-byte_at-ne39
loop-at-smaller-then-byte_at-ne39 c = omega (arith, plain_some _ c.in-Some.len c.in-Some.ensures)

pub loop-at-preserved-then-byte_at-ne39 : goal.loop-at-preserved-then-byte_at-ne39
loop-at-preserved-then-byte_at-ne39 c =
    one_plain c.args.bytes.now c.loop-at.at c.loop-at.size c.loop-at.invariant c.in-Some.len c.in-Some.ensures c.loop-at-test.true (λ e. c.if-byte_at-ne39.true (c.byte_at.ensures ∙ e))

pub loop-at-preserved : goal.loop-at-preserved
loop-at-preserved c =
    let second : get_or c.args.bytes.now (c.loop-at.at + 1) 0 ≡ 39 = sym c.byte_at-else-byte_at-ne39.ensures ∙ c.if-byte_at-eq39.true in
    one_quote c.args.bytes.now c.loop-at.at c.loop-at.size c.loop-at.invariant (quote_within _ _ second) (sym c.byte_at.ensures ∙ c.if-byte_at-ne39.false) second

pub returns-then-size-le-MAX_TEXT : goal.returns-then-size-le-MAX_TEXT
returns-then-size-le-MAX_TEXT c =
    whole_text c.args.bytes.now c.loop-at.at c.loop-at.size c.loop-at.invariant c.loop-at-test.true (sym c.byte_at.ensures ∙ c.if-byte_at-ne39.false) (λ e. c.if-byte_at-eq39.false (c.byte_at-else-byte_at-ne39.ensures ∙ e)) c.if-size-le-MAX_TEXT.true

pub returns-else-size-le-MAX_TEXT : goal.returns-else-size-le-MAX_TEXT
returns-else-size-le-MAX_TEXT c =
    fault_first c.args.bytes.now c.args.start _ (too_long c.args.bytes.now c.loop-at.at c.loop-at.size c.loop-at.invariant c.loop-at-test.true (sym c.byte_at.ensures ∙ c.if-byte_at-ne39.false) (λ e. c.if-byte_at-eq39.false (c.byte_at-else-byte_at-ne39.ensures ∙ e)) c.if-size-le-MAX_TEXT.false)

pub returns : goal.returns
returns c = fault_first c.args.bytes.now c.args.start _ (no_end c.args.bytes.now c.loop-at.at c.loop-at.size c.loop-at.invariant c.loop-at-test.false)
