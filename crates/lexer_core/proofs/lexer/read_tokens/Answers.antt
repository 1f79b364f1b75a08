use Rattle.std.proofs.Common.{arith, sym, subst, List}
use Rattle.lexer_core.specs.declared.token.Token as tokens
use Rattle.lexer_core.specs.Lexing.{AreTokens, long_line}
use Rattle.lexer_core.proofs.Reached.{Reached, nothing, one_blank, one_more, one_fault, goes_on, whole}
use Rattle.lexer_core.proofs.Spelled.{tokens_heard, tokens_say, tokens_within, tokens_ordered}
use Rattle.lexer_core.proofs.lexer.read_tokens.Goals as goal

pub returns-then-line-gt-MAX_LINE-clause-outcome : goal.returns-then-line-gt-MAX_LINE-clause-outcome
returns-then-line-gt-MAX_LINE-clause-outcome c = long_line (omega arith)

pub loop-at-init : goal.loop-at-init
loop-at-init c = subst (λ (ts : List tokens.Token). Reached c.args.line.now 0 ts) (sym c.clear.ensures.items) (nothing c.args.line.now (omega arith))

pub loop-at-preserved-then-is_blank : goal.loop-at-preserved-then-is_blank
loop-at-preserved-then-is_blank c = one_blank c.args.line.now c.loop-at.at c.loop-at.tokens.items c.loop-at.invariant c.loop-at-test.true (cc)

pub loop-at-smaller : goal.loop-at-smaller
loop-at-smaller c = omega (arith, c.loop-at-test.true, goes_on c.args.line.now c.loop-at.at c.loop-at.tokens.items c.loop-at.invariant c.first_token.new.tokens.items c.in-Ok.end c.in-Ok.ensures)

pub loop-at-preserved : goal.loop-at-preserved
loop-at-preserved c = one_more c.args.line.now c.loop-at.at c.loop-at.tokens.items c.loop-at.invariant c.first_token.new.tokens.items c.in-Ok.end c.in-Ok.ensures

pub returns-in-Err-clause-outcome : goal.returns-in-Err-clause-outcome
returns-in-Err-clause-outcome c = one_fault c.args.line.now c.loop-at.at c.loop-at.tokens.items c.loop-at.invariant c.in-Err.fault c.in-Err.ensures

pub returns : goal.returns
returns c =
    let line = c.args.line.now in
    let ts = c.loop-at.tokens.items in
    let read : AreTokens line ts = whole line c.loop-at.at ts c.loop-at.invariant c.loop-at-test.false in
    record {
      outcome = read;
      spelled = tokens_heard line ts read;
      says = tokens_say line ts read;
      ordered = tokens_ordered line ts read;
      within = tokens_within line ts read;
    }
