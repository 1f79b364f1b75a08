use Rattle.std.proofs.Common.{List, ℕ, ◌≡◌, ◌+◌, IfOk, subst, sym, ◌∙◌}
use Rattle.std.specs.String.{string_bytes}
use Rattle.base_core.specs.Texts.{IsText}
use Rattle.lexer_core.proofs.Halfway.{IsHalfway, halfway_start, some_char, next_char, all_said}
use Rattle.lexer_core.proofs.Undoubled.{says_unquoted, quoted_text}
use Rattle.lexer_core.proofs.text.with_quotes_once.Goals as goal

pub loop-at-init : goal.loop-at-init
loop-at-init c = subst (λ (said : List ℕ). IsHalfway c.args.quoted.now 1 said) (sym c.in_ok-text.ensures.bytes) (halfway_start c.args.quoted.now c.requires.text)

pub loop-at-preserved : goal.loop-at-preserved
loop-at-preserved c =
    subst (λ (k : ℕ). IsHalfway c.args.quoted.now (c.loop-at.at + k) (string_bytes c.push.new.self)) (sym c.written_len-at.ensures)
    (next_char c.args.quoted.now c.loop-at.at _ c.loop-at.invariant c.loop-at-test.true c.in-Some.char c.in-Some.ensures.0 c.in-Some.ensures.1 _ c.in_ok-push-in-Some.ensures.bytes)

pub unreachable-requires : goal.unreachable-requires
unreachable-requires c = some_char c.args.quoted.now c.loop-at.at _ c.loop-at.invariant c.loop-at-test.true c.in-None.ensures

pub from_bytes-requires : goal.from_bytes-requires
from_bytes-requires c = subst IsText (sym c.as_bytes.ensures.value) (quoted_text _ c.args.quoted.now (all_said c.args.quoted.now c.loop-at.at _ c.loop-at.invariant c.loop-at-test.false))

pub returns : goal.returns
returns c =
    let said = c.as_bytes.ensures.value ∙ says_unquoted _ c.args.quoted.now (all_said c.args.quoted.now c.loop-at.at _ c.loop-at.invariant c.loop-at-test.false) in
    subst (λ (bytes : List ℕ). IfOk c.from_bytes.result (λ text. text ≡ bytes)) said c.from_bytes.ensures
