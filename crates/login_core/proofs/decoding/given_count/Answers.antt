use Rattle.std.proofs.Common.{◌≡◌, sym, subst, ◌∙◌, ap, arith, decimal}
use Rattle.std.specs.Str.{IsUtf8}
use Rattle.std.proofs.lemmas.Fmt.{IsAscii-decimal}
use Rattle.std.proofs.lemmas.Str.{IsUtf8-from_ascii}
use Rattle.std.proofs.lemmas.Slice.Eq.{bytes_eq-Decides}
use Rattle.login_core.proofs.Bools.{not_both}
use Rattle.login_core.proofs.Cutting.{counted, same_value, ok_not_err}
use Rattle.login_core.proofs.decoding.given_count.Goals as goal

pub returns-in_default : goal.returns-in_default
returns-in_default c = λ n some small e.
    c.in_default.ensures.cases.0 (subst IsUtf8 (sym e) (IsUtf8-from_ascii (decimal n) (IsAscii-decimal n (omega (small, arith)))))

pub returns-in_default-parse : goal.returns-in_default-parse
returns-in_default-parse c = λ n some small e.
    let read = counted n c.args.text.now c.in-Ok.digits.now c.parse.result c.in-Ok.ensures.cases.0 c.parse.ensures.value.0 small e
    in ok_not_err c.parse.result n c.in_default-parse.field-0 read c.in_default-parse.is

pub returns-then-count-eq0 : goal.returns-then-count-eq0
returns-then-count-eq0 c = λ n some small e.
    let read = counted n c.args.text.now c.in-Ok.digits.now c.parse.result c.in-Ok.ensures.cases.0 c.parse.ensures.value.0 small e
    in let same : c.in-Ok-parse.count ≡ n = same_value c.parse.result c.in-Ok-parse.count n c.in-Ok-parse.is read
    in omega (some, same, c.if-count-eq0.true, arith)

pub returns-then-ne : goal.returns-then-ne
returns-then-ne c = λ n some small e.
    let read = counted n c.args.text.now c.in-Ok.digits.now c.parse.result c.in-Ok.ensures.cases.0 c.parse.ensures.value.0 small e
    in let same : c.in-Ok-parse.count ≡ n = same_value c.parse.result c.in-Ok-parse.count n c.in-Ok-parse.is read
    in let printed : decimal c.in-Ok-parse.count ≡ c.args.text.now = ap decimal same ∙ sym e
    in let same_text : c.as_bytes.result.now ≡ c.args.text.now
    = c.as_bytes.ensures.value ∙ c.format.ensures.text ∙ printed
    in let decides = bytes_eq-Decides c.as_bytes.result.now c.args.text.now
    in not_both _ (sym c.ne.ensures ∙ c.if-ne.true) (decides.1 same_text)
