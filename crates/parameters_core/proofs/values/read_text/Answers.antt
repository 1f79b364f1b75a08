use Rattle.std.proofs.Common.{◌≡◌, Bool, sym, ap, ◌∙◌, List, ℕ, arith}
use Rattle.std.specs.List.{list_any}
use Rattle.std.specs.Char.{is_control}
use Rattle.std.specs.Str.{chars}
use Rattle.parameters_core.proofs.ReadValues.{plain_text, no_plain_text, short_text}
use Rattle.parameters_core.proofs.values.read_text.Goals as goal

-- whether the bytes have a control character, as it was looked for in the text that they are
looked_for : (text bytes : List ℕ) (found test : Bool) → text ≡ bytes → found ≡ list_any is_control (chars text) → found ≡ test → list_any is_control (chars bytes) ≡ test
looked_for text bytes found test e f g = ap (λ (x : List ℕ). list_any is_control (chars x)) (sym e) ∙ (sym f ∙ g)

pub returns-then-has_control-clause-faulty : goal.returns-then-has_control-clause-faulty
returns-then-has_control-clause-faulty c =
    let e = looked_for _ c.args.bytes.now c.has_control.result _ c.in-Ok.ensures.cases.0 c.has_control.ensures c.if-has_control.true in
    λ is_binary text. no_plain_text c.args.bytes.now e text

pub returns-then-bytes-gt-MAX_TEXT-clause-faulty : goal.returns-then-bytes-gt-MAX_TEXT-clause-faulty
returns-then-bytes-gt-MAX_TEXT-clause-faulty c =
    let e = looked_for _ c.args.bytes.now c.has_control.result _ c.in-Ok.ensures.cases.0 c.has_control.ensures c.if-has_control.false in
    λ is_binary. (plain_text c.args.bytes.now c.in-Ok.ensures.cases.1 e, omega arith)

pub from_bytes-requires : goal.from_bytes-requires
from_bytes-requires c =
    let e = looked_for _ c.args.bytes.now c.has_control.result _ c.in-Ok.ensures.cases.0 c.has_control.ensures c.if-has_control.false in
    short_text c.args.bytes.now (plain_text c.args.bytes.now c.in-Ok.ensures.cases.1 e) (omega arith)
