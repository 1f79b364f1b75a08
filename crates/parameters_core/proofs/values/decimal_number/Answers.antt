use Rattle.std.proofs.Common.{sym, ◌∙◌, subst, List, ℕ}
use Rattle.std.specs.Str.Parse.{ParsesSigned}
use mir.Syntax.{w64}
use Rattle.parameters_core.proofs.ReadValues.{number_read, no_number_with_plus, no_number_beyond_utf8}
use Rattle.parameters_core.proofs.values.decimal_number.Goals as goal

pub returns-then-byte_at-eq43 : goal.returns-then-byte_at-eq43
returns-then-byte_at-eq43 c = no_number_with_plus c.args.bytes.now (sym c.byte_at.ensures ∙ c.if-byte_at-eq43.true)

pub returns-in-Ok : goal.returns-in-Ok
returns-in-Ok c =
    rw c.ok.ensures.value
    (number_read c.args.bytes.now c.parse.result (λ e. c.if-byte_at-eq43.false (c.byte_at.ensures ∙ e))
    (subst (λ (bs : List ℕ). ParsesSigned w64 10 bs c.parse.result) c.in-Ok.ensures.cases.0 c.parse.ensures.value.0))

pub returns-in-Err : goal.returns-in-Err
returns-in-Err c = no_number_beyond_utf8 c.args.bytes.now c.in-Err.ensures.cases.0
