use Rattle.std.proofs.Common.{subst, List, ℕ}
use Rattle.std.proofs.lemmas.Str.{IsUtf8-from_ascii}
use Rattle.std.specs.Str.Parse.{ParsesSigned}
use mir.Syntax.{w64}
use Rattle.lexer_core.proofs.Numbers.{numeral_ascii, parsed}
use Rattle.lexer_core.proofs.number.value.Goals as goal

pub unreachable-requires : goal.unreachable-requires
unreachable-requires c = c.in-Err.ensures.cases.0 (IsUtf8-from_ascii c.args.spelled.now (numeral_ascii c.args.spelled.now c.requires.unsigned c.requires.digits))

pub returns : goal.returns
returns c =
    rw c.ok.ensures.value
    (parsed c.args.spelled.now c.parse.result c.requires.unsigned c.requires.digits
    (subst (λ (bs : List ℕ). ParsesSigned w64 10 bs c.parse.result) c.in-Ok.ensures.cases.0 c.parse.ensures.value.0))
