use Rattle.std.proofs.Common.{◌+◌, [], ◌∷◌, length}
use Rattle.std.proofs.lemmas.Result.{on_ok_weaker, IfErr-weaker}
use Rattle.lexer_core.specs.Lexing.{Text}
use Rattle.printer_core.specs.Printing.{doubled, lexeme_text}
use Rattle.parameters_core.specs.Putting.{IsPutFault}
use Rattle.parameters_core.proofs.Puts.{exit, three_put, first_fault, second_fault, third_fault}
use Rattle.parameters_core.proofs.putting.put_quoted.Goals as goal

pub returns-in_err-put-clause-faulty : goal.returns-in_err-put-clause-faulty
returns-in_err-put-clause-faulty c =
    exit (IsPutFault (length c.args.line.now.items + length (lexeme_text (Text c.args.text.now)))) _ _ c.from_residual.ensures.1
    (first_fault (39 ∷ []) (doubled c.args.text.now) (39 ∷ []) c.args.line.now.items _ c.in_err-put.ensures.faulty)

pub returns-in_err-put_doubled-clause-faulty : goal.returns-in_err-put_doubled-clause-faulty
returns-in_err-put_doubled-clause-faulty c =
    exit (IsPutFault (length c.args.line.now.items + length (lexeme_text (Text c.args.text.now)))) _ _ c.from_residual-in_err-put_doubled.ensures.1
    (second_fault (39 ∷ []) (doubled c.args.text.now) (39 ∷ []) c.args.line.now.items c.put.new.line.items _ c.in_ok-put.ensures.put c.in_err-put_doubled.ensures.faulty)

pub returns : goal.returns
returns c =
    let quoted = lexeme_text (Text c.args.text.now) in
    record {
      put = on_ok_weaker c.put-2.result (λ p. three_put (39 ∷ []) (doubled c.args.text.now) (39 ∷ []) c.args.line.now.items c.put.new.line.items c.put_doubled.new.line.items c.put-2.new.line.items c.in_ok-put.ensures.put c.in_ok-put_doubled.ensures.put p) c.put-2.ensures.put;
      faulty = IfErr-weaker c.put-2.result (IsPutFault (length c.put_doubled.new.line.items + 1)) (IsPutFault (length c.args.line.now.items + length quoted)) (λ e f. third_fault (39 ∷ []) (doubled c.args.text.now) (39 ∷ []) c.args.line.now.items c.put.new.line.items c.put_doubled.new.line.items e c.in_ok-put.ensures.put c.in_ok-put_doubled.ensures.put f) c.put-2.ensures.faulty;
    }
