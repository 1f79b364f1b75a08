use Rattle.std.proofs.Common.{◌+◌, [], ◌∷◌, length}
use Rattle.std.specs.Option.{option_copied}
use Rattle.std.proofs.lemmas.Result.{on_ok_weaker, IfErr-weaker}
use Rattle.printer_core.specs.Printing.{lexeme_text}
use Rattle.parameters_core.specs.Putting.{IsPutFault, says_by, parted}
use Rattle.parameters_core.proofs.Puts.{exit, three_put, first_fault, second_fault, third_fault}
use Rattle.parameters_core.proofs.putting.put_place.Goals as goal

pub returns-in_err-put-clause-faulty : goal.returns-in_err-put-clause-faulty
returns-in_err-put-clause-faulty c =
    let said = says_by (option_copied c.args.values) c.args.number in
    exit (IsPutFault (length c.args.line.now.items + length (parted said))) _ _ c.from_residual.ensures.1
    (first_fault (32 ∷ []) (lexeme_text said) (32 ∷ []) c.args.line.now.items _ c.in_err-put.ensures.faulty)

pub returns-in_err-put_value-clause-faulty : goal.returns-in_err-put_value-clause-faulty
returns-in_err-put_value-clause-faulty c =
    let said = says_by (option_copied c.args.values) c.args.number in
    exit (IsPutFault (length c.args.line.now.items + length (parted said))) _ _ c.from_residual-in_err-put_value.ensures.1
    (second_fault (32 ∷ []) (lexeme_text said) (32 ∷ []) c.args.line.now.items c.put.new.line.items _ c.in_ok-put.ensures.put c.in_err-put_value.ensures.faulty)

pub returns : goal.returns
returns c =
    let said = says_by (option_copied c.args.values) c.args.number in
    record {
      put = on_ok_weaker c.put-2.result (λ p. three_put (32 ∷ []) (lexeme_text said) (32 ∷ []) c.args.line.now.items c.put.new.line.items c.put_value.new.line.items c.put-2.new.line.items c.in_ok-put.ensures.put c.in_ok-put_value.ensures.put p) c.put-2.ensures.put;
      faulty = IfErr-weaker c.put-2.result (IsPutFault (length c.put_value.new.line.items + 1)) (IsPutFault (length c.args.line.now.items + length (parted said))) (λ e f. third_fault (32 ∷ []) (lexeme_text said) (32 ∷ []) c.args.line.now.items c.put.new.line.items c.put_value.new.line.items e c.in_ok-put.ensures.put c.in_ok-put_value.ensures.put f) c.put-2.ensures.faulty;
    }
