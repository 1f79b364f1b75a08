use Rattle.std.proofs.Common.{sym}
use Rattle.reader_core.specs.Language.{IsReadFaultOf}
use Rattle.reader_core.proofs.Lines.{exit_err, lexical_fault, no_tokens, body_fault, end_fault, spelled_so, empty_vec, some_vec}
use Rattle.reader_core.proofs.reading.parse.Goals as goal

pub returns-in_err-read_tokens-clause-faulty : goal.returns-in_err-read_tokens-clause-faulty
returns-in_err-read_tokens-clause-faulty c = exit_err (IsReadFaultOf c.args.line.now) _ _ c.from_residual.ensures.1 (lexical_fault _ _ c.in_err-read_tokens.ensures.outcome)

pub returns-then-is_empty-clause-faulty : goal.returns-then-is_empty-clause-faulty
returns-then-is_empty-clause-faulty c = no_tokens _ _ c.in_ok-read_tokens.ensures.outcome (empty_vec c.read_tokens.new.tokens (sym c.if-is_empty.ensures))

pub returns-in_err-statement-clause-faulty : goal.returns-in_err-statement-clause-faulty
returns-in_err-statement-clause-faulty c =
    exit_err (IsReadFaultOf c.args.line.now) _ _ c.from_residual-in_err-statement.ensures.1
    (body_fault c.args.line.now c.read_tokens.new.tokens.items c.as_slice.result.now c.new-reader.result c.new-reader.ensures c.as_slice.ensures.value c.in_ok-read_tokens.ensures.outcome (some_vec c.read_tokens.new.tokens (sym c.if-is_empty.ensures)) _ c.in_err-statement.ensures.reads)

pub returns-in_err-finish-clause-faulty : goal.returns-in_err-finish-clause-faulty
returns-in_err-finish-clause-faulty c =
    exit_err (IsReadFaultOf c.args.line.now) _ _ c.from_residual-in_err-finish.ensures.1
    (end_fault c.args.line.now c.read_tokens.new.tokens.items c.as_slice.result.now c.new-reader.result c.new-reader.ensures c.as_slice.ensures.value c.in_ok-read_tokens.ensures.outcome (some_vec c.read_tokens.new.tokens (sym c.if-is_empty.ensures)) _ _ _ c.in_ok-statement.ensures.reads c.in_err-finish.ensures.err)

pub returns-clause-spelled : goal.returns-clause-spelled
returns-clause-spelled c =
    spelled_so c.args.line.now c.read_tokens.new.tokens.items c.as_slice.result.now c.new-reader.result c.new-reader.ensures c.as_slice.ensures.value c.in_ok-read_tokens.ensures.outcome (some_vec c.read_tokens.new.tokens (sym c.if-is_empty.ensures)) _ c.in_ok-statement.statement c.in_ok-read_tokens.ensures.says c.in_ok-statement.ensures.reads c.in_ok-finish.ensures.ok.1 c.in_ok-statement.ensures.well_formed
