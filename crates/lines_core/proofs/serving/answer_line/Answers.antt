use Rattle.std.proofs.Common.{rules}
use Rattle.lines_core.proofs.serving.answer_line.Goals as goal

pub returns-clause-text : goal.returns-clause-text
returns-clause-text g c = search rules

pub returns-in_err-answer-clause-text : goal.returns-in_err-answer-clause-text
returns-in_err-answer-clause-text g c = search rules
