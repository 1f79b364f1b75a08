use Rattle.std.proofs.Common.{rules}
use Rattle.load_core.proofs.loading.load_whole_or_text.Goals as goal

pub returns-in-Err-clause-err : goal.returns-in-Err-clause-err
returns-in-Err-clause-err g c = search rules
