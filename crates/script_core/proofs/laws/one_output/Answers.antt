use Rattle.script_core.proofs.Memory.{full_or_memory}
use Rattle.script_core.proofs.OneOutput as outputs
use Rattle.script_core.proofs.laws.one_output.Goals as goal

pub returns : goal.returns
returns c = record { one = outputs.one_output; answer = outputs.full_is_answer; full = full_or_memory }
