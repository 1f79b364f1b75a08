use Rattle.std.proofs.Common.{length, take, ap, ◌∙◌}
use Rattle.std.proofs.lemmas.List.{take_min}
use Rattle.std.proofs.Math.Nat.{min_comm}
use Rattle.lines_core.specs.declared.line.TheConstants.{KEPT_BYTES}
use Rattle.lines_core.proofs.line.kept.Goals as goal

pub returns : goal.returns
returns c = let bytes = c.args.bytes.now in ap (λ k. take k bytes) (c.min.ensures ∙ min_comm (length bytes) KEPT_BYTES) ∙ take_min KEPT_BYTES bytes
