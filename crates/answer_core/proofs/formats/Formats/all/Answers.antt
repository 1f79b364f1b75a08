use Rattle.std.proofs.lemmas.List.{take-replicate}
use Rattle.answer_core.proofs.formats.Formats.all.Goals as goal

pub returns : goal.returns
returns c = take-replicate c.args.count 32 c.args.format c.requires
