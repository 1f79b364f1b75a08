use Rattle.std.proofs.Common.{rules}
use Rattle.capture_core.proofs.image.Image.holds.Goals as goal

pub returns-then-owns : goal.returns-then-owns
returns-then-owns c = search rules
