-- What a question supposes.
use Rattle.std.specs.Prelude.{◌≡◌, ℕ, List, Option, Some, None}
use Rattle.system_core.specs.World.{World}
use Rattle.load_core.specs.Loader.{EntersLine}
use Rattle.explain_text.specs.declared.question.Question.{Question}
use Rattle.explain_text.specs.declared.question.Question.TheVariants as questions

-- the line that a question supposes, if it supposes one
abbrev pub supposed_line : Question → Option (List ℕ)
supposed_line (questions.Why user privilege table) = None
supposed_line (questions.Who table privilege) = None
supposed_line questions.Rights = None
supposed_line questions.Fell = None
supposed_line questions.Grants = None
supposed_line (questions.If line) = Some line.now
supposed_line (questions.Cut user privilege table) = None
supposed_line (questions.Can user privilege table) = None
supposed_line (questions.Diff at) = None

-- the core with the change of a supposed line; where none is supposed, the core as it is
abbrev pub Supposes : Option (List ℕ) → World → World → Type 0
Supposes None old new = new ≡ old
Supposes (Some line) old new = EntersLine old line None new
