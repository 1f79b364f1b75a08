use Rattle.reader_core.proofs.Choices as choices
use Rattle.reader_core.proofs.laws.one_choice.Goals as goal

pub returns : goal.returns
returns c = record { apart = choices.clear; same = choices.one_choice }
