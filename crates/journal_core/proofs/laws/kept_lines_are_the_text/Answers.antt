use Rattle.journal_core.proofs.Kept.{kept-text, owed-text}
use Rattle.journal_core.proofs.laws.kept_lines_are_the_text.Goals as goal

pub returns : goal.returns
returns g c = record { kept = kept-text; owed = owed-text g.W.Errands.may_run g.W.Errands.knows }
