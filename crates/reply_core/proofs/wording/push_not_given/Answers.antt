use Rattle.reply_core.proofs.Pushing.{grown_by_three}
use Rattle.reply_core.proofs.wording.push_not_given.Goals as goal

pub returns-clause-text : goal.returns-clause-text
returns-clause-text c = grown_by_three _ _ _ _ _ _ _ c.push_about_atom.ensures.text c.push.ensures.text c.push_name.ensures.text
