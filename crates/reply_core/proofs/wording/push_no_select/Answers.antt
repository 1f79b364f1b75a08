use Rattle.reply_core.proofs.Pushing.{grown_by_four}
use Rattle.reply_core.proofs.wording.push_no_select.Goals as goal

pub returns-clause-text : goal.returns-clause-text
returns-clause-text c = grown_by_four _ _ _ _ _ _ _ _ _ c.push_name.ensures.text c.push.ensures.text c.push-2.ensures.text c.push_name-2.ensures.text
