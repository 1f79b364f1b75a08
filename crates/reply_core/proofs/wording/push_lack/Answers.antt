use Rattle.reply_core.proofs.wording.push_lack.Goals as goal

pub returns-in-NoGrantOption-clause-text : goal.returns-in-NoGrantOption-clause-text
returns-in-NoGrantOption-clause-text c = rw c.in-NoGrantOption.is c.push_about_atom-in-NoGrantOption.ensures.text

pub returns-in-NoCheckpoint-clause-text : goal.returns-in-NoCheckpoint-clause-text
returns-in-NoCheckpoint-clause-text c = rw c.in-NoCheckpoint.is c.push_number_in.ensures.text
