use Rattle.entry_core.proofs.Sending.{claimed_by, asked_by, proved_by, proved_on, proved_session}
use Rattle.entry_core.proofs.laws.login_goes_on.Goals as goal

pub returns-clause-claimed : goal.returns-clause-claimed
returns-clause-claimed c = λ sent parameters user named. claimed_by sent parameters user named

pub returns-clause-asked : goal.returns-clause-asked
returns-clause-asked c = λ users secret own sent body user begun claimed begins.
    asked_by users secret own sent body user begun claimed begins.0 begins.1

pub returns-clause-proved : goal.returns-clause-proved
returns-clause-proved c = λ users secret own sent body begun user answer asked proves.
    proved_by users secret own sent body answer.items begun user.0 asked proves.0 proves.1

pub returns-clause-more : goal.returns-clause-more
returns-clause-more c = λ users secret own sent more user proves. proved_on users secret own sent more user proves

pub returns-clause-session : goal.returns-clause-session
returns-clause-session c = λ users secret own sent traffic user proves read.
    proved_session users secret own sent traffic user proves read
