use Rattle.std.proofs.Common.{rules}
use Rattle.grants_core.proofs.log.GrantLog.enter.Goals as goal

pub returns-in_ok-note_revocation-in-RevokeOption-clause-unoptioned : goal.returns-in_ok-note_revocation-in-RevokeOption-clause-unoptioned
returns-in_ok-note_revocation-in-RevokeOption-clause-unoptioned c = search rules

pub returns-in_ok-note_revocation-in-Revoke-clause-struck : goal.returns-in_ok-note_revocation-in-Revoke-clause-struck
returns-in_ok-note_revocation-in-Revoke-clause-struck c = search rules
