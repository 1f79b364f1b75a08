use Rattle.std.proofs.Common.{◌≡◌, List, subst}
use Rattle.base_core.specs.declared.name.User.{User}
use Rattle.reader_core.specs.declared.privilege.Privilege.{Privilege}
use Rattle.reader_core.specs.declared.statement.Statement.TheVariants as statements
use Rattle.monitor_core.specs.Verdict.{verdict}
use Rattle.monitor_core.proofs.judging.Judge.judge.Goals as goal

pub returns-in-Grant : goal.returns-in-Grant
returns-in-Grant g c =
    let ByPrivileges : List Privilege → Type 0 = λ ps. c.grant.result ≡ verdict c.args.self.now c.args.user.now (statements.Grant ps c.in-Grant.table c.as_slice-in-Grant-2.result.now c.in-Grant.option) in
    let ByUsers : List User → Type 0 = λ us. c.grant.result ≡ verdict c.args.self.now c.args.user.now (statements.Grant c.in-Grant.privileges c.in-Grant.table us c.in-Grant.option) in
    rw c.in-Grant.is (subst ByUsers c.as_slice-in-Grant-2.ensures.items (subst ByPrivileges c.as_slice-in-Grant.ensures.items c.grant.ensures))

pub returns-in-Revoke : goal.returns-in-Revoke
returns-in-Revoke g c =
    let ByPrivileges : List Privilege → Type 0 = λ ps. c.revoke.result ≡ verdict c.args.self.now c.args.user.now (statements.Revoke ps c.in-Revoke.table c.as_slice-in-Revoke-2.result.now) in
    let ByUsers : List User → Type 0 = λ us. c.revoke.result ≡ verdict c.args.self.now c.args.user.now (statements.Revoke c.in-Revoke.privileges c.in-Revoke.table us) in
    rw c.in-Revoke.is (subst ByUsers c.as_slice-in-Revoke-2.ensures.items (subst ByPrivileges c.as_slice-in-Revoke.ensures.items c.revoke.ensures))

pub returns-in-RevokeOption : goal.returns-in-RevokeOption
returns-in-RevokeOption g c =
    let ByPrivileges : List Privilege → Type 0 = λ ps. c.revoke_option.result ≡ verdict c.args.self.now c.args.user.now (statements.RevokeOption ps c.in-RevokeOption.table c.as_slice-in-RevokeOption-2.result.now) in
    let ByUsers : List User → Type 0 = λ us. c.revoke_option.result ≡ verdict c.args.self.now c.args.user.now (statements.RevokeOption c.in-RevokeOption.privileges c.in-RevokeOption.table us) in
    rw c.in-RevokeOption.is (subst ByUsers c.as_slice-in-RevokeOption-2.ensures.items (subst ByPrivileges c.as_slice-in-RevokeOption.ensures.items c.revoke_option.ensures))

pub returns-in-Export : goal.returns-in-Export
returns-in-Export g c = rw c.in-Export.is (c.export.ensures c.args.user.now c.in-Export.number)
