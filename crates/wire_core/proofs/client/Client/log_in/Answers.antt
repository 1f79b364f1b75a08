use Rattle.std.proofs.Common.{ℕ, List, sym, subst}
use Rattle.login_core.specs.declared.user_file.UserFile.{UserFile}
use Rattle.session_core.specs.declared.admission.Admission.{Admission}
use Rattle.wire_core.specs.Entering.{EntersBy, LogsInBy, WhereLogin, not_expected}
use Rattle.wire_core.proofs.Answering.{closed, left_by, login_by, never, no_login_by, no_login_found, talked}
use Rattle.wire_core.proofs.client.Client.log_in.Goals as goal

pub returns-in-Terminate : goal.returns-in-Terminate
returns-in-Terminate c =
    closed (λ old items new. EntersBy c.args.admission.now c.args.name old c.args.message items new) _ _ c.self.view_is c.requires _ _ _ c.close.ensures.sending c.close.ensures.state
    (left_by c.args.admission.now c.args.name _ c.args.message c.in-Terminate.is)

pub returns-in_default : goal.returns-in_default
returns-in_default c =
    talked (λ old items new. EntersBy c.args.admission.now c.args.name old c.args.message items new) _ _ c.self.view_is c.requires _ _ _ _ c.end.ensures.items c.end.ensures.state
    (not_expected (never c.args.message c.in_default.not-Password c.in_default.not-Terminate))

pub returns-in-Login : goal.returns-in-Login
returns-in-Login c =
    login_by c.args.admission.now c.args.name c.args.self.now.state c.args.message c.in-Password.body _ _ c.in-Password.is
    (subst (λ (a : Admission). WhereLogin a (λ users secret own. LogsInBy users secret own c.args.name c.in-Password.body c.args.self.now.state c.log_in_by.new.self.sending.items c.log_in_by.new.self.state)) (sym c.in-Login.is)
    (subst (λ (z : UserFile × List ℕ). LogsInBy z.0.users c.in-Login.secret c.in-Login.own c.args.name z.1 c.args.self.now.state c.log_in_by.new.self.sending.items c.log_in_by.new.self.state)
    (λ i. (c.deref.ensures i, c.as_slice.ensures i)) c.log_in_by.ensures))

pub returns-in_default-admission : goal.returns-in_default-admission
returns-in_default-admission c =
    talked (λ old items new. EntersBy c.args.admission.now c.args.name old c.args.message items new) _ _ c.self.view_is c.requires _ _ _ _ c.end-in_default-admission.ensures.items c.end-in_default-admission.ensures.state
    (no_login_by c.args.admission.now c.args.name _ c.args.message c.in-Password.body c.in-Password.is (no_login_found c.args.admission.now c.in_default-admission.not-Login))
