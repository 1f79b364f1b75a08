-- Whose session it is has come by right.
use Rattle.std.specs.Arc.{arc_value}
use Rattle.std.proofs.Common.{◌≡◌, List, [], ◌++◌, Option, Some, None, sym, ap, ◌∙◌, subst, refl, inl, inr, append-nil}
use Rattle.std.specs.Prelude.{Result, Ok, Err}
use Rattle.std.specs.Str.Lines.{lines}
use Rattle.base_core.specs.declared.name.User.{User}
use Rattle.login_core.specs.Exchange.{ended}
use Rattle.lines_core.specs.Serving.{Traffic}
use Rattle.lines_core.specs.declared.serving.SessionFault.{SessionFault}
use Rattle.lines_core.specs.declared.serving.SessionFault.TheVariants as faults
use Rattle.desk_core.specs.Guarded.{DeskLock, DeskPass}
use Rattle.session_core.specs.declared.session_end.SessionEnd.{SessionEnd}
use Rattle.session_core.specs.declared.session_end.SessionEnd.TheVariants as session_ends
use Rattle.session_core.specs.declared.summary.Summary.{Summary}
use Rattle.session_core.specs.declared.admission.Admission.{Admission}
use Rattle.std.proofs.Common.{All}
use Rattle.std.proofs.lemmas.List.Elements.{All-nil, All-weaker}
use Rattle.system_core.specs.declared.machine.event.Entry.{Entry}
use Rattle.turnstile.specs.Passes.{mine}
use Rattle.desk_core.specs.Turns.{asked_by}
use Rattle.session_core.specs.Session.{SessionState, GainsOf, AnswersSession, EndsAt, EndsBy, EndsSession}
use Rattle.session_core.specs.declared.admission.Admission.TheVariants as admissions
use Rattle.session_core.specs.Showing.{step, known_step, known_end, by_end, login_receives}
use Rattle.session_core.specs.LoggedIn.{HasLoggedIn, HasComeAs}

-- what follows from any end of the lines of a session follows from its end
by_ends : {K : Type 0} (desk : DeskLock K) (admission : Admission) (P : Type 0) (ended : Result (Unit {0}) SessionEnd) (last : SessionState K) (old new : DeskPass K) (traffic : Traffic)
    → ((r : Result (Unit {0}) SessionFault) → EndsAt desk admission r last old new traffic → P)
    → EndsBy desk admission ended last old new traffic → P
by_ends desk admission P (Ok x) last old new traffic f (kept, at) = f (Ok tt) at
by_ends desk admission P (Err (session_ends.Session fault)) last old new traffic f (kept, at) = f (Err fault) at
by_ends desk admission P (Err session_ends.Journal) last old new traffic f (unkept, inl at) = f (Ok tt) at
by_ends desk admission P (Err session_ends.Journal) last old new traffic f (unkept, inr at) = f (Err faults.Write) at

-- whose session it is has come by right
pub has_come : {K : Type 0} (desk : DeskLock K) (admission : Admission) (summary : Summary) (old new : DeskPass K) (traffic : Traffic) (user : User)
    → EndsSession desk admission summary old new traffic → summary.user ≡ Some user → HasComeAs admission traffic user
has_come desk admissions.Anyone summary old new traffic user e named = tt
has_come desk (admissions.Known known) summary old new traffic user e named =
    by_ends desk (admissions.Known known) (user ≡ known) summary.ended e.last old new traffic
    (λ r at. known_end desk known (AnswersSession desk) (known_step desk known) r old e.last traffic user (sym e.user_is ∙ named) at.ends) e.ends
has_come {K = K} desk (admissions.Login file secret own) summary old new traffic user e named =
    by_ends desk (admissions.Login file secret own) (HasLoggedIn (arc_value file).users secret own traffic user) summary.ended e.last old new traffic
    (λ r at. by_end (arc_value file).users secret own (admissions.Login file secret own) (login_receives file secret own) desk
    (AnswersSession desk) (step (arc_value file).users secret own (admissions.Login file secret own) (login_receives file secret own) desk) old e.last user (sym e.user_is ∙ named) r traffic at.ends) e.ends

come_by_gains : {K : Type 0} (admission : Admission) (old new : DeskPass K) (traffic : Traffic) (found : Option User) → ((user : User) → found ≡ Some user → HasComeAs admission traffic user) → GainsOf found old new
    → (es : List Entry) × (mine asked_by new ≡ mine asked_by old ++ es) × All (λ (e : Entry). HasComeAs admission traffic e.user) es
come_by_gains admission old new traffic None come same =
    ([], ap (mine asked_by) same ∙ sym (append-nil (mine asked_by old)), All-nil (λ (e : Entry). HasComeAs admission traffic e.user))
come_by_gains admission old new traffic (Some user) come gains =
    (gains.entries, gains.mine_is, All-weaker (λ (e : Entry). e.user ≡ user) (λ e. HasComeAs admission traffic e.user) (λ e is. subst (HasComeAs admission traffic) (sym is) (come user refl)) gains.entries gains.bear)

-- what a session enters is of users who have come by right
pub entries_come : {K : Type 0} (desk : DeskLock K) (admission : Admission) (summary : Summary) (old new : DeskPass K) (traffic : Traffic) → EndsSession desk admission summary old new traffic
    → (es : List Entry) × (mine asked_by new ≡ mine asked_by old ++ es) × All (λ (e : Entry). HasComeAs admission traffic e.user) es
entries_come desk admission summary old new traffic e =
    let gains = by_ends desk admission (GainsOf e.last.user old new) summary.ended e.last old new traffic (λ r at. at.gained) e.ends in
    come_by_gains admission old new traffic e.last.user (λ user is. has_come desk admission summary old new traffic user e (e.user_is ∙ is)) gains
