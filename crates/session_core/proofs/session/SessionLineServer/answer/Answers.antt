use Rattle.std.proofs.Common.{[], refl, sym, subst, ◌∙◌}
use Rattle.std.proofs.KnownBytes.{Appends-nil}
use Rattle.session_core.specs.Session.{SessionAnswers}
use Rattle.session_core.proofs.Sessions.{over_answers, owing_answers}
use Rattle.session_core.proofs.session.SessionLineServer.answer.Goals.{then-self-via-then-self, then-self-via-else-self+then-is_some}
use Rattle.session_core.proofs.session.SessionLineServer.answer.Goals as goal

pub returns-then-self : goal.returns-then-self
returns-then-self g c =
    let s = c.args.self.now in
    let line = c.args.line.now in
    let answers : SessionAnswers s line [] c.then-self.self = elim c.then-self.branch [
      | then-self-via-then-self w ↦ subst (SessionAnswers s line []) (sym w.self-is) (over_answers s _ line refl (record { pass = refl; begun = refl; tokens = refl; buffer = refl; owed = refl; desk = refl; holds = refl }) refl w.if-self.true)
      | then-self-via-else-self+then-is_some w ↦ subst (SessionAnswers s line []) (sym w.self-is) (owing_answers s _ line refl (record { pass = refl; begun = refl; tokens = refl; buffer = refl; owed = refl; desk = refl; holds = refl }) refl (sym w.is_some.ensures ∙ w.if-is_some.true))
    ] in
    (c.requires, record { text = []; is = answers; wrote = Appends-nil _ })
