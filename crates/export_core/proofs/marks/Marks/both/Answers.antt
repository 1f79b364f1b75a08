use Rattle.std.proofs.Common.{◌≡◌, ◌&&◌, true, [], ◌∷◌, ◌++◌, take, get_or, sym, ap, ◌∙◌, arith}
use Rattle.std.proofs.lemmas.List.{take_all}
use Rattle.export_core.specs.Marks.{both}
use Rattle.export_core.proofs.Cutting.{both-each, both-more}
use Rattle.export_core.proofs.marks.Marks.both.Goals as goal
use Rattle.export_core.proofs.marks.Marks.both.Goals.{then-is_set, else-is_set}

pub returns-in_default : goal.returns-in_default
returns-in_default c = sym (both-each c.args.self c.args.others.now c.in_default.ensures)

pub loop-at-preserved : goal.loop-at-preserved
loop-at-preserved c =
    let marks = c.args.self in
    let set = c.in-Some.set.now in
    let i = c.loop-at.at in
    let pushed : c.if-is_set.push ≡ (get_or marks i true && get_or set i true) =
    elim c.if-is_set.branch [
      | then-is_set w ↦ w.push-is ∙ w.is_set-then-is_set.ensures ∙ ap (λ b. b && get_or set i true) (sym (sym c.is_set.ensures ∙ w.if-is_set.true))
      | else-is_set w ↦ w.push-is ∙ w.if-is_set.false ∙ ap (λ b. b && get_or set i true) (sym (sym c.is_set.ensures ∙ w.if-is_set.false))
    ] in
    c.in_ok-push.ensures.items
    ∙ ap (λ l. l ++ c.if-is_set.push ∷ []) c.loop-at.invariant
    ∙ ap (λ b. both (take i marks) set ++ b ∷ []) pushed
    ∙ sym (both-more marks set i (omega (arith, c.loop-at-test.true, c.len-at-end.ensures)))

pub returns : goal.returns
returns c =
    c.of.ensures
    ∙ c.loop-at.invariant
    ∙ ap (λ marks. both marks c.in-Some.set.now) (take_all c.loop-at.at c.args.self (omega (arith, c.loop-at-test.false, c.len-at-end.ensures)))
    ∙ ap (both c.args.self) c.in-Some.ensures
