use Rattle.std.proofs.Common.{not, ap, sym, ◌∙◌}
use Rattle.std.proofs.lemmas.Bool.{and_left, and_right}
use Rattle.grants_core.proofs.KeptLemmas.{has_support-noted, has_support-passed_over}
use Rattle.grants_core.proofs.kept.note_holding.Goals as goal
use Rattle.grants_core.proofs.kept.note_holding.Goals.{else-grant-via-then-grant+else-not-is_held_before, else-grant-via-else-grant}

pub returns-in_ok-insert : goal.returns-in_ok-insert
returns-in_ok-insert c = λ g.
    has_support-noted c.args.since.now c.args.grant.now g c.insert.new.self c.if-grant.true (sym c.is_held_before.ensures ∙ c.if-not-is_held_before.true) c.in_ok-insert.ensures.updates

pub returns-else-grant : goal.returns-else-grant
returns-else-grant c = λ g. has_support-passed_over c.args.since.now c.args.grant.now g
    (elim c.else-grant.branch [
      | else-grant-via-then-grant+else-not-is_held_before w ↦ and_right _ _ (ap not (sym w.is_held_before.ensures ∙ w.if-not-is_held_before.false))
      | else-grant-via-else-grant w ↦ and_left _ _ w.if-grant.false
    ])
