use Rattle.std.proofs.Common.{◌∙◌, subst, sym}
use Rattle.session_core.specs.Tending.{untended}
use Rattle.session_core.proofs.Tended.{Tends-trans}
use Rattle.checkpoint_core.proofs.Passing.{IsTended, tended_on}
use Rattle.checkpoint_core.proofs.beginning.taken.Goals.{in-Some-own+in_ok-is_kept+else-branch, in_default}
use Rattle.checkpoint_core.proofs.beginning.taken.Goals as goal

pub loop-init : goal.loop-init
loop-init g c = (c.requires, untended)

pub returns-in_err-is_kept : goal.returns-in_err-is_kept
returns-in_err-is_kept g c = Tends-trans c.args.desk.now c.args.pass.now c.loop.pass c.is_kept.new.pass c.loop.invariant.1 c.is_kept.ensures

pub returns-then-branch : goal.returns-then-branch
returns-then-branch g c = Tends-trans c.args.desk.now c.args.pass.now c.loop.pass c.is_kept.new.pass c.loop.invariant.1 c.is_kept.ensures

pub begun-requires : goal.begun-requires
begun-requires g c =
    let desk = c.args.desk.now in
    let own : IsTended desk c.args.pass.now c.match-own.pass = elim c.match-own.branch [
      | in-Some-own+in_ok-is_kept+else-branch w ↦ subst (IsTended desk c.args.pass.now) (sym w.pass-is) (tended_on desk c.args.pass.now c.loop.pass w.is_kept.new.pass c.loop.invariant w.is_kept.ensures)
      | in_default w ↦ subst (IsTended desk c.args.pass.now) (sym w.pass-is) c.loop.invariant
    ] in
    own.0

pub returns-in_err-number : goal.returns-in_err-number
returns-in_err-number g c =
    let desk = c.args.desk.now in
    let own : IsTended desk c.args.pass.now c.match-own.pass = elim c.match-own.branch [
      | in-Some-own+in_ok-is_kept+else-branch w ↦ subst (IsTended desk c.args.pass.now) (sym w.pass-is) (tended_on desk c.args.pass.now c.loop.pass w.is_kept.new.pass c.loop.invariant w.is_kept.ensures)
      | in_default w ↦ subst (IsTended desk c.args.pass.now) (sym w.pass-is) c.loop.invariant
    ] in
    (tended_on desk c.args.pass.now c.match-own.pass c.begun.new.pass own c.begun.ensures).1

pub loop-preserved : goal.loop-preserved
loop-preserved g c =
    let desk = c.args.desk.now in
    let own : IsTended desk c.args.pass.now c.match-own.pass = elim c.match-own.branch [
      | in-Some-own+in_ok-is_kept+else-branch w ↦ subst (IsTended desk c.args.pass.now) (sym w.pass-is) (tended_on desk c.args.pass.now c.loop.pass w.is_kept.new.pass c.loop.invariant w.is_kept.ensures)
      | in_default w ↦ subst (IsTended desk c.args.pass.now) (sym w.pass-is) c.loop.invariant
    ] in
    tended_on desk c.args.pass.now c.match-own.pass c.begun.new.pass own c.begun.ensures
