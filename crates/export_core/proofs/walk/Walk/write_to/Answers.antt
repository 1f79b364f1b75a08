use Rattle.std.proofs.Common.{◌+◌}
use Rattle.std.proofs.lemmas.Bool.{false_from_ne_true}
use Rattle.std.proofs.lemmas.Result.{err_from_is_err_and}
use Rattle.export_core.proofs.Giving.{writes_more, stops_more, gave_all, wrote_all, fewer_left}
use Rattle.export_core.proofs.walk.Walk.write_to.Goals as goal

pub returns-in_err-write_some-clause-err : goal.returns-in_err-write_some-clause-err
returns-in_err-write_some-clause-err g c =
    let before = c.loop.invariant.1 in
    let p = err_from_is_err_and c.from_residual.result c.from_residual.ensures.1 in
    rw (p.1, p.2) (stops_more before.0 _ _ _ _ before.1 _ _ _ c.in_err-write_some.ensures.err)

pub loop-preserved : goal.loop-preserved
loop-preserved g c =
    let before = c.loop.invariant.1 in
    let some = c.in_ok-write_some.ensures.ok in (
      false_from_ne_true _ (λ over. let no = c.in_ok-write_some.ensures.write.1 over in cc),
      (before.0 + some.0, writes_more before.0 _ _ _ _ before.1 some.0 _ _ some.2),
    )

pub loop-smaller : goal.loop-smaller
loop-smaller g c =
    let some = c.in_ok-write_some.ensures.ok in
    fewer_left some.0 c.loop.self c.write_some.new.self some.1 some.2.gave (λ none. let over = c.in_ok-write_some.ensures.more.1 none in cc)

pub returns-clause-ok : goal.returns-clause-ok
returns-clause-ok g c =
    let before = c.loop.invariant.1 in
    let some = c.in_ok-write_some.ensures.ok in
    gave_all (before.0 + some.0) _ _ _ _ (writes_more before.0 _ _ _ _ before.1 some.0 _ _ some.2) (c.in_ok-write_some.ensures.more.0 c.if-branch.false)

pub returns-clause-written : goal.returns-clause-written
returns-clause-written g c =
    let before = c.loop.invariant.1 in
    let some = c.in_ok-write_some.ensures.ok in
    wrote_all (before.0 + some.0) _ _ _ _ (writes_more before.0 _ _ _ _ before.1 some.0 _ _ some.2) (c.in_ok-write_some.ensures.more.0 c.if-branch.false)
