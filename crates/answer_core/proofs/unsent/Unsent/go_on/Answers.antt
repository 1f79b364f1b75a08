use Rattle.std.proofs.Common.{◌≡◌, sym, ap, subst}
use Rattle.std.specs.Prelude.{IfOk, OnErr}
use Rattle.base_core.specs.Streams.{Writes, WritesFrontOf}
use Rattle.answer_core.specs.Answers.{IsUnsentText, IsBelow, SendsMore}
use Rattle.answer_core.specs.Remaining.{rows_to_come}
use Rattle.answer_core.specs.Replies.{unsent_of}
use Rattle.answer_core.specs.declared.unsent.Progress.{Progress}
use Rattle.answer_core.specs.declared.unsent.Remainder.{Remainder}
use Rattle.answer_core.specs.declared.unsent.Remainder.TheVariants as remainders
use Rattle.answer_core.specs.declared.unsent.Unsent.{Unsent}
use Rattle.answer_core.proofs.unsent.Unsent.go_on.Goals as goal

-- what is to come, by the rows that are left
by_rows : (u : Unsent) (r : Remainder) → u.portal.remainder ≡ r → unsent_of r u.portal.frame u.most ≡ u
by_rows u r is = sym (ap (λ (x : Remainder). unsent_of x u.portal.frame u.most) is)

pub returns-in-Listed-clause-ok : goal.returns-in-Listed-clause-ok
returns-in-Listed-clause-ok g c =
    subst (λ (u : Unsent). IfOk c.go_on_listed.result (λ (p : Progress). Writes (SendsMore u p) (g.W.Sink.taken c.args.writer.now) (g.W.Sink.taken c.go_on_listed.new.writer)))
    (by_rows c.args.self (remainders.Listed c.in-Listed.items c.in-Listed.next) c.in-Listed.is) c.go_on_listed.ensures.ok

pub returns-in-Listed-clause-progress : goal.returns-in-Listed-clause-progress
returns-in-Listed-clause-progress g c =
    subst (λ (u : Unsent). IfOk c.go_on_listed.result (IsBelow (rows_to_come u)))
    (by_rows c.args.self (remainders.Listed c.in-Listed.items c.in-Listed.next) c.in-Listed.is) c.go_on_listed.ensures.progress

pub returns-in-Listed-clause-err : goal.returns-in-Listed-clause-err
returns-in-Listed-clause-err g c =
    subst (λ (u : Unsent). OnErr c.go_on_listed.result (WritesFrontOf (IsUnsentText u) (g.W.Sink.taken c.args.writer.now) (g.W.Sink.taken c.go_on_listed.new.writer)))
    (by_rows c.args.self (remainders.Listed c.in-Listed.items c.in-Listed.next) c.in-Listed.is) c.go_on_listed.ensures.err

pub returns-in-Export-clause-ok : goal.returns-in-Export-clause-ok
returns-in-Export-clause-ok g c =
    subst (λ (u : Unsent). IfOk c.go_on_export.result (λ (p : Progress). Writes (SendsMore u p) (g.W.Sink.taken c.args.writer.now) (g.W.Sink.taken c.go_on_export.new.writer)))
    (by_rows c.args.self (remainders.Export c.in-Export.records c.in-Export.sent) c.in-Export.is) c.go_on_export.ensures.ok

pub returns-in-Export-clause-progress : goal.returns-in-Export-clause-progress
returns-in-Export-clause-progress g c =
    subst (λ (u : Unsent). IfOk c.go_on_export.result (IsBelow (rows_to_come u)))
    (by_rows c.args.self (remainders.Export c.in-Export.records c.in-Export.sent) c.in-Export.is) c.go_on_export.ensures.progress

pub returns-in-Export-clause-err : goal.returns-in-Export-clause-err
returns-in-Export-clause-err g c =
    subst (λ (u : Unsent). OnErr c.go_on_export.result (WritesFrontOf (IsUnsentText u) (g.W.Sink.taken c.args.writer.now) (g.W.Sink.taken c.go_on_export.new.writer)))
    (by_rows c.args.self (remainders.Export c.in-Export.records c.in-Export.sent) c.in-Export.is) c.go_on_export.ensures.err
