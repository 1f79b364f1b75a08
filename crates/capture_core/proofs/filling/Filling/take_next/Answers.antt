use Rattle.std.proofs.Common.{length, sum_by, refl, ap, arith}
use Rattle.tables_core.specs.Contents.{Database}
use Rattle.capture_core.proofs.TakingLemmas.{passes-same, passes-then, passes-taken, sum-taken, nothing-there, passes-closed}
use Rattle.capture_core.proofs.filling.Filling.take_next.Goals as goal

pub returns-in_err-taken-clause-passes : goal.returns-in_err-taken-clause-passes
returns-in_err-taken-clause-passes c =
    let e = c.in_err-taken.ensures in
    passes-same c.args.tables.now c.take_rows.new.tables c.args.self.now c.take_rows.new.self c.requires.given e.same_tables e.err

pub returns-in_err-taken-clause-fewer : goal.returns-in_err-taken-clause-fewer
returns-in_err-taken-clause-fewer c = let same = ap (λ (d : Database). sum_by length d.rest) c.in_err-taken.ensures.same_tables in omega arith

pub returns-then-taken-count-clause-passes : goal.returns-then-taken-count-clause-passes
returns-then-taken-count-clause-passes c =
    let e = c.in_ok-taken.ensures in
    passes-taken c.args.tables.now c.take_rows.new.tables c.args.self.now c.take_rows.new.self c.args.count c.requires.next c.requires.given c.take_rows.ensures.whole e.rows e.rest

pub returns-then-taken-count-clause-rest : goal.returns-then-taken-count-clause-rest
returns-then-taken-count-clause-rest c =
    let e = c.in_ok-taken.ensures in
    sum-taken c.args.tables.now c.take_rows.new.tables c.args.self.now c.take_rows.new.self c.args.count c.requires.next c.requires.given c.take_rows.ensures.whole e.rows e.rest c.in_ok-taken.taken e.count

pub returns-then-taken-count-clause-fewer : goal.returns-then-taken-count-clause-fewer
returns-then-taken-count-clause-fewer c =
    let e = c.in_ok-taken.ensures in
    let all = sum-taken c.args.tables.now c.take_rows.new.tables c.args.self.now c.take_rows.new.self c.args.count c.requires.next c.requires.given c.take_rows.ensures.whole e.rows e.rest c.in_ok-taken.taken e.count in
    omega arith

pub close_next-requires-clause-next : goal.close_next-requires-clause-next
close_next-requires-clause-next c =
    let e = c.in_ok-taken.ensures in
    let p = passes-taken c.args.tables.now c.take_rows.new.tables c.args.self.now c.take_rows.new.self c.args.count c.requires.next c.requires.given c.take_rows.ensures.whole e.rows e.rest in
    omega (arith, p.covered, ap length c.take_rows.ensures.whole)

pub close_next-requires-clause-given : goal.close_next-requires-clause-given
close_next-requires-clause-given c =
    let e = c.in_ok-taken.ensures in
    nothing-there c.args.tables.now c.take_rows.new.tables c.args.self.now c.take_rows.new.self c.args.count c.requires.next c.requires.given c.take_rows.ensures.whole e.rows e.rest c.in_ok-taken.taken e.count (omega arith)

pub returns-in_err-close_next-clause-passes : goal.returns-in_err-close_next-clause-passes
returns-in_err-close_next-clause-passes c =
    let e = c.in_ok-taken.ensures in
    let d = c.take_rows.new.tables in
    let p = passes-taken c.args.tables.now d c.args.self.now c.take_rows.new.self c.args.count c.requires.next c.requires.given c.take_rows.ensures.whole e.rows e.rest in
    passes-then p (passes-same d d c.take_rows.new.self c.close_next.new.self p.given refl c.in_err-close_next.ensures.err)

pub returns-in_err-close_next-clause-fewer : goal.returns-in_err-close_next-clause-fewer
returns-in_err-close_next-clause-fewer c =
    let e = c.in_ok-taken.ensures in
    let all = sum-taken c.args.tables.now c.take_rows.new.tables c.args.self.now c.take_rows.new.self c.args.count c.requires.next c.requires.given c.take_rows.ensures.whole e.rows e.rest c.in_ok-taken.taken e.count in
    omega arith

pub returns-clause-passes : goal.returns-clause-passes
returns-clause-passes c =
    let e = c.in_ok-taken.ensures in
    let d = c.take_rows.new.tables in
    let f = c.take_rows.new.self in
    let p = passes-taken c.args.tables.now d c.args.self.now f c.args.count c.requires.next c.requires.given c.take_rows.ensures.whole e.rows e.rest in
    let none = nothing-there c.args.tables.now d c.args.self.now f c.args.count c.requires.next c.requires.given c.take_rows.ensures.whole e.rows e.rest c.in_ok-taken.taken e.count (omega arith) in
    passes-then p (passes-closed d f c.close_next.new.self p.given none c.in_ok-close_next.ensures.longer c.close_next.ensures.same)

pub returns-clause-rest : goal.returns-clause-rest
returns-clause-rest c =
    let e = c.in_ok-taken.ensures in
    sum-taken c.args.tables.now c.take_rows.new.tables c.args.self.now c.take_rows.new.self c.args.count c.requires.next c.requires.given c.take_rows.ensures.whole e.rows e.rest c.in_ok-taken.taken e.count

pub returns-clause-fewer : goal.returns-clause-fewer
returns-clause-fewer c =
    let e = c.in_ok-taken.ensures in
    let all = sum-taken c.args.tables.now c.take_rows.new.tables c.args.self.now c.take_rows.new.self c.args.count c.requires.next c.requires.given c.take_rows.ensures.whole e.rows e.rest c.in_ok-taken.taken e.count in
    omega arith
