use Rattle.std.proofs.Common.{rules, sym, ◌∙◌, ◌≡◌, ◌≢◌, length, None, Some}
use Rattle.turnstile.specs.Places.{lock_at}
use Rattle.turnstile.proofs.Ends.{closed_at, closed_same}
use Rattle.turnstile.proofs.Numbers.{not_all}
use Rattle.turnstile.proofs.turnstile.Turnstile.close.Goals as goal

pub returns-then-len-self-clause-missing : goal.returns-then-len-self-clause-missing
returns-then-len-self-clause-missing g c = let few : length c.args.passes.items ≢ c.args.self.count = search rules in not_all c.args.self c.args.passes.items few

pub unreachable-requires : goal.unreachable-requires
unreachable-requires g c = let shared = c.self.inside.table.shared in let all = c.gather-seat.ensures.all in let counts : length c.args.passes.items ≡ shared.key.terms.count = search rules in
    let end = closed_at g.O.Object.log g.O.Object.by g.O.Object.mark g.O.Object.fixed (lock_at shared.table_id shared.key.terms) _ _ _ _ _ c.args.passes.items all.0 counts all.1 c.take-object.ensures.value c.close_with-closed.ensures.values.2 in
    let is : None ≡ Some end.0 = sym c.in-None.is ∙ end.1 in cc

pub returns-clause-all : goal.returns-clause-all
returns-clause-all g c = let shared = c.self.inside.table.shared in let all = c.gather-seat.ensures.all in let counts : length c.args.passes.items ≡ shared.key.terms.count = search rules in
    (closed_same g.O.Object.log g.O.Object.by g.O.Object.mark g.O.Object.fixed (lock_at shared.table_id shared.key.terms) _ _ _ c.args.passes.items c.self.view_is c.in-Some.is
    (closed_at g.O.Object.log g.O.Object.by g.O.Object.mark g.O.Object.fixed (lock_at shared.table_id shared.key.terms) _ _ _ _ _ c.args.passes.items all.0 counts all.1 c.take-object.ensures.value c.close_with-closed.ensures.values.2)).1

pub returns-clause-ok : goal.returns-clause-ok
returns-clause-ok g c = let shared = c.self.inside.table.shared in let all = c.gather-seat.ensures.all in let counts : length c.args.passes.items ≡ shared.key.terms.count = search rules in
    (closed_same g.O.Object.log g.O.Object.by g.O.Object.mark g.O.Object.fixed (lock_at shared.table_id shared.key.terms) _ _ _ c.args.passes.items c.self.view_is c.in-Some.is
    (closed_at g.O.Object.log g.O.Object.by g.O.Object.mark g.O.Object.fixed (lock_at shared.table_id shared.key.terms) _ _ _ _ _ c.args.passes.items all.0 counts all.1 c.take-object.ensures.value c.close_with-closed.ensures.values.2)).0
