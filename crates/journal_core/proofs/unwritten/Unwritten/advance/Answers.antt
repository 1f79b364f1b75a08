use Rattle.std.proofs.Common.{◌≡◌, ◌≤◌, ℕ, List, Bool, true, false, Option, Some, None, length, drop, length-drop, sym, subst, arith}
use Rattle.std.specs.Prelude.{IfSome, if◌then◌else◌}
use Rattle.journal_core.proofs.unwritten.Unwritten.advance.Goals as goal

room : (b : Bool) (rest : List ℕ) (count : ℕ) → b ≡ true → IfSome (if b then Some rest else None) (λ rest. count ≤ length rest) → count ≤ length rest
room true rest count e h = h
room false rest count e h = cc

pub overflow_add-self : goal.overflow_add-self
overflow_add-self c =
    let u = c.self.inside in
    let few = room u.is_owed (drop u.written u.line.value.items) c.args.count c.if-self.true (subst (λ (o : Option (List ℕ)). IfSome o (λ rest. c.args.count ≤ length rest)) (sym c.self.view_is) c.requires) in
    omega (arith, few, length-drop u.written u.line.value.items)
