use Rattle.std.proofs.Common.{List, ℕ, ◌+◌, [], ◌∷◌, ◌++◌, take, ap, sym, subst, refl, ◌∙◌}
use Rattle.std.proofs.lemmas.List.{take_rest}
use Rattle.printer_core.specs.Printing.{Adds, doubled}
use Rattle.printer_core.proofs.Doubled.{next_run, doubled_nowhere}
use Rattle.printer_core.proofs.Writing.{add, add_none}
use Rattle.printer_core.proofs.page.Page.push_doubled.Goals as goal

pub loop-n-init : goal.loop-n-init
loop-n-init c = ([], add_none c.args.self.now, refl)

pub loop-n-preserved : goal.loop-n-preserved
loop-n-preserved c =
    let before = c.loop-n.invariant in
    let rest = c.loop-n.rest.now in
    let run = take (c.in-Some.n + 1) rest in (
      before.0 ++ (run ++ 39 ∷ []),
      add before.1 (add c.push.ensures c.push-in-Some.ensures),
      next_run before.0 rest (doubled c.args.text.now) run _ c.in-Some.n (sym c.in-Some.ensures.at) refl (take_rest rest (c.in-Some.n + 1)) before.2,
    )

pub returns : goal.returns
returns c =
    let before = c.loop-n.invariant in
    let rest = c.loop-n.rest.now in
    let whole = ap (λ (t : List ℕ). before.0 ++ t) (sym (doubled_nowhere rest (sym c.in_default.ensures.at))) ∙ before.2 in
    subst (λ (t : List ℕ). Adds t c.args.self.now c.push-2.new.self) whole (add before.1 c.push-2.ensures)
