use Rattle.std.proofs.Common.{◌≡◌, ◌++◌, true, List, sym, subst}
use Rattle.std.specs.List.{Contains}
use Rattle.index_core.specs.declared.entry.Entry.{Entry}
use Rattle.index_core.specs.Within.{admits}
use Rattle.index_core.specs.Listed.{entries_of, numbers_within, listed}
use Rattle.index_core.proofs.ListedLemmas.{noted-pushed, kept-pushed}
use Rattle.index_core.proofs.index.Index.push.Goals as goal

pub returns-clause-noted : goal.returns-clause-noted
unfolding listed
returns-clause-noted c = λ i within.
    let before = entries_of c.args.self.now.runs.items in
    let entry : Entry = record { key = c.of.result; number = c.args.number } in
    let inside = subst (λ k. admits i k ≡ true) (sym c.of.ensures) within in
    subst (λ (tail : List Entry). Contains (numbers_within i (before ++ tail)) c.args.number) (sym c.in_ok-push.ensures.items)
    (noted-pushed i before c.args.self.now.tail.items entry inside)

pub returns-clause-kept : goal.returns-clause-kept
unfolding listed
returns-clause-kept c = λ i n is.
    let before = entries_of c.args.self.now.runs.items in
    let entry : Entry = record { key = c.of.result; number = c.args.number } in
    subst (λ (tail : List Entry). Contains (numbers_within i (before ++ tail)) n) (sym c.in_ok-push.ensures.items)
    (kept-pushed i before c.args.self.now.tail.items entry n is)
