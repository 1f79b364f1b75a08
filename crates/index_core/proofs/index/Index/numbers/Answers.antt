use Rattle.std.proofs.Common.{◌≡◌, ◌++◌, ◌∙◌, ℕ, List, ap, sym, subst}
use Rattle.std.specs.List.{Contains}
use Rattle.index_core.specs.Listed.{entries_of, numbers_within, listed}
use Rattle.index_core.proofs.ListedLemmas.{numbers_within-append}
use Rattle.index_core.proofs.index.Index.numbers.Goals as goal

pub returns-clause-only : goal.returns-clause-only
unfolding listed
returns-clause-only c = λ n is.
    let i = c.args.interval in
    let runs = c.args.self.now.runs.items in
    let tail = c.args.self.now.tail.items in
    let settled : c.push_from_runs.new.numbers.items ≡ numbers_within i (entries_of runs) =
    c.in_ok-push_from_runs.ensures ∙ ap (λ k. k ++ numbers_within i (entries_of c.as_slice.result.now)) c.new-numbers.ensures.items ∙ ap (λ k. numbers_within i (entries_of k)) c.as_slice.ensures.value in
    let all : c.push_within.new.numbers.items ≡ numbers_within i (entries_of runs ++ tail) =
    c.in_ok-push_within.ensures ∙ ap (λ k. k ++ numbers_within i c.as_slice-2.result.now) settled
    ∙ ap (λ k. numbers_within i (entries_of runs) ++ numbers_within i k) c.as_slice-2.ensures.value ∙ sym (numbers_within-append i (entries_of runs) tail) in
    subst (λ (l : List ℕ). Contains l n) all (c.put_in_order.ensures.only n is)
