use Rattle.std.proofs.Common.{◌≡◌, ◌++◌, ◌∷◌, [], List, sym, subst}
use Rattle.std.specs.List.Sorted.{IsPermutation}
use Rattle.std.proofs.lemmas.List.Sorted.{IsPermutation-sym}
use Rattle.index_core.specs.declared.entry.Entry.{Entry}
use Rattle.index_core.specs.declared.run.Run.{Run}
use Rattle.index_core.specs.Listed.{entries_of, listed}
use Rattle.index_core.proofs.ListedLemmas.{numbers-permutation, entries-settled}
use Rattle.index_core.proofs.index.Index.sort_tail.Goals as goal

-- the entries are the same, in another order
pub returns-clause-same : goal.returns-clause-same
unfolding listed
returns-clause-same c = λ i n.
    let was : List Entry = entries_of c.args.self.now.runs.items ++ c.args.self.now.tail.items in
    let runs = c.joined.new.runs.items in
    let run = c.in_ok-of.field-0 in
    let before : List Entry = entries_of runs ++ c.in_ok-all.all.items in
    let tail : List Entry = c.replace-tail.new.dest.items in
    let moved : before ≡ was = rw c.replace-tail.ensures.value at c.in_ok-all.ensures in
    let empty : tail ≡ [] = rw c.replace-tail.ensures.after c.new.ensures.items in
    let same : IsPermutation was (entries_of c.push.new.self.items ++ tail) =
    subst (λ (l : List Entry). IsPermutation l (entries_of c.push.new.self.items ++ tail)) moved
    (subst (λ (r : List Run). IsPermutation before (entries_of r ++ tail)) (sym c.in_ok-push.ensures.items)
    (subst (λ (t : List Entry). IsPermutation before (entries_of (runs ++ run ∷ []) ++ t)) (sym empty)
    (entries-settled runs c.in_ok-all.all.items run c.in_ok-of.ensures))) in
    (λ is. numbers-permutation i _ _ n same is, λ is. numbers-permutation i _ _ n (IsPermutation-sym _ _ same) is)
