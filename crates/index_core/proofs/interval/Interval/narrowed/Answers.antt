use Rattle.std.proofs.Common.{◌≡◌, ◌∙◌, true, sym, subst}
use Rattle.index_core.specs.Keys.{key_of}
use Rattle.index_core.specs.Within.{admits}
use Rattle.index_core.specs.declared.key.Key.{Key}
use Rattle.index_core.proofs.IntervalLemmas.{key-same}
use Rattle.index_core.proofs.interval.Interval.narrowed.Goals as goal

pub returns-in-Equal : goal.returns-in-Equal
returns-in-Equal c = λ v within met.
    let same = key-same c.args.comparison v c.args.literal.now met c.in-Equal.is (key_of c.args.key) ∙ sym c.of.ensures in
    subst (λ n. admits c.only.result n ≡ true) (sym same) (c.only.ensures (subst (λ n. admits c.args.self n ≡ true) same within))

pub returns-in-Rank : goal.returns-in-Rank
unfolding key_of
returns-in-Rank c = λ v within met.
    subst (λ (k : Key). admits c.ranked.result (key_of k v) ≡ true) (sym c.in-Rank.is)
    (c.ranked.ensures v (subst (λ (k : Key). admits c.args.self (key_of k v) ≡ true) c.in-Rank.is within) met)
