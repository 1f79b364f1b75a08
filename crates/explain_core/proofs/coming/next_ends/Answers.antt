use Rattle.std.proofs.Common.{◌≡◌, ◌+◌, List, [], ap, sym, ◌∙◌, drop, length, arith}
use Rattle.std.proofs.lemmas.List.{drop_all}
use Rattle.grants_core.specs.declared.grant.Change.{Change}
use Rattle.grants_core.proofs.LogLemmas.{noted_revocation-none}
use Rattle.explain_core.specs.Ends.{next_struck, next_unoptioned}
use Rattle.explain_core.proofs.coming.next_ends.Goals as goal

pub all_ends-ends-requires-clause-noted : goal.all_ends-ends-requires-clause-noted
all_ends-ends-requires-clause-noted c =
    let changes : List Change = c.args.changes.now in
    let none : drop (length changes) changes ≡ [] = drop_all (length changes) changes (omega arith) in
    record {
      struck = λ g. noted_revocation-none c.new.result g c.new.ensures.empty ∙ sym (ap (λ cs. next_struck (length changes + 1) cs g) none);
      unoptioned = λ g. noted_revocation-none c.new-2.result g c.new-2.ensures.empty ∙ sym (ap (λ cs. next_unoptioned (length changes + 1) cs g) none);
    }
