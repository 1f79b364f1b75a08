use Rattle.std.proofs.Common.{◌++◌, ◌∷◌, Some, codes, decimal, sym, ◌∙◌}
use Rattle.std.proofs.lemmas.Bool.Decides.{Decides-eqb}
use Rattle.std.proofs.lemmas.List.{append_cancel_left}
use Rattle.std.proofs.lemmas.Slice.Eq.{strip_prefix_is}
use Rattle.login_core.specs.Verifiers.{salted_text}
use Rattle.login_core.proofs.Spelling.{cut_is, no_colon_in_count}
use Rattle.login_core.proofs.reading.read_verifier.Goals as goal

pub returns-in_default-given_count : goal.returns-in_default-given_count
returns-in_default-given_count c = λ salt iterations stored server b some small s v e.
    let first = strip_prefix_is Decides-eqb c.args.text.now (codes "SCRAM-SHA-256$") (Some c.in-Some.counted) c.in-Some.ensures.cases
    in let counted = append_cancel_left (codes "SCRAM-SHA-256$") c.in-Some.counted.now (decimal iterations ++ 58 ∷ salted_text salt stored server) (sym first ∙ e)
    in let at = cut_is 58 c.in-Some.counted.now c.in-Some-cut.front.now c.in-Some-cut.behind.now (decimal iterations) (salted_text salt stored server)
    c.in-Some-cut.ensures counted (no_colon_in_count iterations small)
    in c.in_default-given_count.ensures iterations some small at.0

pub returns-in_default-2 : goal.returns-in_default-2
returns-in_default-2 c = λ salt iterations stored server b some small s v e.
    let first = strip_prefix_is Decides-eqb c.args.text.now (codes "SCRAM-SHA-256$") (Some c.in-Some.counted) c.in-Some.ensures.cases
    in let counted = append_cancel_left (codes "SCRAM-SHA-256$") c.in-Some.counted.now (decimal iterations ++ 58 ∷ salted_text salt stored server) (sym first ∙ e)
    in let at = cut_is 58 c.in-Some.counted.now c.in-Some-cut.front.now c.in-Some-cut.behind.now (decimal iterations) (salted_text salt stored server)
    c.in-Some-cut.ensures counted (no_colon_in_count iterations small)
    in let none = rw c.in_default-2.is at c.in_ok-salt.ensures
    in none salt stored server b s v at.1
