use Rattle.std.proofs.Common.{ℕ, List, Option, Bor, MatchOption, sym, subst, ◌∙◌, ap, arith, take, drop}
use Rattle.login_core.specs.Decoding.{Splits, LacksByte}
use Rattle.login_core.proofs.Cutting.{free_of, splits}
use Rattle.login_core.proofs.decoding.cut.Goals as goal

pub returns-in_err-end : goal.returns-in_err-end
returns-in_err-end c =
    let P : Option (Bor (List ℕ) × Bor (List ℕ)) → Type 0
    = λ r. MatchOption r (LacksByte c.args.byte c.args.text.now) (λ p. Splits c.args.byte c.args.text.now p.0.now p.1.now)
    in subst P (sym c.from_residual.ensures) (free_of c.args.byte c.args.text.now c.in_err-end.ensures)

pub returns : goal.returns
returns c =
    let found = c.in_ok-end.ensures
    in let cuts = splits c.args.byte c.args.text.now c.in_ok-end.end found.0.high
    (λ k below. found.0.before k (omega arith) below) found.1
    in let P : List ℕ → Type 0 = λ f. Splits c.args.byte c.args.text.now f c.split_at-2.result.1.now
    in let Q : List ℕ → Type 0 = λ b. Splits c.args.byte c.args.text.now (take c.in_ok-end.end c.args.text.now) b
    in subst P (sym c.split_at.ensures.front)
    (subst Q (sym (c.split_at-2.ensures.back ∙ ap (drop 1) c.split_at.ensures.back)) cuts)
