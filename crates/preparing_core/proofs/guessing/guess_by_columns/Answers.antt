use Rattle.std.proofs.Common.{List, inl, subst, sym}
use Rattle.base_core.specs.declared.value.ColType.{ColType}
use Rattle.binding_core.proofs.Pushes.{exit}
use Rattle.preparing_core.specs.Guessing.{AreGuessed, AreUnguessed, refused}
use Rattle.preparing_core.proofs.guessing.guess_by_columns.Goals as goal

pub returns-in_err-guess-clause-faulty : goal.returns-in_err-guess-clause-faulty
returns-in_err-guess-clause-faulty c =
    exit (AreUnguessed c.args.text.now c.args.count) c.from_residual-in_err-guess.result _ c.from_residual-in_err-guess.ensures.1 (inl refused)

pub returns-clause-guessed : goal.returns-clause-guessed
returns-clause-guessed c =
    subst (λ (guess : List ColType). AreGuessed c.args.text.now c.args.columns.now c.args.count guess) (sym c.from_vec.ensures) (record {
      first = c.in_ok-first.first;
      second = c.in_ok-second.second;
      from_1 = c.in_ok-first.ensures.numbered;
      from_101 = c.in_ok-second.ensures.numbered;
      count_is = c.in_ok-guess.ensures.count;
      each = c.in_ok-guess.ensures.types;
    })
