use Rattle.std.proofs.Common.{◌≡◌, ℕ, ◌<◌, Bool, true, false, not, nat_eq, get_or, List, refl, arith}
use Rattle.std.specs.Bool.{beq}
use Rattle.base_core.specs.declared.word.TheConstants.{WORD_BYTES}
use Rattle.base_core.specs.Words.{is_word_byte}
use Rattle.base_core.proofs.EachByte.{each_below, holds_below}
use Rattle.base_core.proofs.word.is_word_byte.Goals as goal

abbrev in_table : List ℕ → ℕ → Bool
in_table table b = not (nat_eq (get_or table b 0) 44)

same : (x y : Bool) → beq x y ≡ true → x ≡ y
same true true h = refl
same true false h = cc
same false true h = cc
same false false h = refl

agrees : (table : List ℕ) (b : ℕ) → b < 256 → holds_below (λ k. beq (in_table table k) (is_word_byte k)) 256 ≡ true → in_table table b ≡ is_word_byte b
agrees table b l h = same _ _ (each_below _ 256 h b l)

pub returns : goal.returns
unfolding holds_below
returns c = agrees WORD_BYTES c.args.byte (omega arith) refl
