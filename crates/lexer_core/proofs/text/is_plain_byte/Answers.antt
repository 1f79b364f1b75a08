use Rattle.std.proofs.Common.{◌≡◌, ℕ, ◌<◌, Bool, true, false, not, nat_eq, get_or, List, refl, arith}
use Rattle.std.specs.Bool.{beq}
use Rattle.lexer_core.specs.declared.text.TheConstants.{PLAIN_BYTES}
use Rattle.lexer_core.specs.Text.{is_plain_byte}
use Rattle.base_core.proofs.EachByte.{each_below, holds_below}
use Rattle.lexer_core.proofs.text.is_plain_byte.Goals as goal

abbrev in_table : List ℕ → ℕ → Bool
in_table table b = not (nat_eq (get_or table b 0) 39)

same : (x y : Bool) → beq x y ≡ true → x ≡ y
same true true h = refl
same true false h = cc
same false true h = cc
same false false h = refl

agrees : (table : List ℕ) (b : ℕ) → b < 256 → holds_below (λ k. beq (in_table table k) (is_plain_byte k)) 256 ≡ true → in_table table b ≡ is_plain_byte b
agrees table b l h = same _ _ (each_below _ 256 h b l)

pub returns : goal.returns
unfolding holds_below
returns c = agrees PLAIN_BYTES c.args.byte (omega arith) refl
