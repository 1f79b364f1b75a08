-- Numbers and pieces of a text.
use Rattle.std.proofs.Common.{rules, ◌≡◌, ◌<◌, ◌≤◌, ◌^◌, ◌==◌, ℕ, zero, suc, List, [], ◌∷◌, length, take, drop, not, refl, sym, ◌∙◌, ap, arith, decimal, Ok, Err, Result}
use Rattle.std.proofs.lemmas.Bool.{eqb-true}
use Rattle.std.proofs.lemmas.Fmt.{parse-decimal}
use Rattle.std.specs.List.{list_all}
use Rattle.std.specs.Str.Parse.{ParsesUnsigned}
use Rattle.memchr.specs.Find.{Passes, is_byte}
use Rattle.login_core.specs.Decoding.{is_other, LacksByte, Splits}
use Rattle.login_core.proofs.Bools.{not_true, both_true}

-- a number that is printed is read again
pub counted : {E : Type 0} (n : ℕ) (text digits : List ℕ) (r : Result ℕ E) → digits ≡ text
    → ParsesUnsigned 32 10 digits r → n < 2 ^ 32 → text ≡ decimal n → r ≡ Ok n
counted n text digits r same parses small is =
    parse-decimal 32 n digits r small (omega (small, arith)) (same ∙ is) parses

abbrev pub value_of : {E : Type 0} → Result ℕ E → ℕ
value_of (Ok n) = n
value_of (Err e) = 0

pub same_value : {E : Type 0} (r : Result ℕ E) (m n : ℕ) → r ≡ Ok m → r ≡ Ok n → m ≡ n
same_value r m n a b = ap value_of (sym a ∙ b)

pub ok_not_err : {E : Type 0} (r : Result ℕ E) (n : ℕ) (e : E) → r ≡ Ok n → r ≡ Err e → ⊥
ok_not_err r n e a b = absurd (search rules)

-- in a text where no byte is this one, none is
pub free_of : (byte : ℕ) (text : List ℕ)
    → ((k : ℕ) → 0 ≤ k → k < length text → Passes (is_byte byte) text k → ⊥) → LacksByte byte text
free_of byte [] none = refl
free_of byte (x ∷ xs) none =
    both_true (not (x == byte)) (list_all (is_other byte) xs) (not_true (x == byte) (none 0 (omega arith) (omega arith)))
    (free_of byte xs (λ k low high. none (suc k) (omega arith) (omega (high, arith))))

-- a text, cut at the first such byte
pub splits : (byte : ℕ) (text : List ℕ) (n : ℕ) → n < length text
    → ((k : ℕ) → k < n → Passes (is_byte byte) text k → ⊥) → Passes (is_byte byte) text n
    → Splits byte text (take n text) (drop 1 (drop n text))
splits byte [] n within none at = absurd (omega (within, arith))
splits byte (x ∷ xs) zero within none at =
    record { said = ap (λ y. y ∷ xs) (eqb-true x byte at); free = refl }
splits byte (x ∷ xs) (suc n) within none at =
    let rest = splits byte xs n (omega (within, arith)) (λ k below. none (suc k) (omega (below, arith))) at
    in record {
      said = ap (λ ys. x ∷ ys) rest.said;
      free = both_true (not (x == byte)) (list_all (is_other byte) (take n xs)) (not_true (x == byte) (none 0 (omega arith))) rest.free;
    }
