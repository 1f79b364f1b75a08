-- The bytes of texts: none is a control character of ASCII.
use Rattle.std.proofs.Common.{◌≡◌, ℕ, ◌≤◌, ◌+◌, ◌/◌, ◌%◌, Bool, true, false, cond, List, [], ◌∷◌, sym, subst, arith, ltb, All}
use Rattle.std.specs.Char.{encode_utf8}
use Rattle.std.specs.Str.{encode_utf8_all}
use Rattle.std.specs.List.{list_all}
use Rattle.std.proofs.lemmas.Bool.{and_parts}
use Rattle.std.proofs.lemmas.Bool.Decides.{nat_tests}
use Rattle.std.proofs.lemmas.List.Elements.{All-nil, All-cons, All-append}
use Rattle.base_core.specs.Texts.{is_printable, IsText}

abbrev IsHigh : ℕ → Type 0
IsHigh b = 32 ≤ b

high : (x : ℕ) (xs : List ℕ) → 32 ≤ x → All IsHigh xs → All IsHigh (x ∷ xs)
high x xs h more = All-cons IsHigh x xs h more

high_of_char : (c : ℕ) → is_printable c ≡ true → 32 ≤ c
high_of_char c h = grind (arith, nat_tests)

module _ (c : ℕ) (h : 32 ≤ c) where
  none : All IsHigh []
  none = All-nil IsHigh

  pair : (a b : ℕ) → 32 ≤ a → 32 ≤ b → All IsHigh (a ∷ b ∷ [])
  pair a b p q = high a (b ∷ []) p (high b [] q none)

  three : (x y z : ℕ) → 32 ≤ x → 32 ≤ y → 32 ≤ z → All IsHigh (x ∷ y ∷ z ∷ [])
  three x y z p q r = high x (y ∷ z ∷ []) p (pair y z q r)

  by_size : (s t u : Bool) → All IsHigh (cond s (c ∷ []) (cond t ((192 + c / 64) ∷ (128 + c % 64) ∷ []) (cond u ((224 + c / 4096) ∷ (128 + (c / 64) % 64) ∷ (128 + c % 64) ∷ []) ((240 + c / 262144) ∷ (128 + (c / 4096) % 64) ∷ (128 + (c / 64) % 64) ∷ (128 + c % 64) ∷ []))))
  by_size true t u = high c [] h none
  by_size false true u = pair (192 + c / 64) (128 + c % 64) (omega arith) (omega arith)
  by_size false false true = three (224 + c / 4096) (128 + (c / 64) % 64) (128 + c % 64) (omega arith) (omega arith) (omega arith)
  by_size false false false =
      high (240 + c / 262144) ((128 + (c / 4096) % 64) ∷ (128 + (c / 64) % 64) ∷ (128 + c % 64) ∷ []) (omega arith)
      (three (128 + (c / 4096) % 64) (128 + (c / 64) % 64) (128 + c % 64) (omega arith) (omega arith) (omega arith))

high_bytes : (c : ℕ) → is_printable c ≡ true → All IsHigh (encode_utf8 c)
unfolding encode_utf8
high_bytes c h = by_size c (high_of_char c h) (ltb c 128) (ltb c 2048) (ltb c 65536)

pub high_all : (cs : List ℕ) → list_all is_printable cs ≡ true → All IsHigh (encode_utf8_all cs)
high_all [] h = All-nil IsHigh
high_all (c ∷ cs) h =
    let parts = and_parts (is_printable c) (list_all is_printable cs) h in
    All-append IsHigh (encode_utf8 c) (encode_utf8_all cs) (high_bytes c parts.0) (high_all cs parts.1)

-- no byte of a text is below 32
pub printable : (bytes : List ℕ) → IsText bytes → All IsHigh bytes
printable bytes t = let P : List ℕ → Type 0 = λ xs. All IsHigh xs in subst P (sym t.encoded) (high_all t.chars t.plain.printable)
