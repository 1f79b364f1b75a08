-- Bytes begin with a character that may stand in a text, or with none.
use Rattle.std.proofs.lemmas.Bool.{and_parts}
use Rattle.std.proofs.Common.{◌≡◌, ◌⊎◌, ℕ, zero, suc, ◌<◌, ◌≤◌, Bool, true, false, cond, List, [], ◌∷◌, ◌++◌, length, take, drop, refl, sym, ◌∙◌, ap, arith, append_assoc, inl, inr}
use Rattle.std.proofs.lemmas.List.{take-take, take-append-drop, length-take}
use Rattle.std.proofs.lemmas.Str.{IsUtf8-from_is_utf8, utf8_valid_len_le, encode_same}
use Rattle.std.specs.Char.{encode_utf8, IsScalar}
use Rattle.std.specs.Str.{IsUtf8, is_utf8, encode_utf8_all, all_scalars}
use Rattle.std.specs.Str.Lossy.{utf8_valid_len, valid_len_up_to}
use Rattle.base_core.specs.Texts.{is_printable}
use Rattle.lexer_core.specs.Text.{BeginsWithNoPlain, BeginsWithPlain}
use Rattle.lexer_core.proofs.Chars.{no_char_at_start}

-- the character that the bytes begin with
record First (bytes : List ℕ) : Type 0 where
  pub char : ℕ
  pub rest : List ℕ
  pub scalar : IsScalar char
  pub split : bytes ≡ encode_utf8 char ++ rest

front_is_utf8 : (bytes : List ℕ) (n m : ℕ) → valid_len_up_to bytes n ≡ suc m → is_utf8 (take (suc m) bytes) ≡ true
front_is_utf8 bytes zero m e = absurd (omega (arith, e))
front_is_utf8 bytes (suc n) m e = by (is_utf8 (take (suc n) bytes)) refl e (front_is_utf8 bytes n m)
  where
    by : (b : Bool) → is_utf8 (take (suc n) bytes) ≡ b → cond b (suc n) (valid_len_up_to bytes n) ≡ suc m → (valid_len_up_to bytes n ≡ suc m → is_utf8 (take (suc m) bytes) ≡ true) → is_utf8 (take (suc m) bytes) ≡ true
    by true is same again = ap (λ (k : ℕ). is_utf8 (take k bytes)) (sym same) ∙ is
    by false is same again = again same

first_of : (bytes cs : List ℕ) (n : ℕ) → all_scalars cs ≡ true → encode_utf8_all cs ≡ take n bytes → 0 < length (take n bytes) → First bytes
first_of bytes [] n s e some = absurd (omega (arith, ap length e))
first_of bytes (c ∷ cs) n s e some = record {
  char = c;
  rest = encode_utf8_all cs ++ drop n bytes;
  scalar = (and_parts _ (all_scalars cs) s).0;
  split = sym (take-append-drop n bytes) ∙ (ap (λ (u : List ℕ). u ++ drop n bytes) (sym e) ∙ append_assoc (encode_utf8 c) (encode_utf8_all cs) (drop n bytes));
}

first_where : (bytes : List ℕ) (m : ℕ) → utf8_valid_len (take 4 bytes) ≡ suc m → First bytes
unfolding utf8_valid_len
first_where bytes m e =
    let text : IsUtf8 (take (suc m) (take 4 bytes)) = IsUtf8-from_is_utf8 _ (front_is_utf8 (take 4 bytes) (length (take 4 bytes)) m e) in
    let within : suc m ≤ length (take 4 bytes) = let le = utf8_valid_len_le (take 4 bytes) in omega (arith, e) in
    let few : suc m ≤ 4 = omega (arith, length-take 4 bytes) in
    first_of bytes text.0 (suc m) text.1.0 (text.1.1 ∙ take-take (suc m) 4 bytes few) (omega (arith, length-take 4 bytes, length-take (suc m) bytes))

module _ (bytes : List ℕ) where
  by_char : First bytes → ((k : ℕ) × BeginsWithPlain bytes k) ⊎ BeginsWithNoPlain bytes
  by_char f = by (is_printable f.char) refl
    where
      by : (b : Bool) → is_printable f.char ≡ b → ((k : ℕ) × BeginsWithPlain bytes k) ⊎ BeginsWithNoPlain bytes
      by true e = inl (length (encode_utf8 f.char), record { char = f.char; rest = f.rest; scalar = f.scalar; printable = e; split = f.split; len = refl })
      by false e = inr (λ c rest s p q. let same = (encode_same c f.char rest f.rest (sym q ∙ f.split)).0 in let clash : true ≡ false = sym p ∙ (ap is_printable same ∙ e) in cc clash)

  pub plain_or_not : ((k : ℕ) × BeginsWithPlain bytes k) ⊎ BeginsWithNoPlain bytes
  plain_or_not = by (utf8_valid_len (take 4 bytes)) refl
    where
      by : (n : ℕ) → utf8_valid_len (take 4 bytes) ≡ n → ((k : ℕ) × BeginsWithPlain bytes k) ⊎ BeginsWithNoPlain bytes
      by zero e = inr (λ c rest s p q. no_char_at_start bytes e c rest s q)
      by (suc m) e = by_char (first_where bytes m e)
