-- What stands behind so many items.
use Rattle.std.proofs.Common.{◌≡◌, ℕ, zero, suc, ◌+◌, ◌-◌, ◌*◌, ◌<◌, ◌≤◌, List, length, take, drop, Option, Some, None, refl, sym, ap, ◌∙◌, arith, inl, inr, length-drop}
use Rattle.std.specs.Int.{Width, byte_len, from_be_bytes}
use Rattle.std.proofs.Math.Nat.{suc-mul, zero-mul}
use Rattle.std.proofs.lemmas.Bool.{cases_lt, lt-ltb, le-ltb}
use Rattle.std.proofs.lemmas.List.{drop-drop}
use Rattle.messages_core.specs.Reading.{◌>>=◌, FieldReader, number_at, past_items}

pub number_short : (w : Width) (bytes : List ℕ) → length bytes < byte_len w → number_at w bytes ≡ None
number_short w bytes lt = rw (lt-ltb (length bytes) (byte_len w) lt) refl

pub number_long : (w : Width) (bytes : List ℕ) → byte_len w ≤ length bytes
    → number_at w bytes ≡ Some (from_be_bytes w (take (byte_len w) bytes), drop (byte_len w) bytes)
number_long w bytes le = rw (le-ltb (length bytes) (byte_len w) le) refl

-- too few bytes for so many numbers
pub past_short : (w : Width) (n : ℕ) (bytes : List ℕ) → length bytes < n * byte_len w
    → past_items (number_at w) n bytes ≡ None
past_short w zero bytes lt = absurd (omega arith)
past_short w (suc n) bytes lt =
    elim (cases_lt (length bytes) (byte_len w)) [
      | inl short ↦ ap (λ (read : Option (ℕ × List ℕ)). read >>= λ x. past_items (number_at w) n x.1) (number_short w bytes short)
      | inr long ↦
          ap (λ (read : Option (ℕ × List ℕ)). read >>= λ x. past_items (number_at w) n x.1) (number_long w bytes long)
          ∙ past_short w n (drop (byte_len w) bytes) (omega (arith, length-drop (byte_len w) bytes, suc-mul n (byte_len w)))
    ]

-- and enough
pub past_long : (w : Width) (n : ℕ) (bytes : List ℕ) → n * byte_len w ≤ length bytes
    → past_items (number_at w) n bytes ≡ Some (drop (n * byte_len w) bytes)
past_long w zero bytes le = ap (λ (k : ℕ). Some (drop k bytes)) (sym (zero-mul (byte_len w)))
past_long w (suc n) bytes le =
    let size = byte_len w in
    let behind : drop (n * size) (drop size bytes) ≡ drop (suc n * size) bytes =
    drop-drop (n * size) size bytes ∙ ap (λ (k : ℕ). drop k bytes) (omega (arith, suc-mul n size)) in
    ap (λ (read : Option (ℕ × List ℕ)). read >>= λ x. past_items (number_at w) n x.1) (number_long w bytes (omega (arith, suc-mul n size)))
    ∙ past_long w n (drop size bytes) (omega (arith, length-drop size bytes, suc-mul n size))
    ∙ ap (λ (rest : List ℕ). Some rest) behind

module _ {A : Type 0} (at : FieldReader A) where
  -- one item more is behind us
  pub past_one : (count i : ℕ) (bytes : List ℕ) (item : A) (rest : List ℕ) → i < count
      → at bytes ≡ Some (item, rest)
      → past_items at (count - i) bytes ≡ past_items at (count - (i + 1)) rest
  past_one count i bytes item rest lt e =
      let k : count - i ≡ suc (count - (i + 1)) = omega arith in
      rw (k, e) refl

  -- the next is none
  pub past_none : (count i : ℕ) (bytes : List ℕ) → i < count → at bytes ≡ None
      → past_items at (count - i) bytes ≡ None
  past_none count i bytes lt e =
      let k : count - i ≡ suc (count - (i + 1)) = omega arith in
      rw (k, e) refl

  -- none is left
  pub past_all : (count i : ℕ) (bytes : List ℕ) → count ≤ i → past_items at (count - i) bytes ≡ Some bytes
  past_all count i bytes le =
      let k : count - i ≡ 0 = omega arith in
      rw k refl
