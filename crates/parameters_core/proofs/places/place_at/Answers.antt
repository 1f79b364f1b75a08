use Rattle.std.proofs.Common.{◌≡◌, ◌⊎◌, ◌+◌, ◌-◌, ◌<◌, List, ℕ, length, take, drop, sym, ap, subst, ◌∙◌, arith}
use Rattle.std.specs.Prelude.{slice_index}
use Rattle.std.specs.List.{prefix_len}
use Rattle.std.specs.Char.{is_ascii_digit}
use Rattle.std.specs.Str.Parse.{digits_value}
use Rattle.std.proofs.lemmas.List.{take_rest}
use Rattle.base_core.specs.Words.{is_word_byte}
use Rattle.parameters_core.proofs.Fronts.{no_dollar, front_digits, digits_here, no_number, goes_on, front_place}
use Rattle.parameters_core.proofs.places.place_at.Goals as goal

-- how many digits were counted
counted : (bytes : List ℕ) (len : ℕ) → len ≡ prefix_len is_ascii_digit (take (length bytes - 1) (drop 1 bytes)) → len ≡ digits_here bytes
counted bytes len e = e ∙ ap (prefix_len is_ascii_digit) (take_rest bytes 1)

same_digits : (bytes : List ℕ) (len : ℕ) → len ≡ digits_here bytes → take (len + 1 - 1) (drop 1 bytes) ≡ take (digits_here bytes) (drop 1 bytes)
same_digits bytes len e = let f : len + 1 - 1 ≡ digits_here bytes = omega (arith, e) in ap (λ (k : ℕ). take k (drop 1 bytes)) f

pub returns-then-byte_at-ne36 : goal.returns-then-byte_at-ne36
returns-then-byte_at-ne36 c = no_dollar c.args.bytes.now (λ e. c.if-byte_at-ne36.true (c.byte_at.ensures ∙ e))

pub number_of-requires : goal.number_of-requires
number_of-requires c =
    let bytes = c.args.bytes.now in
    let len = c.digits_len-len.result in
    let here = counted bytes len c.digits_len-len.ensures.len in
    front_digits (drop 1 bytes) (len + 1 - 1) (omega (arith, here))

pub returns-in_err-number : goal.returns-in_err-number
returns-in_err-number c =
    let bytes = c.args.bytes.now in
    let here = counted bytes c.digits_len-len.result c.digits_len-len.ensures.len in
    rw c.from_residual.ensures
    (no_number bytes (subst (λ (ds : List ℕ). (digits_value 10 ds ≡ 0) ⊎ (99 < digits_value 10 ds)) (same_digits bytes c.digits_len-len.result here) c.in_err-number.ensures))

pub returns-then-is_word_byte : goal.returns-then-is_word_byte
returns-then-is_word_byte c =
    let bytes = c.args.bytes.now in
    let here = counted bytes c.digits_len-len.result c.digits_len-len.ensures.len in
    goes_on bytes
    (ap (λ (k : ℕ). is_word_byte (slice_index bytes (k + 1))) (sym here)
    ∙ (ap is_word_byte (sym c.byte_at-2.ensures) ∙ (sym c.is_word_byte.ensures ∙ c.if-is_word_byte.true)))

pub returns : goal.returns
returns c =
    let bytes = c.args.bytes.now in
    let len = c.digits_len-len.result in
    let here = counted bytes len c.digits_len-len.ensures.len in
    let number = c.in_ok-number.ensures in
    front_place bytes len c.in_ok-number.number (sym c.byte_at.ensures ∙ c.if-byte_at-ne36.false) here
    (number.0 ∙ ap (digits_value 10) (same_digits bytes len here)) number.1 number.2
    (ap is_word_byte (sym c.byte_at-2.ensures) ∙ (sym c.is_word_byte.ensures ∙ c.if-is_word_byte.false))
