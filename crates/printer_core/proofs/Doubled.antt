-- Quotes that are doubled: in runs of bytes up to a quote, and character by character.
use Rattle.std.proofs.Common.{◌≡◌, ℕ, zero, suc, ◌+◌, ◌/◌, ◌%◌, ◌<◌, ◌≤◌, Bool, true, false, cond, List, [], ◌∷◌, ◌++◌, length, get_or, take, drop, Some, None, refl, sym, ◌∙◌, ap, arith, add-one, ltb, append_assoc}
use Rattle.std.proofs.lemmas.List.Quantifiers.{position-Some}
use Rattle.std.proofs.lemmas.List.Sums.{fails_before_first}
use Rattle.std.proofs.lemmas.Bool.Decides.{nat_tests}
use Rattle.std.specs.Prelude.{◌==◌, if◌then◌else◌, position}
use Rattle.std.specs.List.{position_or_len}
use Rattle.std.specs.Char.{encode_utf8}
use Rattle.std.specs.Str.{encode_utf8_all}
use Rattle.lexer_core.specs.Text.{written, written_all}
use Rattle.lexer_core.proofs.Texts.{quote_encoded, not_quote}
use Rattle.lexer_core.proofs.Numbers.{equal}
use Rattle.printer_core.specs.Printing.{doubled}

-- ---- runs up to a quote

-- up to the first quote nothing is doubled
doubled_run : (text : List ℕ) (n : ℕ) → n < length text → get_or text n 0 ≡ 39 → ((k : ℕ) → k < n → (get_or text k 0 == 39) ≡ false)
    → doubled text ≡ (take (suc n) text ++ 39 ∷ []) ++ doubled (drop (suc n) text)
doubled_run [] n lt at before = absurd (omega arith)
doubled_run (b ∷ rest) zero lt at before = rw at refl
doubled_run (b ∷ rest) (suc n) lt at before =
    let plain : (b == 39) ≡ false = before 0 (omega arith) in
    let k : n < length rest = omega arith in
    rw plain (ap (λ (t : List ℕ). b ∷ t) (doubled_run rest n k at (λ i below. before (suc i) (omega arith))))

-- without a quote nothing is
doubled_none : (text : List ℕ) → ((k : ℕ) → k < length text → (get_or text k 0 == 39) ≡ false) → doubled text ≡ text
doubled_none [] plain = refl
doubled_none (b ∷ rest) plain =
    let first : (b == 39) ≡ false = plain 0 (omega arith) in
    rw first (ap (λ (t : List ℕ). b ∷ t) (doubled_none rest (λ k below. plain (suc k) (omega arith))))

-- the same at the place that a search for a quote gave
doubled_at : (text : List ℕ) (n : ℕ) → position (λ b. b == 39) text ≡ Some n → doubled text ≡ (take (n + 1) text ++ 39 ∷ []) ++ doubled (drop (n + 1) text)
doubled_at text n found =
    let first = position-Some (λ b. b == 39) text n 0 found in
    rw add-one (doubled_run text n first.0 (equal (get_or text n 0) 39 first.1) first.2)

-- and where it gave none
pub doubled_nowhere : (text : List ℕ) → position (λ b. b == 39) text ≡ None → doubled text ≡ text
doubled_nowhere text none =
    let far : length text ≤ position_or_len (λ b. b == 39) text = grind (arith, nat_tests) in
    doubled_none text (λ k below. fails_before_first (λ b. b == 39) text k 0 (omega arith))

-- one more run, and what is left of the text
pub next_run : (part rest text run left : List ℕ) (n : ℕ) → position (λ b. b == 39) rest ≡ Some n → run ≡ take (n + 1) rest → left ≡ drop (n + 1) rest
    → part ++ doubled rest ≡ text → (part ++ (run ++ 39 ∷ [])) ++ doubled left ≡ text
next_run part rest text run left n found is_run is_left whole =
    let split : doubled rest ≡ (run ++ 39 ∷ []) ++ doubled left = rw (is_run, is_left) (doubled_at rest n found) in
    append_assoc part (run ++ 39 ∷ []) (doubled left) ∙ ap (λ (t : List ℕ). part ++ t) (sym split) ∙ whole

-- ---- byte by byte
above_ascii : (b : ℕ) → 128 ≤ b → (b == 39) ≡ false
above_ascii b h = grind (arith, nat_tests)

stays : (b : ℕ) (r : List ℕ) → (b == 39) ≡ false → doubled (b ∷ r) ≡ b ∷ doubled r
stays b r e = ap (λ (x : Bool). (if x then 39 ∷ 39 ∷ [] else b ∷ []) ++ doubled r) e

high_stays : (b : ℕ) (r s : List ℕ) → 128 ≤ b → doubled r ≡ s → doubled (b ∷ r) ≡ b ∷ s
high_stays b r s h e = stays b r (above_ascii b h) ∙ ap (λ (u : List ℕ). b ∷ u) e

two_stay : (a b : ℕ) (r : List ℕ) → 128 ≤ a → 128 ≤ b → doubled (a ∷ b ∷ r) ≡ a ∷ b ∷ doubled r
two_stay a b r h k = high_stays a (b ∷ r) (b ∷ doubled r) h (high_stays b r (doubled r) k refl)

module _ (c : ℕ) (r : List ℕ) where
  by_size : (s t u : Bool) → (c ≡ 39 → ⊥) → doubled (cond s (c ∷ []) (cond t ((192 + c / 64) ∷ (128 + c % 64) ∷ []) (cond u ((224 + c / 4096) ∷ (128 + (c / 64) % 64) ∷ (128 + c % 64) ∷ []) ((240 + c / 262144) ∷ (128 + (c / 4096) % 64) ∷ (128 + (c / 64) % 64) ∷ (128 + c % 64) ∷ []))) ++ r) ≡ cond s (c ∷ []) (cond t ((192 + c / 64) ∷ (128 + c % 64) ∷ []) (cond u ((224 + c / 4096) ∷ (128 + (c / 64) % 64) ∷ (128 + c % 64) ∷ []) ((240 + c / 262144) ∷ (128 + (c / 4096) % 64) ∷ (128 + (c / 64) % 64) ∷ (128 + c % 64) ∷ []))) ++ doubled r
  by_size true t u other = stays c r (not_quote c other)
  by_size false true u other = two_stay (192 + c / 64) (128 + c % 64) r (omega arith) (omega arith)
  by_size false false true other = high_stays (224 + c / 4096) ((128 + (c / 64) % 64) ∷ (128 + c % 64) ∷ r) ((128 + (c / 64) % 64) ∷ (128 + c % 64) ∷ doubled r) (omega arith) (two_stay (128 + (c / 64) % 64) (128 + c % 64) r (omega arith) (omega arith))
  by_size false false false other =
      high_stays (240 + c / 262144) ((128 + (c / 4096) % 64) ∷ (128 + (c / 64) % 64) ∷ (128 + c % 64) ∷ r) ((128 + (c / 4096) % 64) ∷ (128 + (c / 64) % 64) ∷ (128 + c % 64) ∷ doubled r) (omega arith)
      (high_stays (128 + (c / 4096) % 64) ((128 + (c / 64) % 64) ∷ (128 + c % 64) ∷ r) ((128 + (c / 64) % 64) ∷ (128 + c % 64) ∷ doubled r) (omega arith) (two_stay (128 + (c / 64) % 64) (128 + c % 64) r (omega arith) (omega arith)))

other_stays : (c : ℕ) (r : List ℕ) → (c ≡ 39 → ⊥) → doubled (encode_utf8 c ++ r) ≡ encode_utf8 c ++ doubled r
unfolding encode_utf8
other_stays c r other = by_size c r (ltb c 128) (ltb c 2048) (ltb c 65536) other

doubled_by : (c : ℕ) (r : List ℕ) (b : Bool) → (c == 39) ≡ b → doubled (encode_utf8 c ++ r) ≡ (if b then 39 ∷ 39 ∷ [] else encode_utf8 c) ++ doubled r
doubled_by c r true e = ap (λ (x : List ℕ). doubled (x ++ r)) (ap encode_utf8 (equal c 39 e) ∙ quote_encoded)
doubled_by c r false e = other_stays c r (λ is. let clash : true ≡ false = ap (λ (x : ℕ). x == 39) (sym is) ∙ e in cc clash)

pub doubled_written : (cs : List ℕ) → doubled (encode_utf8_all cs) ≡ written_all cs
doubled_written [] = refl
doubled_written (c ∷ cs) = doubled_by c (encode_utf8_all cs) (c == 39) refl ∙ ap (λ (u : List ℕ). written c ++ u) (doubled_written cs)
