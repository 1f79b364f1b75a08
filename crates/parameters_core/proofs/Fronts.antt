-- What stands at the front of some bytes: a place, or none.
use mathlib.Core.Logic.{⊎_elim}
use Rattle.std.proofs.Common.{◌≡◌, ◌⊎◌, ℕ, suc, ◌+◌, ◌<◌, ◌≤◌, Bool, true, false, ◌||◌, List, [], ◌∷◌, ◌++◌, length, take, drop, get_or, refl, sym, ◌∙◌, ap, subst, arith, length-append, length-drop, inl, inr}
use Rattle.std.specs.Prelude.{◌==◌, slice_index}
use Rattle.std.specs.Int.{IsInRange, is_in_range}
use Rattle.std.specs.List.{prefix_len, list_all}
use Rattle.std.specs.Char.{is_ascii_digit, digit_value}
use Rattle.std.specs.Str.Parse.{AllDigits, digits_value}
use Rattle.std.proofs.lemmas.Bool.{cases_lt, cases_eq, cases_Bool, and_parts, true≢false}
use Rattle.std.proofs.lemmas.Bool.Decides.{nat_tests}
use Rattle.std.proofs.lemmas.List.{get_or_append_left, get_or-append-add, take_at, drop_at, take-append-drop, get_or-drop, length-take-le}
use Rattle.std.proofs.lemmas.List.Sums.{prefix_len_is, prefix_len-le-length}
use Rattle.std.proofs.lemmas.Str.{digit_value_digit}
use Rattle.std.proofs.lemmas.Str.Parse.{digit_at}
use Rattle.base_core.specs.Words.{is_word_byte}
use Rattle.lexer_core.proofs.Words.{all_front}
use Rattle.parameters_core.specs.Places.{IsPlace, BeginsNoPlace, place_number}
use Rattle.parameters_core.specs.Finding.{IsFrontPlace}
use Rattle.parameters_core.proofs.Overlaps.{first_of_both}

-- ---- digits
digit_is : (b : ℕ) → IsInRange 48 57 b → is_ascii_digit b ≡ true
digit_is b h = let low = h.0 in let high = h.1 in grind (arith, nat_tests)

pub digit_word : (b : ℕ) → IsInRange 48 57 b → is_word_byte b ≡ true
digit_word b h = let low = h.0 in let high = h.1 in grind (arith, nat_tests)

no_digit_by : (d u l v : Bool) → (((d || u) || l) || v) ≡ false → d ≡ false
no_digit_by false u l v e = refl
no_digit_by true u l v e = cc

no_digit : (b : ℕ) → is_word_byte b ≡ false → is_ascii_digit b ≡ false
no_digit b e = no_digit_by (is_in_range 48 57 b) (is_in_range 65 90 b) (is_in_range 97 122 b) (b == 95) e

digit_small : (x : ℕ) → is_ascii_digit x ≡ true → digit_value x < 10
digit_small x e = let lo : 48 ≤ x = grind (arith, nat_tests) in let hi : x ≤ 57 = grind (arith, nat_tests) in omega (arith, digit_value_digit x (lo, hi))

all_digits : (xs : List ℕ) → list_all is_ascii_digit xs ≡ true → AllDigits 10 xs
all_digits [] e = tt
all_digits (x ∷ xs) e = (digit_small x (and_parts (is_ascii_digit x) (list_all is_ascii_digit xs) e).0, all_digits xs (and_parts (is_ascii_digit x) (list_all is_ascii_digit xs) e).1)

-- the digits at the front are digits
pub front_digits : (bytes : List ℕ) (n : ℕ) → n ≡ prefix_len is_ascii_digit bytes → AllDigits 10 (take n bytes)
front_digits bytes n e = all_digits (take n bytes) (ap (λ (k : ℕ). list_all is_ascii_digit (take k bytes)) e ∙ all_front is_ascii_digit bytes)

-- digits before what no word goes on with are all the digits at the front
longest : (ds rest : List ℕ) → AllDigits 10 ds → is_word_byte (slice_index rest 0) ≡ false → prefix_len is_ascii_digit (ds ++ rest) ≡ length ds
longest ds rest all ends =
    let place : length ds ≡ length ds + 0 = omega arith in
    let behind : get_or (ds ++ rest) (length ds) 0 ≡ get_or rest 0 0 = ap (λ (k : ℕ). get_or (ds ++ rest) k 0) place ∙ get_or-append-add ds rest 0 0 in
    prefix_len_is is_ascii_digit (ds ++ rest) (length ds) 0
    (omega (arith, length-append ds rest))
    (λ k h. ap is_ascii_digit (get_or_append_left ds rest 0 k h) ∙ digit_is (get_or ds k 0) (digit_at ds k all h))
    (λ h. ap is_ascii_digit behind ∙ no_digit (get_or rest 0 0) ends)

-- ---- places
module _ (place : List ℕ) (p : IsPlace place) where
  pub place_some : 2 ≤ length place
  place_some = omega (arith, ap length p.spelled, p.numeral.0)

  pub dollar : slice_index place 0 ≡ 36
  dollar = ap (λ (bytes : List ℕ). get_or bytes 0 0) p.spelled

  pub digit_within : (k : ℕ) → suc k < length place → IsInRange 48 57 (get_or place (suc k) 0)
  digit_within k h = subst (λ (bytes : List ℕ). IsInRange 48 57 (get_or bytes (suc k) 0)) (sym p.spelled) (digit_at p.digits k p.numeral.1 (omega (arith, ap length p.spelled, h)))

-- what is behind the first bytes of a place begins with a digit
pub digit_behind : (place front behind : List ℕ) → IsPlace place → place ≡ front ++ behind → 0 < length front → 0 < length behind → IsInRange 48 57 (slice_index behind 0)
digit_behind place [] behind p e h g = absurd (omega (arith, h))
digit_behind place (x ∷ xs) behind p e h g =
    let k = length xs in
    let there : get_or place (suc k) 0 ≡ get_or behind 0 0 =
    ap (λ (bytes : List ℕ). get_or bytes (suc k) 0) e
    ∙ (ap (λ (n : ℕ). get_or (xs ++ behind) n 0) (let z : k ≡ k + 0 = omega arith in z) ∙ get_or-append-add xs behind 0 0) in
    subst (IsInRange 48 57) there (digit_within place p k (omega (arith, ap length e, length-append xs behind, g)))

-- what stands first in a text that begins with a place
pub dollar_first : (place rest : List ℕ) → IsPlace place → slice_index (place ++ rest) 0 ≡ 36
dollar_first place rest p = first_of_both place rest (omega (arith, place_some place p)) ∙ dollar place p

pub none_from : (bytes : List ℕ) → ((place rest : List ℕ) → bytes ≡ place ++ rest → IsPlace place → is_word_byte (slice_index rest 0) ≡ false → ⊥) → BeginsNoPlace bytes
none_from bytes h place rest e p = ⊎_elim (λ t. t) (λ f. absurd (h place rest e p f)) (cases_Bool (is_word_byte (slice_index rest 0)))

pub none_in_nothing : BeginsNoPlace []
none_in_nothing place rest e p = absurd (omega (arith, ap length e, length-append place rest, place_some place p))

-- without "$" there is none
pub no_dollar : (bytes : List ℕ) → (slice_index bytes 0 ≡ 36 → ⊥) → BeginsNoPlace bytes
no_dollar bytes h place rest e p = absurd (h (ap (λ (b : List ℕ). get_or b 0 0) e ∙ dollar_first place rest p))

-- how many digits stand behind the first byte, and what they spell
abbrev pub digits_here : List ℕ → ℕ
digits_here bytes = prefix_len is_ascii_digit (drop 1 bytes)

abbrev pub value_here : List ℕ → ℕ
value_here bytes = digits_value 10 (take (digits_here bytes) (drop 1 bytes))

-- the one place that may stand at the front has all these digits
module _ (bytes place rest : List ℕ) (e : bytes ≡ place ++ rest) (p : IsPlace place) (ends : is_word_byte (slice_index rest 0) ≡ false) where
  behind : drop 1 bytes ≡ p.digits ++ rest
  behind = ap (drop 1) e ∙ ap (λ (b : List ℕ). drop 1 (b ++ rest)) p.spelled

  digits_len : digits_here bytes ≡ length p.digits
  digits_len = ap (prefix_len is_ascii_digit) behind ∙ longest p.digits rest p.numeral.1 ends

  digits_are : take (digits_here bytes) (drop 1 bytes) ≡ p.digits
  digits_are = ap (take (digits_here bytes)) behind ∙ take_at p.digits rest (digits_here bytes) (sym digits_len)

  rest_is : drop (digits_here bytes) (drop 1 bytes) ≡ rest
  rest_is = ap (drop (digits_here bytes)) behind ∙ drop_at p.digits rest (digits_here bytes) (sym digits_len)

  number_here : value_here bytes ≡ place_number place
  number_here = ap (digits_value 10) digits_are ∙ ap (λ (b : List ℕ). digits_value 10 (drop 1 b)) (sym p.spelled)

-- where the number does not lie between 1 and 99, there is none
number_clash : (bytes place : List ℕ) → IsPlace place → value_here bytes ≡ place_number place → ((value_here bytes ≡ 0) ⊎ (99 < value_here bytes)) → ⊥
number_clash bytes place p n (inl z) = let low = p.some in omega (arith, z, n, low)
number_clash bytes place p n (inr m) = let high = p.few in omega (arith, m, n, high)

pub no_number : (bytes : List ℕ) → ((value_here bytes ≡ 0) ⊎ (99 < value_here bytes)) → BeginsNoPlace bytes
no_number bytes h = none_from bytes (λ place rest e p ends. number_clash bytes place p (number_here bytes place rest e p ends) h)

next_byte : (bytes : List ℕ) → get_or (drop (digits_here bytes) (drop 1 bytes)) 0 0 ≡ get_or bytes (digits_here bytes + 1) 0
next_byte bytes =
    let k = digits_here bytes in
    let n : 1 + (k + 0) ≡ k + 1 = omega arith in
    get_or-drop k (drop 1 bytes) 0 0 ∙ (get_or-drop 1 bytes (k + 0) 0 ∙ ap (λ (j : ℕ). get_or bytes j 0) n)

-- nor where a word goes on behind the digits
pub goes_on : (bytes : List ℕ) → is_word_byte (slice_index bytes (digits_here bytes + 1)) ≡ true → BeginsNoPlace bytes
goes_on bytes t = none_from bytes (λ place rest e p ends.
    let same : get_or bytes (digits_here bytes + 1) 0 ≡ get_or rest 0 0 = sym (next_byte bytes) ∙ ap (λ (b : List ℕ). get_or b 0 0) (rest_is bytes place rest e p ends) in
    true≢false (sym t ∙ (ap is_word_byte same ∙ ends)))

first_split : (bytes : List ℕ) → slice_index bytes 0 ≡ 36 → bytes ≡ 36 ∷ drop 1 bytes
first_split [] e = absurd (omega (arith, e))
first_split (b ∷ bs) e = ap (λ (x : ℕ). x ∷ bs) e

pub some_first : (bytes : List ℕ) → slice_index bytes 0 ≡ 36 → 1 ≤ length bytes
some_first bytes e = omega (arith, ap length (first_split bytes e))

module _ (bytes : List ℕ) (first : slice_index bytes 0 ≡ 36) (low : 1 ≤ value_here bytes) (high : value_here bytes ≤ 99) where
  abbrev n : ℕ
  n = digits_here bytes

  within_rest : n ≤ length (drop 1 bytes)
  within_rest = prefix_len-le-length is_ascii_digit (drop 1 bytes)

  some_digits : 0 < n
  some_digits = ⊎_elim (λ h. h) (λ h. let none : n ≡ 0 = omega (arith, h) in let zero_here : digits_value 10 (take n (drop 1 bytes)) ≡ 0 = ap (λ (k : ℕ). digits_value 10 (take k (drop 1 bytes))) none in absurd (omega (arith, low, zero_here))) (cases_lt 0 n)

  spelled_here : take (n + 1) bytes ≡ 36 ∷ take n (drop 1 bytes)
  spelled_here =
      let e : n + 1 ≡ suc n = omega arith in
      ap (λ (k : ℕ). take k bytes) e ∙ ap (take (suc n)) (first_split bytes first)

  -- "$" and these digits are a place
  pub place_here : IsPlace (take (n + 1) bytes)
  place_here = record {
    digits = take n (drop 1 bytes);
    spelled = spelled_here;
    numeral = (omega (arith, some_digits, length-take-le n (drop 1 bytes) within_rest), front_digits (drop 1 bytes) n refl);
    some = subst (λ (b : List ℕ). 1 ≤ digits_value 10 (drop 1 b)) (sym spelled_here) low;
    few = subst (λ (b : List ℕ). digits_value 10 (drop 1 b) ≤ 99) (sym spelled_here) high;
  }

  pub number_there : place_number (take (n + 1) bytes) ≡ digits_value 10 (take n (drop 1 bytes))
  number_there = ap (λ (b : List ℕ). digits_value 10 (drop 1 b)) spelled_here

  pub place_within : n + 1 ≤ length bytes
  place_within = omega (arith, within_rest, length-drop 1 bytes, some_first bytes first)

-- ---- each front is one or the other
behind_at : (bytes : List ℕ) (k : ℕ) → slice_index (drop k bytes) 0 ≡ slice_index bytes k
behind_at bytes k = get_or-drop k bytes 0 0 ∙ ap (λ (j : ℕ). get_or bytes j 0) (let z : k + 0 ≡ k = omega arith in z)

abbrev pub StandsPlace : List ℕ → Type 0
StandsPlace bytes = (place : List ℕ) × (rest : List ℕ) × (bytes ≡ place ++ rest) × IsPlace place × (is_word_byte (slice_index rest 0) ≡ false)

module _ (bytes : List ℕ) (first : slice_index bytes 0 ≡ 36) where
  abbrev here : ℕ
  here = digits_here bytes

  abbrev value : ℕ
  value = value_here bytes

  by_end : 1 ≤ value → value ≤ 99 → BeginsNoPlace bytes ⊎ StandsPlace bytes
  by_end low high = ⊎_elim
      (λ t. inl (goes_on bytes t))
      (λ f. inr (take (here + 1) bytes, drop (here + 1) bytes, sym (take-append-drop (here + 1) bytes), place_here bytes first low high, ap is_word_byte (behind_at bytes (here + 1)) ∙ f))
      (cases_Bool (is_word_byte (slice_index bytes (here + 1))))

  by_value : BeginsNoPlace bytes ⊎ StandsPlace bytes
  by_value = ⊎_elim
      (λ z. let none : value ≡ 0 = omega (arith, z) in inl (no_number bytes (inl none)))
      (λ low. ⊎_elim (λ m. inl (no_number bytes (inr m))) (λ high. by_end low high) (cases_lt 99 value))
      (cases_lt value 1)

pub place_or_none : (bytes : List ℕ) → BeginsNoPlace bytes ⊎ StandsPlace bytes
place_or_none bytes = ⊎_elim (λ first. by_value bytes first) (λ other. inl (no_dollar bytes other)) (cases_eq (slice_index bytes 0) 36)

-- ---- as the code has it
pub front_place : (bytes : List ℕ) (len number : ℕ) → slice_index bytes 0 ≡ 36 → len ≡ digits_here bytes → number ≡ value_here bytes → 1 ≤ number → number ≤ 99 → is_word_byte (slice_index bytes (len + 1)) ≡ false → IsFrontPlace bytes (len + 1) number
front_place bytes len number first is value more few stop =
    let low : 1 ≤ value_here bytes = omega (arith, value, more) in
    let high : value_here bytes ≤ 99 = omega (arith, value, few) in
    subst (λ (k : ℕ). IsFrontPlace bytes (k + 1) number) (sym is) record {
      within = place_within bytes first low high;
      is_place = place_here bytes first low high;
      number_is = value ∙ sym (number_there bytes first low high);
      ends = ap (λ (k : ℕ). is_word_byte (slice_index bytes (k + 1))) (sym is) ∙ stop;
    }
