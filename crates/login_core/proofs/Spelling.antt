-- What stands in base64 and in decimal, and so where a text of them is cut.
use Rattle.std.proofs.Common.{◌≡◌, ◌++◌, ◌<◌, ◌+◌, ◌*◌, ◌/◌, ◌%◌, ◌^◌, ◌==◌, ℕ, zero, suc, List, [], ◌∷◌, length, map, drop, replicate, Bool, true, not, refl, sym, ◌∙◌, ap, subst, arith, slice_index, decimal}
use Rattle.std.proofs.lemmas.Bool.{eq-eqb, eqb-true}
use Rattle.std.proofs.lemmas.List.Folds.{list_all-append}
use Rattle.std.proofs.lemmas.Fmt.{decimal_is_IsNumeral}
use Rattle.std.specs.Char.{digit_value}
use Rattle.std.specs.Str.Parse.{AllDigits}
use Rattle.std.specs.List.{list_all}
use Rattle.base64.specs.Engines.{standard}
use Rattle.base64.specs.GeneralPurpose.{encode_of}
use Rattle.base64.specs.Rfc4648.{encode_symbols, padding_len}
use Rattle.login_core.specs.Decoding.{is_other, LacksByte, Splits}
use Rattle.login_core.proofs.Bools.{both_true, not_true, first_true, second_true, not_both}

-- what each of a table passes, and 0, each read of it passes
pub each_read : (p : ℕ → Bool) (t : List ℕ) (k : ℕ) → list_all p t ≡ true → p 0 ≡ true
    → p (slice_index t k) ≡ true
each_read p [] k all z = z
each_read p (x ∷ xs) zero all z = first_true (p x) (list_all p xs) all
each_read p (x ∷ xs) (suc k) all z = each_read p xs k (second_true (p x) (list_all p xs) all) z

pub all_more : (p : ℕ → Bool) (x : ℕ) (xs : List ℕ) → p x ≡ true → list_all p xs ≡ true
    → list_all p (x ∷ xs) ≡ true
all_more p x xs a b = both_true (p x) (list_all p xs) a b

pub all_both : (p : ℕ → Bool) (xs ys : List ℕ) → list_all p xs ≡ true → list_all p ys ≡ true
    → list_all p (xs ++ ys) ≡ true
all_both p xs ys a b = list_all-append p xs ys ∙ both_true (list_all p xs) (list_all p ys) a b

pub all_reads : (p : ℕ → Bool) (t : List ℕ) → ((k : ℕ) → p (slice_index t k) ≡ true)
    → (ks rest : List ℕ) → list_all p rest ≡ true → list_all p (map (λ k. slice_index t k) ks ++ rest) ≡ true
all_reads p t at [] rest all = all
all_reads p t at (k ∷ ks) rest all =
    both_true (p (slice_index t k)) (list_all p (map (λ k. slice_index t k) ks ++ rest)) (at k) (all_reads p t at ks rest all)

pub all_symbols : (p : ℕ → Bool) (t : List ℕ) → ((k : ℕ) → p (slice_index t k) ≡ true) → (m : List ℕ)
    → list_all p (encode_symbols t m) ≡ true
unfolding encode_symbols
all_symbols p t at [] = refl
all_symbols p t at (a ∷ []) = all_reads p t at ((a / 4) ∷ (a % 4 * 16) ∷ []) [] refl
all_symbols p t at (a ∷ b ∷ []) = all_reads p t at ((a / 4) ∷ (a % 4 * 16 + b / 16) ∷ (b % 16 * 4) ∷ []) [] refl
all_symbols p t at (a ∷ b ∷ c ∷ rest) =
    all_reads p t at ((a / 4) ∷ (a % 4 * 16 + b / 16) ∷ (b % 16 * 4 + c / 64) ∷ (c % 64) ∷ []) (encode_symbols t rest)
    (all_symbols p t at rest)

pub all_same : (p : ℕ → Bool) (n x : ℕ) → p x ≡ true → list_all p (replicate n x) ≡ true
all_same p zero x a = refl
all_same p (suc n) x a = all_more p x (replicate n x) a (all_same p n x a)

-- no base64 has a byte that is none of its table and no padding
pub free_encoded : (byte : ℕ) (m : List ℕ) → LacksByte byte standard.encode_table → is_other byte 0 ≡ true
    → is_other byte 61 ≡ true → LacksByte byte (encode_of standard m)
free_encoded byte m table z pad =
    all_both (is_other byte) (encode_symbols standard.encode_table m) (replicate (padding_len (length m)) 61)
    (all_symbols (is_other byte) standard.encode_table (λ k. each_read (is_other byte) standard.encode_table k table z) m)
    (all_same (is_other byte) (padding_len (length m)) 61 pad)

pub no_dollar : (m : List ℕ) → LacksByte 36 (encode_of standard m)
no_dollar m = free_encoded 36 m refl refl refl

pub no_colon : (m : List ℕ) → LacksByte 58 (encode_of standard m)
no_colon m = free_encoded 58 m refl refl refl

pub ten_at_most : 36 < 10 → ⊥
ten_at_most e = omega (e, arith)

-- and no digit is a colon
pub free_digits : (ds : List ℕ) → AllDigits 10 ds → LacksByte 58 ds
free_digits [] d = refl
free_digits (c ∷ cs) d =
    let P : ℕ → Type 0 = λ x. digit_value x < 10
    in all_more (is_other 58) c cs (not_true (c == 58) (λ e. ten_at_most (subst P (eqb-true c 58 e) d.0))) (free_digits cs d.1)

pub no_colon_in_count : (n : ℕ) → n < 2 ^ 32 → LacksByte 58 (decimal n)
no_colon_in_count n small =
    free_digits (decimal n) (decimal_is_IsNumeral n (omega (small, arith))).0.1

-- a text that is cut at the first of a byte is cut in one way
pub one_cut : (byte : ℕ) (front behind front' behind' : List ℕ) → LacksByte byte front → LacksByte byte front'
    → front ++ byte ∷ behind ≡ front' ++ byte ∷ behind' → (front ≡ front') × (behind ≡ behind')
one_cut byte [] behind [] behind' a b e = (refl, ap (drop 1) e)
one_cut byte [] behind (y ∷ ys) behind' a b e =
    let heads : byte ≡ y = ap (λ t. slice_index t 0) e
    in absurd (not_both (y == byte) (first_true (not (y == byte)) (list_all (is_other byte) ys) b) (eq-eqb y byte (sym heads)))
one_cut byte (x ∷ xs) behind [] behind' a b e =
    let heads : x ≡ byte = ap (λ t. slice_index t 0) e
    in absurd (not_both (x == byte) (first_true (not (x == byte)) (list_all (is_other byte) xs) a) (eq-eqb x byte heads))
one_cut byte (x ∷ xs) behind (y ∷ ys) behind' a b e =
    let heads : x ≡ y = ap (λ t. slice_index t 0) e
    in let rest : (xs ≡ ys) × (behind ≡ behind') = one_cut byte xs behind ys behind'
    (second_true (not (x == byte)) (list_all (is_other byte) xs) a)
    (second_true (not (y == byte)) (list_all (is_other byte) ys) b) (ap (drop 1) e)
    in (ap (λ z. z ∷ xs) heads ∙ ap (λ zs. y ∷ zs) rest.0, rest.1)

-- a text is cut where it is said to be cut
pub cut_is : (byte : ℕ) (text front behind front' behind' : List ℕ) → Splits byte text front behind
    → text ≡ front' ++ byte ∷ behind' → LacksByte byte front' → (front ≡ front') × (behind ≡ behind')
cut_is byte text front behind front' behind' cuts e free =
    one_cut byte front behind front' behind' cuts.free free (sym cuts.said ∙ e)

-- and where no byte is this one, it is cut nowhere
pub cut_somewhere : (byte : ℕ) (text front behind : List ℕ) → LacksByte byte text → text ≡ front ++ byte ∷ behind → ⊥
cut_somewhere byte text front behind free e =
    no_cut front (subst (LacksByte byte) e free)
  where
    no_cut : (front : List ℕ) → LacksByte byte (front ++ byte ∷ behind) → ⊥
    no_cut [] f = not_both (byte == byte) (first_true (not (byte == byte)) (list_all (is_other byte) behind) f) (eq-eqb byte byte refl)
    no_cut (x ∷ xs) f = no_cut xs (second_true (not (x == byte)) (list_all (is_other byte) (xs ++ byte ∷ behind)) f)
