-- The text that csv writes of a field without control characters is this project's.
use Rattle.std.proofs.Common.{◌≡◌, ◌≤◌, ◌<◌, ◌+◌, ◌%◌, ◌^◌, ◌==◌, ◌||◌, Bool, true, false, ℕ, suc, ℤ, pos, negsuc, FitsSigned, w64, List, [], ◌∷◌, ◌++◌, if◌then◌else◌, refl, ap, ◌∙◌, arith, ◌≢◌, length}
use Rattle.std.specs.List.{list_any, flat_map}
use Rattle.std.specs.Fmt.{decimal, signed_decimal}
use Rattle.std.proofs.lemmas.Bool.{ne_eqb, eqb-true}
use Rattle.std.proofs.lemmas.Fmt.{decimal_by_steps}
use Rattle.std.proofs.lemmas.List.Elements.{All-head, All-tail, All-cons, All-push, All-nil}
use Rattle.csv.specs.declared.writer.WriterBuilder.{WriterBuilder}
use Rattle.csv.specs.declared.writer.QuoteStyle.TheVariants as style
use Rattle.csv.specs.Quoting.{needs_byte}
use Rattle.csv.specs.Writing.{escaped, needs_quotes, next_sep, field_text as csv_field_text}
use Rattle.export_core.specs.Record.{forces_quotes, doubled_byte, field_text, record_writer, IsPlain}

or-false : (a : Bool) → (a || false) ≡ a
or-false true = refl
or-false false = refl

needs_byte-plain : (b : ℕ) → 32 ≤ b → needs_byte record_writer b ≡ forces_quotes b
needs_byte-plain b h =
    let cr : (b == 13) ≡ false = ne_eqb b 13 (λ e. omega arith) in
    let lf : (b == 10) ≡ false = ne_eqb b 10 (λ e. omega arith) in
    rw (cr, lf) (or-false _ ∙ or-false _ ∙ or-false _)

needs_quotes-plain : (field : List ℕ) → IsPlain field → needs_quotes record_writer field ≡ list_any forces_quotes field
needs_quotes-plain [] h = refl
needs_quotes-plain (b ∷ rest) h =
    let first = needs_byte-plain b (All-head (λ c. 32 ≤ c) b rest h) in
    let others = needs_quotes-plain rest (All-tail (λ c. 32 ≤ c) b rest h) in
    ap (λ t. t || needs_quotes record_writer rest) first ∙ ap (λ t. forces_quotes b || t) others

escaped-doubled : (field : List ℕ) → escaped record_writer field ≡ flat_map doubled_byte field
unfolding escaped
escaped-doubled [] = refl
escaped-doubled (b ∷ rest) = by (b == 34) (eqb-true b 34) (escaped-doubled rest)
  where
    by : (t : Bool) → (t ≡ true → b ≡ 34) → escaped record_writer rest ≡ flat_map doubled_byte rest
        → (if t then 34 ∷ b ∷ escaped record_writer rest else b ∷ escaped record_writer rest) ≡ (if t then 34 ∷ 34 ∷ [] else b ∷ []) ++ flat_map doubled_byte rest
    by true quote e = let q : b ≡ 34 = quote refl in cc
    by false quote e = ap (λ l. b ∷ l) e

-- the law
pub field_text-plain : (field : List ℕ) → IsPlain field → csv_field_text record_writer field ≡ field_text field
field_text-plain field h = rw (needs_quotes-plain field h, escaped-doubled field) refl

-- a field with a byte has a text with one
pub field_text-some : (field : List ℕ) → 0 < length field → 0 < length (field_text field)
field_text-some field h = by (list_any forces_quotes field)
  where
    by : (t : Bool) → 0 < length (if t then 34 ∷ (flat_map doubled_byte field ++ 34 ∷ []) else field)
    by true = omega arith
    by false = h

-- numbers are plain
pub IsPlain-decimal : (n : ℕ) → n < 2 ^ 64 → IsPlain (decimal n)
IsPlain-decimal n h =
    decimal_by_steps (λ n ds. IsPlain ds) (λ n low. All-cons (λ b. 32 ≤ b) (48 + n) [] (omega arith) (All-nil (λ b. 32 ≤ b))) (λ n ds high plain. All-push (λ b. 32 ≤ b) ds (48 + n % 10) plain (omega arith)) n h

pub IsPlain-signed_decimal : (z : ℤ) → FitsSigned w64 z → IsPlain (signed_decimal z)
IsPlain-signed_decimal (pos n) h = IsPlain-decimal n (omega (arith, h.sfits))
IsPlain-signed_decimal (negsuc n) h = All-cons (λ b. 32 ≤ b) 45 (decimal (suc n)) (omega arith) (IsPlain-decimal (suc n) (omega (arith, h.sfits)))

-- what a written field adds after others
pub field-appended : (cfg : WriterBuilder) (old new : List ℕ) (fields : ℕ) (field : List ℕ) → cfg ≡ record_writer → IsPlain field → 1 ≤ fields
    → ((cfg.style ≢ style.NonNumeric) → new ≡ old ++ (next_sep cfg fields ++ csv_field_text cfg field)) → new ≡ old ++ 44 ∷ field_text field
field-appended cfg old new fields field setup plain some said =
    let necessary : cfg.style ≢ style.NonNumeric = rw setup (λ e. cc e) in
    let more : (fields == 0) ≡ false = ne_eqb fields 0 (λ e. omega arith) in
    said necessary ∙ rw (setup, more, field_text-plain field plain) refl

-- and what the first one adds
pub first_field-appended : (cfg : WriterBuilder) (old new : List ℕ) (fields : ℕ) (field : List ℕ) → cfg ≡ record_writer → IsPlain field → fields ≡ 0
    → ((cfg.style ≢ style.NonNumeric) → new ≡ old ++ (next_sep cfg fields ++ csv_field_text cfg field)) → new ≡ old ++ field_text field
first_field-appended cfg old new fields field setup plain none said =
    let necessary : cfg.style ≢ style.NonNumeric = rw setup (λ e. cc e) in
    said necessary ∙ rw (setup, none, field_text-plain field plain) refl
