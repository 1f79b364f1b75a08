-- The texts of fields, and of the records that they make.
use Rattle.std.proofs.Common.{◌≡◌, ◌≤◌, ◌<◌, ◌+◌, ◌%◌, ◌^◌, ◌==◌, Bool, false, ℕ, zero, suc, ℤ, pos, negsuc, FitsSigned, w64, List, [], ◌∷◌, ◌++◌, All, if◌then◌else◌, length, get_or, take, drop, flat_map, map, codes, refl, sym, ap, ◌∙◌, append-nil, append_assoc, add-one, arith, Some, None}
use Rattle.std.specs.Prelude.{position}
use Rattle.std.specs.List.{list_any, position_or_len}
use Rattle.std.specs.Fmt.{decimal, signed_decimal}
use Rattle.std.proofs.lemmas.Bool.{ne_eqb, eqb-true}
use Rattle.std.proofs.lemmas.Bool.Decides.{nat_tests}
use Rattle.std.proofs.lemmas.Fmt.{decimal_by_steps}
use Rattle.std.proofs.lemmas.List.Quantifiers.{position-Some}
use Rattle.std.proofs.lemmas.List.Sums.{fails_before_first}
use Rattle.std.proofs.lemmas.List.Elements.{All-head, All-tail, All-cons, All-push, All-nil}
use Rattle.base_core.specs.declared.value.Value.{Value}
use Rattle.export_core.specs.Record.{quote, forces_quotes, doubled_byte, field_text, fields_text, value_field, row_line}
use Rattle.base_core.specs.declared.value.Moment.{Moment}
use Rattle.system_core.specs.declared.machine.event.Checkpoint.TheVariants as checkpoints
use Rattle.reply_core.specs.Texts.{joined, checkpoint_line, value_text}

-- ---- fields that need no quotes

no_quotes : (bytes : List ℕ) → All (λ b. 45 ≤ b) bytes → list_any forces_quotes bytes ≡ false
no_quotes [] h = refl
no_quotes (b ∷ rest) h =
    let above = All-head (λ c. 45 ≤ c) b rest h in
    let no_comma : (b == 44) ≡ false = ne_eqb b 44 (λ e. omega arith) in
    let no_quote : (b == 34) ≡ false = ne_eqb b 34 (λ e. omega arith) in
    rw (no_comma, no_quote) (no_quotes rest (All-tail (λ c. 45 ≤ c) b rest h))

digits-decimal : (n : ℕ) → n < 2 ^ 64 → All (λ b. 45 ≤ b) (decimal n)
digits-decimal n h =
    decimal_by_steps (λ n ds. All (λ b. 45 ≤ b) ds) (λ n low. All-cons (λ b. 45 ≤ b) (48 + n) [] (omega arith) (All-nil (λ b. 45 ≤ b))) (λ n ds high digits. All-push (λ b. 45 ≤ b) ds (48 + n % 10) digits (omega arith)) n h

digits-signed : (z : ℤ) → FitsSigned w64 z → All (λ b. 45 ≤ b) (signed_decimal z)
digits-signed (pos n) h = digits-decimal n (omega (arith, h.sfits))
digits-signed (negsuc n) h = All-cons (λ b. 45 ≤ b) 45 (decimal (suc n)) (omega arith) (digits-decimal (suc n) (omega (arith, h.sfits)))

as_it_is : (bytes : List ℕ) → All (λ b. 45 ≤ b) bytes → field_text bytes ≡ bytes
as_it_is bytes h = ap (λ (t : Bool). if t then quote ∷ (flat_map doubled_byte bytes ++ quote ∷ []) else bytes) (no_quotes bytes h)

-- a number stands as it is
pub field_text-decimal : (n : ℕ) → n < 2 ^ 64 → field_text (decimal n) ≡ decimal n
field_text-decimal n h = as_it_is (decimal n) (digits-decimal n h)

pub field_text-signed : (z : ℤ) → FitsSigned w64 z → field_text (signed_decimal z) ≡ signed_decimal z
field_text-signed z h = as_it_is (signed_decimal z) (digits-signed z h)

-- ---- checkpoints

two_joined : (a b : List ℕ) → (a ++ 44 ∷ []) ++ (b ++ 10 ∷ []) ≡ (a ++ 44 ∷ b) ++ 10 ∷ []
two_joined a b = simp append_assoc

three_joined : (a b c : List ℕ) → ((a ++ 44 ∷ []) ++ (b ++ 44 ∷ [])) ++ (c ++ 10 ∷ []) ≡ (a ++ 44 ∷ (b ++ 44 ∷ c)) ++ 10 ∷ []
three_joined a b c = simp append_assoc

-- the line of a checkpoint that is kept, as it is made
pub kept-made : (number : ℕ) (point : Moment)
    → joined (codes "finished," ∷ field_text (decimal number) ∷ codes "," ∷ []) ++ joined ([] ∷ field_text (decimal point.0) ∷ codes "\n" ∷ [])
    ≡ checkpoint_line (checkpoints.Kept number point)
kept-made number point = ap (λ t. codes "finished," ++ t) (two_joined (field_text (decimal number)) (field_text (decimal point.0)))

-- the line of an active checkpoint
pub active-made : (number : ℕ) (point : Moment) (left : ℕ)
    → (joined (codes "active," ∷ field_text (decimal number) ∷ codes "," ∷ []) ++ joined ([] ∷ field_text (decimal point.0) ∷ codes "," ∷ []))
    ++ joined ([] ∷ field_text (decimal left) ∷ codes "\n" ∷ [])
    ≡ checkpoint_line (checkpoints.Active number point left)
active-made number point left = ap (λ t. codes "active," ++ t) (three_joined (field_text (decimal number)) (field_text (decimal point.0)) (field_text (decimal left)))

-- ---- runs up to a quote

-- up to the first quote nothing is doubled
pub doubled_run : (text : List ℕ) (n : ℕ) → n < length text → get_or text n 0 ≡ quote → ((k : ℕ) → k < n → (get_or text k 0 == quote) ≡ false)
    → flat_map doubled_byte text ≡ (take (suc n) text ++ quote ∷ []) ++ flat_map doubled_byte (drop (suc n) text)
doubled_run [] n lt at before = absurd (omega arith)
doubled_run (b ∷ rest) zero lt at before = rw at refl
doubled_run (b ∷ rest) (suc n) lt at before =
    let plain : (b == quote) ≡ false = before 0 (omega arith) in
    let k : n < length rest = omega arith in
    rw plain (ap (λ t. b ∷ t) (doubled_run rest n k at (λ i below. before (suc i) (omega arith))))

-- without a quote nothing is
pub doubled_none : (text : List ℕ) → ((k : ℕ) → k < length text → (get_or text k 0 == quote) ≡ false) → flat_map doubled_byte text ≡ text
doubled_none [] plain = refl
doubled_none (b ∷ rest) plain =
    let first : (b == quote) ≡ false = plain 0 (omega arith) in
    rw first (ap (λ t. b ∷ t) (doubled_none rest (λ k below. plain (suc k) (omega arith))))

-- the same at the place that a search for a quote gave
pub doubled_at : (text : List ℕ) (n : ℕ) → position (λ b. b == quote) text ≡ Some n
    → flat_map doubled_byte text ≡ (take (n + 1) text ++ quote ∷ []) ++ flat_map doubled_byte (drop (n + 1) text)
doubled_at text n found =
    let first = position-Some (λ b. b == quote) text n 0 found in
    rw add-one (doubled_run text n first.0 (eqb-true (get_or text n 0) quote first.1) first.2)

-- and where it gave none
pub doubled_nowhere : (text : List ℕ) → position (λ b. b == quote) text ≡ None → flat_map doubled_byte text ≡ text
doubled_nowhere text none =
    let far : length text ≤ position_or_len (λ b. b == quote) text = grind (arith, nat_tests) in
    doubled_none text (λ k below. fails_before_first (λ b. b == quote) text k 0 (omega arith))

-- one more run, and what is left of the text
pub next_run : (part rest text run left : List ℕ) (n : ℕ) → position (λ b. b == quote) rest ≡ Some n → run ≡ take (n + 1) rest → left ≡ drop (n + 1) rest
    → part ++ flat_map doubled_byte rest ≡ text → (part ++ (run ++ quote ∷ [])) ++ flat_map doubled_byte left ≡ text
next_run part rest text run left n found is_run is_left whole =
    let split : flat_map doubled_byte rest ≡ (run ++ quote ∷ []) ++ flat_map doubled_byte left =
    rw (is_run, is_left) (doubled_at rest n found) in
    append_assoc part (run ++ quote ∷ []) (flat_map doubled_byte left) ∙ ap (λ t. part ++ t) (sym split) ∙ whole

-- ---- rows

fields_text-cons : (first : List ℕ) (values : List Value) → fields_text (first ∷ map value_field values) ≡ field_text first ++ flat_map value_text values
fields_text-cons first [] = sym (append-nil (field_text first))
fields_text-cons first (next ∷ more) = ap (λ text. field_text first ++ 44 ∷ text) (fields_text-cons (value_field next) more)

-- the line of a row: its word, its values, and a line feed
pub row_line-parts : (values : List Value) → row_line values ≡ codes "row" ++ (flat_map value_text values ++ codes "\n")
row_line-parts values = ap (λ text. text ++ codes "\n") (fields_text-cons (codes "row") values) ∙ append_assoc (codes "row") (flat_map value_text values) (codes "\n")
