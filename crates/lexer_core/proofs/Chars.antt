-- The character that some bytes begin with.
use Rattle.std.proofs.lemmas.Bool.{cases_lt}
use Rattle.std.proofs.Common.{◌≡◌, ℕ, zero, suc, ◌<◌, ◌≤◌, Bool, true, false, cond, List, ◌++◌, Option, Some, None, length, take, drop, refl, sym, ◌∙◌, ap, subst, arith, append_assoc, ⊎_elim}
use Rattle.std.proofs.lemmas.List.{take_min}
use Rattle.std.proofs.lemmas.Str.{utf8_valid_len_le, encode_same}
use Rattle.std.specs.Prelude.{min, not}
use Rattle.std.specs.Char.{is_control}
use Rattle.base_core.specs.Texts.{is_printable}
use Rattle.lexer_core.specs.Text.{BeginsWithNoPlain}
use Rattle.std.proofs.lemmas.List.{take_at, take-take, take-append-drop, length-take, length-append}
use Rattle.std.proofs.lemmas.Str.{is_utf8-from_IsUtf8, IsUtf8-encode, length-encode, len_utf8_bounds}
use Rattle.std.specs.Option.{MatchOption}
use Rattle.std.specs.Char.{encode_utf8, len_utf8}
use Rattle.std.specs.Str.{IsUtf8, is_utf8, StartsWithNoChar}
use Rattle.std.specs.Str.Lossy.{utf8_valid_len, valid_len_up_to}

-- where no front is UTF-8, none is
none_step : (bs : List ℕ) (n : ℕ) (b : Bool) → is_utf8 (take (suc n) bs) ≡ b → cond b (suc n) (valid_len_up_to bs n) ≡ 0 → (valid_len_up_to bs n ≡ 0 → (k : ℕ) → 0 < k → k ≤ n → is_utf8 (take k bs) ≡ false) → (k : ℕ) → 0 < k → k ≤ suc n → is_utf8 (take k bs) ≡ false
none_step bs n true is e below k some h = absurd (omega arith)
none_step bs n false is e below k some h = ⊎_elim (λ l. below e k some (omega arith)) (λ l. let same : k ≡ suc n = omega arith in rw same is) (cases_lt k (suc n))

none_up_to : (bs : List ℕ) (n : ℕ) → valid_len_up_to bs n ≡ 0 → (k : ℕ) → 0 < k → k ≤ n → is_utf8 (take k bs) ≡ false
none_up_to bs zero e k some h = absurd (omega arith)
none_up_to bs (suc n) e k some h = none_step bs n (is_utf8 (take (suc n) bs)) refl e (none_up_to bs n) k some h

pub no_char_at_start : (bytes : List ℕ) → utf8_valid_len (take 4 bytes) ≡ 0 → StartsWithNoChar bytes
unfolding utf8_valid_len
no_char_at_start bytes none c rest scalar e =
    let w : ℕ = length (encode_utf8 c) in
    let len : w ≡ len_utf8 c = length-encode c in
    let bounds = len_utf8_bounds c in
    let same : take w (take 4 bytes) ≡ encode_utf8 c = take-take w 4 bytes (omega (arith, bounds.1)) ∙ (ap (take w) e ∙ take_at (encode_utf8 c) rest w refl) in
    let yes : is_utf8 (take w (take 4 bytes)) ≡ true = is_utf8-from_IsUtf8 _ (subst IsUtf8 (sym same) (IsUtf8-encode c scalar)) in
    let no : is_utf8 (take w (take 4 bytes)) ≡ false = none_up_to (take 4 bytes) (length (take 4 bytes)) none w (omega (arith, bounds.0)) (omega (arith, bounds.0, bounds.1, length-take 4 bytes, ap length e, length-append (encode_utf8 c) rest)) in
    let clash : true ≡ false = sym yes ∙ no in
    cc clash

-- what `&bytes[..bytes.len().min(4)]` is
pub four : (bytes : List ℕ) (m : ℕ) → m ≡ min (length bytes) 4 → take m bytes ≡ take 4 bytes
four bytes m e = ap (λ (k : ℕ). take k bytes) (let c : m ≡ min 4 (length bytes) = omega arith in c) ∙ take_min 4 bytes

pub no_char_in_empty : (bytes front : List ℕ) → front ≡ take 4 bytes → length front ≡ 0 → StartsWithNoChar bytes
no_char_in_empty bytes front short e = no_char_at_start bytes (ap utf8_valid_len (sym short) ∙ (let le = utf8_valid_len_le front in omega arith))

pub control_is_not_plain : (bytes after : List ℕ) (c : ℕ) → bytes ≡ encode_utf8 c ++ after → true ≡ is_control c → BeginsWithNoPlain bytes
control_is_not_plain bytes after c split control d rest scalar printable e =
    let same : d ≡ c = (encode_same d c rest after (sym e ∙ split)).0 in
    let clash : true ≡ false = sym printable ∙ (ap is_printable same ∙ ap not (sym control)) in
    cc clash

pub char_first : (X : Type 0) (bytes front valid more text after : List ℕ) (r : Option ℕ) → front ≡ take 4 bytes → front ≡ valid ++ more → length valid ≡ utf8_valid_len front → text ≡ valid → MatchOption r ((length text ≡ 0) × X) (λ c. text ≡ encode_utf8 c ++ after) → MatchOption r (StartsWithNoChar bytes) (λ c. (rest : List ℕ) × (bytes ≡ encode_utf8 c ++ rest))
char_first X bytes front valid more text after None short split len same m = no_char_at_start bytes (ap utf8_valid_len (sym short) ∙ (sym len ∙ (ap length (sym same) ∙ m.0)))
char_first X bytes front valid more text after (Some c) short split len same m = (
  after ++ more ++ drop 4 bytes,
  sym (take-append-drop 4 bytes)
      ∙ (ap (λ (u : List ℕ). u ++ drop 4 bytes) (sym short ∙ split)
      ∙ (ap (λ (u : List ℕ). (u ++ more) ++ drop 4 bytes) (sym same ∙ m)
      ∙ (ap (λ (u : List ℕ). u ++ drop 4 bytes) (append_assoc (encode_utf8 c) after more)
      ∙ append_assoc (encode_utf8 c) (after ++ more) (drop 4 bytes)))),
)
