-- A fault at the front is one fault, and no token stands there then.
use Rattle.std.proofs.Common.{◌≡◌, ◌⊎◌, ℕ, ◌+◌, ◌<◌, ◌≤◌, Bool, true, false, List, [], ◌∷◌, length, take, drop, get_or, refl, sym, ◌∙◌, ap, subst, arith, inl, inr, ⊎_elim}
use Rattle.std.proofs.lemmas.List.{length-take-le}
use Rattle.std.specs.Prelude.{◌==◌, if◌then◌else◌, slice_index}
use Rattle.std.specs.List.{prefix_len}
use Rattle.std.specs.Str.{encode_utf8_all}
use Rattle.std.specs.Str.Parse.{signed_digits_value}
use mir.Syntax.{w64}
use mir.Val.{SFits as FitsSigned}
use Rattle.base_core.specs.Words.{is_word_byte}
use Rattle.lexer_core.specs.declared.fault.Code.{Code}
use Rattle.lexer_core.specs.declared.fault.Code.TheVariants.{BadByte, TooLong, OpenText, LongName, BadNumber}
use Rattle.lexer_core.specs.Text.{BeginsText, written_all}
use Rattle.lexer_core.specs.Lexing.{Lexeme, Key, Named, Number, Text, Sign, BeginsLexeme, Fails, IsTooGreat, is_blank, number_len, long_name, joined_number, great_number, bad_text, open_text, long_text, stray}
use Rattle.lexer_core.proofs.Class.{Class, Stray, Word, Numeral, Quotation, Punctuation, front_class, class_of, letter_class, number_class, quote_class, stray_class, blank_class, begins_class, number_is}
use Rattle.lexer_core.proofs.FirstToken.{word_len, text_here, text_stops}
use Rattle.lexer_core.proofs.OneText.{IsStuck, stuck_end, stuck_quote, stuck_bad, one_text}
use Rattle.lexer_core.proofs.Shortness.{keyword_short, name_short}
use Rattle.lexer_core.proofs.Texts.{not_quote}

-- the fault of a text whose reading stops after chars, in front of rest
abbrev text_code : List ℕ → Code
text_code [] = OpenText
text_code (b ∷ rest) = if b == 39 then TooLong else BadByte

abbrev text_offset : List ℕ → List ℕ → ℕ
text_offset chars [] = 0
text_offset chars (b ∷ rest) = if b == 39 then 0 else 1 + length (written_all chars)

record IsTextFault (bytes : List ℕ) (c : Code) (by : ℕ) : Type 0 where
  pub chars : List ℕ
  pub rest : List ℕ
  pub begins : BeginsText bytes chars rest
  pub stuck : IsStuck rest
  pub code : c ≡ text_code rest
  pub offset : by ≡ text_offset chars rest
  pub long : (more : List ℕ) → rest ≡ 39 ∷ more → 1024 < length (encode_utf8_all chars)

-- what a fault is, by the class of the front
abbrev FaultAt : Class → List ℕ → Code → ℕ → Type 0
FaultAt Stray bytes c by = (c ≡ BadByte) × (by ≡ 0) × (is_blank (slice_index bytes 0) ≡ false) × (0 < length bytes)
FaultAt Word bytes c by = (c ≡ LongName) × (by ≡ 0) × (30 < prefix_len is_word_byte bytes)
FaultAt Numeral bytes c by = (c ≡ BadNumber) × (by ≡ 0) × ((is_word_byte (slice_index bytes (number_len bytes)) ≡ true) ⊎ IsTooGreat (take (number_len bytes) bytes))
FaultAt Quotation bytes c by = IsTextFault bytes c by
FaultAt Punctuation bytes c by = ⊥

bad_rest : (chars rest : List ℕ) → 0 < length rest → (slice_index rest 0 ≡ 39 → ⊥) → (BadByte ≡ text_code rest) × (1 + length (written_all chars) ≡ text_offset chars rest)
bad_rest chars [] some other = absurd (omega arith)
bad_rest chars (b ∷ rest) some other =
    let e = not_quote b other in
    (ap (λ (x : Bool). if x then TooLong else BadByte) (sym e), ap (λ (x : Bool). if x then 0 else 1 + length (written_all chars)) (sym e))

quote_first : (bytes chars rest : List ℕ) → BeginsText bytes chars rest → front_class bytes ≡ Quotation
quote_first bytes chars rest b = quote_class bytes (ap (λ (r : List ℕ). get_or r 0 0) b.split)

text_fault : (bytes chars rest : List ℕ) (c : Code) (by : ℕ) → BeginsText bytes chars rest → IsTextFault bytes c by → FaultAt (front_class bytes) bytes c by
text_fault bytes chars rest c by b f = subst (λ (k : Class). FaultAt k bytes c by) (sym (quote_first bytes chars rest b)) f

explained : (bytes : List ℕ) (c : Code) (by : ℕ) → Fails bytes c by → FaultAt (front_class bytes) bytes c by
explained _ _ _ (long_name {bytes} letter long) = subst (λ (k : Class). FaultAt k bytes LongName 0) (sym (letter_class bytes letter)) (refl, refl, long)
explained _ _ _ (joined_number {bytes} starts joined) = subst (λ (k : Class). FaultAt k bytes BadNumber 0) (sym (number_class bytes starts)) (refl, refl, inl joined)
explained _ _ _ (great_number {bytes} starts great) = subst (λ (k : Class). FaultAt k bytes BadNumber 0) (sym (number_class bytes starts)) (refl, refl, inr great)
explained _ _ _ (bad_text {bytes} {cs} {rest} begins some other none) =
    let e = bad_rest cs rest some other in
    text_fault bytes cs rest BadByte (1 + length (written_all cs)) begins record {
      chars = cs;
      rest = rest;
      begins = begins;
      stuck = stuck_bad rest other none;
      code = e.0;
      offset = e.1;
      long = λ more is. absurd (other (ap (λ (r : List ℕ). get_or r 0 0) is));
    }
explained _ _ _ (open_text {bytes} {cs} begins) = text_fault bytes cs [] OpenText 0 begins record {
  chars = cs;
  rest = [];
  begins = begins;
  stuck = stuck_end;
  code = refl;
  offset = refl;
  long = λ more is. cc is;
}
explained _ _ _ (long_text {bytes} {cs} {rest} begins alone long) = text_fault bytes cs (39 ∷ rest) TooLong 0 begins record {
  chars = cs;
  rest = 39 ∷ rest;
  begins = begins;
  stuck = stuck_quote rest alone;
  code = refl;
  offset = refl;
  long = λ more is. long;
}
explained _ _ _ (stray {bytes} begins blank some) = subst (λ (k : Class). FaultAt k bytes BadByte 0) (sym (stray_class bytes begins)) (refl, refl, blank, some)

module _ (bytes : List ℕ) where
  one_at : (k : Class) (c d : Code) (m n : ℕ) → FaultAt k bytes c m → FaultAt k bytes d n → (c ≡ d) × (m ≡ n)
  one_at Stray c d m n a b = (a.0 ∙ sym b.0, a.1 ∙ sym b.1)
  one_at Word c d m n a b = (a.0 ∙ sym b.0, a.1 ∙ sym b.1)
  one_at Numeral c d m n a b = (a.0 ∙ sym b.0, a.1 ∙ sym b.1)
  one_at Quotation c d m n a b =
      let e = one_text bytes a.chars b.chars a.rest b.rest a.begins b.begins a.stuck b.stuck in (
        a.code ∙ (ap text_code e.1 ∙ sym b.code),
        a.offset ∙ (ap (λ (cs : List ℕ). text_offset cs a.rest) e.0 ∙ (ap (text_offset b.chars) e.1 ∙ sym b.offset)),
      )
  one_at Punctuation c d m n a b = absurd a

  -- one fault stands first
  pub one_fault : (c d : Code) (m n : ℕ) → Fails bytes c m → Fails bytes d n → (c ≡ d) × (m ≡ n)
  one_fault c d m n a b = one_at (front_class bytes) c d m n (explained bytes c m a) (explained bytes d n b)

  -- and no blank
  pub no_blank : (c : Code) (by : ℕ) → Fails bytes c by → is_blank (slice_index bytes 0) ≡ true → ⊥
  no_blank c by f e =
      let here : FaultAt Stray bytes c by = subst (λ (k : Class). FaultAt k bytes c by) (blank_class bytes e) (explained bytes c by f) in
      let clash : true ≡ false = sym e ∙ here.2 in
      cc clash

record IsGoodText (bytes : List ℕ) : Type 0 where
  pub chars : List ℕ
  pub rest : List ℕ
  pub begins : BeginsText bytes chars (39 ∷ rest)
  pub stuck : IsStuck (39 ∷ rest)
  pub short : length (encode_utf8_all chars) ≤ 1024

-- what a token keeps, by the class of the front
abbrev TokenAt : Class → List ℕ → Type 0
TokenAt Stray bytes = ⊥
TokenAt Word bytes = prefix_len is_word_byte bytes ≤ 30
TokenAt Numeral bytes = (is_word_byte (slice_index bytes (number_len bytes)) ≡ false) × FitsSigned w64 (signed_digits_value 10 (take (number_len bytes) bytes))
TokenAt Quotation bytes = IsGoodText bytes
TokenAt Punctuation bytes = Unit {0}

module _ (bytes : List ℕ) (n : ℕ) where
  token_here : (l : Lexeme) → BeginsLexeme bytes l n → TokenAt (class_of l) bytes
  token_here (Key k) b =
      let len = word_len bytes n b.within b.spelled.0 b.ends in
      omega (arith, len, keyword_short (take n bytes) k b.spelled.1, length-take-le n bytes b.within)
  token_here (Named w) b =
      let len = word_len bytes n b.within b.spelled.0 b.ends in
      omega (arith, len, name_short (take n bytes) w b.spelled.1, length-take-le n bytes b.within)
  token_here (Number z) b =
      let len = number_is bytes z n b in (
        subst (λ (k : ℕ). is_word_byte (get_or bytes k 0) ≡ false) len b.ends,
        subst (λ (k : ℕ). FitsSigned w64 (signed_digits_value 10 (take k bytes))) len (subst (FitsSigned w64) b.spelled.value b.spelled.fits),
      )
  token_here (Text t) b = record {
    chars = b.spelled.chars;
    rest = drop n bytes;
    begins = text_here bytes t n b;
    stuck = text_stops bytes t n b;
    short = subst (λ (u : List ℕ). length u ≤ 1024) b.spelled.value b.spelled.short;
  }
  token_here (Sign m) b = tt

  not_both : (k : Class) (c : Code) (by : ℕ) → FaultAt k bytes c by → TokenAt k bytes → ⊥
  not_both Stray c by f t = t
  not_both Word c by f t = omega (arith, f.2, t)
  not_both Numeral c by f t = ⊎_elim (λ joined. let clash : true ≡ false = sym joined ∙ t.0 in cc clash) (λ great. great t.1) f.2
  not_both Quotation c by f t =
      let e = one_text bytes f.chars t.chars f.rest (39 ∷ t.rest) f.begins t.begins f.stuck t.stuck in
      omega (arith, f.long t.rest e.1, t.short, ap (λ (cs : List ℕ). length (encode_utf8_all cs)) e.0)
  not_both Punctuation c by f t = f

  -- and no token
  pub no_token : (c : Code) (by : ℕ) (l : Lexeme) → Fails bytes c by → BeginsLexeme bytes l n → ⊥
  no_token c by l f b =
      not_both (class_of l) c by (subst (λ (k : Class). FaultAt k bytes c by) (begins_class bytes l n b) (explained bytes c by f)) (token_here l b)

-- where nothing stands, there is no fault
pub none_at_end : (c : Code) (by : ℕ) → Fails [] c by → ⊥
none_at_end c by f = let here : FaultAt Stray [] c by = explained [] c by f in omega (arith, here.3)
