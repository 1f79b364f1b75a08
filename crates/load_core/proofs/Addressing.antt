-- A line that begins with a user's name and a colon is that user's.
use Rattle.std.proofs.Common.{◌≡◌, ℕ, ◌+◌, ◌<◌, ◌≤◌, Bool, true, false, ◌&&◌, cond, Option, Some, Ok, Err, List, [], ◌∷◌, ◌++◌, length, take, drop, refl, ap, ◌∙◌, arith}
use Rattle.std.specs.Prelude.{◌==◌, if◌then◌else◌, not, nat_le, nat_lt, nat_eq, slice_index}
use Rattle.std.specs.List.{list_all, prefix_len, starts_with}
use Rattle.std.specs.Char.{is_ascii_alphabetic}
use Rattle.std.proofs.lemmas.Bool.{and_parts, and_left}
use Rattle.std.proofs.lemmas.Bool.Decides.{nat_tests}
use Rattle.std.proofs.lemmas.List.{get_or_append_left}
use Rattle.std.proofs.Math.Seq.{take-append_seam, get_or-append_seam}
use Rattle.base_core.specs.Words.{is_word, is_word_byte, name_of, IsName}
use Rattle.base_core.specs.declared.name.Name.{Name}
use Rattle.base_core.specs.declared.word.TheConstants.{MAX_NAME}
use Rattle.lexer_core.specs.Lexing.{is_blank}
use Rattle.lexer_core.specs.declared.fault.Code.TheVariants as codes
use Rattle.lexer_core.proofs.Shortness.{name_short}
use Rattle.printer_core.proofs.Names.{name_word}
use Rattle.printer_core.proofs.Spelling.{name_spells}
use Rattle.script_core.specs.Addressed.{Address, colon, spoken_by, addressed_by, addressed_up_to}
use Rattle.lines_core.specs.declared.line.TheConstants.{LONGEST_LINE}
use Rattle.load_core.specs.Loading.{byte_order_mark, unmarked}

-- ---- a letter
letter_no_blank : (b : ℕ) → is_ascii_alphabetic b ≡ true → is_blank b ≡ false
letter_no_blank b e = grind (arith, nat_tests)

letter_no_mark : (b : ℕ) → is_ascii_alphabetic b ≡ true → nat_eq 0xEF b ≡ false
letter_no_mark b e = grind (arith, nat_tests)

no_blanks : (bytes rest : List ℕ) → 0 < length bytes → is_ascii_alphabetic (slice_index bytes 0) ≡ true → list_all is_blank (bytes ++ rest) ≡ false
no_blanks [] rest some e = absurd (omega arith)
no_blanks (b ∷ bs) rest some e = ap (λ (t : Bool). t && list_all is_blank (bs ++ rest)) (letter_no_blank b e)

starts_with_none : (b : ℕ) (bs : List ℕ) → is_ascii_alphabetic b ≡ true → starts_with nat_eq (b ∷ bs) byte_order_mark ≡ false
starts_with_none b bs e = and_left (nat_eq 0xEF b) _ (letter_no_mark b e)

no_mark : (bytes rest : List ℕ) → 0 < length bytes → is_ascii_alphabetic (slice_index bytes 0) ≡ true → unmarked (bytes ++ rest) ≡ bytes ++ rest
no_mark [] rest some e = absurd (omega arith)
no_mark (b ∷ bs) rest some e =
    let line = b ∷ (bs ++ rest) in
    ap (λ (t : Bool). if nat_le (length line) LONGEST_LINE && t then drop 3 line else line) (starts_with_none b (bs ++ rest) e) ∙ whole line (nat_le (length line) LONGEST_LINE)
  where
    whole : (line : List ℕ) (short : Bool) → (if short && false then drop 3 line else line) ≡ line
    whole line true = refl
    whole line false = refl

-- ---- a word and a colon
word_len_is : (user rest : List ℕ) → list_all is_word_byte user ≡ true → prefix_len is_word_byte (user ++ 58 ∷ rest) ≡ length user
word_len_is [] rest e = refl
word_len_is (b ∷ bs) rest e =
    let p = and_parts (is_word_byte b) (list_all is_word_byte bs) e in
    let more : prefix_len is_word_byte (bs ++ 58 ∷ rest) ≡ length bs = word_len_is bs rest p.1 in
    ap (λ (t : Bool). cond t (1 + prefix_len is_word_byte (bs ++ 58 ∷ rest)) 0) p.0 ∙ omega (arith, more)

module _ (user rest : List ℕ) (name : IsName user) where
  abbrev line : List ℕ
  line = user ++ 58 ∷ rest

  word : is_word user ≡ true
  word = name_word user name

  parts : (is_ascii_alphabetic (slice_index user 0) ≡ true) × (list_all is_word_byte user ≡ true)
  parts = and_parts (is_ascii_alphabetic (slice_index user 0)) (list_all is_word_byte user) word

  some_at : (bytes : List ℕ) → is_ascii_alphabetic (slice_index bytes 0) ≡ true → 0 < length bytes
  some_at [] e = cc
  some_at (b ∷ bs) e = omega arith

  some : 0 < length user
  some = some_at user parts.0

  pub few : length user ≤ 30
  few = name_short user user (name_spells user name).1

  abbrev by_tests : Bool → Bool → Bool → Option Name → Address
  by_tests letter long ends named =
      if not letter then Err (codes.Expected, 0)
      else if long then Err (codes.LongName, 0)
      else if ends then spoken_by named (length user)
      else Err (codes.Expected, 0)

  by_word : addressed_by (length user) line ≡ Ok (record { 0 = user }, length user + 1)
  by_word =
      let is_letter = is_ascii_alphabetic (slice_index line 0) in
      let is_long = nat_lt MAX_NAME (length user) in
      let is_end = slice_index line (length user) == colon in
      let named = name_of (take (length user) line) in
      let letter : is_letter ≡ true = ap is_ascii_alphabetic (get_or_append_left user (58 ∷ rest) 0 0 some) ∙ parts.0 in
      let n = few in
      let short : is_long ≡ false = grind (arith, nat_tests) in
      let ends : is_end ≡ true = ap (λ (b : ℕ). b == colon) (get_or-append_seam user 58 rest 0) in
      let is : named ≡ Some user = ap name_of (take-append_seam user (58 ∷ rest)) ∙ (name_spells user name).1 in
      ap (λ (t : Bool). by_tests t is_long is_end named) letter
      ∙ ap (λ (t : Bool). by_tests true t is_end named) short
      ∙ ap (λ (t : Bool). by_tests true false t named) ends
      ∙ ap (by_tests true false true) is

  pub addressed_is : (most : ℕ) → length line ≤ most → addressed_up_to most line ≡ Ok (record { 0 = user }, length user + 1)
  addressed_is most h =
      let by : Bool → Bool → Address = λ (long blank : Bool). if long then Err (codes.TooLong, most) else if blank then Err (codes.Empty, 0) else addressed_by (prefix_len is_word_byte line) line in
      let short : nat_lt most (length line) ≡ false = grind (arith, nat_tests) in
      ap (λ (t : Bool). by t (list_all is_blank line)) short
      ∙ ap (by false) (no_blanks user (58 ∷ rest) some parts.0)
      ∙ ap (λ (n : ℕ). addressed_by n line) (word_len_is user rest parts.1)
      ∙ by_word

  pub unmarked_is : unmarked line ≡ line
  unmarked_is = no_mark user (58 ∷ rest) some parts.0
