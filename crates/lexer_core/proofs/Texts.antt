-- How far a text is read.
use mathlib.Core.Logic.{⊎_elim}
use Rattle.std.proofs.lemmas.Bool.{cases_lt, and_parts, and_from}
use Rattle.std.proofs.Common.{◌≡◌, ℕ, ◌+◌, ◌-◌, ◌<◌, ◌≤◌, Bool, true, false, List, [], ◌∷◌, ◌++◌, length, take, drop, get_or, refl, sym, ◌∙◌, ap, subst, arith, append_assoc, length-append, length-drop}
use Rattle.std.proofs.lemmas.List.{append-nil, drop_more, drop_all, take_at, take_rest, take-append-drop, drop-drop, drop_at, get_or-drop, get_or_past, length-take-le}
use Rattle.std.proofs.lemmas.List.Concat.{flat_map-append}
use Rattle.std.proofs.lemmas.List.Sums.{prefix_len-le-length}
use Rattle.std.proofs.lemmas.Str.{encodes-append, encode_ascii, length-encode, len_utf8_bounds}
use Rattle.std.proofs.lemmas.Bool.Decides.{nat_tests}
use Rattle.std.specs.List.{list_all, prefix_len}
use Rattle.std.specs.Prelude.{slice_index, ◌==◌, if◌then◌else◌}
use Rattle.std.specs.Char.{encode_utf8, IsScalar}
use Rattle.std.specs.Str.{encode_utf8_all, all_scalars}
use Rattle.lexer_core.specs.declared.fault.Code.TheVariants as codes_of
use Rattle.lexer_core.specs.declared.token.TokenKind.TheVariants as kinds
use Rattle.base_core.specs.Texts.{is_printable, ArePlain}
use Rattle.lexer_core.specs.Text.{is_plain_byte, written, written_all, BeginsText, BeginsWithPlain, BeginsWithNoPlain}
use Rattle.lexer_core.specs.Lexing.{BeginsKind, Fails, bad_text, open_text, long_text, Text as TextOf}
use Rattle.lexer_core.proofs.Words.{all_front}

pub record InText (bytes : List ℕ) (at size : ℕ) : Type 0 where
  pub chars : List ℕ
  pub text : BeginsText bytes chars (drop at bytes)
  pub place : at ≡ 1 + length (written_all chars)
  pub within : at ≤ length bytes
  pub size_is : size ≡ length (encode_utf8_all chars)
  pub few : size ≤ at

more_printable : (cs ds : List ℕ) → list_all is_printable cs ≡ true → list_all is_printable ds ≡ true → list_all is_printable (cs ++ ds) ≡ true
more_printable [] ds e f = f
more_printable (d ∷ cs) ds e f = and_from (is_printable d) _ (and_parts (is_printable d) (list_all is_printable cs) e).0 (more_printable cs ds (and_parts (is_printable d) (list_all is_printable cs) e).1 f)

more_scalars : (cs ds : List ℕ) → all_scalars cs ≡ true → all_scalars ds ≡ true → all_scalars (cs ++ ds) ≡ true
more_scalars [] ds e f = f
more_scalars (d ∷ cs) ds e f = and_from _ _ (and_parts _ (all_scalars cs) e).0 (more_scalars cs ds (and_parts _ (all_scalars cs) e).1 f)

written_more : (cs ds : List ℕ) → written_all (cs ++ ds) ≡ written_all cs ++ written_all ds
written_more cs ds = flat_map-append written cs ds

encodes_more : (cs ds : List ℕ) → length (encode_utf8_all (cs ++ ds)) ≡ length (encode_utf8_all cs) + length (encode_utf8_all ds)
encodes_more cs ds = ap length (encodes-append cs ds) ∙ length-append (encode_utf8_all cs) (encode_utf8_all ds)

opened_at : (bytes : List ℕ) → get_or bytes 0 0 ≡ 39 → InText bytes 1 0
opened_at [] h = absurd (omega (arith, h))
opened_at (x ∷ xs) h = record {
  chars = [];
  text = record { plain = record { scalars = refl; printable = refl }; split = ap (λ (y : ℕ). y ∷ xs) h };
  place = refl;
  within = omega arith;
  size_is = refl;
  few = omega arith;
}

pub not_quote : (c : ℕ) → (c ≡ 39 → ⊥) → (c == 39) ≡ false
not_quote c h = grind (arith, nat_tests)

pub written_other : (c : ℕ) → (c ≡ 39 → ⊥) → written c ≡ encode_utf8 c
written_other c h = ap (λ (b : Bool). if b then 39 ∷ 39 ∷ [] else encode_utf8 c) (not_quote c h)

pub quote_encoded : encode_utf8 39 ≡ 39 ∷ []
quote_encoded = encode_ascii 39 (omega arith)

-- bytes that a text writes as they are
record AreAsTheyAre (bs : List ℕ) : Type 0 where
  pub plain : ArePlain bs
  pub written : written_all bs ≡ bs
  pub encoded : encode_utf8_all bs ≡ bs

plain_other : (b : ℕ) → is_plain_byte b ≡ true → b ≡ 39 → ⊥
plain_other b h e = grind (arith, nat_tests)

as_they_are : (bs : List ℕ) → list_all is_plain_byte bs ≡ true → AreAsTheyAre bs
as_they_are [] h = record { plain = record { scalars = refl; printable = refl }; written = refl; encoded = refl }
as_they_are (b ∷ bs) h =
    let parts = and_parts (is_plain_byte b) (list_all is_plain_byte bs) h in
    let here : is_plain_byte b ≡ true = parts.0 in
    let rest = as_they_are bs parts.1 in
    let scalar : IsScalar b = grind (arith, nat_tests, here) in
    let printable : is_printable b ≡ true = grind (arith, nat_tests, here) in
    let one : encode_utf8 b ≡ b ∷ [] = encode_ascii b (grind (arith, nat_tests, here)) in
    record {
      plain = record {
        scalars = and_from _ (all_scalars bs) scalar rest.plain.scalars;
        printable = and_from (is_printable b) (list_all is_printable bs) printable rest.plain.printable;
      };
      written = ap (λ (r : List ℕ). r ++ written_all bs) (written_other b (plain_other b here) ∙ one) ∙ ap (λ (r : List ℕ). b ∷ r) rest.written;
      encoded = ap (λ (r : List ℕ). r ++ encode_utf8_all bs) one ∙ ap (λ (r : List ℕ). b ∷ r) rest.encoded;
    }

module _ (bytes : List ℕ) where
  pub opened : slice_index bytes 0 ≡ 39 → InText bytes 1 0
  opened h = opened_at bytes h

  module _ (at size : ℕ) (t : InText bytes at size) where
    -- more characters
    more_chars : (cs : List ℕ) (k s : ℕ) → ArePlain cs → drop at bytes ≡ written_all cs ++ drop (at + k) bytes → k ≡ length (written_all cs) → s ≡ length (encode_utf8_all cs) → s ≤ k → at + k ≤ length bytes → InText bytes (at + k) (size + s)
    more_chars cs k s plain split len chars_len le within = record {
      chars = t.chars ++ cs;
      text = record {
        plain = record { scalars = more_scalars t.chars cs t.text.plain.scalars plain.scalars; printable = more_printable t.chars cs t.text.plain.printable plain.printable };
        split = t.text.split ∙ ap (λ (r : List ℕ). 39 ∷ r)
            (ap (λ (r : List ℕ). written_all t.chars ++ r) split
            ∙ (sym (append_assoc (written_all t.chars) (written_all cs) (drop (at + k) bytes))
            ∙ ap (λ (r : List ℕ). r ++ drop (at + k) bytes) (sym (written_more t.chars cs))));
      };
      place = omega (arith, t.place, ap length (written_more t.chars cs), length-append (written_all t.chars) (written_all cs));
      within = within;
      size_is = omega (arith, t.size_is, encodes_more t.chars cs);
      few = omega (arith, t.few);
    }

    -- one more
    pub one_char : (c k s : ℕ) → IsScalar c → is_printable c ≡ true → drop at bytes ≡ written c ++ drop (at + k) bytes → k ≡ length (written c) → s ≡ length (encode_utf8 c) → s ≤ k → at + k ≤ length bytes → InText bytes (at + k) (size + s)
    one_char c k s scalar printable split len chars_len le within =
        let written_once : written_all (c ∷ []) ≡ written c = append-nil (written c) in
        let encoded_once : encode_utf8_all (c ∷ []) ≡ encode_utf8 c = append-nil (encode_utf8 c) in
        more_chars (c ∷ []) k s record { scalars = and_from _ true scalar refl; printable = and_from (is_printable c) true printable refl }
        (split ∙ ap (λ (r : List ℕ). r ++ drop (at + k) bytes) (sym written_once))
        (len ∙ ap length (sym written_once)) (chars_len ∙ ap length (sym encoded_once)) le within

    -- a run of bytes that stand as they are
    pub one_run : (k : ℕ) → k ≡ prefix_len is_plain_byte (take (length bytes - at) (drop at bytes)) → InText bytes (at + k) (size + k)
    one_run k is =
        let same : k ≡ prefix_len is_plain_byte (drop at bytes) = is ∙ ap (prefix_len is_plain_byte) (take_rest bytes at) in
        let short : k ≤ length (drop at bytes) = omega (arith, prefix_len-le-length is_plain_byte (drop at bytes)) in
        let len : length (take k (drop at bytes)) ≡ k = length-take-le k (drop at bytes) short in
        let front : list_all is_plain_byte (take k (drop at bytes)) ≡ true = subst (λ (n : ℕ). list_all is_plain_byte (take n (drop at bytes)) ≡ true) (sym same) (all_front is_plain_byte (drop at bytes)) in
        let are = as_they_are (take k (drop at bytes)) front in
        more_chars (take k (drop at bytes)) k k are.plain
        (sym (take-append-drop k (drop at bytes))
        ∙ (ap (λ (r : List ℕ). r ++ drop k (drop at bytes)) (sym are.written)
        ∙ ap (λ (r : List ℕ). written_all (take k (drop at bytes)) ++ r) (drop-drop k at bytes)))
        (sym len ∙ ap length (sym are.written)) (sym len ∙ ap length (sym are.encoded)) (omega arith)
        (omega (arith, length-drop at bytes, t.within))

    -- a quote, written twice
    pub one_quote : at + 1 < length bytes → get_or bytes at 0 ≡ 39 → get_or bytes (at + 1) 0 ≡ 39 → InText bytes (at + 2) (size + 1)
    one_quote h first second =
        let a : drop at bytes ≡ get_or bytes at 0 ∷ drop (at + 1) bytes = drop_more bytes at 0 (omega arith) in
        let b : drop (at + 1) bytes ≡ get_or bytes (at + 1) 0 ∷ drop (at + 1 + 1) bytes = drop_more bytes (at + 1) 0 (omega arith) in
        let e : at + 1 + 1 ≡ at + 2 = omega arith in
        one_char 39 2 1 refl refl
        (a ∙ (ap (λ (x : ℕ). x ∷ drop (at + 1) bytes) first ∙ ap (λ (r : List ℕ). 39 ∷ r) (b ∙ (ap (λ (x : ℕ). x ∷ drop (at + 1 + 1) bytes) second ∙ ap (λ (n : ℕ). 39 ∷ drop n bytes) e))))
        refl (ap length (sym quote_encoded)) (omega arith) (omega arith)

    -- another character
    pub one_plain : (k : ℕ) → BeginsWithPlain (take (length bytes - at) (drop at bytes)) k → at < length bytes → (get_or bytes at 0 ≡ 39 → ⊥) → InText bytes (at + k) (size + k)
    one_plain k p h other =
        let split : drop at bytes ≡ encode_utf8 p.char ++ p.rest = sym (take_rest bytes at) ∙ p.split in
        let here : drop at bytes ≡ get_or bytes at 0 ∷ drop (at + 1) bytes = drop_more bytes at 0 h in
        let differs : p.char ≡ 39 → ⊥ = λ e. other (ap (λ (r : List ℕ). get_or r 0 0) (sym here ∙ (split ∙ (ap (λ (c : ℕ). encode_utf8 c ++ p.rest) e ∙ ap (λ (r : List ℕ). r ++ p.rest) quote_encoded)))) in
        let w : written p.char ≡ encode_utf8 p.char = written_other p.char differs in
        let tail : drop (at + k) bytes ≡ p.rest = sym (drop-drop k at bytes) ∙ (ap (drop k) split ∙ drop_at (encode_utf8 p.char) p.rest k (sym p.len)) in
        one_char p.char k k p.scalar p.printable
        (split ∙ (ap (λ (r : List ℕ). r ++ p.rest) (sym w) ∙ ap (λ (r : List ℕ). written p.char ++ r) (sym tail)))
        (p.len ∙ ap length (sym w)) p.len (omega arith)
        (omega (arith, ap length split, length-drop at bytes, length-append (encode_utf8 p.char) p.rest, p.len))

    -- no character that may stand there
    pub one_bad : BeginsWithNoPlain (take (length bytes - at) (drop at bytes)) → at < length bytes → (get_or bytes at 0 ≡ 39 → ⊥) → Fails bytes codes_of.BadByte at
    one_bad none h other =
        let here : drop at bytes ≡ get_or bytes at 0 ∷ drop (at + 1) bytes = drop_more bytes at 0 h in
        subst (λ (n : ℕ). Fails bytes codes_of.BadByte n) (sym t.place)
        (bad_text t.text (omega (arith, length-drop at bytes)) (λ e. other (sym (ap (λ (r : List ℕ). get_or r 0 0) here) ∙ e)) (subst BeginsWithNoPlain (take_rest bytes at) none))

    -- no closing quote
    pub no_end : length bytes ≤ at → Fails bytes codes_of.OpenText 0
    no_end h = open_text (subst (λ (r : List ℕ). BeginsText bytes t.chars r) (drop_all at bytes h) t.text)

    module _ (h : at < length bytes) (close : get_or bytes at 0 ≡ 39) (alone : get_or bytes (at + 1) 0 ≡ 39 → ⊥) where
      closed : drop at bytes ≡ 39 ∷ drop (at + 1) bytes
      closed = drop_more bytes at 0 h ∙ ap (λ (x : ℕ). x ∷ drop (at + 1) bytes) close

      first_after : get_or (drop (at + 1) bytes) 0 0 ≡ get_or bytes (at + 1) 0
      first_after = get_or-drop (at + 1) bytes 0 0 ∙ ap (λ (n : ℕ). get_or bytes n 0) (let e : at + 1 + 0 ≡ at + 1 = omega arith in e)

      pub too_long : 1024 < size → Fails bytes codes_of.TooLong 0
      too_long long = long_text (subst (λ (r : List ℕ). BeginsText bytes t.chars r) closed t.text) (λ e. alone (sym first_after ∙ e)) (omega (arith, t.size_is))

      whole : bytes ≡ (39 ∷ (written_all t.chars ++ 39 ∷ [])) ++ drop (at + 1) bytes
      whole = t.text.split ∙ ap (λ (r : List ℕ). 39 ∷ r) (ap (λ (r : List ℕ). written_all t.chars ++ r) closed ∙ sym (append_assoc (written_all t.chars) (39 ∷ []) (drop (at + 1) bytes)))

      piece_len : length (39 ∷ (written_all t.chars ++ 39 ∷ [])) ≡ at + 1
      piece_len = omega (arith, t.place, length-append (written_all t.chars) (39 ∷ []))

      piece : take (at + 1) bytes ≡ 39 ∷ (written_all t.chars ++ 39 ∷ [])
      piece = ap (take (at + 1)) whole ∙ take_at (39 ∷ (written_all t.chars ++ 39 ∷ [])) (drop (at + 1) bytes) (at + 1) piece_len

      pub whole_text : size ≤ 1024 → BeginsKind bytes kinds.Text (at + 1)
      whole_text short = record {
        lexeme = TextOf (encode_utf8_all t.chars);
        same = refl;
        begins = record {
          some = omega arith;
          within = omega arith;
          spelled = record { chars = t.chars; quoted = record { plain = t.text.plain; split = piece }; value = refl; short = omega (arith, t.size_is) };
          ends = not_quote (get_or bytes (at + 1) 0) alone;
        };
      }

pub quote_within : (bytes : List ℕ) (n : ℕ) → get_or bytes n 0 ≡ 39 → n < length bytes
quote_within bytes n e = ⊎_elim (λ l. l) (λ l. let z = get_or_past bytes n 0 l in absurd (omega arith)) (cases_lt n (length bytes))

pub plain_some : (bytes : List ℕ) (k : ℕ) → BeginsWithPlain bytes k → 0 < k
plain_some bytes k p = omega (arith, p.len, length-encode p.char, (len_utf8_bounds p.char).0)
