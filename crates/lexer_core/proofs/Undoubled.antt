-- A quoted text says one text: its inside, with each doubled quote once.
use Rattle.std.proofs.Common.{◌≡◌, ℕ, ◌+◌, ◌-◌, ◌/◌, ◌%◌, ◌≤◌, Bool, true, false, cond, List, [], ◌∷◌, ◌++◌, length, take, drop, refl, sym, ◌∙◌, ap, subst, arith, ltb, length-append}
use Rattle.std.proofs.lemmas.Bool.{or_parts}
use Rattle.std.proofs.lemmas.List.{take_at}
use Rattle.std.proofs.lemmas.Bool.Decides.{nat_tests}
use Rattle.std.specs.Prelude.{◌==◌, if◌then◌else◌}
use Rattle.std.specs.Char.{encode_utf8}
use Rattle.std.specs.List.{list_any}
use Rattle.std.specs.Str.{encode_utf8_all}
use Rattle.base_core.specs.Texts.{IsText}
use Rattle.lexer_core.specs.Text.{written_all}
use Rattle.lexer_core.specs.Lexing.{QuotesText, undoubled, unquoted}
use Rattle.lexer_core.proofs.Texts.{quote_encoded, not_quote}
use Rattle.lexer_core.proofs.Numbers.{equal}

above_ascii : (b : ℕ) → 128 ≤ b → (b == 39) ≡ false
above_ascii b h = grind (arith, nat_tests)

-- a byte that is no quote stays
stays : (b : ℕ) (r : List ℕ) → (b == 39) ≡ false → undoubled false (b ∷ r) ≡ b ∷ undoubled false r
unfolding undoubled
stays b r e = ap (λ (second : Bool). b ∷ undoubled second r) e

high_stays : (b : ℕ) (r s : List ℕ) → 128 ≤ b → undoubled false r ≡ s → undoubled false (b ∷ r) ≡ b ∷ s
high_stays b r s h e = stays b r (above_ascii b h) ∙ ap (λ (u : List ℕ). b ∷ u) e

module _ (c : ℕ) (r : List ℕ) where
  by_size : (s t u : Bool) → (c ≡ 39 → ⊥) → undoubled false (cond s (c ∷ []) (cond t ((192 + c / 64) ∷ (128 + c % 64) ∷ []) (cond u ((224 + c / 4096) ∷ (128 + (c / 64) % 64) ∷ (128 + c % 64) ∷ []) ((240 + c / 262144) ∷ (128 + (c / 4096) % 64) ∷ (128 + (c / 64) % 64) ∷ (128 + c % 64) ∷ []))) ++ r) ≡ cond s (c ∷ []) (cond t ((192 + c / 64) ∷ (128 + c % 64) ∷ []) (cond u ((224 + c / 4096) ∷ (128 + (c / 64) % 64) ∷ (128 + c % 64) ∷ []) ((240 + c / 262144) ∷ (128 + (c / 4096) % 64) ∷ (128 + (c / 64) % 64) ∷ (128 + c % 64) ∷ []))) ++ undoubled false r
  by_size true t u other = stays c r (not_quote c other)
  by_size false true u other = high_stays (192 + c / 64) _ _ (omega arith) (high_stays (128 + c % 64) r _ (omega arith) refl)
  by_size false false true other = high_stays (224 + c / 4096) _ _ (omega arith) (high_stays (128 + (c / 64) % 64) _ _ (omega arith) (high_stays (128 + c % 64) r _ (omega arith) refl))
  by_size false false false other = high_stays (240 + c / 262144) _ _ (omega arith) (high_stays (128 + (c / 4096) % 64) _ _ (omega arith) (high_stays (128 + (c / 64) % 64) _ _ (omega arith) (high_stays (128 + c % 64) r _ (omega arith) refl)))

other_stays : (c : ℕ) (r : List ℕ) → (c ≡ 39 → ⊥) → undoubled false (encode_utf8 c ++ r) ≡ encode_utf8 c ++ undoubled false r
unfolding encode_utf8
other_stays c r other = by_size c r (ltb c 128) (ltb c 2048) (ltb c 65536) other

quote_once : (r : List ℕ) → undoubled false (39 ∷ 39 ∷ r) ≡ 39 ∷ undoubled false r
unfolding undoubled
quote_once r = refl

written_once_by : (c : ℕ) (r : List ℕ) (b : Bool) → (c == 39) ≡ b → undoubled false ((if b then 39 ∷ 39 ∷ [] else encode_utf8 c) ++ r) ≡ encode_utf8 c ++ undoubled false r
written_once_by c r true e = quote_once r ∙ ap (λ (u : List ℕ). u ++ undoubled false r) (sym (ap encode_utf8 (equal c 39 e) ∙ quote_encoded))
written_once_by c r false e = other_stays c r (λ is. let clash : true ≡ false = ap (λ (x : ℕ). x == 39) (sym is) ∙ e in cc clash)

-- what is written of the characters says them
written_says : (cs : List ℕ) → undoubled false (written_all cs) ≡ encode_utf8_all cs
unfolding undoubled
written_says [] = refl
written_says (c ∷ cs) = written_once_by c (written_all cs) (c == 39) refl ∙ ap (λ (u : List ℕ). encode_utf8 c ++ u) (written_says cs)

inside : (w : List ℕ) → take (length (39 ∷ (w ++ 39 ∷ [])) - 2) (drop 1 (39 ∷ (w ++ 39 ∷ []))) ≡ w
inside w = take_at w (39 ∷ []) (length (39 ∷ (w ++ 39 ∷ [])) - 2) (omega (arith, length-append w (39 ∷ [])))

pub says_unquoted : (t quoted : List ℕ) → QuotesText t quoted → t ≡ unquoted quoted
unfolding unquoted
says_unquoted t quoted q =
    q.value
    ∙ (sym (written_says q.chars)
    ∙ (ap (undoubled false) (sym (inside (written_all q.chars)))
    ∙ ap (λ (bytes : List ℕ). undoubled false (take (length bytes - 2) (drop 1 bytes))) (sym q.quoted.split)))

pub quoted_text : (t quoted : List ℕ) → QuotesText t quoted → IsText t
quoted_text t quoted q = record { chars = q.chars; plain = q.quoted.plain; encoded = q.value; short = q.short }

-- bytes without a quote say themselves
no_quote_stays : (w : List ℕ) → list_any (λ b. b == 39) w ≡ false → undoubled false w ≡ w
unfolding undoubled
no_quote_stays [] e = refl
no_quote_stays (b ∷ w) e =
    let parts = or_parts (b == 39) (list_any (λ b. b == 39) w) e in
    stays b w parts.0 ∙ ap (λ (u : List ℕ). b ∷ u) (no_quote_stays w parts.1)

-- what stands between the quotes of a text
abbrev inside_of : List ℕ → List ℕ
inside_of quoted = take (length quoted - 1 - 1) (drop 1 quoted)

-- with no quote among it, it is the text
module _ (t quoted : List ℕ) (q : QuotesText t quoted) (none : list_any (λ b. b == 39) (inside_of quoted) ≡ false) where
  said : t ≡ inside_of quoted
  unfolding unquoted
  said =
      let same : length quoted - 2 ≡ length quoted - 1 - 1 = omega arith in
      says_unquoted t quoted q
      ∙ (ap (λ (n : ℕ). undoubled false (take n (drop 1 quoted))) same ∙ no_quote_stays (inside_of quoted) none)

  pub inside_said : inside_of quoted ≡ unquoted quoted
  inside_said = sym said ∙ says_unquoted t quoted q

  pub inside_is_text : IsText (inside_of quoted)
  inside_is_text = subst IsText said (quoted_text t quoted q)
