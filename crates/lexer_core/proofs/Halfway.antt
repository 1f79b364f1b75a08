-- How far a text is unquoted.
use Rattle.std.proofs.lemmas.Bool.{and_parts}
use Rattle.std.proofs.Common.{◌≡◌, ℕ, ◌+◌, ◌-◌, ◌<◌, ◌≤◌, Bool, true, false, List, [], ◌∷◌, ◌++◌, length, take, drop, refl, sym, ◌∙◌, ap, subst, arith, append_assoc, length-append, length-drop}
use Rattle.std.proofs.lemmas.List.{append-nil, drop_at, drop-drop, take_rest}
use Rattle.std.proofs.lemmas.Str.{encodes-append, encode_same, length-encode, len_utf8_bounds}
use Rattle.std.specs.Prelude.{◌==◌, if◌then◌else◌}
use Rattle.std.specs.Char.{encode_utf8, len_utf8, IsScalar}
use Rattle.std.specs.Str.{encode_utf8_all, all_scalars, StartsWithNoChar}
use Rattle.lexer_core.specs.Text.{written, written_len, written_all}
use Rattle.lexer_core.specs.Lexing.{QuotesText, IsSomeText}
use Rattle.lexer_core.proofs.Numbers.{equal}
use Rattle.lexer_core.proofs.Texts.{quote_encoded}

pub record IsHalfway (quoted : List ℕ) (at : ℕ) (said : List ℕ) : Type 0 where
  pub text : List ℕ
  pub whole : QuotesText text quoted
  pub front : List ℕ
  pub rest : List ℕ
  pub parts : whole.chars ≡ front ++ rest
  pub left : drop at quoted ≡ written_all rest ++ 39 ∷ []
  pub so_far : said ≡ encode_utf8_all front
  pub within : at < length quoted

pub halfway_start : (quoted : List ℕ) → IsSomeText quoted → IsHalfway quoted 1 []
halfway_start quoted t = record {
  text = t.0;
  whole = t.1;
  front = [];
  rest = t.1.chars;
  parts = refl;
  left = ap (drop 1) t.1.quoted.split;
  so_far = refl;
  within = omega (arith, ap length t.1.quoted.split, length-append (written_all t.1.chars) (39 ∷ []));
}

-- a character as a text writes it begins with its bytes
written_by : (c : ℕ) (b : Bool) → (c == 39) ≡ b → (more : List ℕ) × ((if b then 39 ∷ 39 ∷ [] else encode_utf8 c) ≡ encode_utf8 c ++ more)
written_by c true e = (39 ∷ [], ap (λ (r : List ℕ). r ++ 39 ∷ []) (sym (ap encode_utf8 (equal c 39 e) ∙ quote_encoded)))
written_by c false e = ([], sym (append-nil (encode_utf8 c)))

pub written_starts : (c : ℕ) → (more : List ℕ) × (written c ≡ encode_utf8 c ++ more)
written_starts c = written_by c (c == 39) refl

step_by : (c : ℕ) (b : Bool) → (if b then 2 else len_utf8 c) ≡ length (if b then 39 ∷ 39 ∷ [] else encode_utf8 c)
step_by c true = refl
step_by c false = sym (length-encode c)

pub step_is : (c : ℕ) → written_len c ≡ length (written c)
step_is c = step_by c (c == 39)

some_by : (c : ℕ) (b : Bool) → 0 < (if b then 2 else len_utf8 c)
some_by c true = omega arith
some_by c false = (len_utf8_bounds c).0

pub written_some : (c : ℕ) → 0 < written_len c
written_some c = some_by c (c == 39)

-- characters that are written alike are one
pub same_first : (c d : ℕ) (r t : List ℕ) → written c ++ r ≡ written d ++ t → c ≡ d
same_first c d r t e =
    let a = written_starts c in
    let b = written_starts d in
    (encode_same c d (a.0 ++ r) (b.0 ++ t)
    (sym (append_assoc (encode_utf8 c) a.0 r) ∙ (ap (λ (u : List ℕ). u ++ r) (sym a.1) ∙ (e ∙ (ap (λ (u : List ℕ). u ++ t) b.1 ∙ append_assoc (encode_utf8 d) b.0 t))))).0

scalar_of : (front : List ℕ) (c : ℕ) (more : List ℕ) → all_scalars (front ++ c ∷ more) ≡ true → IsScalar c
scalar_of [] c more e = (and_parts _ (all_scalars more) e).0
scalar_of (d ∷ front) c more e = scalar_of front c more (and_parts _ (all_scalars (front ++ c ∷ more)) e).1

module _ (quoted : List ℕ) (at : ℕ) (said : List ℕ) (h : IsHalfway quoted at said) (inside : at + 1 < length quoted) where
  -- there is one more character
  rest_some : (rest : List ℕ) → drop at quoted ≡ written_all rest ++ 39 ∷ [] → (c : ℕ) × (more : List ℕ) × (rest ≡ c ∷ more)
  rest_some [] e = absurd (omega (arith, ap length e, length-drop at quoted))
  rest_some (c ∷ more) e = (c, more, refl)

  pub some_char : StartsWithNoChar (take (length quoted - at) (drop at quoted)) → ⊥
  some_char none =
      let r = rest_some h.rest h.left in
      let here : drop at quoted ≡ written r.0 ++ (written_all r.1 ++ 39 ∷ []) = h.left ∙ (ap (λ (cs : List ℕ). written_all cs ++ 39 ∷ []) r.2 ∙ append_assoc (written r.0) (written_all r.1) (39 ∷ [])) in
      let w = written_starts r.0 in
      let scalar : IsScalar r.0 = scalar_of h.front r.0 r.1 (subst (λ (cs : List ℕ). all_scalars cs ≡ true) (h.parts ∙ ap (λ (cs : List ℕ). h.front ++ cs) r.2) h.whole.quoted.plain.scalars) in
      none r.0 (w.0 ++ (written_all r.1 ++ 39 ∷ [])) scalar (take_rest quoted at ∙ (here ∙ (ap (λ (u : List ℕ). u ++ (written_all r.1 ++ 39 ∷ [])) w.1 ∙ append_assoc (encode_utf8 r.0) w.0 (written_all r.1 ++ 39 ∷ []))))

  pub next_char : (c : ℕ) (after : List ℕ) → take (length quoted - at) (drop at quoted) ≡ encode_utf8 c ++ after → (next : List ℕ) → next ≡ said ++ encode_utf8 c → IsHalfway quoted (at + written_len c) next
  next_char c after e next is =
      let r = rest_some h.rest h.left in
      let here : drop at quoted ≡ written r.0 ++ (written_all r.1 ++ 39 ∷ []) = h.left ∙ (ap (λ (cs : List ℕ). written_all cs ++ 39 ∷ []) r.2 ∙ append_assoc (written r.0) (written_all r.1) (39 ∷ [])) in
      let w = written_starts r.0 in
      let same : c ≡ r.0 = (encode_same c r.0 after (w.0 ++ (written_all r.1 ++ 39 ∷ [])) (sym e ∙ (take_rest quoted at ∙ (here ∙ (ap (λ (u : List ℕ). u ++ (written_all r.1 ++ 39 ∷ [])) w.1 ∙ append_assoc (encode_utf8 r.0) w.0 (written_all r.1 ++ 39 ∷ [])))))).0 in
      let len : written_len c ≡ length (written r.0) = ap written_len same ∙ step_is r.0 in
      let left : drop (at + written_len c) quoted ≡ written_all r.1 ++ 39 ∷ [] = sym (drop-drop (written_len c) at quoted) ∙ (ap (drop (written_len c)) here ∙ drop_at (written r.0) (written_all r.1 ++ 39 ∷ []) (written_len c) (sym len)) in
      record {
        text = h.text;
        whole = h.whole;
        front = h.front ++ r.0 ∷ [];
        rest = r.1;
        parts = h.parts ∙ (ap (λ (cs : List ℕ). h.front ++ cs) r.2 ∙ sym (append_assoc h.front (r.0 ∷ []) r.1));
        left = left;
        so_far = is ∙ (ap (λ (u : List ℕ). u ++ encode_utf8 c) h.so_far ∙ (ap (λ (x : ℕ). encode_utf8_all h.front ++ encode_utf8 x) same ∙ (ap (λ (u : List ℕ). encode_utf8_all h.front ++ u) (sym (append-nil (encode_utf8 r.0))) ∙ sym (encodes-append h.front (r.0 ∷ [])))));
        within = omega (arith, ap length left, length-drop (at + written_len c) quoted, length-append (written_all r.1) (39 ∷ []));
      }

no_rest : (rest : List ℕ) → length (written_all rest) ≡ 0 → rest ≡ []
no_rest [] e = refl
no_rest (c ∷ more) e = absurd (omega (arith, length-append (written c) (written_all more), step_is c, written_some c))

-- at the end all is said
pub all_said : (quoted : List ℕ) (at : ℕ) (said : List ℕ) → IsHalfway quoted at said → length quoted ≤ at + 1 → QuotesText said quoted
all_said quoted at said h end =
    let none : h.rest ≡ [] = no_rest h.rest (omega (arith, ap length h.left, length-drop at quoted, length-append (written_all h.rest) (39 ∷ []))) in
    let all : h.whole.chars ≡ h.front = h.parts ∙ (ap (λ (cs : List ℕ). h.front ++ cs) none ∙ append-nil h.front) in
    let value : said ≡ encode_utf8_all h.whole.chars = h.so_far ∙ ap encode_utf8_all (sym all) in
    record { chars = h.whole.chars; quoted = h.whole.quoted; value = value; short = subst (λ (t : List ℕ). length t ≤ 1024) (h.whole.value ∙ sym value) h.whole.short }
