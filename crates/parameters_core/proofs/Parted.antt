-- What stands before a blank outside texts is told alone, and what stands behind it too.
use mathlib.Core.Logic.{⊎_elim}
use Rattle.std.proofs.Common.{◌≡◌, ℕ, suc, ◌<◌, ◌≤◌, Bool, true, false, List, [], ◌∷◌, ◌++◌, length, take, drop, get_or, refl, sym, ◌∙◌, ap, subst, arith, length-append}
use Rattle.std.specs.Prelude.{◌==◌}
use Rattle.std.proofs.lemmas.Bool.{cases_lt}
use Rattle.std.proofs.lemmas.Bool.Decides.{nat_tests}
use Rattle.std.proofs.lemmas.List.{take_at, take_all, take-take, take-append-le, take-append-drop, drop_at, drop-append-le, get_or_at, get_or_past, get_or-take, get_or_append_left}
use Rattle.lexer_core.specs.declared.token.Mark.{Mark}
use Rattle.lexer_core.specs.declared.token.Mark.TheVariants as marks
use Rattle.lexer_core.specs.Lexing.{Lexeme, Key, Named, Number, Text, Sign, IsProper, SpellsLexeme, BeginsLexeme, goes_on, mark_goes_on, is_blank}
use Rattle.printer_core.specs.Printing.{lexeme_text}
use Rattle.printer_core.proofs.Spelling.{lexeme_spells, some_text}
use Rattle.parameters_core.specs.Statements.{open_behind, IsClosed}
use Rattle.parameters_core.proofs.Quotes.{open-append, turns_not, clash}
use Rattle.parameters_core.proofs.Quoted.{solid_or_text, solid_no_blank, inside_of, text_inside, even_before, token_closed}
use Rattle.parameters_core.proofs.Told.{Told, done, past, over, told_past, told_over}

-- ---- a token ends at a blank, and at the end
mark_stops : (m : Mark) → (mark_goes_on m 32 ≡ false) × (mark_goes_on m 0 ≡ false)
mark_stops marks.Less = (refl, refl)
mark_stops marks.Greater = (refl, refl)
mark_stops _ = (refl, refl)

stops : (l : Lexeme) → (goes_on l 32 ≡ false) × (goes_on l 0 ≡ false)
stops (Key k) = (refl, refl)
stops (Named n) = (refl, refl)
stops (Number z) = (refl, refl)
stops (Text t) = (refl, refl)
stops (Sign m) = mark_stops m

module _ (a d : List ℕ) (l : Lexeme) (k : ℕ) where
  -- with a blank behind the bytes it stands first as well
  pub with_behind : BeginsLexeme a l k → BeginsLexeme (a ++ 32 ∷ d) l k
  with_behind b = record {
    some = b.some;
    within = omega (arith, b.within, length-append a (32 ∷ d));
    spelled = subst (SpellsLexeme l) (sym (take-append-le k a (32 ∷ d) b.within)) b.spelled;
    ends = ⊎_elim
        (λ h. ap (goes_on l) (get_or_append_left a (32 ∷ d) 0 k h) ∙ b.ends)
        (λ h. let all : length a ≡ k = omega (arith, h, b.within) in ap (goes_on l) (get_or_at a 32 d 0 k all) ∙ (stops l).0)
        (cases_lt k (length a));
  }

  -- and without
  pub without_behind : BeginsLexeme (a ++ 32 ∷ d) l k → k ≤ length a → BeginsLexeme a l k
  without_behind b stays = record {
    some = b.some;
    within = stays;
    spelled = subst (SpellsLexeme l) (take-append-le k a (32 ∷ d) stays) b.spelled;
    ends = ⊎_elim
        (λ h. ap (goes_on l) (sym (get_or_append_left a (32 ∷ d) 0 k h)) ∙ b.ends)
        (λ h. ap (goes_on l) (get_or_past a k 0 h) ∙ (stops l).1)
        (cases_lt k (length a));
  }

-- a quoted text that goes on behind the bytes is open at their end
open_within : (x : ℕ) (a t : List ℕ) → x ∷ a ≡ take (suc (length a)) (39 ∷ inside_of t) → get_or (39 ∷ inside_of t) (suc (length a)) 0 ≡ 32 → open_behind false (x ∷ a) ≡ true
open_within x a t e blank = ap (open_behind false) e ∙ even_before t true (length a) blank

module _ (x : ℕ) (a d : List ℕ) (l : Lexeme) (k : ℕ) (b : BeginsLexeme ((x ∷ a) ++ 32 ∷ d) l k) (closed : IsClosed (x ∷ a)) where
  abbrev whole : List ℕ
  whole = (x ∷ a) ++ 32 ∷ d

  abbrev size : ℕ
  size = length (x ∷ a)

  blank_within : size < k → get_or (take k whole) size 0 ≡ 32
  blank_within h = get_or-take k whole size 0 h ∙ get_or_at (x ∷ a) 32 d 0 size refl

  front_within : size < k → x ∷ a ≡ take size (take k whole)
  front_within h = sym (take-take size k whole (omega (arith, h)) ∙ take_at (x ∷ a) (32 ∷ d) size refl)

  text_over : size < k → (t : List ℕ) → take k whole ≡ 39 ∷ inside_of t → ⊥
  text_over h t is =
      clash (open_behind false (x ∷ a))
      (open_within x a t (front_within h ∙ ap (take size) is) (ap (λ (bytes : List ℕ). get_or bytes size 0) (sym is) ∙ blank_within h))
      closed

  not_over : size < k → ⊥
  not_over h = ⊎_elim
      (λ solid. solid_no_blank (take k whole) size solid (blank_within h))
      (λ text. text_over h text.0 (text.1 ∙ text_inside text.0))
      (solid_or_text l (take k whole) b.spelled)

  -- no token stands on both sides of the blank
  pub stays_before : k ≤ size
  stays_before = ⊎_elim (λ h. absurd (not_over h)) (λ h. h) (cases_lt size k)

  pub first_token : BeginsLexeme (x ∷ a) l k
  first_token = without_behind (x ∷ a) d l k b stays_before

  pub rest_closed : IsClosed (drop k (x ∷ a))
  rest_closed =
      let front : open_behind false (take k (x ∷ a)) ≡ false = token_closed l (take k (x ∷ a)) first_token.spelled in
      ap (λ (q : Bool). open_behind q (drop k (x ∷ a))) (sym front)
      ∙ (sym (open-append false (take k (x ∷ a)) (drop k (x ∷ a)))
      ∙ (ap (open_behind false) (take-append-drop k (x ∷ a)) ∙ closed))

blank_other : (b : ℕ) → is_blank b ≡ true → (b == 39) ≡ false
blank_other b e = grind (arith, nat_tests)

-- ---- told in two parts
pub record IsTold (a c : List ℕ) (said : List Lexeme) : Type 0 where
  pub front : List Lexeme
  pub behind : List Lexeme
  pub parts : said ≡ front ++ behind
  pub first : Told a front
  pub second : Told c behind

pub parted : (bytes : List ℕ) (said : List Lexeme) → Told bytes said → (a d : List ℕ) → bytes ≡ a ++ 32 ∷ d → IsClosed a → IsTold a (32 ∷ d) said
parted bytes said t [] d e closed = record { front = []; behind = said; parts = refl; first = done; second = subst (λ (x : List ℕ). Told x said) e t }
parted _ _ done (x ∷ a) d e closed = absurd (omega (arith, ap length e))
parted _ _ (past {b} {bs} {ls} i t) (x ∷ a) d e closed =
    let both : b ∷ bs ≡ x ∷ (a ++ 32 ∷ d) = e in
    let head : b ≡ x = cc in
    let rest : bs ≡ a ++ 32 ∷ d = cc in
    let blank : is_blank x ≡ true = ap is_blank (sym head) ∙ i in
    let r = parted bs ls t a d rest (ap (λ (q : Bool). open_behind q a) (sym (turns_not false x (blank_other x blank))) ∙ closed) in
    record { front = r.front; behind = r.behind; parts = r.parts; first = past blank r.first; second = r.second }
parted bytes _ (over {l = l} {k = k} {ls = ls} b t) (x ∷ a) d e closed =
    let here : BeginsLexeme ((x ∷ a) ++ 32 ∷ d) l k = subst (λ (y : List ℕ). BeginsLexeme y l k) e b in
    let h = stays_before x a d l k here closed in
    let rest : drop k bytes ≡ drop k (x ∷ a) ++ 32 ∷ d = ap (drop k) e ∙ drop-append-le k (x ∷ a) (32 ∷ d) h in
    let r = parted (drop k bytes) ls t (drop k (x ∷ a)) d rest (rest_closed x a d l k here closed) in
    record {
      front = l ∷ r.front;
      behind = r.behind;
      parts = ap (λ (y : List Lexeme). l ∷ y) r.parts;
      first = over (first_token x a d l k here closed) r.first;
      second = r.second;
    }

pub joined : (a : List ℕ) (front : List Lexeme) → Told a front → (d : List ℕ) (behind : List Lexeme) → Told (32 ∷ d) behind → Told (a ++ 32 ∷ d) (front ++ behind)
joined _ _ done d behind t = t
joined _ _ (past {b} {bs} {ls} i s) d behind t = past i (joined bs ls s d behind t)
joined bytes _ (over {l = l} {k = k} {ls = ls} b s) d behind t =
    over (with_behind bytes d l k b) (subst (λ (y : List ℕ). Told y (ls ++ behind)) (sym (drop-append-le k bytes (32 ∷ d) b.within)) (joined (drop k bytes) ls s d behind t))

-- ---- with a literal between
module _ (l : Lexeme) (p : IsProper l) (d : List ℕ) where
  abbrev text : List ℕ
  text = lexeme_text l

  alone : BeginsLexeme text l (length text)
  alone = record {
    some = some_text l p;
    within = omega arith;
    spelled = subst (SpellsLexeme l) (sym (take_all (length text) text (omega arith))) (lexeme_spells l p);
    ends = ap (goes_on l) (get_or_past text (length text) 0 (omega arith)) ∙ (stops l).1;
  }

  literal_first : BeginsLexeme (text ++ 32 ∷ d) l (length text)
  literal_first = with_behind text d l (length text) alone

  -- what a literal between blanks says
  pub literal_told : (said : List Lexeme) → Told (32 ∷ (text ++ 32 ∷ d)) said → (behind : List Lexeme) × (said ≡ l ∷ behind) × Told d behind
  literal_told said t =
      let r = told_over (text ++ 32 ∷ d) l (length text) said literal_first (told_past (32 ∷ (text ++ 32 ∷ d)) (text ++ 32 ∷ d) said t refl) in
      (r.0, r.1, told_past (drop (length text) (text ++ 32 ∷ d)) d r.0 r.2 (drop_at text (32 ∷ d) (length text) refl))

  pub tell_literal : (behind : List Lexeme) → Told d behind → Told (32 ∷ (text ++ 32 ∷ d)) (l ∷ behind)
  tell_literal behind t =
      let rest : Told (drop (length text) (text ++ 32 ∷ d)) behind = subst (λ (y : List ℕ). Told y behind) (sym (drop_at text (32 ∷ d) (length text) refl)) (past refl t) in
      past refl (over literal_first rest)
