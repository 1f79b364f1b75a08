-- The line of a text with values.
use mathlib.Core.Logic.{⊎_elim}
use Rattle.std.proofs.Common.{◌≡◌, ◌⊎◌, ℕ, pos, suc, ◌-◌, ◌<◌, ◌≤◌, Bool, List, [], ◌∷◌, ◌++◌, None, length, get_or, refl, sym, ◌∙◌, ap, subst, arith, inl, inr}
use Rattle.std.proofs.lemmas.Bool.{cases_lt}
use Rattle.std.proofs.lemmas.List.{get_or_past, get_or-replicate, length-replicate}
use mir.Syntax.{w64}
use mir.Val.{SFits as FitsSigned}
use Rattle.base_core.specs.declared.value.Value.{Value}
use Rattle.base_core.specs.declared.value.Value.TheVariants as values
use Rattle.lexer_core.specs.Lexing.{Lexeme, Number, IsProper, Says}
use Rattle.reader_core.specs.declared.statement.Statement.{Statement}
use Rattle.reader_core.specs.Saying.{value_lexeme}
use Rattle.reader_core.specs.Language.{Spells}
use Rattle.reader_core.proofs.Exactness.{spelled_once}
use Rattle.printer_core.specs.Printing.{lexeme_text}
use Rattle.parameters_core.specs.Statements.{inside_behind}
use Rattle.parameters_core.specs.Places.{HasNoPlace, Part, BeginsPart, AreParts, IsGreatestNumber, greatest_number, place_number}
use Rattle.parameters_core.specs.Filling.{line_bytes, as_line, filled, value_of_place, IsFilled, ones, SpellsWith, AreProper}
use Rattle.parameters_core.specs.Meaning.{SayInTurn}
use Rattle.parameters_core.specs.Putting.{says_by}
use Rattle.parameters_core.proofs.Parts.{parts_once}
use Rattle.parameters_core.proofs.EachText.{each_text}
use Rattle.parameters_core.proofs.InTurn.{split, join}

pub length-line : (inside : Bool) (bytes : List ℕ) → length (line_bytes inside bytes) ≡ length bytes
length-line inside [] = refl
length-line inside (b ∷ bs) = ap suc (length-line (inside_behind inside b) bs)

-- ---- one line
pub line_once : (text : List ℕ) (vs : List Value) (line other : List ℕ) → IsFilled text vs line → IsFilled text vs other → line ≡ other
line_once text vs line other a b =
    let same = parts_once text a.parts b.parts a.last b.last a.cut b.cut in
    a.whole
    ∙ (ap (λ (ps : List Part). filled (value_of_place vs) ps a.last) same.0
    ∙ (ap (λ (end : List ℕ). filled (value_of_place vs) b.parts end) same.1 ∙ sym b.whole))

pub greatest_once : (text : List ℕ) (n : ℕ) (parts : List Part) (last : List ℕ) → IsGreatestNumber text n → AreParts text parts last → n ≡ greatest_number parts
greatest_once text n parts last g a = g.greatest ∙ ap greatest_number (parts_once text g.parts parts g.last last g.cut a).0

pub line_or_none : (text : List ℕ) (vs : List Value) → ((line : List ℕ) × IsFilled text vs line) ⊎ ((n : ℕ) × IsGreatestNumber text n × (length vs < n))
line_or_none text vs =
    let cut = each_text text in
    ⊎_elim
    (λ few. inr (greatest_number cut.0, record { parts = cut.0; last = cut.1; cut = cut.2; greatest = refl }, few))
    (λ more. inl (filled (value_of_place vs) cut.0 cut.1, record { parts = cut.0; last = cut.1; cut = cut.2; enough = more; whole = refl }))
    (cases_lt (length vs) (greatest_number cut.0))

pub not_both : (text : List ℕ) (vs : List Value) (line : List ℕ) (n : ℕ) → IsFilled text vs line → IsGreatestNumber text n → n ≤ length vs
not_both text vs line n f g = omega (arith, f.enough, greatest_once text n f.parts f.last g f.cut)

-- ---- what it says
fits_zero : FitsSigned w64 (pos 0)
fits_zero = record { sfits = omega arith }

abbrev zero_value : Value
zero_value = values.Int (pos 0)

proper_value : (vs : List Value) (n : ℕ) → AreProper vs → IsProper (value_lexeme (get_or vs (n - 1) zero_value))
proper_value vs n all = ⊎_elim
    (λ h. all (n - 1) zero_value h)
    (λ h. subst (λ (v : Value). IsProper (value_lexeme v)) (sym (get_or_past vs (n - 1) zero_value h)) fits_zero)
    (cases_lt (n - 1) (length vs))

module _ (text last : List ℕ) (vs : List Value) (parts : List Part) (said : List Lexeme) (a : AreParts text parts last) (proper : AreProper vs) where
  pub says_split : Says (filled (value_of_place vs) parts last) said → SayInTurn (value_of_place vs) parts last said
  says_split s = split (value_of_place vs) (λ n. proper_value vs n proper) text parts last said a s

  pub says_joined : length (filled (value_of_place vs) parts last) ≤ 4096 → SayInTurn (value_of_place vs) parts last said → Says (filled (value_of_place vs) parts last) said
  says_joined h s = join (value_of_place vs) (λ n. proper_value vs n proper) parts last said h s

pub statement_once : (text : List ℕ) (vs : List Value) (s t : Statement) → SpellsWith text vs s → SpellsWith text vs t → s ≡ t
statement_once text vs s t a b =
    let same = line_once text vs a.line b.line a.is_filled b.is_filled in
    spelled_once b.line s t (subst (λ (line : List ℕ). Spells line s) same a.spelled) b.spelled

-- ---- without places
pub spelled_alone : (text : List ℕ) (s : Statement) → HasNoPlace text → SpellsWith text [] s → Spells (as_line text) s
spelled_alone text s none w =
    let f = w.is_filled in
    let same = parts_once text f.parts [] f.last text f.cut (refl, none) in
    let is : w.line ≡ as_line text =
    f.whole
    ∙ (ap (λ (ps : List Part). filled (value_of_place []) ps f.last) same.0
    ∙ ap (λ (end : List ℕ). filled (value_of_place []) [] end) same.1) in
    subst (λ (line : List ℕ). Spells line s) is w.spelled

pub spells_alone : (text : List ℕ) (s : Statement) → HasNoPlace text → Spells (as_line text) s → SpellsWith text [] s
spells_alone text s none p = record {
  line = as_line text;
  is_filled = record { parts = []; last = text; cut = (refl, none); enough = omega arith; whole = refl };
  spelled = p;
}

-- ---- ones
place_low : (text : List ℕ) (part : Part) (rest : List ℕ) → BeginsPart text part rest → (1 ≤ place_number part.place) × (place_number part.place ≤ 99)
place_low text part rest b = let p = b.is_place in (p.some, p.few)

pub at_most_99 : (text : List ℕ) (parts : List Part) (last : List ℕ) → AreParts text parts last → greatest_number parts ≤ 99
at_most_99 text [] last a = omega arith
at_most_99 text (part ∷ parts) last a =
    let few = (place_low text part a.0 a.1).1 in
    let more = at_most_99 a.0 parts last a.2 in
    omega (arith, few, more)

ones_len : length ones ≡ 99
unfolding ones
ones_len = length-replicate 99 (values.Int (pos 1))

one_at : (n : ℕ) → 1 ≤ n → n ≤ 99 → value_of_place ones n ≡ Number (pos 1)
unfolding ones
one_at n low high = ap value_lexeme (get_or-replicate 99 (n - 1) (values.Int (pos 1)) zero_value (omega arith))

pub same_ones : (text : List ℕ) (parts : List Part) (last : List ℕ) → AreParts text parts last → filled (says_by None) parts last ≡ filled (value_of_place ones) parts last
same_ones text [] last a = refl
same_ones text (part ∷ parts) last a =
    let n = place_number part.place in
    let limits = place_low text part a.0 a.1 in
    let rest = same_ones a.0 parts last a.2 in
    ap (λ (l : Lexeme). as_line part.segment ++ (32 ∷ (lexeme_text l ++ (32 ∷ filled (says_by None) parts last)))) (sym (one_at n limits.0 limits.1))
    ∙ ap (λ (line : List ℕ). as_line part.segment ++ (32 ∷ (lexeme_text (value_of_place ones n) ++ (32 ∷ line)))) rest

pub enough_ones : (text : List ℕ) (parts : List Part) (last : List ℕ) → AreParts text parts last → greatest_number parts ≤ length ones
enough_ones text parts last a = omega (arith, at_most_99 text parts last a, ones_len)
