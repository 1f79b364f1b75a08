-- Values read.
use Rattle.std.proofs.Common.{◌≡◌, ℕ, ℤ, true, false, List, [], ◌∷◌, Result, Ok, Err, length, ◌≤◌, get_or, refl, sym, ◌∙◌, ap, subst}
use Rattle.std.specs.Prelude.{MatchOption}
use Rattle.std.specs.Result.{result_ok}
use Rattle.std.specs.List.{list_all, list_any}
use Rattle.std.specs.Char.{is_control}
use Rattle.std.specs.Str.{IsUtf8, chars}
use Rattle.std.specs.Str.Parse.{ParsesSigned}
use Rattle.std.proofs.lemmas.Bool.{or_parts, and_parts, and_from, or_from, not_from_false, not-true}
use Rattle.std.proofs.lemmas.Str.{IsUtf8-from_ascii, encodes-chars, scalars-chars, chars_from_encodes}
use mir.Syntax.{w64}
use mir.Val.{SFits as FitsSigned}
use Rattle.base_core.specs.Texts.{is_printable, IsText}
use Rattle.lexer_core.specs.Lexing.{IsNumber}
use Rattle.lexer_core.proofs.Numbers.{numeral_ascii}
use Rattle.parameters_core.specs.Values.{IsPlainText}
use Rattle.parameters_core.proofs.Quotes.{clash}

-- ---- numbers in decimal
pub number_read : {E : Type 0} (bs : List ℕ) (r : Result ℤ E) → (get_or bs 0 0 ≡ 43 → ⊥) → ParsesSigned w64 10 bs r → MatchOption (result_ok r) ((z : ℤ) → IsNumber z bs → ⊥) (λ z. IsNumber z bs)
number_read bs (Ok z) h p = record { unsigned = h; digits = p.0.0; value = p.1; fits = subst (FitsSigned w64) (sym p.1) p.0.1 }
number_read bs (Err e) h p = λ z n. p (n.digits, subst (FitsSigned w64) n.value n.fits)

pub no_number_with_plus : (bs : List ℕ) → get_or bs 0 0 ≡ 43 → (z : ℤ) → IsNumber z bs → ⊥
no_number_with_plus bs e z n = n.unsigned e

pub no_number_beyond_utf8 : (bs : List ℕ) → (IsUtf8 bs → ⊥) → (z : ℤ) → IsNumber z bs → ⊥
no_number_beyond_utf8 bs h z n = h (IsUtf8-from_ascii bs (numeral_ascii bs n.unsigned n.digits))

-- ---- texts
printable_by : (cs : List ℕ) → list_any is_control cs ≡ false → list_all is_printable cs ≡ true
printable_by [] e = refl
printable_by (c ∷ cs) e =
    let p = or_parts (is_control c) (list_any is_control cs) e in
    and_from (is_printable c) (list_all is_printable cs) (not_from_false (is_control c) p.0) (printable_by cs p.1)

no_control_by : (cs : List ℕ) → list_all is_printable cs ≡ true → list_any is_control cs ≡ false
no_control_by [] e = refl
no_control_by (c ∷ cs) e =
    let p = and_parts (is_printable c) (list_all is_printable cs) e in
    or_from (is_control c) (list_any is_control cs) (not-true (is_control c) p.0) (no_control_by cs p.1)

pub plain_text : (bs : List ℕ) → IsUtf8 bs → list_any is_control (chars bs) ≡ false → IsPlainText bs
plain_text bs u e = (chars bs, record { scalars = scalars-chars bs u; printable = printable_by (chars bs) e }, sym (encodes-chars bs u))

pub utf8_of : (bs : List ℕ) → IsPlainText bs → IsUtf8 bs
utf8_of bs t = (t.0, (t.1.scalars, sym t.2))

pub no_plain_text : (bs : List ℕ) → list_any is_control (chars bs) ≡ true → IsPlainText bs → ⊥
no_plain_text bs e t =
    let same : t.0 ≡ chars bs = chars_from_encodes t.0 bs (utf8_of bs t) (sym t.2) in
    clash (list_any is_control (chars bs)) e (ap (list_any is_control) (sym same) ∙ no_control_by t.0 t.1.printable)

pub short_text : (bs : List ℕ) → IsPlainText bs → length bs ≤ 1024 → IsText bs
short_text bs t h = record { chars = t.0; plain = t.1; encoded = t.2; short = h }
