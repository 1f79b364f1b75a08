-- Each line says something or has a fault.
use mathlib.Core.Logic.{⊎_elim}
use Rattle.std.proofs.lemmas.Bool.{cases_lt}
use Rattle.std.proofs.lemmas.List.{take_rest}
use Rattle.std.proofs.Common.{◌≡◌, ◌⊎◌, ℕ, zero, suc, ◌+◌, ◌-◌, ◌<◌, ◌≤◌, Bool, true, false, List, [], length, take, drop, refl, sym, subst, arith, length-drop, inl, inr}
use Rattle.std.specs.Prelude.{slice_index}
use Rattle.lexer_core.specs.declared.fault.ReadFault.TheVariants as read_faults
use Rattle.lexer_core.specs.declared.fault.Code.{Code}
use Rattle.lexer_core.specs.declared.token.Token as tokens
use Rattle.lexer_core.specs.Lexing.{Lexeme, Says, IsLineFault, long_line, is_blank}
use Rattle.lexer_core.proofs.Reached.{Reached, nothing, one_blank, one_token, one_fault, whole}
use Rattle.lexer_core.proofs.Lines.{first_is}
use Rattle.lexer_core.proofs.EachFront.{TokenOrFault, token_or_fault}

module _ (line : List ℕ) where
  abbrev pub ReadingOrFault : Type 0
  ReadingOrFault = ((said : List Lexeme) × Says line said) ⊎ ((code : Code) × (offset : ℕ) × IsLineFault line code offset)

  at_end : (n : ℕ) (ts : List tokens.Token) → Reached line n ts → length line ≤ n → ReadingOrFault
  at_end n ts r h = let read = whole line n ts r h in inl (read.lexemes, record { short = read.short; tokens_of = ts; lexed = read.lexed })

  -- what is left of the line, from place n on
  here : (n : ℕ) → n < length line → is_blank (slice_index line n) ≡ false → TokenOrFault (take (length line - n) (drop n line))
  here n h e = subst TokenOrFault (sym (take_rest line n)) (token_or_fault (drop n line) (omega (arith, length-drop n line)) (first_is line n is_blank false e))

  module _ (fuel n : ℕ) (ts : List tokens.Token) (h : length line ≤ n + suc fuel) (r : Reached line n ts) (inside : n < length line)
      (further : (n : ℕ) (ts : List tokens.Token) → length line ≤ n + fuel → Reached line n ts → ReadingOrFault) where
    at_byte : (b : Bool) → is_blank (slice_index line n) ≡ b → ReadingOrFault
    at_byte true e = further (n + 1) ts (omega (arith, h)) (one_blank line n ts r inside e)
    at_byte false e = elim (here n inside e) [
      | inl t ↦ let some = t.2.begins.some in further (n + t.1) _ (omega (arith, h, some)) (one_token line n ts r t.0 t.1 t.2)
      | inr f ↦ inr (f.0, n + f.1, one_fault line n ts r (read_faults.At f.0 (n + f.1)) (f.1, refl, f.2))
    ]

  read_from : (fuel n : ℕ) (ts : List tokens.Token) → length line ≤ n + fuel → Reached line n ts → ReadingOrFault
  read_from zero n ts h r = at_end n ts r (omega (arith, h))
  read_from (suc fuel) n ts h r = ⊎_elim
      (λ l. at_byte fuel n ts h r l (λ n ts h r. read_from fuel n ts h r) (is_blank (slice_index line n)) refl)
      (λ g. at_end n ts r g)
      (cases_lt n (length line))

  pub reading_or_fault : ReadingOrFault
  reading_or_fault = ⊎_elim (λ l. inr (_, 4096, long_line l)) (λ h. read_from (length line) 0 [] (omega arith) (nothing line h)) (cases_lt 4096 (length line))
