-- A filled line says what its segments say, with a literal for each place between.
use Rattle.std.proofs.Common.{◌≡◌, ℕ, ◌+◌, ◌≤◌, Bool, true, false, not, ◌&&◌, List, [], ◌∷◌, ◌++◌, length, refl, sym, ◌∙◌, ap, subst, arith, length-append}
use Rattle.std.specs.Prelude.{◌==◌, if◌then◌else◌}
use Rattle.std.proofs.lemmas.Bool.{and_parts}
use Rattle.std.proofs.lemmas.Bool.Decides.{nat_tests}
use Rattle.lexer_core.specs.Lexing.{Lexeme, IsProper, Says}
use Rattle.printer_core.specs.Printing.{lexeme_text}
use Rattle.parameters_core.specs.Statements.{inside_behind, open_behind, is_line_end, IsClosed}
use Rattle.parameters_core.specs.Places.{Part, AreParts, place_number}
use Rattle.parameters_core.specs.Filling.{line_bytes, as_line, filled}
use Rattle.parameters_core.specs.Meaning.{SayInTurn}
use Rattle.parameters_core.proofs.Quotes.{turns_not}
use Rattle.parameters_core.proofs.Told.{Told, told, says}
use Rattle.parameters_core.proofs.Parted.{parted, joined, literal_told, tell_literal}

-- ---- a segment in the line has its quotes
line_end_other : (b : ℕ) → is_line_end b ≡ true → (b == 39) ≡ false
line_end_other b e = grind (arith, nat_tests)

turned_by : (q inside : Bool) (b : ℕ) (blank : Bool) → (is_line_end b && not inside) ≡ blank → inside_behind q (if blank then 32 else b) ≡ inside_behind q b
turned_by q inside b true e = sym (turns_not q b (line_end_other b (and_parts (is_line_end b) (not inside) e).0))
turned_by q inside b false e = refl

open_line : (q inside : Bool) (bytes : List ℕ) → open_behind q (line_bytes inside bytes) ≡ open_behind q bytes
open_line q inside [] = refl
open_line q inside (b ∷ bs) =
    ap (λ (x : Bool). open_behind x (line_bytes (inside_behind inside b) bs)) (turned_by q inside b (is_line_end b && not inside) refl)
    ∙ open_line (inside_behind q b) (inside_behind inside b) bs

closed_line : (segment : List ℕ) → IsClosed segment → IsClosed (as_line segment)
closed_line segment h = open_line false false segment ∙ h

-- ---- along the parts
module _ (speak : ℕ → Lexeme) (proper : (n : ℕ) → IsProper (speak n)) where
  module _ (part : Part) (rest : List ℕ) where
    abbrev literal : List ℕ
    literal = lexeme_text (speak (place_number part.place))

    abbrev line : List ℕ
    line = as_line part.segment ++ (32 ∷ (literal ++ 32 ∷ rest))

    size : length line ≡ length (as_line part.segment) + (1 + (length literal + (1 + length rest)))
    size = omega (arith, length-append (as_line part.segment) (32 ∷ (literal ++ 32 ∷ rest)), length-append literal (32 ∷ rest))

    pub segment_short : length line ≤ 4096 → length (as_line part.segment) ≤ 4096
    segment_short h = omega (arith, h, size)

    pub rest_short : length line ≤ 4096 → length rest ≤ 4096
    rest_short h = omega (arith, h, size)

  in_turn : (text : List ℕ) (parts : List Part) (last : List ℕ) (said : List Lexeme) → AreParts text parts last → length (filled speak parts last) ≤ 4096 → Told (filled speak parts last) said → SayInTurn speak parts last said
  in_turn text [] last said a h t = says (as_line last) said h t
  in_turn text (part ∷ parts) last said a h t =
      let n = place_number part.place in
      let rest = filled speak parts last in
      let both = parted (filled speak (part ∷ parts) last) said t (as_line part.segment) (lexeme_text (speak n) ++ 32 ∷ rest) refl (closed_line part.segment a.1.closed) in
      let more = literal_told (speak n) (proper n) rest both.behind both.second in (
        both.front,
        more.0,
        both.parts ∙ ap (λ (x : List Lexeme). both.front ++ x) more.1,
        says (as_line part.segment) both.front (segment_short part rest h) both.first,
        in_turn a.0 parts last more.0 a.2 (rest_short part rest h) more.2,
      )

  pub split : (text : List ℕ) (parts : List Part) (last : List ℕ) (said : List Lexeme) → AreParts text parts last → Says (filled speak parts last) said → SayInTurn speak parts last said
  split text parts last said a s = in_turn text parts last said a s.short (told (filled speak parts last) said s)

  all_told : (parts : List Part) (last : List ℕ) (said : List Lexeme) → SayInTurn speak parts last said → Told (filled speak parts last) said
  all_told [] last said s = told (as_line last) said s
  all_told (part ∷ parts) last said s =
      let n = place_number part.place in
      let rest = filled speak parts last in
      let behind = tell_literal (speak n) (proper n) rest s.1 (all_told parts last s.1 s.4) in
      subst (Told (filled speak (part ∷ parts) last)) (sym s.2) (joined (as_line part.segment) s.0 (told (as_line part.segment) s.0 s.3) (lexeme_text (speak n) ++ 32 ∷ rest) (speak n ∷ s.1) behind)

  pub join : (parts : List Part) (last : List ℕ) (said : List Lexeme) → length (filled speak parts last) ≤ 4096 → SayInTurn speak parts last said → Says (filled speak parts last) said
  join parts last said h s = says (filled speak parts last) said h (all_told parts last said s)
