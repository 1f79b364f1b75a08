-- Other values change nothing but literals.
use Rattle.std.proofs.Common.{ℕ, ◌-◌, ◌≤◌, pos, List, [], ◌∷◌, ◌++◌, length, get_or, refl, sym, subst, inl, inr}
use Rattle.std.specs.List.{AllZip}
use Rattle.base_core.specs.declared.value.Value.{Value}
use Rattle.base_core.specs.declared.value.Value.TheVariants as values
use Rattle.lexer_core.specs.Lexing.{Lexeme, Says}
use Rattle.reader_core.specs.Saying.{value_lexeme}
use Rattle.parameters_core.specs.Places.{Part, AreParts, place_number}
use Rattle.parameters_core.specs.Filling.{AreProper, filled, value_of_place}
use Rattle.parameters_core.specs.Meaning.{SayInTurn, IsLiteral, IsAlike}
use Rattle.parameters_core.proofs.FilledLines.{says_split, says_joined}

is_literal : (v : Value) → IsLiteral (value_lexeme v)
is_literal (values.Int z) = tt
is_literal (values.Text t) = tt

alike_behind : (xs us vs : List Lexeme) → AllZip IsAlike us vs → AllZip IsAlike (xs ++ us) (xs ++ vs)
alike_behind [] us vs h = h
alike_behind (x ∷ xs) us vs h = (inl refl, alike_behind xs us vs h)

alike_self : (ls : List Lexeme) → AllZip IsAlike ls ls
alike_self [] = tt
alike_self (l ∷ ls) = (inl refl, alike_self ls)

module _ (vs us : List Value) where
  abbrev Changed : List Part → List ℕ → List Lexeme → Type 0
  Changed parts last said = (changed : List Lexeme) × SayInTurn (value_of_place us) parts last changed × AllZip IsAlike said changed

  in_turn : (parts : List Part) (last : List ℕ) (said : List Lexeme) → SayInTurn (value_of_place vs) parts last said → Changed parts last said
  in_turn [] last said s = (said, s, alike_self said)
  in_turn (part ∷ parts) last said s =
      let n = place_number part.place in
      let r = in_turn parts last s.1 s.4 in
      let l = value_of_place vs n in
      let m = value_of_place us n in
      let literals : IsAlike l m = inr (is_literal (get_or vs (n - 1) (values.Int (pos 0))), is_literal (get_or us (n - 1) (values.Int (pos 0)))) in (
        s.0 ++ m ∷ r.0,
        (s.0, r.0, refl, s.3, r.1),
        subst (λ (z : List Lexeme). AllZip IsAlike z (s.0 ++ m ∷ r.0)) (sym s.2) (alike_behind s.0 (l ∷ s.1) (m ∷ r.0) (literals, r.2)),
      )

pub other_values : (text last : List ℕ) (vs us : List Value) (parts : List Part) (said : List Lexeme) → AreParts text parts last → AreProper vs → AreProper us → Says (filled (value_of_place vs) parts last) said → length (filled (value_of_place us) parts last) ≤ 4096 → (changed : List Lexeme) × Says (filled (value_of_place us) parts last) changed × AllZip IsAlike said changed
other_values text last vs us parts said a proper other s h =
    let r = in_turn vs us parts last said (says_split text last vs parts said a proper s) in
    (r.0, says_joined text last us parts r.0 a other h r.1, r.2)
