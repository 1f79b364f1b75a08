-- How bytes are cut into lines.
use Rattle.std.proofs.Common.{◌≡◌, ◌≢◌, ℕ, List, [], ◌∷◌, ◌++◌, refl, sym, ap, ◌∙◌, append_assoc, append-nil, eqb, false, map, length, cond, arith, suc}
use Rattle.std.specs.List.{slice_split, flat_map, AllByRecursion, All}
use Rattle.std.specs.Str.Lines.{strip_carriage_return, lines, lines_of_parts}
use Rattle.std.proofs.lemmas.List.Concat.{flat_map-append}
use Rattle.std.proofs.lemmas.List.Splits.{slice_split_at, slice_split_none}
use Rattle.std.proofs.lemmas.List.Elements.{All-from_recursion, All-weaker}
use Rattle.lines_core.specs.Lines.{Cut, NoFeed, whole_lines, whole_of_parts}

abbrev pub ended : List ℕ → List ℕ
ended part = part ++ 10 ∷ []

-- no more than a rest: std's `AllByRecursion` of two lists
pub ByRecursion-append : {X : Type 0} (P : X → Type 0) (xs ys : List X) → AllByRecursion P xs → AllByRecursion P ys → AllByRecursion P (xs ++ ys)
ByRecursion-append P [] ys p q = q
ByRecursion-append P (x ∷ xs) ys p q = (p.0, ByRecursion-append P xs ys p.1 q)

pub Cut-nil : Cut [] [] []
Cut-nil = record { whole = refl; each = tt; open_rest = tt }

-- What a piece adds to the rest goes on where the bytes before it ended.
pub Cut-append : (bytes piece : List ℕ) (parts more : List (List ℕ)) (rest new : List ℕ)
    → Cut bytes parts rest → Cut (rest ++ piece) more new → Cut (bytes ++ piece) (parts ++ more) new
Cut-append bytes piece parts more rest new first second = record {
  whole = ap (λ x. x ++ piece) first.whole
      ∙ append_assoc (flat_map ended parts) rest piece
      ∙ ap (λ x. flat_map ended parts ++ x) second.whole
      ∙ sym (append_assoc (flat_map ended parts) (flat_map ended more) new)
      ∙ ap (λ x. x ++ new) (sym (flat_map-append ended parts more));
  each = ByRecursion-append NoFeed parts more first.each second.each;
  open_rest = second.open_rest;
}

-- a piece with no line feed
pub Cut-open : (rest : List ℕ) → NoFeed rest → Cut rest [] rest
Cut-open rest h = record { whole = refl; each = tt; open_rest = h }

-- a line feed ends a line
pub Cut-feed : (part : List ℕ) → NoFeed part → Cut (part ++ 10 ∷ []) (part ∷ []) []
Cut-feed part h = record { whole = sym (append-nil (part ++ 10 ∷ [])) ∙ ap (λ x. x ++ []) (sym (append-nil (part ++ 10 ∷ []))); each = (h, tt); open_rest = tt }

no_feeds : (part : List ℕ) → NoFeed part → All (λ b. eqb b 10 ≡ false) part
no_feeds part h = All-weaker (λ b. b ≢ 10) (λ b. eqb b 10 ≡ false) (λ b ne. grind arith) part (All-from_recursion (λ b. b ≢ 10) part h)

-- the parts between line feeds are those of the cut, and then the rest
pub split-Cut : (parts : List (List ℕ)) (rest : List ℕ) → AllByRecursion NoFeed parts → NoFeed rest
    → slice_split (λ b. eqb b 10) (flat_map ended parts ++ rest) ≡ parts ++ rest ∷ []
split-Cut [] rest p h = slice_split_none (λ b. eqb b 10) rest (no_feeds rest h)
split-Cut (part ∷ parts) rest p h =
    ap (slice_split (λ b. eqb b 10)) (append_assoc (ended part) (flat_map ended parts) rest ∙ append_assoc part (10 ∷ []) (flat_map ended parts ++ rest))
    ∙ slice_split_at (λ b. eqb b 10) part 10 (flat_map ended parts ++ rest) (no_feeds part p.0) refl
    ∙ ap (λ ps. part ∷ ps) (split-Cut parts rest p.1 h)

-- the line that the rest is at the end of the input
abbrev pub last_line : List ℕ → List (List ℕ)
last_line [] = []
last_line (b ∷ bs) = (b ∷ bs) ∷ []

eqb-suc : (n : ℕ) → eqb (suc n) 0 ≡ false
eqb-suc n = grind arith

lines-parts : (parts : List (List ℕ)) (rest : List ℕ) → lines_of_parts (parts ++ rest ∷ []) ≡ map strip_carriage_return parts ++ last_line rest
lines-parts [] [] = refl
lines-parts [] (b ∷ bs) = ap (λ t. cond t [] ((b ∷ bs) ∷ [])) (eqb-suc (length bs))
lines-parts (x ∷ []) rest = ap (λ ls. strip_carriage_return x ∷ ls) (lines-parts [] rest)
lines-parts (x ∷ y ∷ parts) rest = ap (λ ls. strip_carriage_return x ∷ ls) (lines-parts (y ∷ parts) rest)

whole-parts : (parts : List (List ℕ)) (rest : List ℕ) → whole_of_parts (parts ++ rest ∷ []) ≡ map strip_carriage_return parts
whole-parts [] rest = refl
whole-parts (x ∷ []) rest = refl
whole-parts (x ∷ y ∷ parts) rest = ap (λ ls. strip_carriage_return x ∷ ls) (whole-parts (y ∷ parts) rest)

-- all lines of bytes that are cut so
pub lines-Cut : (bytes : List ℕ) (parts : List (List ℕ)) (rest : List ℕ) → Cut bytes parts rest → lines bytes ≡ map strip_carriage_return parts ++ last_line rest
lines-Cut bytes parts rest cut =
    ap lines cut.whole ∙ ap lines_of_parts (split-Cut parts rest cut.each cut.open_rest) ∙ lines-parts parts rest

-- those whose line feed has come
pub whole_lines-Cut : (bytes : List ℕ) (parts : List (List ℕ)) (rest : List ℕ) → Cut bytes parts rest → whole_lines bytes ≡ map strip_carriage_return parts
whole_lines-Cut bytes parts rest cut =
    ap whole_lines cut.whole ∙ ap whole_of_parts (split-Cut parts rest cut.each cut.open_rest) ∙ whole-parts parts rest
