-- Items as their list's rule wants them: few, and with different names.
use Rattle.std.proofs.Common.{◌≡◌, ℕ, ◌+◌, ◌≤◌, ◌<◌, Bool, true, false, ◌&&◌, ◌||◌, not, List, [], ◌∷◌, ◌++◌, length, map, Option, Some, None, if◌then◌else◌, nat_le, refl, sym, ap, subst, ◌∙◌, arith, length-append}
use Rattle.std.specs.List.{list_any, list_all}
use Rattle.std.proofs.lemmas.List.{length-map}
use Rattle.std.proofs.lemmas.List.Folds.{list_all-append}
use Rattle.std.proofs.lemmas.Bool.{and_parts, and_from}
use Rattle.std.proofs.lemmas.Bool.Decides.{nat_tests}
use Rattle.base_core.specs.Words.{same_name}
use Rattle.base_core.specs.Distinct.{are_distinct}
use Rattle.lexer_core.specs.declared.token.TokenKind.{TokenKind}
use Rattle.lexer_core.specs.declared.token.TokenKind.TheVariants as kinds
use Rattle.lexer_core.specs.declared.fault.Code.{Code}
use Rattle.lexer_core.specs.declared.fault.Code.TheVariants as codes
use Rattle.reader_core.specs.Grammar.{Rule, repeated_or_too_many, same}
use Rattle.reader_core.specs.Recogniser.{AreFaultless}
use Rattle.reader_core.specs.declared.privilege.Privilege.{Privilege}
use Rattle.reader_core.specs.Privileges.{word_of, word_keyword, same_word, are_different}
use Rattle.reader_core.specs.Sentences.{names_rule, comma_separated, privileges_rule}

-- ---- single marks
no_mark : (repeated : Bool) (full : Bool) → ◌≡◌ {A = Option Code} (if repeated then Some codes.Duplicate else if full then Some codes.TooMany else None) None → (repeated ≡ false) × (full ≡ false)
no_mark true full e = cc
no_mark false true e = cc
no_mark false false e = (refl, refl)

unmarked : (repeated : Bool) (count limit : ℕ) → repeated_or_too_many repeated count limit ≡ None → (repeated ≡ false) × (count < limit)
unfolding repeated_or_too_many
unmarked repeated count limit e = let h = no_mark repeated (nat_le limit count) e in (h.0, let full : nat_le limit count ≡ false = h.1 in grind (arith, nat_tests))

mark_none : (repeated : Bool) (count limit : ℕ) → repeated ≡ false → count < limit → repeated_or_too_many repeated count limit ≡ None
unfolding repeated_or_too_many
mark_none repeated count limit e h =
    let room : nat_le limit count ≡ false = grind (arith, nat_tests) in
    ap (λ b. if b then Some codes.Duplicate else if nat_le limit count then Some codes.TooMany else None) e ∙ ap (λ b. if b then Some codes.TooMany else None) room

-- ---- how many
pub fine_few : (r : Rule) (seen ks : List TokenKind) → AreFaultless r seen ks → length seen ≤ r.limit → length seen + length ks ≤ r.limit
fine_few r seen [] f h = omega arith
fine_few r seen (k ∷ ks) f h =
    let m = unmarked (r.distinct && list_any (λ x. same x k) seen) (length seen) r.limit f.0 in
    let more = fine_few r (seen ++ k ∷ []) ks f.1 (omega (arith, m.1, length-append seen (k ∷ []))) in
    omega (arith, more, length-append seen (k ∷ []))

few_fine : (r : Rule) → r.distinct ≡ false → (seen ks : List TokenKind) → length seen + length ks ≤ r.limit → AreFaultless r seen ks
few_fine r any seen [] h = tt
few_fine r any seen (k ∷ ks) h = (mark_none (r.distinct && list_any (λ x. same x k) seen) (length seen) r.limit (ap (λ b. b && list_any (λ x. same x k) seen) any) (omega arith), few_fine r any (seen ++ k ∷ []) ks (omega (arith, length-append seen (k ∷ []))))

-- items that may repeat
pub fine_if_few : {A : Type 0} (r : Rule) (first : A → TokenKind) (xs : List A) → r.distinct ≡ false → length xs ≤ r.limit → AreFaultless r [] (map first xs)
fine_if_few r first xs any h = few_fine r any [] (map first xs) (omega (arith, length-map xs first))

-- ---- different items, as a test tells them apart
abbrev pub differ : {A : Type 0} → (A → A → Bool) → List A → Bool
differ same_item [] = true
differ same_item (x ∷ xs) = not (list_any (same_item x) xs) && differ same_item xs

-- none of the ones is among the others
abbrev are_apart : {A : Type 0} → (A → A → Bool) → List A → List A → Bool
are_apart same_item ones others = list_all (λ x. not (list_any (same_item x) others)) ones

neither : (x y : Bool) → (x || y) ≡ false → (x ≡ false) × (y ≡ false)
neither true y e = cc
neither false y e = (refl, e)

not_true : (b : Bool) → not b ≡ true → b ≡ false
not_true true e = cc
not_true false e = refl

not_false : (b : Bool) → b ≡ false → not b ≡ true
not_false b e = ap not e

module _ {A : Type 0} (same_item : A → A → Bool) where
  apart_nil : (ones : List A) → are_apart same_item ones [] ≡ true
  apart_nil [] = refl
  apart_nil (x ∷ ones) = apart_nil ones

  apart_more : (ones : List A) (n : A) (others : List A) → list_any (λ x. same_item x n) ones ≡ false → are_apart same_item ones others ≡ true → are_apart same_item ones (n ∷ others) ≡ true
  apart_more [] n others e a = refl
  apart_more (x ∷ ones) n others e a =
      let p = neither (same_item x n) (list_any (λ y. same_item y n) ones) e in
      let q = and_parts (not (list_any (same_item x) others)) (are_apart same_item ones others) a in
      and_from (not (same_item x n || list_any (same_item x) others)) (are_apart same_item ones (n ∷ others)) (ap (λ b. not (b || list_any (same_item x) others)) p.0 ∙ q.0) (apart_more ones n others p.1 q.1)

  apart_less : (ones : List A) (n : A) (others : List A) → are_apart same_item ones (n ∷ others) ≡ true → (list_any (λ x. same_item x n) ones ≡ false) × (are_apart same_item ones others ≡ true)
  apart_less [] n others a = (refl, refl)
  apart_less (x ∷ ones) n others a =
      let q = and_parts (not (same_item x n || list_any (same_item x) others)) (are_apart same_item ones (n ∷ others)) a in
      let p = neither (same_item x n) (list_any (same_item x) others) (not_true (same_item x n || list_any (same_item x) others) q.0) in
      let more = apart_less ones n others q.1 in
      (ap (λ b. b || list_any (λ y. same_item y n) ones) p.0 ∙ more.0, and_from (not (list_any (same_item x) others)) (are_apart same_item ones others) (not_false (list_any (same_item x) others) p.1) more.1)

  apart_push : (ones : List A) (n : A) (others : List A) → are_apart same_item (ones ++ n ∷ []) others ≡ (are_apart same_item ones others && (not (list_any (same_item n) others) && true))
  apart_push ones n others = list_all-append (λ x. not (list_any (same_item x) others)) ones (n ∷ [])

firsts_push : {A : Type 0} (first : A → TokenKind) (xs : List A) (n : A) → map first (xs ++ n ∷ []) ≡ map first xs ++ first n ∷ []
firsts_push first [] n = refl
firsts_push first (x ∷ xs) n = ap (λ ks. first x ∷ ks) (firsts_push first xs n)

-- items that their first tokens tell apart
module _ {A : Type 0} (same_item : A → A → Bool) (first : A → TokenKind) (tells : (x y : A) → same (first x) (first y) ≡ same_item x y) (limit : ℕ) where
  any_first : (xs : List A) (n : A) → list_any (λ k. same k (first n)) (map first xs) ≡ list_any (λ x. same_item x n) xs
  any_first [] n = refl
  any_first (x ∷ xs) n = ap (λ b. b || list_any (λ k. same k (first n)) (map first xs)) (tells x n) ∙ ap (λ b. same_item x n || b) (any_first xs n)

  fine_apart : (seen xs : List A) → AreFaultless (comma_separated limit true) (map first seen) (map first xs) → (differ same_item xs ≡ true) × (are_apart same_item seen xs ≡ true)
  fine_apart seen [] f = (refl, apart_nil same_item seen)
  fine_apart seen (n ∷ xs) f =
      let m = unmarked (list_any (λ k. same k (first n)) (map first seen)) (length (map first seen)) limit f.0 in
      let more = fine_apart (seen ++ n ∷ []) xs (subst (λ (ks : List TokenKind). AreFaultless (comma_separated limit true) ks (map first xs)) (sym (firsts_push first seen n)) f.1) in
      let q = and_parts (are_apart same_item seen xs) (not (list_any (same_item n) xs) && true) (sym (apart_push same_item seen n xs) ∙ more.1) in
      let new = and_parts (not (list_any (same_item n) xs)) true q.1 in
      (and_from (not (list_any (same_item n) xs)) (differ same_item xs) new.0 more.0, apart_more same_item seen n xs (sym (any_first seen n) ∙ m.0) q.0)

  apart_fine : (seen xs : List A) → length seen + length xs ≤ limit → differ same_item xs ≡ true → are_apart same_item seen xs ≡ true → AreFaultless (comma_separated limit true) (map first seen) (map first xs)
  apart_fine seen [] h d a = tt
  apart_fine seen (n ∷ xs) h d a =
      let p = and_parts (not (list_any (same_item n) xs)) (differ same_item xs) d in
      let q = apart_less same_item seen n xs a in
      let count : length (map first seen) ≡ length seen = length-map seen first in (
        mark_none (list_any (λ k. same k (first n)) (map first seen)) (length (map first seen)) limit (any_first seen n ∙ q.0) (omega arith),
        subst (λ (ks : List TokenKind). AreFaultless (comma_separated limit true) ks (map first xs)) (firsts_push first seen n)
            (apart_fine (seen ++ n ∷ []) xs (omega (arith, length-append seen (n ∷ []))) p.1
            (apart_push same_item seen n xs ∙ and_from (are_apart same_item seen xs) (not (list_any (same_item n) xs) && true) q.1 (and_from (not (list_any (same_item n) xs)) true p.0 refl))),
      )

  pub differ_if_fine : (xs : List A) → AreFaultless (comma_separated limit true) [] (map first xs) → differ same_item xs ≡ true
  differ_if_fine xs f = (fine_apart [] xs f).0

  pub fine_if_differ : (xs : List A) → length xs ≤ limit → differ same_item xs ≡ true → AreFaultless (comma_separated limit true) [] (map first xs)
  fine_if_differ xs h d = apart_fine [] xs (omega arith) d refl

-- ---- items by their names
distinct_is : {A : Type 0} (name_of : A → List ℕ) (xs : List A) → are_distinct (map name_of xs) ≡ differ (λ x y. same_name (name_of x) (name_of y)) xs
distinct_is name_of [] = refl
distinct_is {A = A} name_of (x ∷ xs) = ap (λ b. not b && are_distinct (map name_of xs)) (any_of xs) ∙ ap (λ b. not (list_any (λ y. same_name (name_of x) (name_of y)) xs) && b) (distinct_is name_of xs)
  where
    any_of : (ys : List A) → list_any (same_name (name_of x)) (map name_of ys) ≡ list_any (λ y. same_name (name_of x) (name_of y)) ys
    any_of [] = refl
    any_of (y ∷ ys) = ap (λ b. same_name (name_of x) (name_of y) || b) (any_of ys)

pub distinct_if_fine : {A : Type 0} (limit : ℕ) (name_of : A → List ℕ) (xs : List A) → AreFaultless (names_rule limit) [] (map (λ x. kinds.Name (name_of x)) xs) → are_distinct (map name_of xs) ≡ true
distinct_if_fine limit name_of xs f = distinct_is name_of xs ∙ differ_if_fine (λ x y. same_name (name_of x) (name_of y)) (λ x. kinds.Name (name_of x)) (λ x y. refl) limit xs f

pub fine_if_distinct : {A : Type 0} (limit : ℕ) (name_of : A → List ℕ) (xs : List A) → length xs ≤ limit → are_distinct (map name_of xs) ≡ true → AreFaultless (names_rule limit) [] (map (λ x. kinds.Name (name_of x)) xs)
fine_if_distinct limit name_of xs h d = fine_if_differ (λ x y. same_name (name_of x) (name_of y)) (λ x. kinds.Name (name_of x)) (λ x y. refl) limit xs h (sym (distinct_is name_of xs) ∙ d)

-- ---- privileges by their words
abbrev word_kind : Privilege → TokenKind
word_kind p = kinds.Keyword (word_keyword (word_of p))

different_is : (ps : List Privilege) → are_different ps ≡ differ same_word ps
different_is [] = refl
different_is (p ∷ ps) = ap (λ b. not (list_any (same_word p) ps) && b) (different_is ps)

pub different_if_fine : (ps : List Privilege) → AreFaultless privileges_rule [] (map word_kind ps) → are_different ps ≡ true
different_if_fine ps f = different_is ps ∙ differ_if_fine same_word word_kind (λ x y. refl) 4 ps f

pub fine_if_different : (ps : List Privilege) → length ps ≤ 4 → are_different ps ≡ true → AreFaultless privileges_rule [] (map word_kind ps)
fine_if_different ps h d = fine_if_differ same_word word_kind (λ x y. refl) 4 ps h (sym (different_is ps) ∙ d)

-- as many as the rule allows
pub few_if_fine : {A : Type 0} (r : Rule) (first : A → TokenKind) (xs : List A) → AreFaultless r [] (map first xs) → length xs ≤ r.limit
few_if_fine r first xs f = let h = fine_few r [] (map first xs) f (omega arith) in omega (arith, h, length-map xs first)
