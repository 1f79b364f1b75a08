-- A word is compared with the keyword of its first letter and its length alone.
use Rattle.std.proofs.Common.{◌≡◌, ℕ, Bool, true, false, cond, List, [], ◌∷◌, length, slice_index, slice_get, Some, None, refl, sym, ◌∙◌, ap}
use Rattle.std.proofs.lemmas.Bool.{and_from}
use Rattle.std.proofs.lemmas.List.{length-map}
use Rattle.std.proofs.lemmas.Slice.Eq.{bytes_eq-Decides}
use Rattle.std.proofs.lemmas.Bool.Decides.{Decides-eqb}
use Rattle.std.specs.Char.{to_ascii_lowercase}
use Rattle.std.specs.List.{filter, find}
use Rattle.base_core.specs.Words.{all_keywords, folded, is_alike, is_spelled_by, keyword_of, text_of}
use Rattle.base_core.specs.declared.keyword.Keyword.{Keyword}

module _ {X : Type 0} (p q : X → Bool) where
  one_item : (x : X) (ys xs : List X) (a b : Bool) → p x ≡ a → (a ≡ true → b ≡ true) → find p ys ≡ find p xs → find p (cond b (x ∷ ys) ys) ≡ cond a (Some x) (find p xs)
  one_item x ys xs true true e h r = ap (λ t. cond t (Some x) (find p ys)) e
  one_item x ys xs true false e h r = let clash : false ≡ true = h refl in cc clash
  one_item x ys xs false true e h r = ap (λ t. cond t (Some x) (find p ys)) e ∙ r
  one_item x ys xs false false e h r = r

  -- what a test finds stands among the items of each weaker test
  find-filter : ((x : X) → p x ≡ true → q x ≡ true) → (xs : List X) → find p (filter q xs) ≡ find p xs
  find-filter h [] = refl
  find-filter h (x ∷ xs) = one_item x (filter q xs) xs (p x) (q x) refl (h x) (find-filter h xs)

spelled_alike : (word : List ℕ) (k : Keyword) → is_spelled_by word k ≡ true → is_alike (slice_index (folded word) 0) (length word) k ≡ true
spelled_alike word k h =
    let same = (bytes_eq-Decides (folded (text_of k)) (folded word)).0 h in
    let long : length (text_of k) ≡ length word = sym (length-map (text_of k) to_ascii_lowercase) ∙ (ap length same ∙ length-map word to_ascii_lowercase) in
    and_from _ _ ((Decides-eqb _ _).1 (ap (λ w. slice_index w 0) same)) ((Decides-eqb _ _).1 long)

-- a keyword that a word spells is alike
alike : (word : List ℕ) → find (is_spelled_by word) (filter (is_alike (slice_index (folded word) 0) (length word)) all_keywords) ≡ keyword_of word
unfolding keyword_of
alike word = find-filter (is_spelled_by word) (is_alike (slice_index (folded word) 0) (length word)) (spelled_alike word) all_keywords

-- these keywords are alike
module _ (word : List ℕ) (few : List Keyword) (are : few ≡ filter (is_alike (slice_index (folded word) 0) (length word)) all_keywords) where
  pub found_alike : find (is_spelled_by word) few ≡ keyword_of word
  found_alike = ap (find (is_spelled_by word)) are ∙ alike word

-- this one is alike, and no other
module _ (word : List ℕ) (k : Keyword) (one : k ∷ [] ≡ filter (is_alike (slice_index (folded word) 0) (length word)) all_keywords) where
  found_or_not : (b : Bool) → is_spelled_by word k ≡ b → cond b (Some k) None ≡ keyword_of word
  found_or_not b e = sym (ap (λ t. cond t (Some k) None) e) ∙ found_alike word (k ∷ []) one

  pub spelled : is_spelled_by word k ≡ true → Some k ≡ keyword_of word
  spelled e = found_or_not true e

  pub not_spelled : is_spelled_by word k ≡ false → None ≡ keyword_of word
  not_spelled e = found_or_not false e

pub no_initial : (word : List ℕ) → None ≡ slice_get word 0 → None ≡ keyword_of word
unfolding keyword_of all_keywords
no_initial [] e = refl
no_initial (x ∷ word) e = cc e

pub initial_of : (word : List ℕ) (first : ℕ) → Some first ≡ slice_get word 0 → to_ascii_lowercase first ≡ slice_index (folded word) 0
initial_of [] first e = cc e
initial_of (x ∷ word) first e = cc e
