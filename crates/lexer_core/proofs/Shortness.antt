-- No keyword and no name has more than 30 bytes.
use Rattle.std.proofs.Common.{◌≡◌, ℕ, ◌≤◌, Bool, true, false, cond, ◌&&◌, List, [], ◌∷◌, Option, Some, None, length, refl, sym, ◌∙◌, ap, arith}
use Rattle.std.proofs.lemmas.Bool.{and_parts}
use Rattle.std.proofs.lemmas.Bool.Decides.{nat_tests}
use Rattle.std.proofs.lemmas.List.{length-map}
use Rattle.std.proofs.lemmas.Slice.Eq.{bytes_eq-Decides}
use Rattle.std.specs.Prelude.{not, is_some, nat_le, if◌then◌else◌}
use Rattle.std.specs.List.{find, list_all}
use Rattle.std.specs.Char.{to_ascii_lowercase}
use Rattle.base_core.specs.declared.keyword.Keyword.{Keyword}
use Rattle.base_core.specs.Words.{is_word, is_name, is_spelled_by, text_of, folded, all_keywords, keyword_of, name_of}

module _ {X : Type 0} (p q : X → Bool) where
  found_by : (x y : X) (b c : Bool) (rest : Option X) → p x ≡ b → q x ≡ true → cond b (Some x) rest ≡ Some y → (rest ≡ Some y → (p y ≡ true) × (q y ≡ true)) → (p y ≡ true) × (q y ≡ true)
  found_by x y true c rest e f g more = let same : x ≡ y = cc g in (ap p (sym same) ∙ e, ap q (sym same) ∙ f)
  found_by x y false c rest e f g more = more g

  -- what is found passes both tests
  found : (xs : List X) (y : X) → list_all q xs ≡ true → find p xs ≡ Some y → (p y ≡ true) × (q y ≡ true)
  found [] y a e = cc e
  found (x ∷ xs) y a e =
      let parts = and_parts (q x) (list_all q xs) a in
      found_by x y (p x) true (find p xs) refl parts.0 e (found xs y parts.1)

at_most : (a b : ℕ) → nat_le a b ≡ true → a ≤ b
at_most a b h = grind (arith, nat_tests)

is_short : Keyword → Bool
is_short k = nat_le (length (text_of k)) 30

all_short : list_all is_short all_keywords ≡ true
unfolding all_keywords is_short
all_short = refl

pub keyword_short : (word : List ℕ) (k : Keyword) → keyword_of word ≡ Some k → length word ≤ 30
unfolding keyword_of is_short
keyword_short word k e =
    let f = found (is_spelled_by word) is_short all_keywords k all_short e in
    let same : folded (text_of k) ≡ folded word = (bytes_eq-Decides (folded (text_of k)) (folded word)).0 f.0 in
    let short : length (text_of k) ≤ 30 = at_most (length (text_of k)) 30 f.1 in
    omega (arith, ap length same, length-map word to_ascii_lowercase, length-map (text_of k) to_ascii_lowercase)

named_by : (b : Bool) (w n : List ℕ) → (if b then Some w else None) ≡ Some n → b ≡ true
named_by true w n e = refl
named_by false w n e = cc e

pub name_short : (word n : List ℕ) → name_of word ≡ Some n → length word ≤ 30
name_short word n e =
    let named = named_by (is_name word) (folded word) n e in
    let front = (and_parts (is_word word && nat_le (length word) 30) (not (is_some (keyword_of word))) named).0 in
    at_most (length word) 30 (and_parts (is_word word) (nat_le (length word) 30) front).1
