-- Types that are told, one after another.
use Rattle.std.proofs.Common.{◌≡◌, ℕ, ◌+◌, ◌<◌, ◌≤◌, true, false, List, [], ◌∷◌, ◌++◌, Option, Some, None, length, drop, get_or, refl, sym, ◌∙◌, ap, arith, length-drop}
use Rattle.std.specs.Prelude.{MatchOption, is_some, unwrap_or}
use Rattle.std.proofs.lemmas.List.{drop_all, drop-drop, get_or-drop, get_or_past, length_push}
use Rattle.base_core.specs.declared.value.ColType.{ColType}
use Rattle.base_core.specs.declared.value.ColType.TheVariants as types
use Rattle.binding_core.specs.Telling.{AreNumbered, AreTold, AreWanted, AreTooMany, IsUnknownType, told_number, told_type, type_told}
use Rattle.binding_core.proofs.Pushes.{push_each}

-- these types are found, of the first places, and these numbers are left
pub record SoFar (told left : List ℕ) (guessed : List ColType) (k : ℕ) (wanted : List ColType) : Type 0 where
  pub left_are : left ≡ drop k told
  pub many : length wanted ≡ k
  pub each : AreTold told guessed wanted

pub none_yet : (told : List ℕ) (guessed : List ColType) → SoFar told told guessed 0 []
none_yet told guessed = record { left_are = refl; many = refl; each = λ k h. absurd (omega (arith, h)) }

-- what is told of the next place, and what is left then
abbrev pub IsNext : Option ℕ → List ℕ → List ℕ → Type 0
IsNext r left next = MatchOption r ((left ≡ []) × (next ≡ [])) (λ x. left ≡ x ∷ next)

next_told : (told left next : List ℕ) (k : ℕ) (r : Option ℕ) → left ≡ drop k told → IsNext r left next → (unwrap_or r 0 ≡ get_or told k 0) × (next ≡ drop (k + 1) told)
next_told told left next k None e h =
    let short : length told ≤ k = omega (arith, ap length e, ap length h.0, length-drop k told) in
    (sym (get_or_past told k 0 short), h.1 ∙ sym (drop_all (k + 1) told (omega (arith, short))))
next_told told left next k (Some x) e h =
    let zero_more : k + 0 ≡ k = omega arith in
    let first : x ≡ get_or told k 0 = sym (ap (λ (xs : List ℕ). get_or xs 0 0) (sym e ∙ h)) ∙ (get_or-drop k told 0 0 ∙ ap (λ (n : ℕ). get_or told n 0) zero_more) in
    (first, ap (drop 1) (sym h ∙ e) ∙ drop-drop 1 k told)

module _ (told left next : List ℕ) (guessed : List ColType) (k : ℕ) (wanted : List ColType) (s : SoFar told left guessed k wanted) (r : Option ℕ) (n : IsNext r left next) where
  module _ (guess : ColType) (within : k < length guessed) (here : (d : ColType) → guess ≡ get_or guessed k d) where
    told_here : told_type (unwrap_or r 0) guess ≡ type_told told guessed k
    told_here = ap (λ (oid : ℕ). told_type oid guess) (next_told told left next k r s.left_are n).0 ∙ ap (told_type (get_or told k 0)) (here types.Text)

    pub one_more : (ty : ColType) → told_type (unwrap_or r 0) guess ≡ Some ty → SoFar told next guessed (k + 1) (wanted ++ ty ∷ [])
    one_more ty e = record {
      left_are = (next_told told left next k r s.left_are n).1;
      many = length_push wanted ty ∙ ap (λ (m : ℕ). m + 1) s.many;
      each = push_each (λ (m : ℕ) (t : ColType). type_told told guessed m ≡ Some t) types.Text wanted ty s.each (ap (type_told told guessed) s.many ∙ (sym told_here ∙ e));
    }

    pub unknown_here : told_type (unwrap_or r 0) guess ≡ None → IsUnknownType told guessed (unwrap_or r 0)
    unknown_here e = record {
      before = wanted;
      each = s.each;
      within = omega (arith, s.many, within);
      here = (next_told told left next k r s.left_are n).0 ∙ ap (λ (m : ℕ). get_or told m 0) (sym s.many);
      unknown = ap (type_told told guessed) s.many ∙ (sym told_here ∙ e);
    }

  module _ (all : k ≡ length guessed) where
    more_left : (q : Option ℕ) → IsNext q left next → is_some q ≡ true → length guessed < length told
    more_left None h e = absurd (cc)
    more_left (Some x) h e = omega (arith, all, ap length h, ap length s.left_are, length-drop k told)

    none_left : (q : Option ℕ) → IsNext q left next → is_some q ≡ false → length told ≤ length guessed
    none_left None h e = omega (arith, all, ap length h.0, ap length s.left_are, length-drop k told)
    none_left (Some x) h e = absurd (cc)

    pub too_many : is_some r ≡ true → AreTooMany told guessed
    too_many e = record { wanted = wanted; all = s.many ∙ all; each = s.each; more = more_left r n e }

    pub all_wanted : is_some r ≡ false → AreWanted told guessed wanted
    all_wanted e = record { all = s.many ∙ all; each = s.each; no_more = none_left r n e }

-- these numbers are found, of the first places, and these that were told are left
pub record NumberedSoFar (told left : List ℕ) (types : List ColType) (k : ℕ) (numbers : List ℕ) : Type 0 where
  pub left_are : left ≡ drop k told
  pub many : length numbers ≡ k
  pub each : AreNumbered told types numbers

pub none_numbered : (told : List ℕ) (types : List ColType) → NumberedSoFar told told types 0 []
none_numbered told types = record { left_are = refl; many = refl; each = λ k h. absurd (omega (arith, h)) }

pub one_more_number : (told left next : List ℕ) (ts : List ColType) (k : ℕ) (numbers : List ℕ) → NumberedSoFar told left ts k numbers
    → (r : Option ℕ) → IsNext r left next → (ty : ColType) → ty ≡ get_or ts k types.Text
    → NumberedSoFar told next ts (k + 1) (numbers ++ told_number (unwrap_or r 0) ty ∷ [])
one_more_number told left next ts k numbers s r n ty here =
    let step = next_told told left next k r s.left_are n in
    let number = told_number (unwrap_or r 0) ty in
    let is : number ≡ told_number (get_or told k 0) (get_or ts k types.Text) =
    ap (λ (oid : ℕ). told_number oid ty) step.0 ∙ ap (told_number (get_or told k 0)) here in
    record {
      left_are = step.1;
      many = length_push numbers number ∙ ap (λ (m : ℕ). m + 1) s.many;
      each = push_each (λ (m : ℕ) (x : ℕ). x ≡ told_number (get_or told m 0) (get_or ts m types.Text)) 0 numbers number s.each
          (is ∙ ap (λ (m : ℕ). told_number (get_or told m 0) (get_or ts m types.Text)) (sym s.many));
    }
