-- Items of lists by their places.
use Rattle.std.proofs.Common.{◌≡◌, ℕ, zero, suc, ◌+◌, ◌-◌, ◌<◌, ◌≤◌, Bool, true, false, cond, nat_lt, get_or, subst, MatchOption, length, List, [], ◌∷◌, ◌++◌, take, drop, map, Option, Some, None, refl, sym, ap, ◌∙◌, arith, zero-add, append-nil}
use Rattle.std.specs.List.{slice_get, flat_map, zip, find, position, position_or_len}
use Rattle.std.specs.Option.{option_to_list}
use Rattle.std.proofs.lemmas.Bool.Decides.{nat_tests}
use Rattle.std.proofs.lemmas.List.Folds.{find_at}
use Rattle.std.proofs.lemmas.Option.{same_Some, cond_some, slice_get_within, slice_get_past, slice_get-get_or, get_or_from_slice_get}
use Rattle.std.proofs.lemmas.List.{take_more, drop_more, take_all, length-append, length-map}
use Rattle.std.proofs.lemmas.List.Concat.{flat_map-append}

pub slice_get-append_left : {X : Type 0} (xs ys : List X) (i : ℕ) (x : X) → slice_get xs i ≡ Some x → slice_get (xs ++ ys) i ≡ Some x
slice_get-append_left [] ys i x found = cc
slice_get-append_left (z ∷ xs) ys zero x found = found
slice_get-append_left (z ∷ xs) ys (suc i) x found = slice_get-append_left xs ys i x found

pub slice_get-append_right : {X : Type 0} (xs ys : List X) (i : ℕ) → slice_get (xs ++ ys) (length xs + i) ≡ slice_get ys i
slice_get-append_right [] ys i = ap (slice_get ys) (zero-add i)
slice_get-append_right (x ∷ xs) ys i =
    let further : suc (length xs) + i ≡ suc (length xs + i) = omega arith in
    ap (slice_get (x ∷ (xs ++ ys))) further ∙ slice_get-append_right xs ys i

pub slice_get-drop : {X : Type 0} (xs : List X) (n i : ℕ) → slice_get (drop n xs) i ≡ slice_get xs (n + i)
slice_get-drop xs zero i = ap (slice_get xs) (sym (zero-add i))
slice_get-drop [] (suc n) i = refl
slice_get-drop (x ∷ xs) (suc n) i =
    let further : suc n + i ≡ suc (n + i) = omega arith in
    slice_get-drop xs n i ∙ sym (ap (slice_get (x ∷ xs)) further)

pub take_next : {X : Type 0} (xs : List X) (i : ℕ) (x : X) → slice_get xs i ≡ Some x → take (i + 1) xs ≡ take i xs ++ x ∷ []
take_next xs i x found =
    take_more xs i x (slice_get_within xs i x found) ∙ ap (λ y. take i xs ++ y ∷ []) (get_or_from_slice_get xs i x x found)

pub drop_next : {X : Type 0} (xs : List X) (i : ℕ) (x : X) → slice_get xs i ≡ Some x → drop i xs ≡ x ∷ drop (i + 1) xs
drop_next xs i x found =
    drop_more xs i x (slice_get_within xs i x found) ∙ ap (λ y. y ∷ drop (i + 1) xs) (get_or_from_slice_get xs i x x found)

past : {X : Type 0} (xs : List X) (i : ℕ) → slice_get xs i ≡ None → length xs ≤ i
past [] i none = omega arith
past (x ∷ xs) zero none = cc
past (x ∷ xs) (suc i) none = omega (arith, past xs i none)

pub take_past : {X : Type 0} (xs : List X) (i : ℕ) → slice_get xs i ≡ None → take i xs ≡ xs
take_past xs i none = take_all i xs (past xs i none)

-- pieces one behind another: an item of a piece stands behind the pieces before it
pub slice_get-flat_map : {X Y : Type 0} (f : X → List Y) (xs : List X) (i j : ℕ) (x : X) (y : Y) → slice_get xs i ≡ Some x → slice_get (f x) j ≡ Some y
    → slice_get (flat_map f xs) (length (flat_map f (take i xs)) + j) ≡ Some y
slice_get-flat_map f [] i j x y found within = cc
slice_get-flat_map f (z ∷ xs) zero j x y found within =
    let same : z ≡ x = same_Some z x found in
    ap (slice_get (f z ++ flat_map f xs)) (zero-add j) ∙ slice_get-append_left (f z) (flat_map f xs) j y (ap (λ w. slice_get (f w) j) same ∙ within)
slice_get-flat_map f (z ∷ xs) (suc i) j x y found within =
    let further : length (f z ++ flat_map f (take i xs)) + j ≡ length (f z) + (length (flat_map f (take i xs)) + j) = omega (arith, length-append (f z) (flat_map f (take i xs))) in
    ap (slice_get (f z ++ flat_map f xs)) further
    ∙ slice_get-append_right (f z) (flat_map f xs) (length (flat_map f (take i xs)) + j)
    ∙ slice_get-flat_map f xs i j x y found within

-- and one piece more
pub length-flat_map_next : {X Y : Type 0} (f : X → List Y) (xs : List X) (i : ℕ) (x : X) → slice_get xs i ≡ Some x
    → length (flat_map f (take (i + 1) xs)) ≡ length (flat_map f (take i xs)) + length (f x)
length-flat_map_next f xs i x found =
    ap (λ l. length (flat_map f l)) (take_next xs i x found)
    ∙ ap length (flat_map-append f (take i xs) (x ∷ []))
    ∙ length-append (flat_map f (take i xs)) (f x ++ [])
    ∙ ap (λ l. length (flat_map f (take i xs)) + length l) (append-nil (f x))

pub slice_get-zip : {X Y : Type 0} (xs : List X) (ys : List Y) (i : ℕ) (x : X) (y : Y) → slice_get xs i ≡ Some x → slice_get ys i ≡ Some y
    → slice_get (zip xs ys) i ≡ Some (x, y)
slice_get-zip [] ys i x y one other = cc
slice_get-zip (a ∷ xs) [] i x y one other = cc
slice_get-zip (a ∷ xs) (b ∷ ys) zero x y one other = ap (λ z. Some (z, b)) (same_Some a x one) ∙ ap (λ z. Some (x, z)) (same_Some b y other)
slice_get-zip (a ∷ xs) (b ∷ ys) (suc i) x y one other = slice_get-zip xs ys i x y one other

pub slice_get-zip_past : {X Y : Type 0} (xs : List X) (ys : List Y) (i : ℕ) → slice_get ys i ≡ None → slice_get (zip xs ys) i ≡ None
slice_get-zip_past [] ys i none = refl
slice_get-zip_past (a ∷ xs) [] i none = refl
slice_get-zip_past (a ∷ xs) (b ∷ ys) zero none = cc
slice_get-zip_past (a ∷ xs) (b ∷ ys) (suc i) none = slice_get-zip_past xs ys i none

-- two lists side by side are no longer than the second
pub length-zip : {X Y : Type 0} (xs : List X) (ys : List Y) → length (zip xs ys) ≤ length ys
length-zip [] ys = omega arith
length-zip (x ∷ xs) [] = omega arith
length-zip (x ∷ xs) (y ∷ ys) = omega (arith, length-zip xs ys)

-- what is made of pairs is no more than there are second items
pub length-map_zip : {X Y Z : Type 0} (f : X × Y → Z) (xs : List X) (ys : List Y) (zs : List Z) → zs ≡ map f (zip xs ys) → length zs ≤ length ys
length-map_zip f xs ys zs is = omega (arith, ap length is, length-map (zip xs ys) f, length-zip xs ys)

-- items beside what is made of the first of them
pub zip-map_take : {X Y : Type 0} (f : X → Y) (n : ℕ) (xs : List X) → zip xs (map f (take n xs)) ≡ map (λ x. (x, f x)) (take n xs)
zip-map_take f zero [] = refl
zip-map_take f zero (x ∷ xs) = refl
zip-map_take f (suc n) [] = refl
zip-map_take f (suc n) (x ∷ xs) = ap (λ l. (x, f x) ∷ l) (zip-map_take f n xs)

-- what is made of what was made of each item
pub map-made : {X Y Z : Type 0} (f : X → Y) (g : Y → Z) (xs : List X) → map g (map f xs) ≡ map (λ x. g (f x)) xs
map-made f g [] = refl
map-made f g (x ∷ xs) = ap (λ l. g (f x) ∷ l) (map-made f g xs)

-- the first item that passes, as a list
head_of : {X : Type 0} (xs : List X) (i : ℕ) → take 1 (drop i xs) ≡ option_to_list (slice_get xs i)
head_of [] zero = refl
head_of [] (suc i) = refl
head_of (x ∷ xs) zero = refl
head_of (x ∷ xs) (suc i) = head_of xs i

pub position-found : {X : Type 0} (p : X → Bool) (xs : List X) (i : ℕ) → position p xs ≡ Some i → take (i + 1 - i) (drop i xs) ≡ option_to_list (find p xs)
position-found p xs i at =
    let place : position_or_len p xs ≡ i = (cond_some _ _ _ at).1 in
    let one : i + 1 - i ≡ 1 = omega arith in
    ap (λ n. take n (drop i xs)) one ∙ head_of xs i ∙ ap option_to_list (ap (slice_get xs) (sym place) ∙ sym (find_at p xs))

none_below : (b : Bool) (n : ℕ) → cond b (Some n) None ≡ None → b ≡ false
none_below true n none = cc
none_below false n none = refl

pub position-missed : {X : Type 0} (p : X → Bool) (xs : List X) → position p xs ≡ None → option_to_list (find p xs) ≡ []
position-missed p xs none =
    let test : nat_lt (position_or_len p xs) (length xs) ≡ false = none_below _ (position_or_len p xs) none in
    let behind : length xs ≤ position_or_len p xs = grind (arith, nat_tests) in
    ap option_to_list (find_at p xs ∙ slice_get_past xs (position_or_len p xs) behind)

pub slice_get-index : {X : Type 0} (xs : List X) (i : ℕ) (x : X) → x ≡ get_or xs i x → i < length xs → slice_get xs i ≡ Some x
slice_get-index xs i x read within = slice_get-get_or xs i x within ∙ ap Some (sym read)

pub MatchOption-some : {X : Type 0} (o : Option X) (P : Type 0) (Q : X → Type 0) (x : X) → o ≡ Some x → Q x → MatchOption o P Q
MatchOption-some o P Q x is holds = subst (λ v. MatchOption v P Q) (sym is) holds

-- for each item of a list at a place, or none
pub MatchOption-each : {X : Type 0} (o : Option X) (P : Type 0) (Q : X → Type 0) → P → ((x : X) → Q x) → MatchOption o P Q
MatchOption-each None P Q p q = p
MatchOption-each (Some x) P Q p q = q x
