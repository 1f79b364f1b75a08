-- What is read is what was spelled, and what was spelled is read: of each field by itself, and so of
-- fields one after another.
use Rattle.std.proofs.Common.{◌≡◌, ℕ, zero, suc, ◌+◌, ◌^◌, ◌<◌, ◌≤◌, Bool, true, false, cond, eqb, ltb, List, [], ◌∷◌, ◌++◌, length, get_or, take, drop, Option, Some, None, refl, sym, ap, subst, ◌∙◌, append_assoc, arith, inl, inr}
use Rattle.std.specs.List.{flat_map, AllByRecursion}
use Rattle.std.specs.Option.{option_map_or}
use Rattle.std.specs.Int.{Width, w16, w32, byte_len, from_be_bytes, to_be_bytes}
use Rattle.std.proofs.lemmas.Bool.{cases_lt, ltb-false, le-ltb, eqb-true}
use Rattle.std.proofs.lemmas.List.{append-nil, take_at, drop_at, take-append-drop, length-append, length-take, get_or-drop, get_or-take, get_or_past, nil_from_length}
use Rattle.std.proofs.lemmas.List.Concat.{flat_map-cons}
use Rattle.std.proofs.lemmas.Nat.{be_bytes_2, be_bytes_4, from_be_bytes-to_be_bytes_2, from_be_bytes-to_be_bytes_4}
use Rattle.messages_core.specs.Fields.{int16, counted_items, IsCounted}
use Rattle.messages_core.specs.Reading.{◌>>=◌, FieldReader, number_at, both_at, items_in, past_items, items_at, counted_at, whole}

abbrev pub IsBytes : List ℕ → Type 0
IsBytes bytes = (i : ℕ) → get_or bytes i 0 < 256

pub IsBytes-drop : (n : ℕ) (bytes : List ℕ) → IsBytes bytes → IsBytes (drop n bytes)
IsBytes-drop n bytes h i = rw get_or-drop (h (n + i))

pub IsBytes-take : (n : ℕ) (bytes : List ℕ) → IsBytes bytes → IsBytes (take n bytes)
IsBytes-take n bytes h i =
    elim (cases_lt i n) [
      | inl lt ↦ rw (get_or-take n bytes i 0 lt) (h i)
      | inr le ↦ rw (get_or_past (take n bytes) i 0 (omega (arith, length-take n bytes))) (omega arith)
    ]

-- the value of a step that gave one
pub bind_some : {A B : Type 0} (r : Option A) (f : A → Option B) (y : B) → (r >>= f) ≡ Some y
    → (x : A) × (r ≡ Some x) × (f x ≡ Some y)
bind_some (Some x) f y e = (x, refl, e)
bind_some None f y e = absurd cc

-- a test that was passed
pub guard_some : {A : Type 0} (b : Bool) (x y : A) → cond b None (Some x) ≡ Some y → (b ≡ false) × (x ≡ y)
guard_some true x y e = absurd cc
guard_some false x y e = (refl, cc)

pub guard_met : {A : Type 0} (b : Bool) (x y : A) → cond b (Some x) None ≡ Some y → (b ≡ true) × (x ≡ y)
guard_met true x y e = (refl, cc)
guard_met false x y e = absurd cc

abbrev given : {A : Type 0} → A → Option A
given x = Some x

pub some_is : {A : Type 0} (x y : A) → given x ≡ given y → x ≡ y
some_is x y e = cc

-- a field that was taken from the front
pub record Takes {A : Type 0} (spell : A → List ℕ) (P : A → Type 0) (bytes : List ℕ) (x : A)
    (rest : List ℕ) : Type 0 where
  pub parts : bytes ≡ spell x ++ rest
  pub fits : P x
  pub rest_fits : IsBytes rest

-- a reader of fields that are spelled so
pub record IsField {A : Type 0} (at : FieldReader A) (spell : A → List ℕ) (P : A → Type 0) : Type 0 where
  pub takes : (bytes : List ℕ) (x : A) (rest : List ℕ) → IsBytes bytes → at bytes ≡ Some (x, rest)
      → Takes spell P bytes x rest
  pub again : (x : A) (rest : List ℕ) → P x → at (spell x ++ rest) ≡ Some (x, rest)

-- ---- numbers

pub record IsWide (w : Width) (limit : ℕ) : Type 0 where
  pub len : (n : ℕ) → length (to_be_bytes w n) ≡ byte_len w
  pub back : (bytes : List ℕ) → length bytes ≡ byte_len w → IsBytes bytes → to_be_bytes w (from_be_bytes w bytes) ≡ bytes
  pub again : (n : ℕ) → n < limit → from_be_bytes w (to_be_bytes w n) ≡ n
  pub below : (bytes : List ℕ) → IsBytes bytes → from_be_bytes w bytes < limit

pub wide16 : IsWide w16 (2 ^ 16)
wide16 = record {
  len = λ n. refl;
  back = λ bytes len fits. be_bytes_2 bytes _ len fits refl;
  again = λ n lt. from_be_bytes-to_be_bytes_2 n lt;
  below = λ bytes fits. omega (arith, fits 0, fits 1);
}

pub wide32 : IsWide w32 (2 ^ 32)
wide32 = record {
  len = λ n. refl;
  back = λ bytes len fits. be_bytes_4 bytes _ len fits refl;
  again = λ n lt. from_be_bytes-to_be_bytes_4 n lt;
  below = λ bytes fits. omega (arith, fits 0, fits 1, fits 2, fits 3);
}

number_takes : (w : Width) (limit : ℕ) (wide : IsWide w limit) (bytes : List ℕ) (n : ℕ) (rest : List ℕ) → IsBytes bytes
    → number_at w bytes ≡ Some (n, rest) → Takes (to_be_bytes w) (λ m. m < limit) bytes n rest
number_takes w limit wide bytes n rest fits e =
    let size = byte_len w in
    let g = guard_some (ltb (length bytes) size) (from_be_bytes w (take size bytes), drop size bytes) (n, rest) e in
    let long : size ≤ length bytes = ltb-false _ _ g.0 in
    let n-is : from_be_bytes w (take size bytes) ≡ n = ap (λ (p : ℕ × List ℕ). p.0) g.1 in
    let rest-is : drop size bytes ≡ rest = ap (λ (p : ℕ × List ℕ). p.1) g.1 in
    let front_fits : IsBytes (take size bytes) = IsBytes-take size bytes fits in
    let front : to_be_bytes w n ≡ take size bytes = rw (← n-is) (wide.back (take size bytes) (omega (arith, length-take size bytes)) front_fits) in
    record {
      parts = rw (front, ← rest-is) (sym (take-append-drop size bytes));
      fits = rw (← n-is) (wide.below (take size bytes) front_fits);
      rest_fits = rw (← rest-is) (IsBytes-drop size bytes fits);
    }

number_again : (w : Width) (limit : ℕ) (wide : IsWide w limit) (n : ℕ) (rest : List ℕ) → n < limit
    → number_at w (to_be_bytes w n ++ rest) ≡ Some (n, rest)
number_again w limit wide n rest lt =
    let len = wide.len n in
    let long : ltb (length (to_be_bytes w n ++ rest)) (byte_len w) ≡ false = le-ltb _ _ (omega (arith, length-append (to_be_bytes w n) rest)) in
    rw (long, take_at (to_be_bytes w n) rest (byte_len w) len, drop_at (to_be_bytes w n) rest (byte_len w) len, wide.again n lt) refl

pub number_field : (w : Width) (limit : ℕ) → IsWide w limit → IsField (number_at w) (to_be_bytes w) (λ m. m < limit)
number_field w limit wide = record { takes = number_takes w limit wide; again = number_again w limit wide }

-- ---- one field and another

module _ {A B : Type 0} (first : FieldReader A) (spell_first : A → List ℕ) (P : A → Type 0)
    (second : FieldReader B) (spell_second : B → List ℕ) (Q : B → Type 0)
    (one : IsField first spell_first P) (two : IsField second spell_second Q) where
  abbrev pub spell_both : A × B → List ℕ
  spell_both x = spell_first x.0 ++ spell_second x.1

  abbrev pub Both : A × B → Type 0
  Both x = P x.0 × Q x.1

  both_takes : (bytes : List ℕ) (x : A × B) (rest : List ℕ) → IsBytes bytes
      → both_at first second bytes ≡ Some (x, rest) → Takes spell_both Both bytes x rest
  both_takes bytes x rest fits e =
      let a = bind_some (first bytes) (λ p. second p.1 >>= λ q. Some ((p.0, q.0), q.1)) (x, rest) e in
      let b = bind_some (second a.0.1) (λ q. Some ((a.0.0, q.0), q.1)) (x, rest) a.2 in
      let t = one.takes bytes a.0.0 a.0.1 fits a.1 in
      let u = two.takes a.0.1 b.0.0 b.0.1 t.rest_fits b.1 in
      let made : (A × B) × List ℕ = ((a.0.0, b.0.0), b.0.1) in
      subst (λ (y : (A × B) × List ℕ). Takes spell_both Both bytes y.0 y.1) (some_is made (x, rest) b.2)
      (record {
        parts = t.parts ∙ ap (λ (behind : List ℕ). spell_first a.0.0 ++ behind) u.parts
            ∙ sym (append_assoc (spell_first a.0.0) (spell_second b.0.0) b.0.1);
        fits = (t.fits, u.fits);
        rest_fits = u.rest_fits;
      })

  both_again : (x : A × B) (rest : List ℕ) → Both x → both_at first second (spell_both x ++ rest) ≡ Some (x, rest)
  both_again x rest h =
      ap (both_at first second) (append_assoc (spell_first x.0) (spell_second x.1) rest)
      ∙ rw (one.again x.0 (spell_second x.1 ++ rest) h.0, two.again x.1 rest h.1) refl

  pub both_field : IsField (both_at first second) spell_both Both
  both_field = record { takes = both_takes; again = both_again }

-- ---- lists

module _ {A : Type 0} (at : FieldReader A) (spell : A → List ℕ) (P : A → Type 0) (one : IsField at spell P) where
  -- what so many items take
  pub past_takes : (n : ℕ) (bytes rest : List ℕ) → IsBytes bytes → past_items at n bytes ≡ Some rest
      → Takes (flat_map spell) (AllByRecursion P) bytes (items_in at n bytes) rest × (length (items_in at n bytes) ≡ n)
  past_takes zero bytes rest fits e =
      (record { parts = some_is bytes rest e; fits = tt; rest_fits = subst IsBytes (some_is bytes rest e) fits }, refl)
  past_takes (suc n) bytes rest fits e =
      let a = bind_some (at bytes) (λ x. past_items at n x.1) rest e in
      let t = one.takes bytes a.0.0 a.0.1 fits a.1 in
      let more = past_takes n a.0.1 rest t.rest_fits a.2 in
      let items : items_in at (suc n) bytes ≡ a.0.0 ∷ items_in at n a.0.1 =
      ap (λ (read : Option (A × List ℕ)). option_map_or (λ x. x.0 ∷ items_in at n x.1) read []) a.1 in
      let parts : bytes ≡ flat_map spell (a.0.0 ∷ items_in at n a.0.1) ++ rest =
      t.parts ∙ ap (λ (behind : List ℕ). spell a.0.0 ++ behind) more.0.parts
      ∙ sym (append_assoc (spell a.0.0) (flat_map spell (items_in at n a.0.1)) rest)
      ∙ ap (λ (front : List ℕ). front ++ rest) (sym (flat_map-cons spell a.0.0 (items_in at n a.0.1))) in
      subst (λ (xs : List A). Takes (flat_map spell) (AllByRecursion P) bytes xs rest × (length xs ≡ suc n)) (sym items)
      (record { parts = parts; fits = (t.fits, more.0.fits); rest_fits = more.0.rest_fits }, ap suc more.1)

  pub past_again : (xs : List A) (rest : List ℕ) → AllByRecursion P xs
      → (past_items at (length xs) (flat_map spell xs ++ rest) ≡ Some rest)
      × (items_in at (length xs) (flat_map spell xs ++ rest) ≡ xs)
  past_again [] rest h = (refl, refl)
  past_again (x ∷ xs) rest h =
      let regrouped : flat_map spell (x ∷ xs) ++ rest ≡ spell x ++ (flat_map spell xs ++ rest) =
      ap (λ (front : List ℕ). front ++ rest) (flat_map-cons spell x xs) ∙ append_assoc (spell x) (flat_map spell xs) rest in
      let read = one.again x (flat_map spell xs ++ rest) h.0 in
      let more = past_again xs rest h.1 in (
        ap (past_items at (suc (length xs))) regrouped ∙ rw read more.0,
        ap (items_in at (suc (length xs))) regrouped ∙ rw read (ap (λ (ys : List A). x ∷ ys) more.1),
      )

  counted_takes : (bytes : List ℕ) (xs : List A) (rest : List ℕ) → IsBytes bytes
      → counted_at at bytes ≡ Some (xs, rest) → Takes (counted_items spell) (IsCounted P) bytes xs rest
  counted_takes bytes xs rest fits e =
      let a = bind_some (number_at w16 bytes) (λ n. items_at at n.0 n.1) (xs, rest) e in
      let b = bind_some (past_items at a.0.0 a.0.1) (λ behind. Some (items_in at a.0.0 a.0.1, behind)) (xs, rest) a.2 in
      let t = number_takes w16 (2 ^ 16) wide16 bytes a.0.0 a.0.1 fits a.1 in
      let u = past_takes a.0.0 a.0.1 b.0 t.rest_fits b.1 in
      let made : List A × List ℕ = (items_in at a.0.0 a.0.1, b.0) in
      subst (λ (y : List A × List ℕ). Takes (counted_items spell) (IsCounted P) bytes y.0 y.1) (some_is made (xs, rest) b.2)
      (record {
        parts = t.parts ∙ ap (λ (behind : List ℕ). int16 a.0.0 ++ behind) u.0.parts
            ∙ sym (append_assoc (int16 a.0.0) (flat_map spell made.0) b.0)
            ∙ ap (λ (k : ℕ). int16 k ++ flat_map spell made.0 ++ b.0) (sym u.1);
        fits = (subst (λ (k : ℕ). k < 2 ^ 16) (sym u.1) t.fits, u.0.fits);
        rest_fits = u.0.rest_fits;
      })

  counted_again : (xs : List A) (rest : List ℕ) → IsCounted P xs → counted_at at (counted_items spell xs ++ rest) ≡ Some (xs, rest)
  counted_again xs rest h =
      let more = past_again xs rest h.1 in
      ap (counted_at at) (append_assoc (int16 (length xs)) (flat_map spell xs) rest)
      ∙ rw (number_again w16 (2 ^ 16) wide16 (length xs) (flat_map spell xs ++ rest) h.0, more.0, more.1) refl

  pub counted_field : IsField (counted_at at) (counted_items spell) (IsCounted P)
  counted_field = record { takes = counted_takes; again = counted_again }

-- ---- all of the bytes

-- a reader of bodies that are spelled so
pub record IsBody {A : Type 0} (read : List ℕ → Option A) (spell : A → List ℕ) (P : A → Type 0) : Type 0 where
  pub takes : (body : List ℕ) (x : A) → IsBytes body → read body ≡ Some x → (body ≡ spell x) × P x
  pub again : (x : A) → P x → read (spell x) ≡ Some x

module _ {A : Type 0} (at : FieldReader A) (spell : A → List ℕ) (P : A → Type 0) (one : IsField at spell P) where
  whole_takes : (body : List ℕ) (x : A) → IsBytes body → whole (at body) ≡ Some x → (body ≡ spell x) × P x
  whole_takes body x fits e =
      let a = bind_some (at body) (λ y. cond (eqb (length y.1) 0) (Some y.0) None) x e in
      let g = guard_met (eqb (length a.0.1) 0) a.0.0 x a.2 in
      let t = one.takes body a.0.0 a.0.1 fits a.1 in
      let ended : a.0.1 ≡ [] = nil_from_length a.0.1 (eqb-true (length a.0.1) 0 g.0) in
      let parts : body ≡ spell a.0.0 = t.parts ∙ ap (λ (rest : List ℕ). spell a.0.0 ++ rest) ended ∙ append-nil (spell a.0.0) in
      subst (λ (y : A). (body ≡ spell y) × P y) g.1 (parts, t.fits)

  whole_again : (x : A) → P x → whole (at (spell x)) ≡ Some x
  whole_again x h = ap (λ (bytes : List ℕ). whole (at bytes)) (sym (append-nil (spell x))) ∙ rw (one.again x [] h) refl

  pub whole_body : IsBody (λ body. whole (at body)) spell P
  whole_body = record { takes = whole_takes; again = whole_again }
