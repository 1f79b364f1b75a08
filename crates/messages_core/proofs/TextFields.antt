-- Texts, values and parameters: what is read is what was spelled, and what was spelled is read.
use Rattle.std.proofs.Common.{◌≡◌, ◌≢◌, ℕ, zero, suc, ◌^◌, ◌<◌, ◌≤◌, Bool, true, false, cond, eqb, ltb, List, [], ◌∷◌, ◌++◌, length, take, drop, Option, Some, None, refl, sym, ap, subst, ◌∙◌, append_assoc, arith}
use Rattle.std.specs.Int.{w32}
use Rattle.std.proofs.lemmas.Bool.{ltb-false, le-ltb, eqb-true, eqb-false, ne_eqb}
use Rattle.std.proofs.lemmas.List.{take_at, drop_at, take-append-drop, length-append, length-take}
use Rattle.messages_core.specs.Fields.{int32, string, value, minus_one, HasNoZero, IsValue}
use Rattle.messages_core.specs.Start.{parameter, IsParameter}
use Rattle.messages_core.specs.Reading.{◌>>=◌, number_at, text_at, bytes_at, value_or_null_at, parameter_at}
use Rattle.messages_core.proofs.Codecs.{IsBytes, IsBytes-drop, bind_some, guard_some, some_is, Takes, IsField, number_field, wide32}

-- ---- texts

pub tail_fits : (b : ℕ) (bytes : List ℕ) → IsBytes (b ∷ bytes) → IsBytes bytes
tail_fits b bytes h i = h (suc i)

text_takes : (bytes text rest : List ℕ) → IsBytes bytes → text_at bytes ≡ Some (text, rest) → Takes string HasNoZero bytes text rest
text_takes [] text rest fits e = absurd cc
text_takes (zero ∷ bytes) text rest fits e =
    subst (λ (y : List ℕ × List ℕ). Takes string HasNoZero (0 ∷ bytes) y.0 y.1) (some_is ([], bytes) (text, rest) e)
    (record { parts = refl; fits = refl; rest_fits = tail_fits 0 bytes fits })
text_takes (suc b ∷ bytes) text rest fits e =
    let a = bind_some (text_at bytes) (λ x. Some (suc b ∷ x.0, x.1)) (text, rest) e in
    let t = text_takes bytes a.0.0 a.0.1 (tail_fits (suc b) bytes fits) a.1 in
    let made : List ℕ × List ℕ = (suc b ∷ a.0.0, a.0.1) in
    subst (λ (y : List ℕ × List ℕ). Takes string HasNoZero (suc b ∷ bytes) y.0 y.1) (some_is made (text, rest) a.2)
    (record { parts = ap (λ (behind : List ℕ). suc b ∷ behind) t.parts; fits = t.fits; rest_fits = t.rest_fits })

text_again : (text rest : List ℕ) → HasNoZero text → text_at (string text ++ rest) ≡ Some (text, rest)
text_again [] rest h = refl
text_again (zero ∷ text) rest h = absurd cc
text_again (suc b ∷ text) rest h = rw (text_again text rest h) refl

pub text_field : IsField text_at string HasNoZero
text_field = record { takes = text_takes; again = text_again }

-- ---- values

bytes_take : (n : ℕ) (bytes front rest : List ℕ) → IsBytes bytes → bytes_at n bytes ≡ Some (front, rest)
    → (bytes ≡ front ++ rest) × (length front ≡ n) × IsBytes rest
bytes_take n bytes front rest fits e =
    let g = guard_some (ltb (length bytes) n) (take n bytes, drop n bytes) (front, rest) e in
    let long : n ≤ length bytes = ltb-false _ _ g.0 in
    subst (λ (y : List ℕ × List ℕ). (bytes ≡ y.0 ++ y.1) × (length y.0 ≡ n) × IsBytes y.1) g.1
    (sym (take-append-drop n bytes), omega (arith, length-take n bytes), IsBytes-drop n bytes fits)

pub bytes_again : (n : ℕ) (front rest : List ℕ) → length front ≡ n → bytes_at n (front ++ rest) ≡ Some (front, rest)
bytes_again n front rest len =
    let long : ltb (length (front ++ rest)) n ≡ false = le-ltb _ _ (omega (arith, length-append front rest)) in
    rw (long, take_at front rest n len, drop_at front rest n len) refl

abbrev pub number32 : IsField (number_at w32) int32 (λ m. m < 2 ^ 32)
number32 = number_field w32 (2 ^ 32) wide32

is_null : (n : ℕ) (bytes behind : List ℕ) (v : Option (List ℕ)) (rest : List ℕ) → IsBytes behind → bytes ≡ int32 n ++ behind
    → n < 2 ^ 32 → (b : Bool) → eqb n minus_one ≡ b
    → cond {A = Option (Option (List ℕ) × List ℕ)} b (Some (None, behind)) (bytes_at n behind >>= λ x. Some (Some x.0, x.1)) ≡ Some (v, rest)
    → Takes value IsValue bytes v rest
is_null n bytes behind v rest fits said lt true is e =
    let made : Option (List ℕ) × List ℕ = (None, behind) in
    subst (λ (y : Option (List ℕ) × List ℕ). Takes value IsValue bytes y.0 y.1) (some_is made (v, rest) e)
    (record { parts = said ∙ ap (λ (k : ℕ). int32 k ++ behind) (eqb-true n minus_one is); fits = tt; rest_fits = fits })
is_null n bytes behind v rest fits said lt false is e =
    let a = bind_some (bytes_at n behind) (λ x. Some (Some x.0, x.1)) (v, rest) e in
    let t = bytes_take n behind a.0.0 a.0.1 fits a.1 in
    let made : Option (List ℕ) × List ℕ = (Some a.0.0, a.0.1) in
    let other : n ≢ minus_one = eqb-false n minus_one is in
    subst (λ (y : Option (List ℕ) × List ℕ). Takes value IsValue bytes y.0 y.1) (some_is made (v, rest) a.2)
    (record {
      parts = said ∙ ap (λ (tail : List ℕ). int32 n ++ tail) t.0 ∙ sym (append_assoc (int32 n) a.0.0 a.0.1)
          ∙ ap (λ (k : ℕ). int32 k ++ a.0.0 ++ a.0.1) (sym t.1);
      fits = omega (arith, t.1, other);
      rest_fits = t.2;
    })

value_takes : (bytes : List ℕ) (v : Option (List ℕ)) (rest : List ℕ) → IsBytes bytes → value_or_null_at bytes ≡ Some (v, rest)
    → Takes value IsValue bytes v rest
unfolding value_or_null_at
value_takes bytes v rest fits e =
    let a = bind_some (number_at w32 bytes)
    (λ n. cond {A = Option (Option (List ℕ) × List ℕ)} (eqb n.0 minus_one) (Some (None, n.1)) (bytes_at n.0 n.1 >>= λ x. Some (Some x.0, x.1))) (v, rest) e in
    let t = number32.takes bytes a.0.0 a.0.1 fits a.1 in
    is_null a.0.0 bytes a.0.1 v rest t.rest_fits t.parts t.fits (eqb a.0.0 minus_one) refl a.2

value_again : (v : Option (List ℕ)) (rest : List ℕ) → IsValue v → value_or_null_at (value v ++ rest) ≡ Some (v, rest)
unfolding value_or_null_at
value_again None rest h = rw (number32.again minus_one rest (omega arith)) refl
value_again (Some bytes) rest h =
    let other : eqb (length bytes) minus_one ≡ false = ne_eqb _ _ (omega arith) in
    ap value_or_null_at (append_assoc (int32 (length bytes)) bytes rest)
    ∙ rw (number32.again (length bytes) (bytes ++ rest) (omega arith), other, bytes_again (length bytes) bytes rest refl) refl

pub value_field : IsField value_or_null_at value IsValue
value_field = record { takes = value_takes; again = value_again }

-- ---- parameters

is_parameter : (bytes name behind : List ℕ) (p : List ℕ × List ℕ) (rest : List ℕ) → Takes string HasNoZero bytes name behind
    → (b : Bool) → eqb (length name) 0 ≡ b
    → cond {A = Option ((List ℕ × List ℕ) × List ℕ)} b None (text_at behind >>= λ x. Some ((name, x.0), x.1)) ≡ Some (p, rest)
    → Takes parameter IsParameter bytes p rest
is_parameter bytes name behind p rest t true is e = absurd cc
is_parameter bytes name behind p rest t false is e =
    let a = bind_some (text_at behind) (λ x. Some ((name, x.0), x.1)) (p, rest) e in
    let u = text_takes behind a.0.0 a.0.1 t.rest_fits a.1 in
    let made : (List ℕ × List ℕ) × List ℕ = ((name, a.0.0), a.0.1) in
    let other : length name ≢ 0 = eqb-false (length name) 0 is in
    subst (λ (y : (List ℕ × List ℕ) × List ℕ). Takes parameter IsParameter bytes y.0 y.1) (some_is made (p, rest) a.2)
    (record {
      parts = t.parts ∙ ap (λ (tail : List ℕ). string name ++ tail) u.parts ∙ sym (append_assoc (string name) (string a.0.0) a.0.1);
      fits = (t.fits, omega (arith, other), u.fits);
      rest_fits = u.rest_fits;
    })

parameter_takes : (bytes : List ℕ) (p : List ℕ × List ℕ) (rest : List ℕ) → IsBytes bytes → parameter_at bytes ≡ Some (p, rest)
    → Takes parameter IsParameter bytes p rest
unfolding parameter_at
parameter_takes bytes p rest fits e =
    let a = bind_some (text_at bytes)
    (λ name. cond {A = Option ((List ℕ × List ℕ) × List ℕ)} (eqb (length name.0) 0) None (text_at name.1 >>= λ x. Some ((name.0, x.0), x.1))) (p, rest) e in
    is_parameter bytes a.0.0 a.0.1 p rest (text_takes bytes a.0.0 a.0.1 fits a.1) (eqb (length a.0.0) 0) refl a.2

parameter_again : (p : List ℕ × List ℕ) (rest : List ℕ) → IsParameter p → parameter_at (parameter p ++ rest) ≡ Some (p, rest)
unfolding parameter_at
parameter_again p rest h =
    let other : eqb (length p.0) 0 ≡ false = ne_eqb _ _ (omega (arith, h.1)) in
    ap parameter_at (append_assoc (string p.0) (string p.1) rest)
    ∙ rw (text_again p.0 (string p.1 ++ rest) h.0, other, text_again p.1 rest h.2) refl

pub parameter_field : IsField parameter_at parameter IsParameter
parameter_field = record { takes = parameter_takes; again = parameter_again }
