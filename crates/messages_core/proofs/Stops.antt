-- Where items end, whichever way it was found.
use Rattle.std.proofs.Common.{◌≡◌, ℕ, zero, suc, ◌+◌, ◌<◌, Bool, true, false, cond, eqb, List, [], ◌∷◌, ◌++◌, length, Option, Some, None, refl, sym, ap, subst, ◌∙◌, add-one, arith}
use Rattle.std.specs.List.{flat_map, AllByRecursion}
use Rattle.messages_core.specs.Reading.{◌>>=◌, FieldReader, past_items, items_in, text_at, parameter_at}
use Rattle.messages_core.specs.Start.{parameter, parameters_body, IsParameter, SayParameters, AreNoParameters}
use Rattle.messages_core.proofs.Codecs.{IsBytes, bind_some, some_is, past_takes, past_again}
use Rattle.messages_core.proofs.TextFields.{parameter_field}

guarded : {A : Type 0} (b : Bool) (r : Option A) (y : A) → cond b None r ≡ Some y → r ≡ Some y
guarded true r y e = absurd cc
guarded false r y e = e

module _ {A : Type 0} (at : FieldReader A) where
  -- one item more is behind us
  pub past_next : (n : ℕ) (bytes : List ℕ) (rest : List ℕ) (item : A) (behind : List ℕ)
      → past_items at n bytes ≡ Some rest → at rest ≡ Some (item, behind) → past_items at (n + 1) bytes ≡ Some behind
  past_next zero bytes rest item behind e f =
      let here : at bytes ≡ Some (item, behind) = ap at (some_is bytes rest e) ∙ f in
      ap (λ (read : Option (A × List ℕ)). read >>= λ x. Some x.1) here
  past_next (suc n) bytes rest item behind e f =
      let a = bind_some (at bytes) (λ x. past_items at n x.1) rest e in
      rw (add-one, a.1) (rw add-one at (past_next n a.0.1 rest item behind a.2 f))

  -- where two runs of items end because no further one stands there, it is the same place
  pub same_stop : (m n : ℕ) (bytes first second : List ℕ) → past_items at m bytes ≡ Some first → past_items at n bytes ≡ Some second
      → at first ≡ None → at second ≡ None → (m ≡ n) × (first ≡ second)
  same_stop zero zero bytes first second e f a b = (refl, some_is first second (sym e ∙ f))
  same_stop zero (suc n) bytes first second e f a b =
      let none : at bytes ≡ None = ap at (some_is bytes first e) ∙ a in
      let some_ = bind_some (at bytes) (λ x. past_items at n x.1) second f in
      absurd cc
  same_stop (suc m) zero bytes first second e f a b =
      let none : at bytes ≡ None = ap at (some_is bytes second f) ∙ b in
      let some_ = bind_some (at bytes) (λ x. past_items at m x.1) first e in
      absurd cc
  same_stop (suc m) (suc n) bytes first second e f a b =
      let x = bind_some (at bytes) (λ x. past_items at m x.1) first e in
      let y = bind_some (at bytes) (λ x. past_items at n x.1) second f in
      let one : x.0 ≡ y.0 = some_is x.0 y.0 (sym x.1 ∙ y.1) in
      let again : past_items at m y.0.1 ≡ Some first = subst (λ (z : A × List ℕ). past_items at m z.1 ≡ Some first) one x.2 in
      let more = same_stop m n y.0.1 first second again y.2 a b in
      (ap suc more.0, more.1)

text_shorter : (bytes text rest : List ℕ) → text_at bytes ≡ Some (text, rest) → length rest < length bytes
text_shorter [] text rest e = absurd cc
text_shorter (zero ∷ bytes) text rest e =
    let same : rest ≡ bytes = ap (λ (y : List ℕ × List ℕ). y.1) (some_is (text, rest) ([], bytes) (sym e)) in
    rw same (omega arith)
text_shorter (suc b ∷ bytes) text rest e =
    let a = bind_some (text_at bytes) (λ x. Some (suc b ∷ x.0, x.1)) (text, rest) e in
    let same : a.0.1 ≡ rest = ap (λ (y : List ℕ × List ℕ). y.1) (some_is (suc b ∷ a.0.0, a.0.1) (text, rest) a.2) in
    let less = text_shorter bytes a.0.0 a.0.1 a.1 in
    omega (arith, less, ap length same)

-- behind a parameter there is less
pub parameter_shorter : (bytes : List ℕ) (p : List ℕ × List ℕ) (rest : List ℕ) → parameter_at bytes ≡ Some (p, rest)
    → length rest < length bytes
unfolding parameter_at
parameter_shorter bytes p rest e =
    let a = bind_some (text_at bytes)
    (λ name. cond {A = Option ((List ℕ × List ℕ) × List ℕ)} (eqb (length name.0) 0) None (text_at name.1 >>= λ x. Some ((name.0, x.0), x.1))) (p, rest) e in
    let g = guarded (eqb (length a.0.0) 0) (text_at a.0.1 >>= λ x. Some ((a.0.0, x.0), x.1)) (p, rest) a.2 in
    let b = bind_some (text_at a.0.1) (λ x. Some ((a.0.0, x.0), x.1)) (p, rest) g in
    let same : b.0.1 ≡ rest = ap (λ (y : (List ℕ × List ℕ) × List ℕ). y.1) (some_is ((a.0.0, b.0.0), b.0.1) (p, rest) b.2) in
    omega (arith, text_shorter bytes a.0.0 a.0.1 a.1, text_shorter a.0.1 b.0.0 b.0.1 b.1, ap length same)

no_parameter : parameter_at (0 ∷ []) ≡ None
unfolding parameter_at
no_parameter = refl

-- the parameters that were read up to the zero byte
pub parameters_found : (n : ℕ) (bytes rest : List ℕ) → IsBytes bytes → past_items parameter_at n bytes ≡ Some rest → rest ≡ 0 ∷ []
    → SayParameters bytes (items_in parameter_at n bytes)
parameters_found n bytes rest fits e ended =
    let t = past_takes parameter_at parameter IsParameter parameter_field n bytes rest fits e in
    (t.0.fits, t.0.parts ∙ ap (λ (tail : List ℕ). flat_map parameter (items_in parameter_at n bytes) ++ tail) ended)

-- where something else stands, there are none
pub parameters_stuck : (n : ℕ) (bytes rest : List ℕ) → past_items parameter_at n bytes ≡ Some rest → parameter_at rest ≡ None
    → (rest ≡ 0 ∷ [] → ⊥) → AreNoParameters bytes
parameters_stuck n bytes rest e none other ps fit said =
    let again = past_again parameter_at parameter IsParameter parameter_field ps (0 ∷ []) fit in
    let there : past_items parameter_at (length ps) bytes ≡ Some (0 ∷ []) = ap (past_items parameter_at (length ps)) said ∙ again.0 in
    other (same_stop parameter_at n (length ps) bytes rest (0 ∷ []) e there none no_parameter).1

-- no two lists of parameters are spelled alike
pub one_list_of_parameters : (ps qs : List (List ℕ × List ℕ)) → AllByRecursion IsParameter ps → AllByRecursion IsParameter qs
    → parameters_body ps ≡ parameters_body qs → ps ≡ qs
one_list_of_parameters ps qs fit fit' said =
    let p = past_again parameter_at parameter IsParameter parameter_field ps (0 ∷ []) fit in
    let q = past_again parameter_at parameter IsParameter parameter_field qs (0 ∷ []) fit' in
    let there : past_items parameter_at (length qs) (parameters_body ps) ≡ Some (0 ∷ []) =
    ap (past_items parameter_at (length qs)) said ∙ q.0 in
    let count = (same_stop parameter_at (length ps) (length qs) (parameters_body ps) (0 ∷ []) (0 ∷ []) p.0 there no_parameter no_parameter).0 in
    sym p.1 ∙ ap (λ (n : ℕ). items_in parameter_at n (parameters_body ps)) count ∙ ap (items_in parameter_at (length qs)) said ∙ q.1
