-- Checkpoints whose numbers rise and whose points don't fall, and what holds of each of a list.
use Rattle.std.proofs.Common.{ℕ, zero, suc, ◌≤◌, ◌<◌, List, [], ◌∷◌, ◌++◌, drop, map, arith}
use Rattle.std.specs.List.{AllByRecursion}
use Rattle.base_core.specs.declared.value.Moment.{Moment}
use Rattle.system_core.specs.World.{IsRising}

-- ---- what holds of each
module _ {X : Type 0} (P : X → Type 0) where
  pub each-drop : (n : ℕ) (xs : List X) → AllByRecursion P xs → AllByRecursion P (drop n xs)
  each-drop zero xs h = h
  each-drop (suc n) [] h = tt
  each-drop (suc n) (x ∷ xs) h = each-drop n xs h.1

  pub each-front : (xs ys : List X) → AllByRecursion P (xs ++ ys) → AllByRecursion P xs
  each-front [] ys h = tt
  each-front (x ∷ xs) ys h = (h.0, each-front xs ys h.1)

  pub each-weaker : (Q : X → Type 0) (xs : List X) → ((x : X) → P x → Q x) → AllByRecursion P xs → AllByRecursion Q xs
  each-weaker Q [] f h = tt
  each-weaker Q (x ∷ xs) f h = (f x h.0, each-weaker Q xs f h.1)

  pub each-end : (xs : List X) (x : X) → AllByRecursion P xs → P x → AllByRecursion P (xs ++ x ∷ [])
  each-end [] x h p = (p, tt)
  each-end (y ∷ xs) x h p = (h.0, each-end xs x h.1 p)

pub each-map : {X Y : Type 0} (P : Y → Type 0) (f : X → Y) (xs : List X) → AllByRecursion (λ x. P (f x)) xs → AllByRecursion P (map f xs)
each-map P f [] h = tt
each-map P f (x ∷ xs) h = (h.0, each-map P f xs h.1)

-- ---- rising
pub rising-weaker : (n p m q : ℕ) (cs : List (ℕ × Moment)) → m ≤ n → q ≤ p → IsRising n p cs → IsRising m q cs
rising-weaker n p m q [] h k r = tt
rising-weaker n p m q (c ∷ cs) h k r = (omega (arith, h, r.0), omega (arith, k, r.1), r.2)

pub rising-drop : (n : ℕ) (cs : List (ℕ × Moment)) → IsRising 0 0 cs → IsRising 0 0 (drop n cs)
rising-drop zero cs r = r
rising-drop (suc n) [] r = tt
rising-drop (suc n) (c ∷ cs) r = rising-drop n cs (rising-weaker c.0 c.1.0 0 0 cs (omega arith) (omega arith) r.2)

pub rising-front : (n p : ℕ) (cs ds : List (ℕ × Moment)) → IsRising n p (cs ++ ds) → IsRising n p cs
rising-front n p [] ds r = tt
rising-front n p (c ∷ cs) ds r = (r.0, r.1, rising-front c.0 c.1.0 cs ds r.2)

-- one more at the end, above all others and not before them
pub rising-end : (n p : ℕ) (cs : List (ℕ × Moment)) (d : ℕ × Moment) → n < d.0 → p ≤ d.1.0 → AllByRecursion (λ c. c.0 < d.0) cs → AllByRecursion (λ c. c.1.0 ≤ d.1.0) cs → IsRising n p cs → IsRising n p (cs ++ d ∷ [])
rising-end n p [] d h k above late r = (h, k, tt)
rising-end n p (c ∷ cs) d h k above late r = (r.0, r.1, rising-end c.0 c.1.0 cs d above.0 late.0 above.1 late.1 r.2)
