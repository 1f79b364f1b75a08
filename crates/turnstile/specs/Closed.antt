-- What is known at the end.
use Rattle.std.specs.Prelude.{◌≡◌, ◌≢◌, ℕ, ◌+◌, ◌^◌, ◌<◌, ◌≤◌, List, map, sum_by, All, AllPairs, Contains}
use Rattle.turnstile.specs.Logs.{StartsWith, own}
use Rattle.turnstile.specs.Passes.{TurnstileState, PassState, mine}

-- These are all passes of the turnstile: the numbers are different and below their count, and each
-- number below it is among them.
pub record AreAll {E F : Type 0} (lock : TurnstileState F) (passes : List (PassState E F))
    : Type 0 where
  pub apart : AllPairs (λ p q. p.number ≢ q.number) passes
  pub below : All (λ p. p.number < lock.count) passes
  pub each : (n : ℕ) → n < lock.count → Contains (map (λ p. p.number) passes) n

-- how many turns these passes drew, counted from the start
abbrev pub turns_of : {E F : Type 0} → TurnstileState F → List (PassState E F) → ℕ
turns_of lock passes = lock.start + sum_by (λ p. p.turns) passes

-- the object has all that the pass has seen, and of its entries just those that it made
pub record Kept {O E F : Type 0} (log : O → List E) (by : E → ℕ) (mark : O → ℕ) (x : O)
    (p : PassState E F) : Type 0 where
  pub seen : StartsWith (log x) p.seen
  pub made : own by p.number (log x) ≡ mine by p
  pub marked : p.mark ≤ mark x

-- The object as its turnstile with these passes leaves it. No entry bears a number that is not a
-- pass's. The turns that they drew, counted from the start, are all that any of them knows to be
-- drawn, and 2^62 at most: so they are just that many where a turn was answered Worn.
pub record Closed {O E F : Type 0} (log : O → List E) (by : E → ℕ) (mark : O → ℕ) (fix : O → F)
    (lock : TurnstileState F) (passes : List (PassState E F)) (x : O) : Type 0 where
  pub fixed_is : fix x ≡ lock.fixed
  pub bears : All (λ e. by e < lock.count) (log x)
  pub kept : All (Kept log by mark x) passes
  pub drawn : All (λ p. p.drawn ≤ turns_of lock passes) passes
  pub bound : turns_of lock passes ≤ 2 ^ 62
