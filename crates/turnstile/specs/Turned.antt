-- What a turn tells.
use Rattle.std.specs.Prelude.{◌≡◌, ℕ, ◌≤◌, List, ◌++◌}
use Rattle.turnstile.specs.Logs.{StartsWith, Grown, gained}
use Rattle.turnstile.specs.Passes.{TurnstileState, PassState, mine}

-- The object was found no older than all that the pass had seen, and did what was asked. The pass
-- has then seen it as it was left, and has made the entry of this turn, if there is one, and no
-- other.
pub record Turned {O E F A R : Type 0} (log : O → List E) (by : E → ℕ) (mark : O → ℕ) (fix : O → F)
    (acts : O → ℕ → A → R → O → Type 0) (lock : TurnstileState F) (ask : A) (reply : R)
    (old new : PassState E F) : Type 0 where
  pub before : O
  pub after : O
  pub acted : acts before old.number ask reply after
  pub grown : Grown log by mark fix old.number before after
  pub fixed_is : fix before ≡ lock.fixed
  pub seen_before : StartsWith (log before) old.seen
  pub mark_before : old.mark ≤ mark before
  pub seen_after : new.seen ≡ log after
  pub mark_after : new.mark ≡ mark after
  pub mine_after : mine by new ≡ mine by old ++ gained (log before) (log after)
