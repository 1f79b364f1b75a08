-- The core that a program begins with.
use Rattle.std.specs.Prelude.{◌≡◌, All}
use Rattle.system_core.specs.World.{World}

-- a core of which no checkpoint was begun, and whose entries came through pass 0
pub record IsReady (w : World) : Type 0 where
  pub unbegun : w.begun ≡ 0
  pub passes : All (λ e. e.pass ≡ 0) w.journal
