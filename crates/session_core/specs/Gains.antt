-- What a pass has gained over some turns.
use Rattle.std.specs.Prelude.{◌≡◌, List, ◌++◌, All}
use Rattle.base_core.specs.declared.name.User.{User}
use Rattle.turnstile.specs.Logs.{StartsWith}
use Rattle.turnstile.specs.Passes.{IsSamePass, mine}
use Rattle.desk_core.specs.Guarded.{DeskPass}
use Rattle.system_core.specs.declared.machine.event.Entry.{Entry}
use Rattle.desk_core.specs.Turns.{asked_by}

-- it has seen no less, and the entries that it made since bear the user
pub record Gains {K : Type 0} (user : User) (old new : DeskPass K) : Type 0 where
  pub same : IsSamePass old new
  pub seen : StartsWith new.seen old.seen
  pub entries : List Entry
  pub mine_is : mine asked_by new ≡ mine asked_by old ++ entries
  pub bear : All (λ (e : Entry). e.user ≡ user) entries

-- it has seen no less, and made nothing
pub record Watches {K : Type 0} (old new : DeskPass K) : Type 0 where
  pub same : IsSamePass old new
  pub seen : StartsWith new.seen old.seen
  pub mine_is : mine asked_by new ≡ mine asked_by old
