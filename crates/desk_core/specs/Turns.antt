-- What comes of a turn at a desk, and what is known when it is closed.
use Rattle.std.specs.Prelude.{ℕ, ◌≡◌, ◌+◌, ◌^◌, ◌<◌, ◌≤◌, List, ◌++◌}
use Rattle.std.specs.declared.snapshot.Snapshot.{Snapshot}
use Rattle.base_core.specs.declared.lack.Lack.TheVariants as lacks
use Rattle.turnstile.specs.Logs.{StartsWith}
use Rattle.turnstile.specs.Passes.{mine}
use Rattle.turnstile.specs.Closed.{Closed}
use Rattle.desk_core.specs.declared.object.Ask.{Ask}
use Rattle.system_core.specs.declared.machine.event.Entry.{Entry}
use Rattle.system_core.specs.declared.machine.event.Reply.{Reply}
use Rattle.system_core.specs.declared.machine.event.Reply.TheVariants as replies
use Rattle.system_core.specs.World.{World, IsLawfulWorld}
use Rattle.system_core.specs.Step.{Step}
use Rattle.system_core.specs.Entering.{entered}
use Rattle.desk_core.specs.Guarded.{Origin, snapshot, DeskLock, DeskPass, origin_of}
use Rattle.desk_core.specs.Acting.{event_of}

-- the number of the pass that an entry was asked through
abbrev pub asked_by : Entry → ℕ
asked_by e = e.pass

abbrev pub journal_of : World → List Entry
journal_of w = w.journal

abbrev pub begun_of : World → ℕ
begun_of w = w.begun

-- what no turn changes: what the desk was built on, whose chunk and limits the world still has
abbrev pub basis_of : {K : Type 0} → Origin K → World → Snapshot (Origin K)
basis_of origin w = snapshot (record origin { chunk = w.chunk; limits = w.limits })

-- the answer where all turns are drawn, which no step of the machine gives
abbrev pub worn : Reply
worn = replies.Refused (record { 0 = 0 }) lacks.Worn

-- A turn: the core stood for a lawful world that has all that the pass had seen, and made one step
-- from there. The pass has then seen the world after it, and has made what the step entered, and
-- nothing else.
pub record Took {K : Type 0} (desk : DeskLock K) (ask : Ask) (reply : Reply) (old new : DeskPass K)
    : Type 0 where
  pub before : World
  pub after : World
  pub lawful : IsLawfulWorld before
  pub chunk : before.chunk ≡ (origin_of desk).chunk
  pub limits : before.limits ≡ (origin_of desk).limits
  pub seen_before : StartsWith before.journal old.seen
  pub mark_before : old.mark ≤ before.begun
  pub step : Step before (event_of old.number ask) reply after
  pub seen_after : new.seen ≡ after.journal
  pub mark_after : new.mark ≡ after.begun
  pub mine_after : mine asked_by new ≡ mine asked_by old ++ entered (event_of old.number ask) reply
  pub drawn : (old.drawn < new.drawn) × (new.drawn ≤ 2 ^ 62)
  pub counted : new.turns ≡ old.turns + 1

-- what comes of asking: a turn, or else that all turns are drawn
pub data Answered {K : Type 0} (desk : DeskLock K) (ask : Ask) (reply : Reply)
    (old new : DeskPass K) : Type 0 where
  took : Took desk ask reply old new → Answered desk ask reply old new
  spent : reply ≡ worn → new ≡ record old { drawn = 2 ^ 62 } → Answered desk ask reply old new

-- the world that the desk leaves, of these passes
pub record Ended {K : Type 0} (desk : DeskLock K) (passes : List (DeskPass K)) (w : World)
    : Type 0 where
  pub lawful : IsLawfulWorld w
  pub closed : Closed journal_of asked_by begun_of (basis_of (origin_of desk)) desk passes w
