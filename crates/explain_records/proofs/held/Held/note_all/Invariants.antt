use Rattle.std.proofs.Common.{◌≡◌, take}
use Rattle.indexmap.specs.IndexMap.{get}
use Rattle.grants_core.specs.declared.key.Holding.{Holding}
use Rattle.grants_core.specs.Keys.{same_holding}
use Rattle.explain_records.specs.Held.{held_as}
use Rattle.explain_records.proofs.held.Held.note_all.Given as goal

abbrev pub invariant-loop-life : goal.invariant-loop-life
invariant-loop-life l = (w : Holding) → get same_holding l.self.of w ≡ held_as (take l.life-index l.lives) w
