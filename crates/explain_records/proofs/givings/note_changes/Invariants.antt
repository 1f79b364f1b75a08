use Rattle.std.proofs.Common.{◌≡◌, take}
use Rattle.std.specs.List.{flat_map}
use Rattle.explain_core.specs.Listed.{AreSeen}
use Rattle.explain_records.specs.Givings.{users_in, with_users}
use Rattle.explain_records.proofs.givings.note_changes.Given as goal

abbrev pub invariant-loop-change : goal.invariant-loop-change
invariant-loop-change l = record {
  seen : AreSeen l.known;
  listed : l.known.listed.items ≡ with_users (flat_map users_in (take l.change-index l.changes)) l.initial.known.listed.items;
}
