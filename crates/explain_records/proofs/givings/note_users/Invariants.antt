use Rattle.std.proofs.Common.{◌≡◌, take}
use Rattle.explain_core.specs.Listed.{AreSeen}
use Rattle.explain_records.specs.Givings.{with_users}
use Rattle.explain_records.proofs.givings.note_users.Given as goal

abbrev pub invariant-loop-user : goal.invariant-loop-user
invariant-loop-user l = record {
  seen : AreSeen l.known;
  listed : l.known.listed.items ≡ with_users (take l.user-index l.users) l.initial.known.listed.items;
}
