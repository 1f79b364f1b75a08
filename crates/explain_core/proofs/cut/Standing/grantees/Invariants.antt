use Rattle.std.proofs.Common.{◌≡◌, true, take}
use Rattle.std.specs.List.{All}
use Rattle.grants_core.specs.Content.{has_made}
use Rattle.explain_core.specs.Listed.{AreSeen}
use Rattle.explain_core.specs.Losses.{AreAllOf}
use Rattle.explain_core.proofs.cut.Standing.grantees.Given as goal

abbrev pub invariant-loop-grant : goal.invariant-loop-grant
invariant-loop-grant l = record {
  seen : AreSeen l.whom;
  made : All (λ v. has_made l.self.grants.now l.by v l.self.atom.now ≡ true) l.whom.listed.items;
  all : AreAllOf l.by (take l.grant-index l.grant-items) l.whom.listed.items;
}
