use Rattle.std.proofs.Common.{◌≡◌, ◌∷◌, [], take}
use Rattle.grants_core.specs.Kept.{IsIndexed}
use Rattle.grants_core.specs.Valid.{valid}
use Rattle.grants_core.specs.Content.{without}
use Rattle.explain_core.proofs.cut.Standing.holds_without_these.Given as goal

abbrev pub invariant-loop-grant : goal.invariant-loop-grant
invariant-loop-grant l = record {
  kept : l.kept.grants.items ≡ valid l.self.owners.now (without l.by (l.self.atom.now ∷ []) l.whom.listed.items (take l.grant-index l.grant-items));
  indexed : IsIndexed l.kept;
}
