use Rattle.std.proofs.Common.{◌≡◌, map, drop}
use Rattle.std.specs.Cmp.Lexicographic.{pointwise}
use Rattle.base_core.specs.Users.{same_user}
use Rattle.grants_core.specs.declared.grant.Grant.{Grant}
use Rattle.dump_core.proofs.neighbours.have_same_grantees.Given as goal

-- those from here on decide
abbrev pub invariant-loop-at : goal.invariant-loop-at
invariant-loop-at l =
    pointwise same_user (map (λ (g : Grant). g.grantee) (drop l.at l.one)) (map (λ g. g.grantee) (drop l.at l.other))
    ≡ pointwise same_user (map (λ (g : Grant). g.grantee) l.one) (map (λ g. g.grantee) l.other)
