-- The log by which a list of changes is audited: the grants that were made, and when each was last
-- revoked.
use Rattle.std.specs.Prelude.{◌≡◌, ℕ, Bool, not, ◌&&◌, ◌==◌, nat_lt, if◌then◌else◌, List, map, filter}
use Rattle.std.specs.Bool.{beq}
use Rattle.std.specs.Option.{option_map_or}
use Rattle.indexmap.specs.IndexMap.{IndexMap, get}
use Rattle.base_core.specs.Users.{same_user}
use Rattle.base_core.specs.Privileges.{same_atom}
use Rattle.base_core.specs.declared.value.Moment.{Moment}
use Rattle.grants_core.specs.declared.key.Granted.{Granted}
use Rattle.grants_core.specs.declared.grant.Grant.{Grant}
use Rattle.grants_core.specs.declared.grant.Change.{Change}
use Rattle.grants_core.specs.declared.grant.Change.TheVariants as change
use Rattle.grants_core.specs.declared.log.GrantLog.{GrantLog}
use Rattle.grants_core.specs.Keys.{same_granted, granted_by}
use Rattle.grants_core.specs.Content.{names, option_off}
use Rattle.grants_core.specs.History.{owners_after, granted, is_struck, is_unoptioned}

-- the moment that is noted for the grant's grantor, privilege and grantee, or 0
unfoldable pub noted_revocation : {S : Type 0} → IndexMap Granted Moment S → Grant → ℕ
noted_revocation noted g = option_map_or (λ at. at.0) (get same_granted noted (granted_by g)) 0

-- when the grant was last revoked, once a change of moment m follows
abbrev pub last_struck : ℕ → Change → Grant → ℕ → ℕ
last_struck m (change.Create table owner) g last = last
last_struck m (change.Grant by atoms whom option) g last = last
last_struck m (change.Revoke by atoms whom) g last = if names by atoms whom g then m else last
last_struck m (change.RevokeOption by atoms whom) g last = last
last_struck m change.Other g last = last

-- and its option
abbrev pub last_unoptioned : ℕ → Change → Grant → ℕ → ℕ
last_unoptioned m (change.Create table owner) g last = last
last_unoptioned m (change.Grant by atoms whom option) g last = last
last_unoptioned m (change.Revoke by atoms whom) g last = last
last_unoptioned m (change.RevokeOption by atoms whom) g last =
    if names by atoms whom g then m else last
last_unoptioned m change.Other g last = last

-- whether the log notes a later revocation of the grant
abbrev pub was_struck : GrantLog → Grant → Bool
was_struck log g = nat_lt g.moment.0 (noted_revocation log.struck g)

-- or of its option
abbrev pub was_unoptioned : GrantLog → Grant → Bool
was_unoptioned log g = nat_lt g.moment.0 (noted_revocation log.unoptioned g)

-- the grants that were not revoked, without the options that were
abbrev pub left_by : GrantLog → List Grant → List Grant
left_by log grants =
    map (option_off (was_unoptioned log)) (filter (λ g. not (was_struck log g)) grants)

-- the log has the owners after the changes, what they made, and what they struck
pub record IsLogOf (log : GrantLog) (changes : List Change) : Type 0 where
  pub owners : log.owners ≡ owners_after changes
  pub made : log.made.items ≡ granted changes
  pub struck : (g : Grant) → was_struck log g ≡ is_struck changes g
  pub unoptioned : (g : Grant) → was_unoptioned log g ≡ is_unoptioned changes g

-- whether two grants are the same, field by field
abbrev pub same_grant : Grant → Grant → Bool
same_grant a b =
    a.number == b.number
    && a.moment.0 == b.moment.0
    && same_atom a.atom b.atom
    && same_user a.grantor b.grantor
    && same_user a.grantee b.grantee
    && beq a.option b.option
