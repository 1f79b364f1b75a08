-- The dump on a worked example, computed: a journal of seven changes, and its dump of four.
use Rattle.std.proofs.Common.{◌≡◌, ℕ, true, false, List, [], ◌∷◌, ◌++◌, map, Some, None, Err, pos, refl, arith}
use Rattle.base_core.specs.declared.name.User.{User}
use Rattle.base_core.specs.declared.name.Name.{Name}
use Rattle.base_core.specs.declared.limits.Limits.{Limits}
use Rattle.base_core.specs.declared.value.ColType.TheVariants as types
use Rattle.base_core.specs.declared.value.Value.TheVariants as values
use Rattle.base_core.specs.declared.condition.Comparison.TheVariants as comparisons
use Rattle.base_core.specs.declared.lack.Lack.TheVariants as lacks
use Rattle.base_core.specs.declared.lack.What.TheVariants as whats
use Rattle.reader_core.specs.declared.privilege.Privilege.TheVariants as privileges
use Rattle.reader_core.specs.declared.statement.Statement.TheVariants as statements
use Rattle.grants_core.specs.Owners.{owns}
use Rattle.grants_core.specs.Valid.{supports}
use Rattle.grants_core.specs.Content.{gives, names}
use Rattle.grants_core.specs.declared.grant.Grant.{Grant}
use Rattle.monitor_core.specs.Verdict.{has_room}
use Rattle.system_core.specs.declared.machine.event.Entry.{Entry}
use Rattle.system_core.specs.Journal.{rights_at, verdict_at, IsLawful}
use Rattle.system_core.specs.World.{entry}
use Rattle.dump_core.specs.Dump.{dump}

-- users, the table and its columns are named by one letter
abbrev user : ℕ → User
user letter = record { 0 = letter ∷ [] }

abbrev ann : User
ann = user 97

abbrev bob : User
bob = user 98

abbrev eve : User
eve = user 101

abbrev pay : Name
pay = 112 ∷ []

abbrev who : Name
who = 119 ∷ []

abbrev wage : Name
wage = 120 ∷ []

abbrev create : Entry
create = entry 0 ann (statements.CreateTable pay (record { name = who; ty = types.Integer } ∷ record { name = wage; ty = types.Integer } ∷ []))

abbrev insert : ℕ → ℕ → Entry
insert number paid = entry 0 ann (statements.Insert pay (values.Int (pos number) ∷ values.Int (pos paid) ∷ []))

abbrev delete : ℕ → Entry
delete number = entry 0 ann (statements.Delete pay (record { column = who; comparison = comparisons.Equal; literal = values.Int (pos number) } ∷ []))

-- ann creates, inserts two rows, grants with the option what bob grants on, deletes a row, and revokes
abbrev journal : List Entry
journal =
    create
    ∷ insert 1 50
    ∷ insert 2 70
    ∷ entry 0 ann (statements.Grant (privileges.Select None ∷ privileges.Insert ∷ []) pay (bob ∷ []) true)
    ∷ entry 0 bob (statements.Grant (privileges.Select (Some (who ∷ [])) ∷ []) pay (eve ∷ []) false)
    ∷ delete 1
    ∷ entry 0 ann (statements.Revoke (privileges.Insert ∷ []) pay (bob ∷ []))
    ∷ []

dumped : dump journal
    ≡ create
    ∷ insert 2 70
    ∷ entry 0 ann (statements.Grant (privileges.Select (Some (who ∷ wage ∷ [])) ∷ []) pay (bob ∷ []) true)
    ∷ entry 0 bob (statements.Grant (privileges.Select (Some (who ∷ [])) ∷ []) pay (eve ∷ []) false)
    ∷ []
unfolding owns supports names
dumped = refl

-- both are lawful, within limits as narrow as can be
abbrev narrow : Limits
narrow = record {
  changes = 7;
  tables = 1;
  grants = 2;
  checkpoints = 0;
  changes_within = omega arith;
  tables_within = omega arith;
  grants_within = omega arith;
  checkpoints_within = omega arith;
}

lawful : IsLawful narrow journal
unfolding owns supports names gives has_room
lawful = (refl, refl, (refl, refl, (refl, refl, (refl, refl, (refl, refl, (refl, refl, (refl, refl, tt)))))))

lawful_dump : IsLawful narrow (dump journal)
unfolding owns supports names gives has_room
lawful_dump = (refl, refl, (refl, refl, (refl, refl, (refl, refl, tt))))

-- the dump of a dump is itself
dumped_again : dump (dump journal) ≡ dump journal
unfolding owns supports names
dumped_again = refl

-- ---- why statements are to be well formed: one that names a privilege twice passes the limit of grants
abbrev twice : List Entry
twice = create ∷ entry 0 ann (statements.Grant (privileges.Insert ∷ privileges.Insert ∷ []) pay (bob ∷ []) false) ∷ []

abbrev once : Entry
once = entry 0 ann (statements.Grant (privileges.Insert ∷ []) pay (bob ∷ []) false)

lawful_twice : IsLawful (record narrow { grants = 1; grants_within = omega arith }) twice
unfolding owns supports names gives has_room
lawful_twice = (refl, refl, (refl, refl, tt))

dumped_twice : dump twice ≡ create ∷ once ∷ once ∷ []
unfolding owns supports names
dumped_twice = refl

full_dumped : verdict_at (record narrow { grants = 1; grants_within = omega arith }) (create ∷ once ∷ []) once.user once.statement ≡ Err (lacks.Full whats.Grants)
unfolding owns supports names gives has_room
full_dumped = refl

-- ---- a revocation from the midst of a grant: seven grants are left, and three statements make them
abbrev tax : Name
tax = 121 ∷ []

abbrev both : List User
both = bob ∷ eve ∷ []

abbrev wide : Entry
wide = entry 0 ann (statements.CreateTable pay (record { name = who; ty = types.Integer } ∷ record { name = wage; ty = types.Integer } ∷ record { name = tax; ty = types.Integer } ∷ []))

abbrev pierced : List Entry
pierced =
    wide
    ∷ entry 0 ann (statements.Grant (privileges.Select None ∷ privileges.Update (Some (who ∷ [])) ∷ []) pay both false)
    ∷ entry 0 ann (statements.Revoke (privileges.Select (Some (wage ∷ [])) ∷ []) pay (eve ∷ []))
    ∷ []

pierced_dumped : dump pierced
    ≡ wide
    ∷ entry 0 ann (statements.Grant (privileges.Select (Some (who ∷ [])) ∷ []) pay both false)
    ∷ entry 0 ann (statements.Grant (privileges.Select (Some (wage ∷ [])) ∷ []) pay (bob ∷ []) false)
    ∷ entry 0 ann (statements.Grant (privileges.Select (Some (tax ∷ [])) ∷ privileges.Update (Some (who ∷ [])) ∷ []) pay both false)
    ∷ []
unfolding owns supports names
pierced_dumped = refl

-- ---- a grant to oneself: in the journal it has an earlier moment than the next, in the dump the same
abbrev selfish : List Entry
selfish =
    create
    ∷ entry 0 ann (statements.Grant (privileges.Insert ∷ []) pay (bob ∷ []) true)
    ∷ entry 0 bob (statements.Grant (privileges.Insert ∷ []) pay (bob ∷ []) true)
    ∷ entry 0 bob (statements.Grant (privileges.Insert ∷ []) pay (eve ∷ []) true)
    ∷ []

-- who has a grant after one more revocation from bob
abbrev left_by : User → List Entry → List User
left_by user before = map (λ (g : Grant). g.grantee) (rights_at (before ++ entry 0 user (statements.Revoke (privileges.Insert ∷ []) pay (bob ∷ [])) ∷ [])).in_force

moments : map (λ (g : Grant). g.moment.0) (rights_at selfish).in_force ≡ 2 ∷ 3 ∷ 4 ∷ []
unfolding owns supports names
moments = refl

dumped_moments : map (λ (g : Grant). g.moment.0) (rights_at (dump selfish)).in_force ≡ 2 ∷ 3 ∷ 3 ∷ []
unfolding owns supports names
dumped_moments = refl

-- ann's revocation takes all of them, after both
all_fall : left_by ann selfish ≡ []
unfolding owns supports names
all_fall = refl

all_fall_dumped : left_by ann (dump selfish) ≡ []
unfolding owns supports names
all_fall_dumped = refl

-- bob's own takes the one to himself
one_falls : left_by bob selfish ≡ bob ∷ eve ∷ []
unfolding owns supports names
one_falls = refl

one_falls_dumped : left_by bob (dump selfish) ≡ bob ∷ eve ∷ []
unfolding owns supports names
one_falls_dumped = refl
