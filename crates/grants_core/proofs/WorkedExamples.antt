-- The definitions on worked examples, computed.
use Rattle.std.proofs.Common.{◌≡◌, ℕ, Bool, true, false, List, [], ◌∷◌, map, refl}
use Rattle.base_core.specs.declared.name.User.{User}
use Rattle.base_core.specs.declared.privilege.Atom.{Atom}
use Rattle.base_core.specs.Privileges.{to_select}
use Rattle.grants_core.specs.declared.grant.Grant.{Grant}
use Rattle.grants_core.specs.declared.grant.Change.{Change}
use Rattle.grants_core.specs.declared.grant.Change.TheVariants as change
use Rattle.grants_core.specs.Owners.{owns}
use Rattle.grants_core.specs.Valid.{supports}
use Rattle.grants_core.specs.Content.{names}
use Rattle.grants_core.specs.History.{in_force_after}

-- users, the table and its column are named by one letter
abbrev user : ℕ → User
user letter = record { 0 = letter ∷ [] }

abbrev o : User
o = user 111

abbrev a : User
a = user 97

abbrev b : User
b = user 98

abbrev c : User
c = user 99

abbrev d : User
d = user 100

abbrev select : Atom
select = to_select (116 ∷ []) (120 ∷ [])

abbrev create : Change
create = change.Create (116 ∷ []) o

abbrev grant : User → User → Bool → Change
grant by to option = change.Grant by (select ∷ []) (to ∷ []) option

abbrev revoke : User → User → Change
revoke by from = change.Revoke by (select ∷ []) (from ∷ [])

abbrev revoke_option : User → User → Change
revoke_option by from = change.RevokeOption by (select ∷ []) (from ∷ [])

-- the moments of the grants in force
abbrev moments : List Change → List ℕ
moments changes = map (λ (g : Grant). g.moment.0) (in_force_after changes)

-- d was granted twice by c, and c by a and by b: the later grant has b's for its support
repeated_grants : moments (create ∷ grant o a true ∷ grant o b true ∷ grant a c true ∷ grant c d false ∷ grant b c true ∷ grant c d false ∷ revoke a c ∷ []) ≡ 2 ∷ 3 ∷ 6 ∷ 7 ∷ []
unfolding owns supports names
repeated_grants = refl

-- b's grant to c came after c's to d
cascade_by_time : moments (create ∷ grant o a true ∷ grant o b true ∷ grant a c true ∷ grant c d false ∷ grant b c true ∷ revoke a c ∷ []) ≡ 2 ∷ 3 ∷ 6 ∷ []
unfolding owns supports names
cascade_by_time = refl

cycle : moments (create ∷ grant o a true ∷ grant a b true ∷ grant b a true ∷ revoke o a ∷ []) ≡ []
unfolding owns supports names
cycle = refl

repeated_revoke : moments (create ∷ grant o a false ∷ revoke o a ∷ revoke o a ∷ []) ≡ []
unfolding owns supports names
repeated_revoke = refl

one_moment_no_support : moments (create ∷ grant o a true ∷ change.Grant a (select ∷ []) (a ∷ b ∷ []) true ∷ revoke o a ∷ []) ≡ []
unfolding owns supports names
one_moment_no_support = refl

another_source : moments (create ∷ grant o a true ∷ grant o b true ∷ grant a c true ∷ grant b c true ∷ grant c d false ∷ revoke a c ∷ []) ≡ 2 ∷ 3 ∷ 5 ∷ 6 ∷ []
unfolding owns supports names
another_source = refl

-- a revocation strikes every grant that it names, with and without the option
all_of_a_pair : moments (create ∷ grant o a true ∷ grant o a false ∷ grant o b true ∷ grant o a true ∷ revoke o a ∷ []) ≡ 4 ∷ []
unfolding owns supports names
all_of_a_pair = refl

-- whether each of the grants in force has the option
abbrev options : List Change → List Bool
options changes = map (λ (g : Grant). g.option) (in_force_after changes)

-- o's grant to a stays, without its option; what a gave falls, and what a gives after it too
option_revoked : moments (create ∷ grant o a true ∷ grant a b false ∷ revoke_option o a ∷ []) ≡ 2 ∷ []
unfolding owns supports names
option_revoked = refl

its_option : options (create ∷ grant o a true ∷ grant a b false ∷ revoke_option o a ∷ []) ≡ false ∷ []
unfolding owns supports names
its_option = refl

nothing_given_on : moments (create ∷ grant o a true ∷ grant a b false ∷ revoke_option o a ∷ grant a b false ∷ []) ≡ 2 ∷ []
unfolding owns supports names
nothing_given_on = refl

grant_revoked_too : moments (create ∷ grant o a true ∷ grant a b false ∷ revoke_option o a ∷ revoke o a ∷ []) ≡ []
unfolding owns supports names
grant_revoked_too = refl

-- an option that is given anew is a grant of its own, and brings nothing back
option_given_anew : moments (create ∷ grant o a true ∷ grant a b false ∷ revoke_option o a ∷ grant o a true ∷ grant a c false ∷ []) ≡ 2 ∷ 5 ∷ 6 ∷ []
unfolding owns supports names
option_given_anew = refl

-- c has the option from b too, but later than the first grant to d
option_keeps_others : moments (create ∷ grant o a true ∷ grant o b true ∷ grant a c true ∷ grant c d false ∷ grant b c true ∷ grant c d false ∷ revoke_option a c ∷ []) ≡ 2 ∷ 3 ∷ 4 ∷ 6 ∷ 7 ∷ []
unfolding owns supports names
option_keeps_others = refl

-- the options of all grants of a pair come off
options_of_a_pair : options (create ∷ grant o a true ∷ grant o a false ∷ grant o b true ∷ grant o a true ∷ revoke_option o a ∷ []) ≡ false ∷ false ∷ true ∷ false ∷ []
unfolding owns supports names
options_of_a_pair = refl

-- a cycle of options falls as one of grants does, but for the grant whose option is revoked
option_in_a_cycle : moments (create ∷ grant o a true ∷ grant a b true ∷ grant b a true ∷ revoke_option o a ∷ []) ≡ 2 ∷ []
unfolding owns supports names
option_in_a_cycle = refl
