-- What an authority contains, what it says of a user, and what each change makes of it.
use Rattle.std.specs.Prelude.{ℕ, ◌+◌, ◌*◌, Bool, not, ◌&&◌, ◌||◌, List, [], ◌∷◌, ◌++◌, length, map, filter, count_by}
use Rattle.std.specs.List.{list_any}
use Rattle.base_core.specs.Users.{same_user}
use Rattle.base_core.specs.declared.name.Name.{Name}
use Rattle.base_core.specs.declared.name.User.{User}
use Rattle.base_core.specs.declared.privilege.Atom.{Atom}
use Rattle.base_core.specs.declared.value.Moment.{Moment}
use Rattle.base_core.specs.Privileges.{same_atom}
use Rattle.grants_core.specs.Owners.{owns, with_owner, with_granted}
use Rattle.grants_core.specs.Valid.{valid}
use Rattle.grants_core.specs.declared.grant.Grant.{Grant}
use Rattle.grants_core.specs.declared.grant.Ownership.{Ownership}

-- the owners, each with whether a grant on the table was ever made; the grants in force; and how
-- many single grants were ever made
pub record Rights : Type 0 where
  pub owners : List Ownership
  pub in_force : List Grant
  pub made : ℕ

-- whether the grant gives the user the atom
unfoldable pub gives : User → Atom → Grant → Bool
gives user atom g = same_atom g.atom atom && same_user g.grantee user

-- u holds an atom if he owns the table or a grant in force gives it to him
abbrev pub holds : List Ownership → List Grant → User → Atom → Bool
holds owners grants user atom = owns owners user atom || list_any (gives user atom) grants

-- u may grant an atom if he owns the table or a grant in force gives it to him with the option
abbrev pub may_grant : List Ownership → List Grant → User → Atom → Bool
may_grant owners grants user atom =
    owns owners user atom || list_any (λ g. g.option && gives user atom g) grants

-- u made an atom to v if a grant in force by u gives it to v
abbrev pub has_made : List Grant → User → User → Atom → Bool
has_made grants by user atom = list_any (λ g. same_user g.grantor by && gives user atom g) grants

-- u made an atom to v with the option if such a grant in force by u gives it to v
abbrev pub has_optioned : List Grant → User → User → Atom → Bool
has_optioned grants by user atom =
    list_any (λ g. g.option && same_user g.grantor by && gives user atom g) grants

-- how many of the grants are of the atom
abbrev pub count_of : List Grant → Atom → ℕ
count_of grants atom = count_by (λ g. same_atom g.atom atom) grants

-- the single grants of an atom to each user, numbered from n
abbrev pub to_each : ℕ → Moment → User → Atom → List User → Bool → List Grant
to_each n at by atom [] option = []
to_each n at by atom (user ∷ users) option =
    record { number = n; moment = at; atom = atom; grantor = by; grantee = user; option = option }
    ∷ to_each (n + 1) at by atom users option

-- the single grants of atoms to users: atoms outer, users inner. Fagin 1978: each is kept, with its
-- time, also where the same user granted the same before.
abbrev pub singles : ℕ → Moment → User → List Atom → List User → Bool → List Grant
singles n at by [] users option = []
singles n at by (atom ∷ atoms) users option =
    to_each n at by atom users option ++ singles (n + length users) at by atoms users option

-- whether a revocation by this user of these atoms from these users names the grant, whose option
-- doesn't matter
unfoldable pub names : User → List Atom → List User → Grant → Bool
names by atoms whom g =
    same_user by g.grantor
    && list_any (λ a. same_atom a g.atom) atoms
    && list_any (λ u. same_user u g.grantee) whom

-- the grants that it doesn't name
abbrev pub without : User → List Atom → List User → List Grant → List Grant
without by atoms whom grants = filter (λ g. not (names by atoms whom g)) grants

-- the grant, without its option where the test holds; one that has none stays as it is
abbrev pub option_off : (Grant → Bool) → Grant → Grant
option_off test g = record g { option = g.option && not (test g) }

-- the grants, those that it names without their option
abbrev pub options_off : User → List Atom → List User → List Grant → List Grant
options_off by atoms whom grants = map (option_off (names by atoms whom)) grants

-- the table has this owner
abbrev pub after_create : Rights → Name → User → Rights
after_create c table user = record c { owners = with_owner table user c.owners }

-- the single grants are in force, and the tables are noted
abbrev pub after_grant : Rights → User → List Atom → List User → Bool → Moment → Rights
after_grant c by atoms whom option at = record {
  owners = with_granted atoms c.owners;
  in_force = c.in_force ++ singles c.made at by atoms whom option;
  made = c.made + length atoms * length whom;
}

-- Griffiths and Wade 1976: those authorizations are in force that would be if the revoked grants
-- had never been made
abbrev pub after_revoke : Rights → User → List Atom → List User → Rights
after_revoke c by atoms whom =
    record c { in_force = valid c.owners (without by atoms whom c.in_force) }

-- the options of the named come off first, and the grants themselves stay: those are in force that
-- would be if the revoked options had never been given
abbrev pub after_revoke_option : Rights → User → List Atom → List User → Rights
after_revoke_option c by atoms whom =
    record c { in_force = valid c.owners (options_off by atoms whom c.in_force) }
