-- What a grant gives, by the indices of the link that stands for it.
use Rattle.std.proofs.Common.{◌≡◌, ◌∙◌, ℕ, Bool, true, false, ◌&&◌, Option, Some, None, refl, ap, ltb}
use Rattle.base_core.specs.Users.{same_user}
use Rattle.base_core.specs.Privileges.{same_atom}
use Rattle.base_core.specs.declared.name.User.{User}
use Rattle.base_core.specs.declared.privilege.Atom.{Atom}
use Rattle.grants_core.specs.Content.{gives}
use Rattle.grants_core.specs.Valid.{supports}
use Rattle.grants_core.specs.declared.grant.Grant.{Grant}
use Rattle.links_core.specs.declared.link.Link.{Link}
use Rattle.links_core.specs.Links.{goes_to}
use Rattle.graph_core.specs.Indices.{Indexed, user_at, atom_at, grant_of, is_index, goes_to_place, IsWithin, IsUserIndex, IsAtomIndex}

pub both : (a b c d : Bool) → a ≡ b → c ≡ d → (a && c) ≡ (b && d)
both a b c d h k = ap (λ x. x && c) h ∙ ap (λ x. b && x) k

pub gives_by : (indexed : Indexed) (user : User) (atom : Atom) (u a : Option ℕ) (l : Link) → IsUserIndex indexed user u → IsAtomIndex indexed atom a → IsWithin indexed l → gives user atom (grant_of indexed l) ≡ (is_index a l.atom && is_index u l.grantee)
unfolding gives
gives_by indexed user atom u a l hu ha w = both _ _ _ _ (ha l.atom w.atom) (hu l.grantee w.grantee)

pub and_false : (b : Bool) → (b && false) ≡ false
and_false true = refl
and_false false = refl

-- by a place: both indices
pub goes_to_both : (u a : ℕ) (l : Link) → (is_index (Some a) l.atom && is_index (Some u) l.grantee) ≡ goes_to_place (Some (record { user = u; atom = a })) l
unfolding goes_to
goes_to_both u a l = refl

-- or none
pub gives_no_user : (indexed : Indexed) (user : User) (atom : Atom) (l : Link) → IsUserIndex indexed user None → IsWithin indexed l → gives user atom (grant_of indexed l) ≡ false
unfolding gives
gives_no_user indexed user atom l h w = ap (λ b. same_atom (atom_at indexed l.atom) atom && b) (h l.grantee w.grantee) ∙ and_false (same_atom (atom_at indexed l.atom) atom)

pub gives_no_atom : (indexed : Indexed) (user : User) (atom : Atom) (l : Link) → IsAtomIndex indexed atom None → IsWithin indexed l → gives user atom (grant_of indexed l) ≡ false
unfolding gives
gives_no_atom indexed user atom l h w = ap (λ b. b && same_user (user_at indexed l.grantee) user) (h l.atom w.atom)

regroup : (o a u t : Bool) → (((o && a) && u) && t) ≡ ((o && t) && (a && u))
regroup false a u t = refl
regroup true false u false = refl
regroup true false u true = refl
regroup true true false false = refl
regroup true true false true = refl
regroup true true true false = refl
regroup true true true true = refl

-- a grant supports another that gives its grantor the privilege, with the option, before it
pub supports_is : (h e : Grant) → supports h e ≡ ((h.option && ltb h.moment.0 e.moment.0) && gives e.grantor e.atom h)
unfolding supports gives
supports_is h e = regroup h.option (same_atom h.atom e.atom) (same_user h.grantee e.grantor) (ltb h.moment.0 e.moment.0)
