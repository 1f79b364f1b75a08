-- The privileges that grants give a user.
use Rattle.std.proofs.Common.{◌≡◌, Bool, true, false, ◌&&◌, ◌||◌, cond, refl, sym, ap, ◌∙◌}
use Rattle.base_core.specs.Users.{same_user}
use Rattle.base_core.specs.Privileges.{same_atom}
use Rattle.base_core.specs.declared.name.User.{User}
use Rattle.base_core.specs.declared.privilege.Atom.{Atom}
use Rattle.grants_core.specs.Content.{gives}
use Rattle.grants_core.specs.declared.grant.Grant.{Grant}

then_some : (b x : Bool) → cond b true x ≡ (x || (b && true))
then_some true true = refl
then_some true false = refl
then_some false true = refl
then_some false false = refl

then_none : (b x : Bool) → x ≡ (x || (b && false))
then_none true true = refl
then_none true false = refl
then_none false true = refl
then_none false false = refl

-- with a grant to the user, its privilege is given too
pub with_grant : (user : User) (atom : Atom) (g : Grant) (x : Bool) → same_user g.grantee user ≡ true → cond (same_atom g.atom atom) true x ≡ (x || gives user atom g)
unfolding gives
with_grant user atom g x to_him = then_some (same_atom g.atom atom) x ∙ ap (λ b. x || (same_atom g.atom atom && b)) (sym to_him)

-- with a grant to another, no privilege more
pub with_another : (user : User) (atom : Atom) (g : Grant) (x : Bool) → same_user g.grantee user ≡ false → x ≡ (x || gives user atom g)
unfolding gives
with_another user atom g x other = then_none (same_atom g.atom atom) x ∙ ap (λ b. x || (same_atom g.atom atom && b)) (sym other)
