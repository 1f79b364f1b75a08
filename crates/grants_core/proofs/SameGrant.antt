-- Two grants that a test calls the same are equal.
use Rattle.std.proofs.Common.{◌≡◌, ℕ, Bool, true, false, ap, refl, subst}
use Rattle.std.specs.Bool.{Decides, beq}
use Rattle.std.proofs.lemmas.Bool.{and_parts, and_from, eqb-true, eq-eqb}
use Rattle.grants_core.specs.Log.{same_grant}
use Rattle.grants_core.specs.declared.grant.Grant.{Grant}
use Rattle.base_core.specs.declared.privilege.Atom.{Atom}
use Rattle.base_core.specs.declared.name.User.{User}
use Rattle.base_core.specs.declared.value.Moment.{Moment}
use Rattle.base_core.proofs.SameLemmas.{same_user-true, same_atom-true, same_user-refl, same_atom-refl}

beq-true : (a b : Bool) → beq a b ≡ true → a ≡ b
beq-true true true h = refl
beq-true false false h = refl
beq-true true false h = cc
beq-true false true h = cc

beq-refl : (a : Bool) → beq a a ≡ true
beq-refl true = refl
beq-refl false = refl

-- a grant is its fields
abbrev grant_of : ℕ → Moment → Atom → User → User → Bool → Grant
grant_of n m a r e o = record { number = n; moment = m; atom = a; grantor = r; grantee = e; option = o }

same_fields : (n n' : ℕ) (m m' : Moment) (a a' : Atom) (r r' e e' : User) (o o' : Bool) → n ≡ n' → m ≡ m' → a ≡ a' → r ≡ r' → e ≡ e' → o ≡ o' → grant_of n m a r e o ≡ grant_of n' m' a' r' e' o'
same_fields n n' m m' a a' r r' e e' o o' p q s t u v = cc

same_grant-true : (a b : Grant) → same_grant a b ≡ true → a ≡ b
same_grant-true a b h =
    let five = and_parts _ _ h in
    let four = and_parts _ _ five.0 in
    let three = and_parts _ _ four.0 in
    let two = and_parts _ _ three.0 in
    let one = and_parts _ _ two.0 in
    let numbers : a.number ≡ b.number = eqb-true _ _ one.0 in
    let times : a.moment.0 ≡ b.moment.0 = eqb-true _ _ one.1 in
    let moments : a.moment ≡ b.moment = ap (λ n. record { 0 = n }) times in
    let atoms : a.atom ≡ b.atom = same_atom-true _ _ two.1 in
    let grantors : a.grantor ≡ b.grantor = same_user-true _ _ three.1 in
    let grantees : a.grantee ≡ b.grantee = same_user-true _ _ four.1 in
    let options : a.option ≡ b.option = beq-true _ _ five.1 in
    same_fields _ _ _ _ _ _ _ _ _ _ _ _ numbers moments atoms grantors grantees options

pub grant-Decides : (a b : Grant) → Decides (same_grant a b) (a ≡ b)
grant-Decides a b =
    let P : Grant → Type 0 = λ x. same_grant a x ≡ true in
    let own : same_grant a a ≡ true =
    and_from _ _ (and_from _ _ (and_from _ _ (and_from _ _ (and_from _ _ (eq-eqb a.number a.number refl) (eq-eqb a.moment.0 a.moment.0 refl)) (same_atom-refl a.atom)) (same_user-refl a.grantor)) (same_user-refl a.grantee)) (beq-refl a.option) in
    (same_grant-true a b, λ e. subst P e own)
