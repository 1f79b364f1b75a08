-- Keys that are the same are equal.
use Rattle.std.proofs.Common.{◌≡◌, Bool, true, false, ap, sym, refl, subst, ◌∙◌}
use Rattle.std.specs.Cmp.{IsEquivalence}
use Rattle.std.proofs.lemmas.Bool.{and_parts, and_from}
use Rattle.base_core.specs.declared.name.User.{User}
use Rattle.base_core.specs.declared.privilege.Atom.{Atom}
use Rattle.base_core.specs.Users.{same_user}
use Rattle.base_core.specs.Privileges.{same_atom}
use Rattle.base_core.proofs.SameLemmas.{same_user-true, same_user-refl, same_atom-true, same_atom-refl}
use Rattle.grants_core.specs.declared.key.Key.{Key}
use Rattle.grants_core.specs.declared.key.Holding.{Holding}
use Rattle.grants_core.specs.declared.key.Granted.{Granted}
use Rattle.grants_core.specs.Keys.{same_key, same_holding, same_granted}

both_ways_eq : (x y : Bool) → (x ≡ true → y ≡ true) → (y ≡ true → x ≡ true) → x ≡ y
both_ways_eq true y f g = sym (f refl)
both_ways_eq false true f g = g refl
both_ways_eq false false f g = refl

-- a test that holds of equal values alone, and of each and itself
module _ {K : Type 0} (eq : K → K → Bool)
    (same : (x y : K) → eq x y ≡ true → x ≡ y) (own : (x : K) → eq x x ≡ true) where
  flip_true : (x y : K) → eq x y ≡ true → eq y x ≡ true
  flip_true x y h = subst (λ (k : K). eq k x ≡ true) (same x y h) (own x)

  flip : (x y : K) → eq x y ≡ eq y x
  flip x y = both_ways_eq (eq x y) (eq y x) (flip_true x y) (flip_true y x)

  equivalence : IsEquivalence eq
  equivalence = record {
    refl = own;
    symm = flip;
    congr = λ x y z h. ap (λ (k : K). eq k z) (same x y h);
  }

pub same_atom-flip : (a b : Atom) → same_atom a b ≡ same_atom b a
same_atom-flip = flip same_atom same_atom-true same_atom-refl

pub same_key-true : (a b : Key) → same_key a b ≡ true → a ≡ b
same_key-true a b h = ap (λ (k : Atom). record { 0 = k }) (same_atom-true a.0 b.0 h)

pub same_key-equivalence : IsEquivalence same_key
same_key-equivalence = equivalence same_key same_key-true (λ k. same_atom-refl k.0)

pub same_holding-true : (a b : Holding) → same_holding a b ≡ true → a ≡ b
same_holding-true a b h =
    let parts = and_parts (same_user a.user b.user) (same_key a.privilege b.privilege) h in
    ap (λ (u : User). record { user = u; privilege = a.privilege })
    (same_user-true a.user b.user parts.0)
    ∙ ap (λ (k : Key). record { user = b.user; privilege = k })
    (same_key-true a.privilege b.privilege parts.1)

same_holding-refl : (a : Holding) → same_holding a a ≡ true
same_holding-refl a = and_from _ _ (same_user-refl a.user) (same_atom-refl a.privilege.0)

pub same_holding-equivalence : IsEquivalence same_holding
same_holding-equivalence = equivalence same_holding same_holding-true same_holding-refl

pub same_granted-true : (a b : Granted) → same_granted a b ≡ true → a ≡ b
same_granted-true a b h =
    let parts = and_parts (same_user a.by b.by) (same_holding a.holding b.holding) h in
    ap (λ (u : User). record { by = u; holding = a.holding }) (same_user-true a.by b.by parts.0)
    ∙ ap (λ (k : Holding). record { by = b.by; holding = k })
    (same_holding-true a.holding b.holding parts.1)

same_granted-refl : (a : Granted) → same_granted a a ≡ true
same_granted-refl a = and_from _ _ (same_user-refl a.by) (same_holding-refl a.holding)

pub same_granted-equivalence : IsEquivalence same_granted
same_granted-equivalence = equivalence same_granted same_granted-true same_granted-refl
