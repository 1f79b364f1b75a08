-- A sound graph stays so.
use Rattle.std.proofs.Common.{◌≡◌, ℕ, ◌<◌, ◌≤◌, true, false, not, Bool, List, [], ◌∷◌, ◌++◌, ap, arith}
use Rattle.std.specs.List.{AllByRecursion, All}
use Rattle.std.proofs.lemmas.List.Elements.{recursion_from_All}
use Rattle.base_core.specs.declared.name.Name.{Name}
use Rattle.base_core.specs.declared.name.User.{User}
use Rattle.base_core.specs.declared.privilege.Atom.{Atom}
use Rattle.base_core.specs.declared.value.Moment.{Moment}
use Rattle.grants_core.specs.Owners.{with_owner, with_granted, was_granted}
use Rattle.grants_core.specs.Valid.{valid, IsInOrder, AreSupported}
use Rattle.grants_core.specs.Content.{Rights, names, without, options_off, may_grant, singles}
use Rattle.grants_core.specs.declared.grant.Grant.{Grant}
use Rattle.grants_core.specs.declared.grant.Ownership.{Ownership}
use Rattle.grants_core.proofs.OwnersLemmas.{alike-with_granted, AllByRecursion-append, singles-all}
use Rattle.grants_core.proofs.ValidLemmas.{AreSupported-more, AreSupported-append, supported-append}
use Rattle.grants_core.proofs.OptionLemmas.{All-options_off}
use Rattle.grants_core.proofs.GrantLemmas.{All-implied, All-filtered, All-valid, singles-supported}
use Rattle.graph_core.specs.Revocation.{IsSound}
use Rattle.graph_core.proofs.NotedLemmas.{AreNoted, AreSupported-owners, alike-with_owner, AreNoted-with_owner, AreNoted-with_granted, singles-noted}

pub same_content : (os ps : List Ownership) (gs hs : List Grant) (n m : ℕ) → os ≡ ps → gs ≡ hs → n ≡ m → ◌≡◌ {A = Rights} (record { owners = os; in_force = gs; made = n }) (record { owners = ps; in_force = hs; made = m })
same_content os ps gs hs n m e f g = cc

pub IsSound-with_owner : (table : Name) (owner : User) (os : List Ownership) (edges : List Grant) → was_granted os table ≡ false → IsSound os edges → IsSound (with_owner table owner os) edges
IsSound-with_owner table owner os edges fresh h = record {
  in_order = h.in_order;
  supported = AreSupported-owners os (with_owner table owner os) edges edges (alike-with_owner table owner os edges fresh h.noted) h.supported;
  noted = AreNoted-with_owner table owner os edges h.noted;
}

pub AreNoted-revoked : (os : List Ownership) (edges : List Grant) (by : User) (atoms : List Atom) (whom : List User) → AreNoted os edges → AreNoted os (valid os (without by atoms whom edges))
AreNoted-revoked os edges by atoms whom h =
    let P : Grant → Type 0 = λ g. was_granted os g.atom.table ≡ true in
    All-valid P os (without by atoms whom edges) (All-filtered P (λ g. not (names by atoms whom g)) edges h)

pub AreNoted-unoptioned : (os : List Ownership) (edges : List Grant) (by : User) (atoms : List Atom) (whom : List User) → AreNoted os edges → AreNoted os (valid os (options_off by atoms whom edges))
AreNoted-unoptioned os edges by atoms whom h =
    let P : Grant → Type 0 = λ g. was_granted os g.atom.table ≡ true in
    All-valid P os (options_off by atoms whom edges) (All-options_off P (names by atoms whom) edges (λ g k. k) h)

IsInOrder-append : (at : Moment) (gs more : List Grant) → IsInOrder gs → AllByRecursion (λ g. g.moment.0 < at.0) gs → AllByRecursion (λ g. g.moment ≡ at) more → IsInOrder more → IsInOrder (gs ++ more)
IsInOrder-append at [] more h later same ordered = ordered
IsInOrder-append at (g ∷ gs) more h later same ordered = (
  AllByRecursion-append (λ k. g.moment.0 ≤ k.moment.0) gs more h.0
      (All-implied (λ k. k.moment ≡ at) (λ k. g.moment.0 ≤ k.moment.0) more (λ k e. let lt : g.moment.0 < at.0 = later.0 in let b = ap (λ (m : Moment). m.0) e in omega (arith, lt, b)) same),
  IsInOrder-append at gs more h.1 later.1 same ordered,
)

IsInOrder-same : (at : Moment) (gs : List Grant) → AllByRecursion (λ g. g.moment ≡ at) gs → IsInOrder gs
IsInOrder-same at [] h = tt
IsInOrder-same at (g ∷ gs) h = (All-implied (λ k. k.moment ≡ at) (λ k. g.moment.0 ≤ k.moment.0) gs (λ k e. let a = ap (λ (m : Moment). m.0) h.0 in let b = ap (λ (m : Moment). m.0) e in omega (arith, a, b)) h.1, IsInOrder-same at gs h.1)

pub IsSound-added : (os : List Ownership) (edges : List Grant) (first : ℕ) (at : Moment) (by : User) (atoms : List Atom) (whom : List User) (option : Bool) → IsSound os edges → All (λ atom. may_grant os edges by atom ≡ true) atoms → All (λ g. g.moment.0 < at.0) edges → IsSound (with_granted atoms os) (edges ++ singles first at by atoms whom option)
IsSound-added os edges first at by atoms whom option h may later =
    let more : List Grant = singles first at by atoms whom option in
    let notes : List Ownership = with_granted atoms os in
    let May : Atom → Type 0 = λ atom. may_grant os edges by atom ≡ true in
    let may_each : AllByRecursion May atoms = recursion_from_All May atoms may in
    let later_each : AllByRecursion (λ g. g.moment.0 < at.0) edges = recursion_from_All (λ g. g.moment.0 < at.0) edges later in
    let then_made : AllByRecursion (λ g. g.moment ≡ at) more = singles-all (λ g. g.moment ≡ at) May first at by atoms whom option (λ g q by_user made. made) may_each in
    let supported : AreSupported os edges more = singles-supported os edges first at by atoms whom option may_each later_each in
    let old_and_new : AreSupported os (edges ++ more) (edges ++ more) =
    AreSupported-append os (edges ++ more) edges more
    (AreSupported-more os edges (edges ++ more) edges (supported-append os edges more) h.supported)
    (AreSupported-more os edges (edges ++ more) more (supported-append os edges more) supported) in
    record {
      in_order = IsInOrder-append at edges more h.in_order later_each then_made (IsInOrder-same at more then_made);
      supported = AreSupported-owners os notes (edges ++ more) (edges ++ more) (alike-with_granted atoms os (edges ++ more)) old_and_new;
      noted = AllByRecursion-append (λ g. was_granted notes g.atom.table ≡ true) edges more
          (AreNoted-with_granted atoms os edges h.noted)
          (singles-noted os edges first at by atoms whom option h.noted may_each);
    }
