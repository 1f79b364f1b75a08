-- Fingerprints tell grants apart.
use Rattle.std.proofs.Common.{◌≡◌, ◌⊎◌, ⊎_elim, ℕ, zero, suc, ◌+◌, ◌*◌, ◌<◌, ◌≤◌, Bool, true, false, ◌||◌, List, [], ◌∷◌, take, drop, map, length, get_or, Some, refl, sym, ap, ◌∙◌, arith}
use Rattle.std.specs.List.{list_any, slice_get, fold}
use Rattle.std.specs.Option.{option_map}
use Rattle.std.proofs.lemmas.Bool.{and_parts, false_from_ne_true}
use Rattle.std.proofs.Math.Nat.{mod-lt}
use Rattle.std.proofs.lemmas.List.{take-append-drop, length-map, length-take}
use Rattle.std.proofs.lemmas.List.Folds.{list_any-append}
use Rattle.std.proofs.lemmas.Option.{get_or_from_slice_get, slice_get-get_or}
use Rattle.base_core.specs.declared.name.User.{User}
use Rattle.base_core.specs.declared.privilege.Atom.{Atom}
use Rattle.base_core.proofs.SameLemmas.{same_name-true, same_user-true}
use Rattle.grants_core.specs.Content.{gives}
use Rattle.grants_core.specs.declared.grant.Grant.{Grant}
use Rattle.capture_core.specs.Fingerprints.{mixed, part_of, grant_fingerprint, fingerprint_of}
use Rattle.capture_core.specs.Image.{gives_one}
use Rattle.base_core.specs.Privileges.{to_select}
use Rattle.base_core.specs.declared.name.Name.{Name}
use Rattle.base_core.specs.declared.value.Column.{Column}

-- a grant that gives the user the atom has the fingerprint of both
gives-fingerprint : (user : User) (atom : Atom) (g : Grant) → gives user atom g ≡ true → grant_fingerprint g ≡ fingerprint_of user atom.table
unfolding gives
gives-fingerprint user atom g h =
    let both = and_parts _ _ h in
    let same = and_parts _ _ both.0 in
    ap (λ u. fingerprint_of u g.atom.table) (same_user-true g.grantee user both.1) ∙ ap (fingerprint_of user) (same_name-true g.atom.table atom.table same.0)

part_small-from : (part : ℕ) (bytes : List ℕ) → part < 65521 → fold mixed part bytes < 65521
part_small-from part [] small = small
part_small-from part (b ∷ bytes) small = part_small-from (mixed part b) bytes (mod-lt (part * 31 + b) (omega arith))

part_small : (bytes : List ℕ) → part_of bytes < 65521
part_small bytes = part_small-from 0 bytes (omega arith)

-- one whose fingerprint is out of the user's range is not to him
pub out_of_range : (user : User) (atom : Atom) (g : Grant) → (grant_fingerprint g < part_of user.0 * 65536) ⊎ (part_of user.0 * 65536 + 65535 < grant_fingerprint g)
    → gives user atom g ≡ false
unfolding gives
out_of_range user atom g out = false_from_ne_true (gives user atom g) (λ h.
    let table = part_of g.atom.table in
    let small : table < 65521 = part_small g.atom.table in
    let fingerprint : grant_fingerprint g ≡ part_of user.0 * 65536 + table = ap (λ (u : User). part_of u.0 * 65536 + table) (same_user-true g.grantee user (and_parts _ _ h).1) in
    ⊎_elim (λ (low : grant_fingerprint g < part_of user.0 * 65536). omega (arith, low, fingerprint)) (λ (high : part_of user.0 * 65536 + 65535 < grant_fingerprint g). omega (arith, high, fingerprint, small)) out)

-- so one of another fingerprint does not
pub another-fingerprint : (user : User) (atom : Atom) (g : Grant) → (grant_fingerprint g ≡ fingerprint_of user atom.table → ⊥) → gives user atom g ≡ false
another-fingerprint user atom g other = false_from_ne_true (gives user atom g) (λ h. other (gives-fingerprint user atom g h))

slice_get-take : {X : Type 0} (n : ℕ) (xs : List X) (i : ℕ) → i < n → slice_get (take n xs) i ≡ slice_get xs i
slice_get-take zero xs i below = absurd (omega (arith, below))
slice_get-take (suc n) [] i below = refl
slice_get-take (suc n) (x ∷ xs) zero below = refl
slice_get-take (suc n) (x ∷ xs) (suc i) below = slice_get-take n xs i (omega (arith, below))

slice_get-mapped : {X Y : Type 0} (f : X → Y) (xs : List X) (i : ℕ) (x : X) → slice_get xs i ≡ Some x → slice_get (map f xs) i ≡ Some (f x)
slice_get-mapped f [] i x found = cc
slice_get-mapped f (y ∷ xs) zero x found = ap (option_map f) found
slice_get-mapped f (y ∷ xs) (suc i) x found = slice_get-mapped f xs i x found

-- there are no more fingerprints than grants
pub few_fingerprints : (fingerprints : List ℕ) (grants : List Grant) → fingerprints ≡ map grant_fingerprint (take (length fingerprints) grants) → length fingerprints ≤ length grants
few_fingerprints fingerprints grants are =
    omega (arith, ap length are, length-map (take (length fingerprints) grants) grant_fingerprint, length-take (length fingerprints) grants)

-- the fingerprint at a place is that of the grant there
pub fingerprint_there : (fingerprints : List ℕ) (grants : List Grant) (i : ℕ) (g : Grant) → fingerprints ≡ map grant_fingerprint (take (length fingerprints) grants) → i < length fingerprints → g ≡ get_or grants i g
    → get_or fingerprints i 0 ≡ grant_fingerprint g
fingerprint_there fingerprints grants i g are below read =
    let many = few_fingerprints fingerprints grants are in
    let found : slice_get grants i ≡ Some g = slice_get-get_or grants i g (omega (arith, below, many)) ∙ ap Some (sym read) in
    get_or_from_slice_get fingerprints i (grant_fingerprint g) 0
    (ap (λ l. slice_get l i) are ∙ slice_get-mapped grant_fingerprint (take (length fingerprints) grants) i g (slice_get-take (length fingerprints) grants i below ∙ found))

-- what passes among the first items or the others passes among all
pub any_of_parts : {X : Type 0} (p : X → Bool) (n : ℕ) (xs : List X) → list_any p xs ≡ (list_any p (take n xs) || list_any p (drop n xs))
any_of_parts p n xs = ap (list_any p) (sym (take-append-drop n xs)) ∙ list_any-append p (take n xs) (drop n xs)

-- and so it gives him SELECT of no column of the table
pub another-fingerprint-of_one : (user : User) (table : Name) (columns : List Column) (g : Grant) → (grant_fingerprint g ≡ fingerprint_of user table → ⊥) → gives_one user table columns g ≡ false
another-fingerprint-of_one user table [] g other = refl
another-fingerprint-of_one user table (c ∷ cs) g other =
    ap (λ b. b || gives_one user table cs g) (another-fingerprint user (to_select table c.name) g other) ∙ another-fingerprint-of_one user table cs g other

any_false : {Y : Type 0} (ys : List Y) → list_any (λ y. false) ys ≡ false
any_false [] = refl
any_false (y ∷ ys) = any_false ys

any_or : {Y : Type 0} (p q : Y → Bool) (ys : List Y) → list_any (λ y. p y || q y) ys ≡ (list_any p ys || list_any q ys)
any_or p q [] = refl
any_or p q (y ∷ ys) = ap (λ b. (p y || q y) || b) (any_or p q ys) ∙ four (p y) (q y) (list_any p ys) (list_any q ys)
  where
    four : (a b x y : Bool) → ((a || b) || (x || y)) ≡ ((a || x) || (b || y))
    four true b x y = refl
    four false true true y = refl
    four false true false y = refl
    four false false x y = refl

-- whether for one of the ones one of the others passes: either may be gone over first
pub any_turned : {X Y : Type 0} (p : X → Y → Bool) (xs : List X) (ys : List Y) → list_any (λ x. list_any (p x) ys) xs ≡ list_any (λ y. list_any (λ x. p x y) xs) ys
any_turned p [] ys = sym (any_false ys)
any_turned p (x ∷ xs) ys = ap (λ b. list_any (p x) ys || b) (any_turned p xs ys) ∙ sym (any_or (p x) (λ y. list_any (λ z. p z y) xs) ys)
