-- When a grant was last revoked, after one more change.
use Rattle.std.proofs.Common.{◌≡◌, ℕ, ◌<◌, ◌≤◌, Bool, true, false, not, ◌||◌, ◌&&◌, cond, ltb, List, [], ◌∷◌, ◌++◌, Option, Some, map, refl, sym, ap, ◌∙◌, arith, ⊎_elim}
use Rattle.std.specs.List.{list_any, filter, AllByRecursion}
use Rattle.std.specs.Map.{lookup}
use Rattle.std.specs.Option.{option_map_or}
use Rattle.std.proofs.Math.Bool.{and-true, and-false, or-false, and-or_distrib_left, and-or_distrib_right}
use Rattle.std.proofs.lemmas.Bool.{cases_Bool, ltb-true, lt-ltb}
use Rattle.std.proofs.lemmas.List.{append-nil, map-append}
use Rattle.std.proofs.lemmas.List.Elements.{filter-append, filter_agree}
use Rattle.std.proofs.lemmas.List.Folds.{list_any-append}
use Rattle.indexmap.specs.IndexMap.{IndexMap, get, Updates}
use Rattle.base_core.specs.Users.{same_user}
use Rattle.base_core.specs.Privileges.{same_atom}
use Rattle.base_core.specs.declared.name.User.{User}
use Rattle.base_core.specs.declared.privilege.Atom.{Atom}
use Rattle.base_core.specs.declared.value.Moment.{Moment}
use Rattle.grants_core.specs.declared.grant.Grant.{Grant}
use Rattle.grants_core.specs.declared.grant.Change.{Change}
use Rattle.grants_core.specs.declared.grant.Change.TheVariants as change
use Rattle.grants_core.specs.declared.key.Granted.{Granted}
use Rattle.grants_core.specs.declared.log.GrantLog.{GrantLog}
use Rattle.grants_core.specs.Keys.{same_granted, granted_by}
use Rattle.grants_core.specs.Content.{names, option_off}
use Rattle.grants_core.specs.History.{granted, is_struck, is_struck_by, is_unoptioned, is_unoptioned_by, left_after}
use Rattle.grants_core.specs.Log.{noted_revocation, last_struck, last_unoptioned, was_struck, was_unoptioned, left_by, IsLogOf}
use Rattle.grants_core.proofs.OptionLemmas.{options_alike}

cond_or : (a b : Bool) (new old : ℕ) → cond (a || b) new old ≡ cond b new (cond a new old)
cond_or true true new old = refl
cond_or true false new old = refl
cond_or false b new old = refl

-- what a revocation from more users notes
pub noted-users : (by : User) (atoms : List Atom) (whom : List User) (user : User) (g : Grant) (new old : ℕ) → cond (names by atoms (whom ++ user ∷ []) g) new old ≡ cond (names by atoms (user ∷ []) g) new (cond (names by atoms whom g) new old)
unfolding names
noted-users by atoms whom user g new old =
    let p : Bool = same_user by g.grantor && list_any (λ a. same_atom a g.atom) atoms in
    let to_him : User → Bool = λ u. same_user u g.grantee in
    ap (λ b. cond (p && b) new old) (list_any-append to_him whom (user ∷ []))
    ∙ ap (λ b. cond b new old) (and-or_distrib_left p (list_any to_him whom) (list_any to_him (user ∷ [])))
    ∙ cond_or (p && list_any to_him whom) (p && list_any to_him (user ∷ [])) new old

-- and one of more privileges
pub noted-atoms : (by : User) (atoms : List Atom) (atom : Atom) (whom : List User) (g : Grant) (new old : ℕ) → cond (names by (atoms ++ atom ∷ []) whom g) new old ≡ cond (names by (atom ∷ []) whom g) new (cond (names by atoms whom g) new old)
unfolding names
noted-atoms by atoms atom whom g new old =
    let p : Bool = same_user by g.grantor in
    let q : Bool = list_any (λ u. same_user u g.grantee) whom in
    let of_it : Atom → Bool = λ a. same_atom a g.atom in
    ap (λ b. cond ((p && b) && q) new old) (list_any-append of_it atoms (atom ∷ []))
    ∙ ap (λ b. cond (b && q) new old) (and-or_distrib_left p (list_any of_it atoms) (list_any of_it (atom ∷ [])))
    ∙ ap (λ b. cond b new old) (and-or_distrib_right (p && list_any of_it atoms) (p && list_any of_it (atom ∷ [])) q)
    ∙ cond_or ((p && list_any of_it atoms) && q) ((p && list_any of_it (atom ∷ [])) && q) new old

-- one from nobody, or of nothing
pub noted-no_users : (by : User) (atoms : List Atom) (g : Grant) (new old : ℕ) → old ≡ cond (names by atoms [] g) new old
unfolding names
noted-no_users by atoms g new old =
    sym (ap (λ b. cond b new old) (and-false (same_user by g.grantor && list_any (λ a. same_atom a g.atom) atoms)))

pub noted-no_atoms : (by : User) (whom : List User) (g : Grant) (new old : ℕ) → old ≡ cond (names by [] whom g) new old
unfolding names
noted-no_atoms by whom g new old =
    sym (ap (λ b. cond (b && list_any (λ u. same_user u g.grantee) whom) new old) (and-false (same_user by g.grantor)))

one_named : (a b c : Bool) → (a && (c && b)) ≡ ((a && (b || false)) && (c || false))
one_named true true true = refl
one_named true true false = refl
one_named true false true = refl
one_named true false false = refl
one_named false b c = refl

noted_at : (here : Bool) (new : Moment) (old : Option Moment) → option_map_or (λ (at : Moment). at.0) (cond here (Some new) old) 0 ≡ cond here new.0 (option_map_or (λ (at : Moment). at.0) old 0)
noted_at true new old = refl
noted_at false new old = refl

-- what is noted of one grant
pub noted_revocation-noted : {S : Type 0} (m n : IndexMap Granted Moment S) (by : User) (atom : Atom) (user : User) (at : Moment) → Updates same_granted m n (record { by = by; holding = record { user = user; privilege = record { 0 = atom } } }) (Some at) → (g : Grant) → noted_revocation n g ≡ cond (names by (atom ∷ []) (user ∷ []) g) at.0 (noted_revocation m g)
unfolding noted_revocation names
noted_revocation-noted m n by atom user at new g =
    let key : Granted = record { by = by; holding = record { user = user; privilege = record { 0 = atom } } } in
    let old : Option Moment = get same_granted m (granted_by g) in
    ap (λ (o : Option Moment). option_map_or (λ (t : Moment). t.0) o 0) (new.0 (granted_by g))
    ∙ noted_at (same_granted key (granted_by g)) at old
    ∙ ap (λ b. cond b at.0 (option_map_or (λ (t : Moment). t.0) old 0)) (one_named (same_user by g.grantor) (same_atom atom g.atom) (same_user user g.grantee))

-- an empty map
pub noted_revocation-none : {S : Type 0} (m : IndexMap Granted Moment S) (g : Grant) → m.entries ≡ [] → noted_revocation m g ≡ 0
unfolding noted_revocation
noted_revocation-none m g empty = ap (λ es. option_map_or (λ (t : Moment). t.0) (lookup (same_granted (granted_by g)) es) 0) empty

-- the later of two revocations decides
later_decides : (named : Bool) (at m last : ℕ) → last ≤ m → ltb at (cond named m last) ≡ (ltb at last || (ltb at m && named))
later_decides true at m last le =
    ⊎_elim
    (λ (before : ltb at last ≡ true).
    let near : at < last = ltb-true at last before in
    let far : at < m = omega (arith, near, le) in
    lt-ltb at m far ∙ sym (ap (λ b. b || (ltb at m && true)) before))
    (λ (late : ltb at last ≡ false). sym (ap (λ b. b || (ltb at m && true)) late ∙ and-true (ltb at m)))
    (cases_Bool (ltb at last))
later_decides false at m last le = sym (ap (λ b. ltb at last || b) (and-false (ltb at m)) ∙ or-false (ltb at last))

pub struck-later : (m : ℕ) (c : Change) (g : Grant) (last : ℕ) → last ≤ m → ltb g.moment.0 (last_struck m c g last) ≡ (ltb g.moment.0 last || is_struck_by m c g)
struck-later m (change.Create table owner) g last le = sym (or-false (ltb g.moment.0 last))
struck-later m (change.Grant by atoms whom option) g last le = sym (or-false (ltb g.moment.0 last))
struck-later m (change.Revoke by atoms whom) g last le = later_decides (names by atoms whom g) g.moment.0 m last le
struck-later m (change.RevokeOption by atoms whom) g last le = sym (or-false (ltb g.moment.0 last))
struck-later m (change.Other) g last le = sym (or-false (ltb g.moment.0 last))

pub unoptioned-later : (m : ℕ) (c : Change) (g : Grant) (last : ℕ) → last ≤ m → ltb g.moment.0 (last_unoptioned m c g last) ≡ (ltb g.moment.0 last || is_unoptioned_by m c g)
unoptioned-later m (change.Create table owner) g last le = sym (or-false (ltb g.moment.0 last))
unoptioned-later m (change.Grant by atoms whom option) g last le = sym (or-false (ltb g.moment.0 last))
unoptioned-later m (change.Revoke by atoms whom) g last le = sym (or-false (ltb g.moment.0 last))
unoptioned-later m (change.RevokeOption by atoms whom) g last le = later_decides (names by atoms whom g) g.moment.0 m last le
unoptioned-later m (change.Other) g last le = sym (or-false (ltb g.moment.0 last))

either_early : (named : Bool) (m last : ℕ) → last ≤ m → cond named m last ≤ m
either_early true m last le = omega arith
either_early false m last le = le

-- no revocation is noted that is yet to come
pub last_struck-early : (m : ℕ) (c : Change) (g : Grant) (last : ℕ) → last ≤ m → last_struck m c g last ≤ m
last_struck-early m (change.Create table owner) g last le = le
last_struck-early m (change.Grant by atoms whom option) g last le = le
last_struck-early m (change.Revoke by atoms whom) g last le = either_early (names by atoms whom g) m last le
last_struck-early m (change.RevokeOption by atoms whom) g last le = le
last_struck-early m (change.Other) g last le = le

pub last_unoptioned-early : (m : ℕ) (c : Change) (g : Grant) (last : ℕ) → last ≤ m → last_unoptioned m c g last ≤ m
last_unoptioned-early m (change.Create table owner) g last le = le
last_unoptioned-early m (change.Grant by atoms whom option) g last le = le
last_unoptioned-early m (change.Revoke by atoms whom) g last le = le
last_unoptioned-early m (change.RevokeOption by atoms whom) g last le = either_early (names by atoms whom g) m last le
last_unoptioned-early m (change.Other) g last le = le

-- what a log leaves, after one more grant
left_by-split : (log : GrantLog) (grants : List Grant) (g : Grant) → left_by log (grants ++ g ∷ []) ≡ left_by log grants ++ left_by log (g ∷ [])
left_by-split log grants g =
    let stays : Grant → Bool = λ h. not (was_struck log h) in
    ap (map (option_off (was_unoptioned log))) (filter-append stays grants (g ∷ []))
    ∙ map-append (option_off (was_unoptioned log)) (filter stays grants) (filter stays (g ∷ []))

pub left_by-struck : (log : GrantLog) (grants : List Grant) (g : Grant) → was_struck log g ≡ true → left_by log (grants ++ g ∷ []) ≡ left_by log grants
left_by-struck log grants g struck =
    left_by-split log grants g
    ∙ ap (λ b. left_by log grants ++ map (option_off (was_unoptioned log)) (cond (not b) (g ∷ []) [])) struck
    ∙ append-nil (left_by log grants)

pub left_by-left : (log : GrantLog) (grants : List Grant) (g : Grant) → was_struck log g ≡ false → left_by log (grants ++ g ∷ []) ≡ left_by log grants ++ option_off (was_unoptioned log) g ∷ []
left_by-left log grants g unstruck =
    left_by-split log grants g
    ∙ ap (λ b. left_by log grants ++ map (option_off (was_unoptioned log)) (cond (not b) (g ∷ []) [])) unstruck

alike : (p q : Grant → Bool) → ((g : Grant) → p g ≡ q g) → (gs : List Grant) → AllByRecursion (λ g. p g ≡ q g) gs
alike p q same [] = tt
alike p q same (g ∷ gs) = (same g, alike p q same gs)

-- **what the log of the changes leaves is what they leave**
pub left_by-log : (log : GrantLog) (changes : List Change) → IsLogOf log changes → left_by log log.made.items ≡ left_after changes
left_by-log log changes is =
    let stays : Grant → Bool = λ g. not (was_struck log g) in
    let unstruck : Grant → Bool = λ g. not (is_struck changes g) in
    ap (left_by log) is.made
    ∙ ap (map (option_off (was_unoptioned log))) (filter_agree stays unstruck (λ g. ap not (is.struck g)) (granted changes))
    ∙ options_alike (was_unoptioned log) (is_unoptioned changes) (filter unstruck (granted changes)) (alike (was_unoptioned log) (is_unoptioned changes) is.unoptioned (filter unstruck (granted changes)))
