-- Which tables are noted after a list of changes.
use Rattle.std.proofs.Common.{◌≡◌, ℕ, ◌+◌, ◌<◌, Bool, true, false, not, ◌||◌, ◌&&◌, cond, List, [], ◌∷◌, ◌++◌, Option, Some, None, length, drop, take, zero, suc, refl, sym, ap, ◌∙◌, subst, arith, append_assoc, ⊎_elim, mul-zero}
use Rattle.std.specs.List.{AllByRecursion, list_any, fold, prefix_len, before_first, after_first}
use Rattle.std.proofs.Math.Bool.{or_assoc}
use Rattle.std.proofs.lemmas.Bool.{and_parts, or_cases, or_left, or_right, or_from, or_parts, cases_Bool, both_ways, cond-true, cond-false, false_from_ne_true, false≢true}
use Rattle.std.proofs.lemmas.List.Folds.{list_any-append}
use Rattle.std.proofs.lemmas.List.Elements.{recursion_from_All}
use Rattle.base_core.specs.Words.{same_name}
use Rattle.base_core.specs.Users.{same_user}
use Rattle.base_core.specs.declared.name.Name.{Name}
use Rattle.base_core.specs.declared.name.User.{User}
use Rattle.base_core.specs.declared.privilege.Atom.{Atom}
use Rattle.base_core.specs.declared.value.Moment.{Moment}
use Rattle.grants_core.specs.declared.grant.Grant.{Grant}
use Rattle.grants_core.specs.declared.grant.Ownership.{Ownership}
use Rattle.grants_core.specs.declared.grant.Change.{Change}
use Rattle.grants_core.specs.declared.grant.Change.TheVariants as change
use Rattle.base_core.specs.Privileges.{same_atom}
use Rattle.grants_core.specs.Owners.{owner_of, owns, was_granted, with_owner, with_granted}
use Rattle.grants_core.specs.Content.{gives, may_grant, to_each, singles}
use Rattle.grants_core.specs.History.{made_by, grants_of, owners_with, granted_from, granted, is_granted, is_struck, is_unoptioned, owners_after, unstruck_after, left_after, in_force_after}
use Rattle.grants_core.specs.Noted.{is_noted, creates, grants_on, is_granted_once_created, is_granted_uncreated, AreToSomebody, AreGrantable}
use Rattle.base_core.proofs.SameLemmas.{same_name-true, same_name-refl, same_atom-true}
use Rattle.grants_core.proofs.OwnersLemmas.{was_granted-with_owner, owner_of-cons}
use Rattle.grants_core.proofs.GrantLemmas.{All-filtered, All-valid}
use Rattle.grants_core.proofs.OptionLemmas.{All-options_off}
use Rattle.grants_core.proofs.HistoryLemmas.{none_of}

or_false : (b : Bool) → b ≡ (b || false)
or_false true = refl
or_false false = refl

or_twice : (a b : Bool) → (a || b) ≡ ((a || b) || a)
or_twice true b = refl
or_twice false b = or_false b

same_name-sym : (a b : Name) → same_name a b ≡ true → same_name b a ≡ true
same_name-sym a b h = let P : Name → Type 0 = λ n. same_name n a ≡ true in subst P (same_name-true a b h) (same_name-refl a)

-- whether a table has an entry among the owners
abbrev has_entry : List Ownership → Name → Bool
has_entry owners t = list_any (λ o. same_name o.table t) owners

has_entry-with_owner : (name : Name) (user : User) (os : List Ownership) (t : Name) → has_entry (with_owner name user os) t ≡ (has_entry os t || same_name name t)
has_entry-with_owner name user [] t = sym (or_false (same_name name t))
has_entry-with_owner name user (o ∷ os) t =
    ⊎_elim
    (λ (here : same_name o.table name ≡ true).
    let P : Name → Type 0 = λ n. (same_name o.table t || has_entry os t) ≡ ((same_name o.table t || has_entry os t) || same_name n t) in
    ap (λ k. has_entry k t) (cond-true (same_name o.table name) (record o { owner = user } ∷ os) (o ∷ with_owner name user os) here)
    ∙ subst P (same_name-true o.table name here) (or_twice (same_name o.table t) (has_entry os t)))
    (λ (there : same_name o.table name ≡ false).
    ap (λ k. has_entry k t) (cond-false (same_name o.table name) (record o { owner = user } ∷ os) (o ∷ with_owner name user os) there)
    ∙ ap (λ b. same_name o.table t || b) (has_entry-with_owner name user os t)
    ∙ sym (or_assoc (same_name o.table t) (has_entry os t) (same_name name t)))
    (cases_Bool (same_name o.table name))

has_entry-with_granted : (atoms : List Atom) (os : List Ownership) (t : Name) → has_entry (with_granted atoms os) t ≡ has_entry os t
has_entry-with_granted atoms [] t = refl
has_entry-with_granted atoms (o ∷ os) t = ap (λ b. same_name o.table t || b) (has_entry-with_granted atoms os t)

-- a table has an entry once it was created
has_entry-after : (os : List Ownership) (cs : List Change) (t : Name) → has_entry (fold owners_with os cs) t ≡ (has_entry os t || list_any (creates t) cs)
has_entry-after os [] t = or_false (has_entry os t)
has_entry-after os (change.Create name owner ∷ cs) t =
    has_entry-after (with_owner name owner os) cs t ∙ ap (λ b. b || list_any (creates t) cs) (has_entry-with_owner name owner os t)
    ∙ or_assoc (has_entry os t) (same_name name t) (list_any (creates t) cs)
has_entry-after os (change.Grant by atoms whom option ∷ cs) t =
    has_entry-after (with_granted atoms os) cs t ∙ ap (λ b. b || list_any (creates t) cs) (has_entry-with_granted atoms os t)
has_entry-after os (change.Revoke by atoms whom ∷ cs) t = has_entry-after os cs t
has_entry-after os (change.RevokeOption by atoms whom ∷ cs) t = has_entry-after os cs t
has_entry-after os (change.Other ∷ cs) t = has_entry-after os cs t

unnoted : (os : List Ownership) (t : Name) → has_entry os t ≡ false → was_granted os t ≡ false
unnoted [] t h = refl
unnoted (o ∷ os) t h =
    let parts = or_parts _ _ h in
    or_from (o.granted && same_name o.table t) _ (false_from_ne_true _ (λ both. both_ways _ parts.0 (and_parts o.granted (same_name o.table t) both).1)) (unnoted os t parts.1)

unowned : (os : List Ownership) (t : Name) → has_entry os t ≡ false → owner_of os t ≡ None
unowned [] t h = refl
unowned (o ∷ os) t h =
    let parts = or_parts _ _ h in
    owner_of-cons o os t ∙ cond-false (same_name o.table t) (Some o.owner) (owner_of os t) parts.0 ∙ unowned os t parts.1

marked_here : (g m w e : Bool) → (((g || m) && true) || (w || (e && m))) ≡ (((g && true) || w) || ((true || e) && m))
marked_here true m w e = refl
marked_here false true true e = refl
marked_here false true false e = refl
marked_here false false true e = refl
marked_here false false false true = refl
marked_here false false false false = refl

marked_elsewhere : (g n m w e : Bool) → (((g || n) && false) || (w || (e && m))) ≡ (((g && false) || w) || ((false || e) && m))
marked_elsewhere true n m true e = refl
marked_elsewhere true n m false e = refl
marked_elsewhere false true m true e = refl
marked_elsewhere false true m false e = refl
marked_elsewhere false false m true e = refl
marked_elsewhere false false m false e = refl

-- a grant notes the tables of its atoms that have an entry
was_granted-granted : (atoms : List Atom) (os : List Ownership) (t : Name) → was_granted (with_granted atoms os) t ≡ (was_granted os t || (has_entry os t && list_any (λ a. same_name a.table t) atoms))
was_granted-granted atoms [] t = refl
was_granted-granted atoms (o ∷ os) t =
    let meant : Name → Bool = λ n. list_any (λ a. same_name a.table n) atoms in
    let m : Bool = meant t in
    let w : Bool = was_granted os t in
    let e : Bool = has_entry os t in
    let rest : was_granted (with_granted atoms os) t ≡ (w || (e && m)) = was_granted-granted atoms os t in
    let Goal : Bool → Type 0 = λ s. (((o.granted || meant o.table) && s) || (w || (e && m))) ≡ (((o.granted && s) || w) || ((s || e) && m)) in
    ap (λ k. ((o.granted || meant o.table) && same_name o.table t) || k) rest
    ∙ ⊎_elim
    (λ (here : same_name o.table t ≡ true).
    let Meant : Bool → Type 0 = λ k. (((o.granted || k) && true) || (w || (e && m))) ≡ (((o.granted && true) || w) || ((true || e) && m)) in
    subst Goal (sym here) (subst Meant (sym (ap meant (same_name-true o.table t here))) (marked_here o.granted m w e)))
    (λ (there : same_name o.table t ≡ false). subst Goal (sym there) (marked_elsewhere o.granted (meant o.table) m w e))
    (cases_Bool (same_name o.table t))

-- the notes of a table that has an entry
noted-from_entry : (os : List Ownership) (cs : List Change) (t : Name) → has_entry os t ≡ true → was_granted (fold owners_with os cs) t ≡ (was_granted os t || list_any (grants_on t) cs)
noted-from_entry os [] t h = or_false (was_granted os t)
noted-from_entry os (change.Create name owner ∷ cs) t h =
    noted-from_entry (with_owner name owner os) cs t (has_entry-with_owner name owner os t ∙ or_left _ _ h)
    ∙ ap (λ b. b || list_any (grants_on t) cs) (was_granted-with_owner name owner os t)
noted-from_entry os (change.Grant by atoms whom option ∷ cs) t h =
    let m : Bool = list_any (λ a. same_name a.table t) atoms in
    let rest : Bool = list_any (grants_on t) cs in
    noted-from_entry (with_granted atoms os) cs t (has_entry-with_granted atoms os t ∙ h)
    ∙ ap (λ b. b || rest) (was_granted-granted atoms os t ∙ ap (λ b. was_granted os t || (b && m)) h)
    ∙ or_assoc (was_granted os t) m rest
noted-from_entry os (change.Revoke by atoms whom ∷ cs) t h = noted-from_entry os cs t h
noted-from_entry os (change.RevokeOption by atoms whom ∷ cs) t h = noted-from_entry os cs t h
noted-from_entry os (change.Other ∷ cs) t h = noted-from_entry os cs t h

after_first-skip : (p : Change → Bool) (c : Change) (cs : List Change) → p c ≡ false → after_first p (c ∷ cs) ≡ after_first p cs
after_first-skip p c cs h =
    let n : ℕ = prefix_len (λ x. not (p x)) cs in
    let one : (1 + n) + 1 ≡ suc (n + 1) = omega arith in
    ap (λ b. drop (cond (not b) (1 + n) 0 + 1) (c ∷ cs)) h ∙ ap (λ k. drop k (c ∷ cs)) one

after_first-found : (p : Change → Bool) (c : Change) (cs : List Change) → p c ≡ true → after_first p (c ∷ cs) ≡ cs
after_first-found p c cs h =
    let n : ℕ = prefix_len (λ x. not (p x)) cs in
    ap (λ b. drop (cond (not b) (1 + n) 0 + 1) (c ∷ cs)) h

before_first-skip : (p : Change → Bool) (c : Change) (cs : List Change) → p c ≡ false → before_first p (c ∷ cs) ≡ c ∷ before_first p cs
before_first-skip p c cs h =
    let n : ℕ = prefix_len (λ x. not (p x)) cs in
    let one : 1 + n ≡ suc n = omega arith in
    ap (λ b. take (cond (not b) (1 + n) 0) (c ∷ cs)) h ∙ ap (λ k. take k (c ∷ cs)) one

before_first-found : (p : Change → Bool) (c : Change) (cs : List Change) → p c ≡ true → before_first p (c ∷ cs) ≡ []
before_first-found p c cs h =
    let n : ℕ = prefix_len (λ x. not (p x)) cs in
    ap (λ b. take (cond (not b) (1 + n) 0) (c ∷ cs)) h

-- the notes of a table that has none yet
noted-from_none : (os : List Ownership) (cs : List Change) (t : Name) → has_entry os t ≡ false → was_granted (fold owners_with os cs) t ≡ is_granted_once_created cs t
noted-from_none os [] t h = unnoted os t h
noted-from_none os (change.Create name owner ∷ cs) t h =
    let next : List Ownership = with_owner name owner os in
    let c : Change = change.Create name owner in
    let entry : has_entry next t ≡ same_name name t = has_entry-with_owner name owner os t ∙ ap (λ b. b || same_name name t) h in
    ⊎_elim
    (λ (here : same_name name t ≡ true).
    noted-from_entry next cs t (entry ∙ here)
    ∙ ap (λ b. b || list_any (grants_on t) cs) (was_granted-with_owner name owner os t ∙ unnoted os t h)
    ∙ sym (ap (list_any (grants_on t)) (after_first-found (creates t) c cs here)))
    (λ (there : same_name name t ≡ false).
    noted-from_none next cs t (entry ∙ there) ∙ sym (ap (list_any (grants_on t)) (after_first-skip (creates t) c cs there)))
    (cases_Bool (same_name name t))
noted-from_none os (change.Grant by atoms whom option ∷ cs) t h =
    noted-from_none (with_granted atoms os) cs t (has_entry-with_granted atoms os t ∙ h)
    ∙ sym (ap (list_any (grants_on t)) (after_first-skip (creates t) (change.Grant by atoms whom option) cs refl))
noted-from_none os (change.Revoke by atoms whom ∷ cs) t h =
    noted-from_none os cs t h ∙ sym (ap (list_any (grants_on t)) (after_first-skip (creates t) (change.Revoke by atoms whom) cs refl))
noted-from_none os (change.RevokeOption by atoms whom ∷ cs) t h =
    noted-from_none os cs t h ∙ sym (ap (list_any (grants_on t)) (after_first-skip (creates t) (change.RevokeOption by atoms whom) cs refl))
noted-from_none os (change.Other ∷ cs) t h =
    noted-from_none os cs t h ∙ sym (ap (list_any (grants_on t)) (after_first-skip (creates t) change.Other cs refl))

-- **a table is noted exactly where it was granted on after its creation**
pub noted-once_created : (cs : List Change) (t : Name) → is_noted cs t ≡ is_granted_once_created cs t
noted-once_created cs t = noted-from_none [] cs t refl

-- the single grants of a table
abbrev is_on : Name → Grant → Bool
is_on t g = same_name t g.atom.table

on-from_each : (t : Name) (n : ℕ) (at : Moment) (by : User) (atom : Atom) (whom : List User) (option : Bool) → list_any (is_on t) (to_each n at by atom whom option) ≡ true → same_name t atom.table ≡ true
on-from_each t n at by atom [] option h = absurd (false≢true h)
on-from_each t n at by atom (u ∷ us) option h =
    ⊎_elim (λ (here : same_name t atom.table ≡ true). here)
    (λ (there : list_any (is_on t) (to_each (n + 1) at by atom us option) ≡ true). on-from_each t (n + 1) at by atom us option there)
    (or_cases _ _ h)

on-from_singles : (t : Name) (n : ℕ) (at : Moment) (by : User) (atoms : List Atom) (whom : List User) (option : Bool) → list_any (is_on t) (singles n at by atoms whom option) ≡ true → list_any (λ a. same_name a.table t) atoms ≡ true
on-from_singles t n at by [] whom option h = h
on-from_singles t n at by (a ∷ more) whom option h =
    let each : List Grant = to_each n at by a whom option in
    let rest : List Grant = singles (n + length whom) at by more whom option in
    ⊎_elim (λ (here : list_any (is_on t) each ≡ true). or_left _ _ (same_name-sym t a.table (on-from_each t n at by a whom option here)))
    (λ (there : list_any (is_on t) rest ≡ true). or_right (same_name a.table t) _ (on-from_singles t (n + length whom) at by more whom option there))
    (or_cases _ _ (sym (list_any-append (is_on t) each rest) ∙ h))

singles-on : (t : Name) (n : ℕ) (at : Moment) (by : User) (atoms : List Atom) (u : User) (us : List User) (option : Bool) → list_any (λ a. same_name a.table t) atoms ≡ true → list_any (is_on t) (singles n at by atoms (u ∷ us) option) ≡ true
singles-on t n at by [] u us option h = h
singles-on t n at by (a ∷ more) u us option h =
    let each : List Grant = to_each n at by a (u ∷ us) option in
    let rest : List Grant = singles (n + length (u ∷ us)) at by more (u ∷ us) option in
    list_any-append (is_on t) each rest
    ∙ ⊎_elim (λ (here : same_name a.table t ≡ true). or_left (list_any (is_on t) each) _ (or_left (same_name t a.table) _ (same_name-sym a.table t here)))
    (λ (there : list_any (λ b. same_name b.table t) more ≡ true). or_right (list_any (is_on t) each) _ (singles-on t (n + length (u ∷ us)) at by more u us option there))
    (or_cases _ _ h)

on-from_change : (t : Name) (n m : ℕ) (c : Change) → list_any (is_on t) (grants_of n m c) ≡ true → grants_on t c ≡ true
on-from_change t n m (change.Create name owner) h = h
on-from_change t n m (change.Grant by atoms whom option) h = on-from_singles t n (record { 0 = m }) by atoms whom option h
on-from_change t n m (change.Revoke by atoms whom) h = h
on-from_change t n m (change.RevokeOption by atoms whom) h = h
on-from_change t n m (change.Other) h = h

change-on : (t : Name) (n m : ℕ) (c : Change) → grants_on t c ≡ true → 0 < made_by c → list_any (is_on t) (grants_of n m c) ≡ true
change-on t n m (change.Create name owner) h k = h
change-on t n m (change.Grant by atoms [] option) h k = absurd (omega (arith, mul-zero (length atoms)))
change-on t n m (change.Grant by atoms (u ∷ us) option) h k = singles-on t n (record { 0 = m }) by atoms u us option h
change-on t n m (change.Revoke by atoms whom) h k = h
change-on t n m (change.RevokeOption by atoms whom) h k = h
change-on t n m (change.Other) h k = h

-- a single grant on a table was made by a grant on it
on-from_granted : (t : Name) (n m : ℕ) (cs : List Change) → list_any (is_on t) (granted_from n m cs) ≡ true → list_any (grants_on t) cs ≡ true
on-from_granted t n m [] h = h
on-from_granted t n m (c ∷ cs) h =
    let here : List Grant = grants_of n m c in
    let rest : List Grant = granted_from (n + made_by c) (m + 1) cs in
    ⊎_elim (λ (one : list_any (is_on t) here ≡ true). or_left _ _ (on-from_change t n m c one))
    (λ (more : list_any (is_on t) rest ≡ true). or_right (grants_on t c) _ (on-from_granted t (n + made_by c) (m + 1) cs more))
    (or_cases _ _ (sym (list_any-append (is_on t) here rest) ∙ h))

granted-on : (t : Name) (n m : ℕ) (cs : List Change) → AllByRecursion (λ c. grants_on t c ≡ true → 0 < made_by c) cs → list_any (grants_on t) cs ≡ true → list_any (is_on t) (granted_from n m cs) ≡ true
granted-on t n m [] all h = h
granted-on t n m (c ∷ cs) all h =
    let here : List Grant = grants_of n m c in
    let rest : List Grant = granted_from (n + made_by c) (m + 1) cs in
    list_any-append (is_on t) here rest
    ∙ ⊎_elim (λ (one : grants_on t c ≡ true). or_left (list_any (is_on t) here) _ (change-on t n m c one (all.0 one)))
    (λ (more : list_any (grants_on t) cs ≡ true). or_right (list_any (is_on t) here) _ (granted-on t (n + made_by c) (m + 1) cs all.1 more))
    (or_cases _ _ h)

any-drop : (p : Change → Bool) (k : ℕ) (cs : List Change) → list_any p (drop k cs) ≡ true → list_any p cs ≡ true
any-drop p zero cs h = h
any-drop p (suc k) [] h = h
any-drop p (suc k) (c ∷ cs) h = or_right (p c) _ (any-drop p k cs h)

-- **a noted table was granted on, where each grant on it is to somebody**
pub granted-from_marked : (cs : List Change) (t : Name) → AreToSomebody cs t → is_noted cs t ≡ true → is_granted cs t ≡ true
granted-from_marked cs t some h =
    let ToSomebody : Change → Type 0 = λ c. grants_on t c ≡ true → 0 < made_by c in
    let since : is_granted_once_created cs t ≡ true = sym (noted-once_created cs t) ∙ h in
    granted-on t 0 1 cs (recursion_from_All ToSomebody cs some) (any-drop (grants_on t) _ cs since)

creation_grants_none : (t : Name) (c : Change) → creates t c ≡ true → grants_on t c ≡ false
creation_grants_none t (change.Create name owner) h = refl
creation_grants_none t (change.Grant by atoms whom option) h = absurd (false≢true h)
creation_grants_none t (change.Revoke by atoms whom) h = refl
creation_grants_none t (change.RevokeOption by atoms whom) h = refl
creation_grants_none t (change.Other) h = refl

granted_once_created : (cs : List Change) (t : Name) → is_granted_uncreated cs t ≡ false → list_any (grants_on t) cs ≡ true → is_granted_once_created cs t ≡ true
granted_once_created [] t none h = h
granted_once_created (c ∷ cs) t none h =
    let rest : grants_on t c ≡ false → list_any (grants_on t) cs ≡ true = λ off. sym (ap (λ b. b || list_any (grants_on t) cs) off) ∙ h in
    ⊎_elim
    (λ (here : creates t c ≡ true). ap (list_any (grants_on t)) (after_first-found (creates t) c cs here) ∙ rest (creation_grants_none t c here))
    (λ (there : creates t c ≡ false).
    let parts = or_parts _ _ (sym (ap (list_any (grants_on t)) (before_first-skip (creates t) c cs there)) ∙ none) in
    ap (list_any (grants_on t)) (after_first-skip (creates t) c cs there) ∙ granted_once_created cs t parts.1 (rest parts.0))
    (cases_Bool (creates t c))

-- **a table that was granted on is noted, where none of the grants came before its creation**
pub noted-from_granted : (cs : List Change) (t : Name) → is_granted_uncreated cs t ≡ false → is_granted cs t ≡ true → is_noted cs t ≡ true
noted-from_granted cs t none h = noted-once_created cs t ∙ granted_once_created cs t none (on-from_granted t 0 1 cs h)

none_gives : (t : Name) (user : User) (atom : Atom) (grants : List Grant) → same_name atom.table t ≡ true → AllByRecursion (λ g. is_on t g ≡ false) grants → list_any (λ g. g.option && gives user atom g) grants ≡ false
unfolding gives
none_gives t user atom [] same h = refl
none_gives t user atom (g ∷ gs) same h =
    or_from (g.option && gives user atom g) _
    (false_from_ne_true _ (λ (gave : (g.option && gives user atom g) ≡ true).
    let given = and_parts g.option (gives user atom g) gave in
    let of_atom = and_parts (same_atom g.atom atom) (same_user g.grantee user) given.1 in
    let P : Atom → Type 0 = λ a. same_name t a.table ≡ true in
    both_ways _ h.0 (subst P (sym (same_atom-true g.atom atom of_atom.0)) (same_name-sym atom.table t same))))
    (none_gives t user atom gs same h.1)

owns_none : (os : List Ownership) (t : Name) (user : User) (atom : Atom) → same_name atom.table t ≡ true → has_entry os t ≡ false → owns os user atom ≡ false
unfolding owns
owns_none os t user atom same none =
    let P : Name → Type 0 = λ n. has_entry os n ≡ false in
    let nobody : owner_of os atom.table ≡ None = unowned os atom.table (subst P (sym (same_name-true atom.table t same)) none) in
    ap (λ (k : Option User). elim k as (λ _. Bool) [ Some o ↦ same_user o user | None ↦ false ]) nobody

-- nobody may grant an atom of a table that was neither created nor granted on
none_may : (before : List Change) (t : Name) (by : User) (atoms : List Atom) → list_any (creates t) before ≡ false → list_any (grants_on t) before ≡ false → AllByRecursion (λ atom. may_grant (owners_after before) (in_force_after before) by atom ≡ true) atoms → list_any (λ a. same_name a.table t) atoms ≡ false
none_may before t by [] uncreated ungranted may = refl
none_may before t by (a ∷ more) uncreated ungranted may =
    let Off : Grant → Type 0 = λ g. is_on t g ≡ false in
    let never : list_any (is_on t) (granted before) ≡ false = false_from_ne_true _ (λ on. both_ways _ ungranted (on-from_granted t 0 1 before on)) in
    let off : AllByRecursion Off (in_force_after before) =
    All-valid Off (owners_after before) (left_after before)
    (All-options_off Off (is_unoptioned before) (unstruck_after before) (λ g h. h) (All-filtered Off (λ g. not (is_struck before g)) (granted before) (none_of (is_on t) (granted before) never))) in
    or_from (same_name a.table t) _
    (false_from_ne_true _ (λ (same : same_name a.table t ≡ true).
    let no_owner : owns (owners_after before) by a ≡ false = owns_none (owners_after before) t by a same (has_entry-after [] before t ∙ uncreated) in
    let no_option : list_any (λ g. g.option && gives by a g) (in_force_after before) ≡ false = none_gives t by a (in_force_after before) same off in
    both_ways _ (or_from (owns (owners_after before) by a) _ no_owner no_option) may.0))
    (none_may before t by more uncreated ungranted may.1)

grantable_on : (before : List Change) (c : Change) (after : List Change) (t : Name) → list_any (creates t) before ≡ false → list_any (grants_on t) before ≡ false → AreGrantable (before ++ c ∷ after) → grants_on t c ≡ false
grantable_on before (change.Create name owner) after t uncreated ungranted may = refl
grantable_on before (change.Grant by atoms whom option) after t uncreated ungranted may =
    let May : Atom → Type 0 = λ atom. may_grant (owners_after before) (in_force_after before) by atom ≡ true in
    none_may before t by atoms uncreated ungranted (recursion_from_All May atoms (may before after by atoms whom option refl))
grantable_on before (change.Revoke by atoms whom) after t uncreated ungranted may = refl
grantable_on before (change.RevokeOption by atoms whom) after t uncreated ungranted may = refl
grantable_on before (change.Other) after t uncreated ungranted may = refl

any-last : (p : Change → Bool) (cs : List Change) (c : Change) → list_any p cs ≡ false → p c ≡ false → list_any p (cs ++ c ∷ []) ≡ false
any-last p cs c h k = list_any-append p cs (c ∷ []) ∙ or_from (list_any p cs) _ h (or_from (p c) false k refl)

grantable_from : (before rest : List Change) (t : Name) → list_any (creates t) before ≡ false → list_any (grants_on t) before ≡ false → AreGrantable (before ++ rest) → is_granted_uncreated rest t ≡ false
grantable_from before [] t uncreated ungranted may = refl
grantable_from before (c ∷ cs) t uncreated ungranted may =
    ⊎_elim
    (λ (here : creates t c ≡ true). ap (list_any (grants_on t)) (before_first-found (creates t) c cs here))
    (λ (there : creates t c ≡ false).
    let off : grants_on t c ≡ false = grantable_on before c cs t uncreated ungranted may in
    let Grantable : List Change → Type 0 = λ k. AreGrantable k in
    let rest : is_granted_uncreated cs t ≡ false =
    grantable_from (before ++ c ∷ []) cs t (any-last (creates t) before c uncreated there) (any-last (grants_on t) before c ungranted off) (subst Grantable (sym (append_assoc before (c ∷ []) cs)) may) in
    ap (list_any (grants_on t)) (before_first-skip (creates t) c cs there) ∙ or_from (grants_on t c) _ off rest)
    (cases_Bool (creates t c))

-- **where each grant may be made, none comes before its table's creation**
pub grantable_once_created : (cs : List Change) (t : Name) → AreGrantable cs → is_granted_uncreated cs t ≡ false
grantable_once_created cs t may = grantable_from [] cs t refl refl may

alike : (a b : Bool) → (a ≡ true → b ≡ true) → (b ≡ true → a ≡ true) → a ≡ b
alike true b f g = sym (f refl)
alike false true f g = g refl
alike false false f g = refl

-- **then a table is noted exactly where a grant on it was made**
pub noted-lawful : (cs : List Change) (t : Name) → AreGrantable cs → AreToSomebody cs t → is_noted cs t ≡ is_granted cs t
noted-lawful cs t may some =
    alike (is_noted cs t) (is_granted cs t) (granted-from_marked cs t some) (noted-from_granted cs t (grantable_once_created cs t may))
