-- What is in force was so before, from its own moment on.
use Rattle.std.proofs.Common.{◌≡◌, ℕ, ◌<◌, ◌≤◌, ◌+◌, Bool, true, not, ◌||◌, List, [], ◌∷◌, ◌++◌, map, length, take, drop, refl, sym, ap, ◌∙◌, subst, arith, ⊎_elim, append_assoc}
use Rattle.std.specs.List.{AllByRecursion, list_any}
use Rattle.std.proofs.lemmas.Bool.{or_cases, or_left, or_right}
use Rattle.std.proofs.lemmas.List.{append-nil, take-append-drop}
use Rattle.std.proofs.lemmas.List.Folds.{list_any-append}
use Rattle.std.proofs.lemmas.List.Elements.{recursion_from_All}
use Rattle.base_core.specs.declared.name.User.{User}
use Rattle.base_core.specs.declared.privilege.Atom.{Atom}
use Rattle.base_core.specs.declared.value.Moment.{Moment}
use Rattle.grants_core.specs.declared.grant.Grant.{Grant}
use Rattle.grants_core.specs.declared.grant.Change.{Change}
use Rattle.grants_core.specs.declared.grant.Change.TheVariants as change
use Rattle.grants_core.specs.Valid.{valid}
use Rattle.grants_core.specs.Content.{Rights, names, without, singles, option_off, options_off}
use Rattle.grants_core.specs.History.{made_by, made_by_all, grants_of, granted_from, granted, owners_after, in_force_after}
use Rattle.grants_core.proofs.GrantLemmas.{All-implied}
use Rattle.grants_core.proofs.OwnersLemmas.{AllByRecursion-append, singles-all}
use Rattle.grants_core.proofs.ValidLemmas.{valid-part, list_any-part, list_any-filter}
use Rattle.grants_core.proofs.NumberLemmas.{IsNumbered-granted, numbers-singles}
use Rattle.grants_core.proofs.HistoryLemmas.{granted_from-append, made_by_all-more, content-create, content-grant, in_force-revoke, in_force-revoke_option, content-other}
use Rattle.grants_core.specs.Lawful.{AreLawful}
use Rattle.explain_core.proofs.NumberedLemmas.{above-numbered}

-- the moments of what was made
moments-grants_of : (n m : ℕ) (c : Change) → AllByRecursion (λ g. g.moment.0 ≡ m) (grants_of n m c)
moments-grants_of n m (change.Create table owner) = tt
moments-grants_of n m (change.Grant by atoms whom option) =
    singles-all (λ g. g.moment.0 ≡ m) (λ _. Unit {0}) n (record { 0 = m }) by atoms whom option (λ g q by_user made. ap (λ (t : Moment). t.0) made) (all_units atoms)
  where
    all_units : (atoms : List Atom) → AllByRecursion (λ _. Unit {0}) atoms
    all_units [] = tt
    all_units (a ∷ more) = (tt, all_units more)
moments-grants_of n m (change.Revoke by atoms whom) = tt
moments-grants_of n m (change.RevokeOption by atoms whom) = tt
moments-grants_of n m (change.Other) = tt

-- a moment from m on, at which one of the changes is made
abbrev pub IsWithin : ℕ → List Change → Grant → Type 0
IsWithin m cs g = (m ≤ g.moment.0) × (g.moment.0 < m + length cs)

moments-granted_from : (n m : ℕ) (cs : List Change) → AllByRecursion (IsWithin m cs) (granted_from n m cs)
moments-granted_from n m [] = tt
moments-granted_from n m (c ∷ cs) =
    AllByRecursion-append (IsWithin m (c ∷ cs)) (grants_of n m c) (granted_from (n + made_by c) (m + 1) cs)
    (All-implied (λ g. g.moment.0 ≡ m) (IsWithin m (c ∷ cs)) (grants_of n m c) (λ g is. (omega arith, omega arith)) (moments-grants_of n m c))
    (All-implied (IsWithin (m + 1) cs) (IsWithin m (c ∷ cs)) (granted_from (n + made_by c) (m + 1) cs) (λ g within. (let low : m + 1 ≤ g.moment.0 = within.0 in omega arith, let high : g.moment.0 < (m + 1) + length cs = within.1 in omega arith))
    (moments-granted_from (n + made_by c) (m + 1) cs))

pub moments-granted : (cs : List Change) → AllByRecursion (IsWithin 1 cs) (granted cs)
moments-granted cs = moments-granted_from 0 1 cs

-- what was made by the moment of the last of the changes has a number below all that follow
pub numbers-before : (before after : List Change) → AllByRecursion (λ g. g.moment.0 ≤ length before → g.number < made_by_all before) (granted (before ++ after))
numbers-before before after =
    let Early : Grant → Type 0 = λ g. g.moment.0 ≤ length before → g.number < made_by_all before in
    let later : List Grant = granted_from (0 + made_by_all before) (1 + length before) after in
    let P : List Grant → Type 0 = λ k. AllByRecursion Early k in
    let below : AllByRecursion (λ g. g.number < made_by_all before) (granted before) = recursion_from_All (λ g. g.number < made_by_all before) (granted before) (IsNumbered-granted before).below in
    subst P (sym (granted_from-append 0 1 before after))
    (AllByRecursion-append Early (granted before) later
    (All-implied (λ g. g.number < made_by_all before) Early (granted before) (λ g less early. less) below)
    (All-implied (IsWithin (1 + length before) after) Early later (λ g within early. let low : 1 + length before ≤ g.moment.0 = within.0 in absurd (omega arith)) (moments-granted_from (0 + made_by_all before) (1 + length before) after)))

above-singles : (n : ℕ) (at : Moment) (by : User) (atoms : List Atom) (whom : List User) (option : Bool) → AllByRecursion (λ g. n ≤ g.number) (singles n at by atoms whom option)
above-singles n at by atoms whom option = above-numbered n _ (singles n at by atoms whom option) (numbers-singles n at by atoms whom option)

none_of_above : (test : Grant → Bool) (n : ℕ) (gs : List Grant) → ((h : Grant) → test h ≡ true → h.number < n) → AllByRecursion (λ g. n ≤ g.number) gs → list_any test gs ≡ true → ⊥
none_of_above test n [] old above h = let never : ⊥ = cc in never
none_of_above test n (g ∷ gs) old above h =
    ⊎_elim
    (λ (here : test g ≡ true). let less : g.number < n = old g here in let le : n ≤ g.number = above.0 in omega arith)
    (λ (there : list_any test gs ≡ true). none_of_above test n gs old above.1 there)
    (or_cases (test g) (list_any test gs) h)

-- a test that no grant passes by losing its option
abbrev pub SeesOptions : (Grant → Bool) → Type 0
SeesOptions test = (p : Grant → Bool) (h : Grant) → test (option_off p h) ≡ true → test h ≡ true

any-options_off : (test p : Grant → Bool) (gs : List Grant) → SeesOptions test → list_any test (map (option_off p) gs) ≡ true → list_any test gs ≡ true
any-options_off test p [] sees h = h
any-options_off test p (g ∷ gs) sees h =
    ⊎_elim (λ (here : test (option_off p g) ≡ true). or_left (test g) (list_any test gs) (sees p g here))
    (λ (there : list_any test (map (option_off p) gs) ≡ true). or_right (test g) (list_any test gs) (any-options_off test p gs sees there))
    (or_cases (test (option_off p g)) (list_any test (map (option_off p) gs)) h)

-- a change brings none of the earlier grants back
earlier_by_one : (test : Grant → Bool) (cs : List Change) (c : Change) (rest : List Change) → AreLawful (cs ++ c ∷ rest) → SeesOptions test → ((h : Grant) → test h ≡ true → h.number < made_by_all cs) → list_any test (in_force_after (cs ++ c ∷ [])) ≡ true → list_any test (in_force_after cs) ≡ true
earlier_by_one test cs (change.Create table owner) rest lawful sees old h =
    let first = lawful.created cs rest table owner refl in
    ap (λ (k : Rights). list_any test k.in_force) (sym (content-create cs table owner first.1)) ∙ h
earlier_by_one test cs (change.Grant by atoms whom option) rest lawful sees old h =
    let new : List Grant = singles (made_by_all cs) (record { 0 = 1 + length cs }) by atoms whom option in
    let is = content-grant cs by atoms whom option (lawful.grantable cs rest by atoms whom option refl) in
    let both : (list_any test (in_force_after cs) || list_any test new) ≡ true =
    sym (list_any-append test (in_force_after cs) new) ∙ ap (λ (k : Rights). list_any test k.in_force) (sym is) ∙ h in
    ⊎_elim (λ (kept : list_any test (in_force_after cs) ≡ true). kept)
    (λ (made : list_any test new ≡ true). absurd (none_of_above test (made_by_all cs) new old (above-singles (made_by_all cs) (record { 0 = 1 + length cs }) by atoms whom option) made))
    (or_cases (list_any test (in_force_after cs)) (list_any test new) both)
earlier_by_one test cs (change.Revoke by atoms whom) rest lawful sees old h =
    let left : List Grant = without by atoms whom (in_force_after cs) in
    list_any-filter test (λ g. not (names by atoms whom g)) (in_force_after cs)
    (list_any-part test (valid (owners_after cs) left) left (valid-part (owners_after cs) left) (ap (list_any test) (sym (in_force-revoke cs by atoms whom)) ∙ h))
earlier_by_one test cs (change.RevokeOption by atoms whom) rest lawful sees old h =
    let left : List Grant = options_off by atoms whom (in_force_after cs) in
    any-options_off test (names by atoms whom) (in_force_after cs) sees
    (list_any-part test (valid (owners_after cs) left) left (valid-part (owners_after cs) left) (ap (list_any test) (sym (in_force-revoke_option cs by atoms whom)) ∙ h))
earlier_by_one test cs (change.Other) rest lawful sees old h =
    ap (λ (k : Rights). list_any test k.in_force) (sym (content-other cs)) ∙ h

-- nor do several
earlier_by_all : (test : Grant → Bool) (cs mid rest : List Change) → AreLawful (cs ++ (mid ++ rest)) → SeesOptions test → ((h : Grant) → test h ≡ true → h.number < made_by_all cs) → list_any test (in_force_after (cs ++ mid)) ≡ true → list_any test (in_force_after cs) ≡ true
earlier_by_all test cs [] rest lawful sees old h = ap (λ k. list_any test (in_force_after k)) (sym (append-nil cs)) ∙ h
earlier_by_all test cs (c ∷ mid) rest lawful sees old h =
    let Lawful : List Change → Type 0 = λ k. AreLawful k in
    let more : made_by_all (cs ++ c ∷ []) ≡ made_by_all cs + made_by c = made_by_all-more cs c in
    earlier_by_one test cs c (mid ++ rest) lawful sees old
    (earlier_by_all test (cs ++ c ∷ []) mid rest (subst Lawful (sym (append_assoc cs (c ∷ []) (mid ++ rest))) lawful) sees
    (λ k pass. let less = old k pass in omega (arith, more))
    (ap (λ k. list_any test (in_force_after k)) (append_assoc cs (c ∷ []) mid) ∙ h))

-- **what a test finds in force after all changes it found after the first ones, where it means none
-- that was made later**
pub earlier : (test : Grant → Bool) (cs : List Change) (m : ℕ) → AreLawful cs → SeesOptions test → ((h : Grant) → test h ≡ true → h.number < made_by_all (take m cs)) → list_any test (in_force_after cs) ≡ true → list_any test (in_force_after (take m cs)) ≡ true
earlier test cs m lawful sees old h =
    let split : take m cs ++ drop m cs ≡ cs = take-append-drop m cs in
    let Lawful : List Change → Type 0 = λ k. AreLawful k in
    earlier_by_all test (take m cs) (drop m cs) []
    (subst Lawful (sym (ap (λ k. take m cs ++ k) (append-nil (drop m cs)) ∙ split)) lawful) sees old
    (ap (λ k. list_any test (in_force_after k)) split ∙ h)
