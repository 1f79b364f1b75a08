-- Neighbours in groups: their members are the items, and what is blind to a mapping groups the mapped alike.
use Rattle.std.proofs.Common.{◌≡◌, ℕ, ◌+◌, ◌<◌, ◌≤◌, take, drop, get_or, Bool, true, false, cond, List, [], ◌∷◌, ◌++◌, map, length, subst, refl, sym, ap, ◌∙◌, append_assoc, arith}
use Rattle.std.specs.List.{AllByRecursion, flat_map, list_all}
use Rattle.std.proofs.lemmas.Bool.{and_parts, cond-true, cond-false}
use Rattle.std.proofs.lemmas.List.{map-append, drop_all}
use Rattle.grants_core.proofs.OwnersLemmas.{AllByRecursion-append}
use Rattle.dump_core.specs.Grouped.{Group, members, alone, with_member, groups_from, grouped, IsFirstGroup}
use Rattle.dump_core.proofs.Cuts.{drop-next, take-next}

-- what holds of each item where the test does
pub each-true : {A : Type 0} (p : A → Bool) (Q : A → Type 0) → ((x : A) → p x ≡ true → Q x) → (xs : List A) → list_all p xs ≡ true → AllByRecursion Q xs
each-true p Q f [] h = tt
each-true p Q f (x ∷ xs) h = let parts = and_parts (p x) (list_all p xs) h in (f x parts.0, each-true p Q f xs parts.1)

module _ {A : Type 0} (test : Group A → Bool) where
  from-members : (group : Group A) (xs : List A) → flat_map members (groups_from test group xs) ≡ members group ++ xs
  from-members group [] = refl
  from-members group (x ∷ xs) =
      elim (test (with_member group x)) as (λ b. flat_map members (cond b (groups_from test (with_member group x) xs) (group ∷ groups_from test (alone x) xs)) ≡ members group ++ x ∷ xs) [
        | true ↦ from-members (with_member group x) xs ∙ append_assoc (members group) (x ∷ []) xs
        | false ↦ ap (λ k. members group ++ k) (from-members (alone x) xs)
      ]

  -- **in order, the members of the groups are the items**
  pub grouped-members : (xs : List A) → flat_map members (grouped test xs) ≡ xs
  grouped-members [] = refl
  grouped-members (x ∷ xs) = from-members (alone x) xs

  from-few : (group : Group A) (xs : List A) → length (groups_from test group xs) ≤ 1 + length xs
  from-few group [] = omega arith
  from-few group (x ∷ xs) =
      elim (test (with_member group x)) as (λ b. length (cond b (groups_from test (with_member group x) xs) (group ∷ groups_from test (alone x) xs)) ≤ 1 + length (x ∷ xs)) [
        | true ↦ omega (arith, from-few (with_member group x) xs)
        | false ↦ omega (arith, from-few (alone x) xs)
      ]

  -- **no more groups than items**
  pub grouped-few : (xs : List A) → length (grouped test xs) ≤ length xs
  grouped-few [] = omega arith
  grouped-few (x ∷ xs) = omega (arith, from-few (alone x) xs)

  from-pass : ((x : A) → test (alone x) ≡ true) → (group : Group A) (xs : List A) → test group ≡ true → AllByRecursion (λ g. test g ≡ true) (groups_from test group xs)
  from-pass one group [] h = (h, tt)
  from-pass one group (x ∷ xs) h =
      elim (test (with_member group x)) as (λ b. test (with_member group x) ≡ b → AllByRecursion (λ g. test g ≡ true) (cond b (groups_from test (with_member group x) xs) (group ∷ groups_from test (alone x) xs))) [
        | true ↦ λ e. from-pass one (with_member group x) xs e
        | false ↦ λ e. (h, from-pass one (alone x) xs (one x))
      ] refl

  -- **the test holds of each group**, where it holds of each item alone
  pub grouped-pass : ((x : A) → test (alone x) ≡ true) → (xs : List A) → AllByRecursion (λ g. test g ≡ true) (grouped test xs)
  grouped-pass one [] = tt
  grouped-pass one (x ∷ xs) = from-pass one (alone x) xs (one x)

-- what holds of two lists one after the other holds of each
pub all-parts : {A : Type 0} (P : A → Type 0) (xs ys : List A) → AllByRecursion P (xs ++ ys) → AllByRecursion P xs × AllByRecursion P ys
all-parts P [] ys h = (tt, h)
all-parts P (x ∷ xs) ys h = let rest = all-parts P xs ys h.1 in ((h.0, rest.0), rest.1)

-- what holds of all members of groups holds of those of each, and the reverse
pub each-members : {A : Type 0} (P : A → Type 0) (groups : List (Group A)) → AllByRecursion P (flat_map members groups) → AllByRecursion (λ g. AllByRecursion P (members g)) groups
each-members P [] h = tt
each-members P (group ∷ groups) h = let parts = all-parts P (members group) (flat_map members groups) h in (parts.0, each-members P groups parts.1)

pub all-members : {A : Type 0} (P : A → Type 0) (groups : List (Group A)) → AllByRecursion (λ g. AllByRecursion P (members g)) groups → AllByRecursion P (flat_map members groups)
all-members P [] h = tt
all-members P (group ∷ groups) h = AllByRecursion-append P (members group) (flat_map members groups) h.0 (all-members P groups h.1)

-- what holds of each item where another does
pub all-implied : {A : Type 0} (P Q : A → Type 0) (xs : List A) → ((x : A) → P x → Q x) → AllByRecursion P xs → AllByRecursion Q xs
all-implied P Q [] f h = tt
all-implied P Q (x ∷ xs) f h = (f x h.0, all-implied P Q xs f h.1)

-- ---- mapped items
abbrev pub mapped : {A B : Type 0} → (A → B) → Group A → Group B
mapped f group = record { first = f group.first; others = map f group.others }

module _ {A B : Type 0} (f : A → B) (p : Group A → Bool) (q : Group B → Bool) (same : (group : Group A) → q (mapped f group) ≡ p group) where
  from-mapped : (group : Group A) (xs : List A) → groups_from q (mapped f group) (map f xs) ≡ map (mapped f) (groups_from p group xs)
  from-mapped group [] = refl
  from-mapped group (x ∷ xs) =
      let more : Group A = with_member group x in
      let with_f : with_member (mapped f group) (f x) ≡ mapped f more = ap (λ k. record { first = f group.first; others = k }) (sym (map-append f group.others (x ∷ []))) in
      ap (λ g. cond (q g) (groups_from q g (map f xs)) (mapped f group ∷ groups_from q (alone (f x)) (map f xs))) with_f
      ∙ ap (λ b. cond b (groups_from q (mapped f more) (map f xs)) (mapped f group ∷ groups_from q (alone (f x)) (map f xs))) (same more)
      ∙ elim (p more) as (λ b. cond b (groups_from q (mapped f more) (map f xs)) (mapped f group ∷ groups_from q (alone (f x)) (map f xs)) ≡ map (mapped f) (cond b (groups_from p more xs) (group ∷ groups_from p (alone x) xs))) [
        | true ↦ from-mapped more xs
        | false ↦ ap (λ k. mapped f group ∷ k) (from-mapped (alone x) xs)
      ]

  -- **the mapped items are in the same groups**
  pub grouped-mapped : (xs : List A) → grouped q (map f xs) ≡ map (mapped f) (grouped p xs)
  grouped-mapped [] = refl
  grouped-mapped (x ∷ xs) = from-mapped (alone x) xs

-- ---- the first group, as it grows
-- a group of the first n items, and what it grows to
pub record Grows {A : Type 0} (test : Group A → Bool) (xs : List A) (n : ℕ) : Type 0 where
  pub group : Group A
  pub of_these : members group ≡ take n xs
  pub passes : test group ≡ true
  pub goes_on : groups_from test group (drop n xs) ≡ grouped test xs
  pub some : 0 < n
  pub within : n ≤ length xs

module _ {A : Type 0} (test : Group A → Bool) where
  pub grows-first : (xs : List A) → 0 < length xs → ((x : A) → test (alone x) ≡ true) → Grows test xs 1
  grows-first [] some one = absurd (omega (arith, some))
  grows-first (x ∷ xs) some one = record { group = alone x; of_these = refl; passes = one x; goes_on = refl; some = omega arith; within = omega arith }

  pub grows-more : (xs : List A) (n : ℕ) (x : A) (g : Grows test xs n) → n < length xs → x ≡ get_or xs n x → test (with_member g.group x) ≡ true → Grows test xs (n + 1)
  grows-more xs n x g lt at joins =
      let next : drop n xs ≡ x ∷ drop (n + 1) xs = drop-next xs n x lt at in
      let group : Group A = with_member g.group x in
      record {
        group = group;
        of_these = ap (λ k. k ++ x ∷ []) g.of_these ∙ sym (take-next xs n x lt at);
        passes = joins;
        goes_on = sym (cond-true (test group) (groups_from test group (drop (n + 1) xs)) (g.group ∷ groups_from test (alone x) (drop (n + 1) xs)) joins)
            ∙ ap (groups_from test g.group) (sym next) ∙ g.goes_on;
        some = omega arith;
        within = omega (arith, lt);
      }

  pub grows-over : (xs : List A) (n : ℕ) (x : A) (g : Grows test xs n) → n < length xs → x ≡ get_or xs n x → test (with_member g.group x) ≡ false → IsFirstGroup test xs n
  grows-over xs n x g lt at parts =
      let next : drop n xs ≡ x ∷ drop (n + 1) xs = drop-next xs n x lt at in
      let group : Group A = with_member g.group x in
      record {
        group = g.group;
        of_these = g.of_these;
        passes = g.passes;
        behind = sym g.goes_on ∙ ap (groups_from test g.group) next
            ∙ cond-false (test group) (groups_from test group (drop (n + 1) xs)) (g.group ∷ groups_from test (alone x) (drop (n + 1) xs)) parts
            ∙ ap (λ k. g.group ∷ grouped test k) (sym next);
        some = g.some;
        within = g.within;
      }

  pub grows-all : (xs : List A) (n : ℕ) (g : Grows test xs n) → length xs ≤ n → IsFirstGroup test xs (length xs)
  grows-all xs n g all =
      let none : drop n xs ≡ [] = drop_all n xs all in
      let same : n ≡ length xs = omega (arith, all, g.within) in
      subst (IsFirstGroup test xs) same (record {
        group = g.group;
        of_these = g.of_these;
        passes = g.passes;
        behind = sym g.goes_on ∙ ap (groups_from test g.group) none ∙ ap (λ k. g.group ∷ grouped test k) (sym none);
        some = g.some;
        within = g.within;
      })
