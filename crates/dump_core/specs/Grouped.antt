-- Neighbours of a list, in groups.
use Rattle.std.specs.Prelude.{◌≡◌, ◌<◌, ◌≤◌, ℕ, true, Bool, if◌then◌else◌, List, [], ◌∷◌, ◌++◌, length, take, drop}

-- at least one item: the first, and the others in order
pub record Group (A : Type 0) : Type 0 where
  pub first : A
  pub others : List A

-- all of its items
abbrev pub members : {A : Type 0} → Group A → List A
members group = group.first ∷ group.others

-- an item alone
abbrev pub alone : {A : Type 0} → A → Group A
alone x = record { first = x; others = [] }

-- a group with one more item at its end
abbrev pub with_member : {A : Type 0} → Group A → A → Group A
with_member group x = record group { others = group.others ++ x ∷ [] }

-- the groups, of which the first may still grow: an item joins it where the test holds of both
-- together, and else begins the next
abbrev pub groups_from : {A : Type 0} → (Group A → Bool) → Group A → List A → List (Group A)
groups_from test group [] = group ∷ []
groups_from test group (x ∷ xs) =
    if test (with_member group x)
    then groups_from test (with_member group x) xs
    else group ∷ groups_from test (alone x) xs

-- the items in groups of neighbours, from the first on, each as long as the test holds
abbrev pub grouped : {A : Type 0} → (Group A → Bool) → List A → List (Group A)
grouped test [] = []
grouped test (x ∷ xs) = groups_from test (alone x) xs

-- the first n items are the first group, and those behind it are grouped by themselves
pub record IsFirstGroup {A : Type 0} (test : Group A → Bool) (xs : List A) (n : ℕ) : Type 0 where
  pub group : Group A
  pub of_these : members group ≡ take n xs
  pub passes : test group ≡ true
  pub behind : grouped test xs ≡ group ∷ grouped test (drop n xs)
  pub some : 0 < n
  pub within : n ≤ length xs
