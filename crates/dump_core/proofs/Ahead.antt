-- The first privilege of kinds is of the columns ahead.
use Rattle.std.proofs.Common.{◌≡◌, ℕ, ◌<◌, ◌≤◌, Bool, true, List, [], ◌∷◌, drop, length, Some, get_or, refl, sym, ap, ◌∙◌, subst, arith}
use Rattle.std.specs.List.{list_all}
use Rattle.std.proofs.lemmas.Bool.{and_parts}
use Rattle.base_core.specs.declared.name.Name.{Name}
use Rattle.base_core.specs.declared.privilege.Kind.{Kind}
use Rattle.base_core.specs.declared.privilege.Kind.TheVariants as kinds
use Rattle.reader_core.specs.declared.privilege.Privilege.{Privilege}
use Rattle.reader_core.specs.declared.privilege.Privilege.TheVariants as privileges
use Rattle.monitor_core.specs.Atoms.{columns_listed}
use Rattle.monitor_core.specs.declared.atoms.ByColumn.{ByColumn}
use Rattle.monitor_core.specs.declared.atoms.ByColumn.TheVariants as by_column
use Rattle.dump_core.specs.Dump.{are_few_names, with_kind, privileges_of_kinds}
use Rattle.dump_core.specs.Kinds.{columns_ahead}

-- SELECT or UPDATE of columns
abbrev pub by_columns : ByColumn → List Name → Privilege
by_columns by_column.Select columns = privileges.Select (Some columns)
by_columns by_column.Update columns = privileges.Update (Some columns)

-- the first privilege is of the columns ahead, and the others are of what is behind these
pub record IsAhead (by : ByColumn) (ks : List Kind) : Type 0 where
  pub first : privileges_of_kinds ks ≡ by_columns by (columns_ahead by ks) ∷ privileges_of_kinds (drop (length (columns_ahead by ks)) ks)
  pub some : 0 < length (columns_ahead by ks)
  pub within : length (columns_ahead by ks) ≤ length ks

select-apart : (c d : Name) (ps : List Privilege) → with_kind (kinds.Select c) (with_kind (kinds.Update d) ps) ≡ privileges.Select (Some (c ∷ [])) ∷ with_kind (kinds.Update d) ps
select-apart c d (privileges.Update (Some ds) ∷ ps) = refl
select-apart c d ps = refl

update-apart : (c d : Name) (ps : List Privilege) → with_kind (kinds.Update c) (with_kind (kinds.Select d) ps) ≡ privileges.Update (Some (c ∷ [])) ∷ with_kind (kinds.Select d) ps
update-apart c d (privileges.Select (Some ds) ∷ ps) = refl
update-apart c d ps = refl

selects-ahead : (c : Name) (more : List Kind) → IsAhead by_column.Select (kinds.Select c ∷ more)
selects-ahead c [] = record { first = refl; some = omega arith; within = omega arith }
selects-ahead c (kinds.Select d ∷ more) =
    let rest = selects-ahead d more in
    record { first = ap (with_kind (kinds.Select c)) rest.first; some = omega arith; within = omega (arith, rest.within) }
selects-ahead c (kinds.Update d ∷ more) = record { first = select-apart c d (privileges_of_kinds more); some = omega arith; within = omega arith }
selects-ahead c (k ∷ more) = record { first = refl; some = omega arith; within = omega arith }

updates-ahead : (c : Name) (more : List Kind) → IsAhead by_column.Update (kinds.Update c ∷ more)
updates-ahead c [] = record { first = refl; some = omega arith; within = omega arith }
updates-ahead c (kinds.Update d ∷ more) =
    let rest = updates-ahead d more in
    record { first = ap (with_kind (kinds.Update c)) rest.first; some = omega arith; within = omega (arith, rest.within) }
updates-ahead c (kinds.Select d ∷ more) = record { first = update-apart c d (privileges_of_kinds more); some = omega arith; within = omega arith }
updates-ahead c (k ∷ more) = record { first = refl; some = omega arith; within = omega arith }

-- ---- where the first kind is known
pub select-ahead : (ks : List Kind) (k : Kind) (c : Name) → 0 < length ks → k ≡ get_or ks 0 k → k ≡ kinds.Select c → IsAhead by_column.Select ks
select-ahead [] k c some at is = absurd (omega (arith, some))
select-ahead (j ∷ more) k c some at is = let P : Kind → Type 0 = λ i. IsAhead by_column.Select (i ∷ more) in subst P (sym is ∙ at) (selects-ahead c more)

pub update-ahead : (ks : List Kind) (k : Kind) (c : Name) → 0 < length ks → k ≡ get_or ks 0 k → k ≡ kinds.Update c → IsAhead by_column.Update ks
update-ahead [] k c some at is = absurd (omega (arith, some))
update-ahead (j ∷ more) k c some at is = let P : Kind → Type 0 = λ i. IsAhead by_column.Update (i ∷ more) in subst P (sym is ∙ at) (updates-ahead c more)

-- whether each lists few names
abbrev pub lists_few : List Privilege → Bool
lists_few ps = list_all (λ p. are_few_names 32 (columns_listed p)) ps

pub few-ahead : (by : ByColumn) (ks : List Kind) → IsAhead by ks → lists_few (privileges_of_kinds ks) ≡ true → are_few_names 32 (columns_ahead by ks) ≡ true
few-ahead by_column.Select ks h few = (and_parts _ (lists_few (privileges_of_kinds (drop (length (columns_ahead by_column.Select ks)) ks))) (ap lists_few (sym h.first) ∙ few)).0
few-ahead by_column.Update ks h few = (and_parts _ (lists_few (privileges_of_kinds (drop (length (columns_ahead by_column.Update ks)) ks))) (ap lists_few (sym h.first) ∙ few)).0

-- the first privilege is of these columns, and so many kinds
pub record IsFirst (by : ByColumn) (ks : List Kind) (columns : List Name) (n : ℕ) : Type 0 where
  pub first : privileges_of_kinds ks ≡ by_columns by columns ∷ privileges_of_kinds (drop n ks)
  pub within : n ≤ length ks

pub first-of : (by : ByColumn) (ks : List Kind) (columns : List Name) (n : ℕ) → IsAhead by ks → columns ≡ columns_ahead by ks → n ≡ length columns → IsFirst by ks columns n
first-of by ks columns n h same count =
    let all : n ≡ length (columns_ahead by ks) = count ∙ ap length same in
    record {
      first = h.first ∙ ap (λ (k : List Name). by_columns by k ∷ privileges_of_kinds (drop (length (columns_ahead by ks)) ks)) (sym same) ∙ ap (λ (i : ℕ). by_columns by columns ∷ privileges_of_kinds (drop i ks)) (sym all);
      within = omega (arith, all, h.within);
    }
