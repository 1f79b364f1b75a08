-- Kinds as a list of privileges: of which atoms it is, which columns it lists, and that it is well formed.
use Rattle.std.proofs.Common.{◌≡◌, ℕ, ◌+◌, ◌<◌, ◌≤◌, true, false, not, List, [], ◌∷◌, map, length, Some, None, count_by, refl, sym, ap, ◌∙◌, arith, ⊎_elim}
use Rattle.std.specs.List.{AllByRecursion, list_any, list_all}
use Rattle.std.proofs.lemmas.Bool.{cases_Bool, and_parts, or_parts, leb-true, eqb-true, eq-eqb, not-true, both_ways, false_from_ne_true}
use Rattle.std.proofs.lemmas.List.Elements.{All-from_recursion}
use Rattle.base_core.specs.Distinct.{are_distinct}
use Rattle.base_core.specs.Privileges.{of_table}
use Rattle.base_core.specs.declared.name.Name.{Name}
use Rattle.base_core.specs.declared.value.Column.{Column}
use Rattle.base_core.specs.declared.privilege.Kind.{Kind}
use Rattle.base_core.specs.declared.privilege.Kind.TheVariants as kinds
use Rattle.reader_core.specs.declared.privilege.Privilege.{Privilege}
use Rattle.reader_core.specs.declared.privilege.Privilege.TheVariants as privileges
use Rattle.reader_core.specs.Forming.{IsShort, IsWellFormedPrivilege, ArePrivileges}
use Rattle.reader_core.specs.Privileges.{same_word, are_different}
use Rattle.monitor_core.specs.Atoms.{atoms_of, columns_listed}
use Rattle.dump_core.specs.Dump.{are_few_names, privilege_of, with_kind, privileges_of_kinds, may_be_listed}
use Rattle.dump_core.proofs.Counted.{counted, count-cons, never}

-- ---- atoms
atoms-with : (t : Name) (columns : List Column) (k : Kind) (ps : List Privilege) → atoms_of t columns (with_kind k ps) ≡ of_table t k ∷ atoms_of t columns ps
atoms-with t columns (kinds.Select c) (privileges.Select (Some cs) ∷ ps) = refl
atoms-with t columns (kinds.Update c) (privileges.Update (Some cs) ∷ ps) = refl
atoms-with t columns k ps = refl

-- **it is of the atoms of these kinds, in order**
pub atoms-listed : (t : Name) (columns : List Column) (ks : List Kind) → atoms_of t columns (privileges_of_kinds ks) ≡ map (of_table t) ks
atoms-listed t columns [] = refl
atoms-listed t columns (k ∷ ks) = atoms-with t columns k (privileges_of_kinds ks) ∙ ap (λ atoms. of_table t k ∷ atoms) (atoms-listed t columns ks)

-- ---- columns
columns-with : (P : Name → Type 0) (k : Kind) (ps : List Privilege) → AllByRecursion P (columns_listed (privilege_of k)) → AllByRecursion (λ p. AllByRecursion P (columns_listed p)) ps → AllByRecursion (λ p. AllByRecursion P (columns_listed p)) (with_kind k ps)
columns-with P (kinds.Select c) (privileges.Select (Some cs) ∷ ps) h more = ((h.0, more.0), more.1)
columns-with P (kinds.Update c) (privileges.Update (Some cs) ∷ ps) h more = ((h.0, more.0), more.1)
columns-with P k ps h more = (h, more)

-- what holds of each kind's column holds of all that it lists
pub columns-hold : (P : Name → Type 0) (ks : List Kind) → AllByRecursion (λ k. AllByRecursion P (columns_listed (privilege_of k))) ks → AllByRecursion (λ p. AllByRecursion P (columns_listed p)) (privileges_of_kinds ks)
columns-hold P [] h = tt
columns-hold P (k ∷ ks) h = columns-with P k (privileges_of_kinds ks) h.0 (columns-hold P ks h.1)

-- SELECT and UPDATE are of at least one column, each written
abbrev IsByColumn : Privilege → Type 0
IsByColumn (privileges.Select (Some columns)) = 0 < length columns
IsByColumn (privileges.Select None) = ⊥
IsByColumn privileges.Insert = Unit {0}
IsByColumn privileges.Delete = Unit {0}
IsByColumn (privileges.Update (Some columns)) = 0 < length columns
IsByColumn (privileges.Update None) = ⊥

by_column-with : (k : Kind) (ps : List Privilege) → AllByRecursion IsByColumn ps → AllByRecursion IsByColumn (with_kind k ps)
by_column-with (kinds.Select c) (privileges.Select (Some cs) ∷ ps) h = (omega arith, h.1)
by_column-with (kinds.Update c) (privileges.Update (Some cs) ∷ ps) h = (omega arith, h.1)
by_column-with (kinds.Select c) ps h = (omega arith, h)
by_column-with (kinds.Update c) ps h = (omega arith, h)
by_column-with k ps h = (tt, h)

by_column : (ks : List Kind) → AllByRecursion IsByColumn (privileges_of_kinds ks)
by_column [] = tt
by_column (k ∷ ks) = by_column-with k (privileges_of_kinds ks) (by_column ks)

some-with : (k : Kind) (ps : List Privilege) → 0 < length (with_kind k ps)
some-with (kinds.Select c) (privileges.Select (Some cs) ∷ ps) = omega arith
some-with (kinds.Update c) (privileges.Update (Some cs) ∷ ps) = omega arith
some-with k ps = omega arith

-- ---- different words are four at most
-- how many of them have the word of w
abbrev worded : Privilege → List Privilege → ℕ
worded w ps = count_by (same_word w) ps

other-words : (w p : Privilege) (ps : List Privilege) → same_word w p ≡ true → list_any (same_word p) ps ≡ false → AllByRecursion (λ q. same_word w q ≡ false) ps
other-words w p [] same h = tt
other-words w p (q ∷ ps) same h =
    let parts = or_parts (same_word p q) (list_any (same_word p) ps) h in
    (false_from_ne_true _ (λ also. both_ways _ parts.0 (eq-eqb _ _ (sym (eqb-true _ _ same) ∙ eqb-true _ _ also))), other-words w p ps same parts.1)

word-once : (w : Privilege) (ps : List Privilege) → are_different ps ≡ true → worded w ps ≤ 1
word-once w [] h = omega arith
word-once w (p ∷ ps) h =
    let parts = and_parts (not (list_any (same_word p) ps)) (are_different ps) h in
    let cons = count-cons (same_word w) p ps in
    ⊎_elim
    (λ (same : same_word w p ≡ true).
    let none = never (same_word w) ps (other-words w p ps same (not-true _ parts.0)) in
    let here : counted (same_word w p) ≡ 1 = ap counted same in
    omega (arith, cons, here, none))
    (λ (other : same_word w p ≡ false).
    let here : counted (same_word w p) ≡ 0 = ap counted other in
    omega (arith, cons, here, word-once w ps parts.1))
    (cases_Bool (same_word w p))

abbrev select : Privilege
select = privileges.Select None

abbrev update : Privilege
update = privileges.Update None

by_words : (ps : List Privilege) → length ps ≡ worded select ps + worded privileges.Insert ps + worded privileges.Delete ps + worded update ps
by_words [] = refl
by_words (p ∷ ps) =
    let one : (0 + counted (same_word select p)) + (0 + counted (same_word privileges.Insert p)) + (0 + counted (same_word privileges.Delete p)) + (0 + counted (same_word update p)) ≡ 1 = of_one p in
    omega (arith, one, by_words ps, count-cons (same_word select) p ps, count-cons (same_word privileges.Insert) p ps, count-cons (same_word privileges.Delete) p ps, count-cons (same_word update) p ps)
  where
    of_one : (p : Privilege) → (0 + counted (same_word select p)) + (0 + counted (same_word privileges.Insert p)) + (0 + counted (same_word privileges.Delete p)) + (0 + counted (same_word update p)) ≡ 1
    of_one (privileges.Select c) = refl
    of_one privileges.Insert = refl
    of_one privileges.Delete = refl
    of_one (privileges.Update c) = refl

pub few-words : (ps : List Privilege) → are_different ps ≡ true → length ps ≤ 4
few-words ps h = omega (arith, by_words ps, word-once select ps h, word-once privileges.Insert ps h, word-once privileges.Delete ps h, word-once update ps h)

-- ---- it is well formed
map-same : (names : List Name) → map (λ (n : Name). n) names ≡ names
map-same [] = refl
map-same (n ∷ names) = ap (λ k. n ∷ k) (map-same names)

named : (names : List Name) → 0 < length names → are_few_names 32 names ≡ true → IsWellFormedPrivilege (privileges.Select (Some names))
named names some h =
    let parts = and_parts _ (are_distinct names) h in
    ((some, leb-true (length names) 32 parts.0), ap are_distinct (map-same names) ∙ parts.1)

formed : (p : Privilege) → IsByColumn p → are_few_names 32 (columns_listed p) ≡ true → IsWellFormedPrivilege p
formed (privileges.Select (Some names)) some h = named names some h
formed (privileges.Update (Some names)) some h = named names some h
formed (privileges.Select None) some h = tt
formed (privileges.Update None) some h = tt
formed privileges.Insert some h = tt
formed privileges.Delete some h = tt

each-formed : (ps : List Privilege) → AllByRecursion IsByColumn ps → list_all (λ p. are_few_names 32 (columns_listed p)) ps ≡ true → AllByRecursion IsWellFormedPrivilege ps
each-formed [] some h = tt
each-formed (p ∷ ps) some h =
    let parts = and_parts (are_few_names 32 (columns_listed p)) (list_all (λ p. are_few_names 32 (columns_listed p)) ps) h in
    (formed p some.0 parts.0, each-formed ps some.1 parts.1)

-- **what may be listed is a list of privileges as a statement may have it**
pub listed-formed : (k : Kind) (ks : List Kind) → may_be_listed (privileges_of_kinds (k ∷ ks)) ≡ true → ArePrivileges (privileges_of_kinds (k ∷ ks))
listed-formed k ks h =
    let ps : List Privilege = privileges_of_kinds (k ∷ ks) in
    let parts = and_parts (are_different ps) (list_all (λ p. are_few_names 32 (columns_listed p)) ps) h in
    ((some-with k (privileges_of_kinds ks), few-words ps parts.0), parts.0, All-from_recursion IsWellFormedPrivilege ps (each-formed ps (by_column (k ∷ ks)) parts.1))

-- one kind alone may be listed
pub one-listed : (k : Kind) → may_be_listed (privileges_of_kinds (k ∷ [])) ≡ true
one-listed (kinds.Select c) = refl
one-listed kinds.Insert = refl
one-listed kinds.Delete = refl
one-listed (kinds.Update c) = refl

pub listed-short : (ks : List Kind) → 0 < length ks → may_be_listed (privileges_of_kinds ks) ≡ true → IsShort 4 (privileges_of_kinds ks)
listed-short [] some h = absurd (omega (arith, some))
listed-short (k ∷ ks) some h = (listed-formed k ks h).0
