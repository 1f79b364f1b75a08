-- In a lawful journal of well-formed statements no more grants of an atom are in force than the limit.
use Rattle.std.proofs.Common.{◌≡◌, ℕ, ◌+◌, ◌*◌, ◌<◌, ◌≤◌, Bool, true, false, not, ◌&&◌, cond, subst, List, [], ◌∷◌, ◌++◌, map, length, Option, Some, None, Ok, count_by, refl, sym, ap, ◌∙◌, arith, zero-mul, ◌⊎◌, inl, inr, ⊎_elim, option_map}
use Rattle.std.specs.Option.{option_map_or}
use Rattle.std.specs.List.{AllByRecursion, list_any}
use Rattle.std.proofs.lemmas.Bool.{cases_Bool, cases_lt, and_parts, and_right, or_parts, leb-true, eqb-true, eq-eqb, not-true, both_ways, false_from_ne_true}
use Rattle.std.proofs.lemmas.List.Folds.{fold-map}
use Rattle.std.proofs.lemmas.List.Sums.{sum_by-append, count_by-le-length}
use Rattle.std.proofs.lemmas.List.Elements.{recursion_from_All}
use Rattle.base_core.specs.Words.{same_name}
use Rattle.base_core.specs.Distinct.{are_distinct}
use Rattle.base_core.specs.Privileges.{of_table, to_select, to_update, same_atom}
use Rattle.base_core.specs.declared.name.Name.{Name}
use Rattle.base_core.specs.declared.name.User.{User}
use Rattle.base_core.specs.declared.limits.Limits.{Limits}
use Rattle.base_core.specs.declared.value.Column.{Column}
use Rattle.base_core.specs.declared.value.Moment.{Moment}
use Rattle.base_core.specs.declared.privilege.Kind.{Kind}
use Rattle.base_core.specs.declared.privilege.Kind.TheVariants as kinds
use Rattle.base_core.specs.declared.privilege.Atom.{Atom}
use Rattle.base_core.proofs.SameLemmas.{same_name-true, same_atom-true}
use Rattle.reader_core.specs.declared.privilege.Privilege.{Privilege}
use Rattle.reader_core.specs.declared.privilege.Privilege.TheVariants as privileges
use Rattle.reader_core.specs.declared.statement.Statement.{Statement}
use Rattle.reader_core.specs.declared.statement.Statement.TheVariants as statements
use Rattle.reader_core.specs.Forming.{AreNamed, IsSelection, IsWellFormedPrivilege, IsWellFormed}
use Rattle.reader_core.specs.Privileges.{same_word, are_different}
use Rattle.tables_core.specs.Contents.{Table, empty_table, with_row, without_chosen_rows, with_updated_rows, table_of}
use Rattle.tables_core.specs.Fitting.{ColumnsDiffer}
use Rattle.tables_core.proofs.ContentsLemmas.{table_of-append}
use Rattle.grants_core.specs.declared.grant.Grant.{Grant}
use Rattle.grants_core.specs.declared.grant.Change.{Change}
use Rattle.grants_core.specs.declared.grant.Change.TheVariants as change
use Rattle.grants_core.specs.Valid.{valid, IsPart, nothing, with_first, without_first}
use Rattle.grants_core.specs.Content.{Rights, count_of, to_each, singles, names, without, option_off, options_off}
use Rattle.grants_core.specs.History.{grants_of}
use Rattle.grants_core.proofs.ValidLemmas.{valid-part}
use Rattle.monitor_core.specs.Atoms.{columns_given, atoms_of_one, atoms_of}
use Rattle.monitor_core.specs.Verdict.{State, checks, verdict, columns_of, atoms_at, has_room, room_for_grants}
use Rattle.monitor_core.proofs.Passing.{require-Ok, passed, each-Ok}
use Rattle.system_core.specs.declared.machine.event.Entry.{Entry}
use Rattle.system_core.specs.Journal.{tables_at, tables_after, change_of, rights_at, state_of, verdict_at, IsLawful}
use Rattle.system_core.specs.Carrying.{rights_after}
use Rattle.system_core.proofs.TableLemmas.{IsNew, changed}
use Rattle.system_core.proofs.Keeping.{new, contents-more}
use Rattle.dump_core.specs.Dump.{privilege_of}
use Rattle.dump_core.specs.Laws.{AreWellFormed}
use Rattle.dump_core.proofs.InTurn.{part-filter}
use Rattle.dump_core.proofs.Facts.{by_entries, known, rights-more}
use Rattle.dump_core.proofs.Dumping.{flip}

-- ---- counts
-- one where the test holds
abbrev pub counted : Bool → ℕ
counted b = cond b 1 0

pub count-cons : {A : Type 0} (p : A → Bool) (x : A) (xs : List A) → count_by p (x ∷ xs) ≡ (0 + cond (p x) 1 0) + count_by p xs
count-cons p x xs = sum_by-append (λ y. cond (p y) 1 0) (x ∷ []) xs

count-map : {A B : Type 0} (p : B → Bool) (f : A → B) (xs : List A) → count_by p (map f xs) ≡ count_by (λ x. p (f x)) xs
count-map {B = B} p f xs = fold-map (λ (n : ℕ) (y : B). n + cond (p y) 1 0) f 0 xs

pub never : {A : Type 0} (p : A → Bool) (xs : List A) → AllByRecursion (λ x. p x ≡ false) xs → count_by p xs ≡ 0
never p [] h = refl
never p (x ∷ xs) h =
    let here : counted (p x) ≡ 0 = ap counted h.0 in
    omega (arith, count-cons p x xs, here, never p xs h.1)

all-mapped : {A B : Type 0} (P : B → Type 0) (f : A → B) (xs : List A) → ((x : A) → P (f x)) → AllByRecursion P (map f xs)
all-mapped P f [] h = tt
all-mapped P f (x ∷ xs) h = (h x, all-mapped P f xs h)

-- a name stands at most once among different ones
names-never : (x : Name) (names : List Name) → list_any (same_name x) names ≡ false → AllByRecursion (λ n. same_name n x ≡ false) names
names-never x [] h = tt
names-never x (n ∷ ns) h = let parts = or_parts (same_name x n) (list_any (same_name x) ns) h in (flip x n parts.0, names-never x ns parts.1)

names-once : (x : Name) (names : List Name) → are_distinct names ≡ true → count_by (λ n. same_name n x) names ≤ 1
names-once x [] h = omega arith
names-once x (n ∷ ns) h =
    let parts = and_parts (not (list_any (same_name n) ns)) (are_distinct ns) h in
    let cons = count-cons (λ m. same_name m x) n ns in
    ⊎_elim
    (λ (same : same_name n x ≡ true).
    let Others : Name → Type 0 = λ m. list_any (same_name m) ns ≡ false in
    let none = never (λ m. same_name m x) ns (names-never x ns (subst Others (same_name-true n x same) (not-true _ parts.0))) in
    let here : counted (same_name n x) ≡ 1 = ap counted same in
    omega (arith, cons, here, none))
    (λ (other : same_name n x ≡ false).
    let here : counted (same_name n x) ≡ 0 = ap counted other in
    omega (arith, cons, here, names-once x ns parts.1))
    (cases_Bool (same_name n x))

count-and : {A : Type 0} (b : Bool) (q : A → Bool) (xs : List A) → count_by q xs ≤ 1 → count_by (λ x. b && q x) xs ≤ 1
count-and true q xs h = h
count-and {A = A} false q xs h = let none : count_by {X = A} (λ x. false) xs ≡ 0 = never {A = A} (λ x. false) xs (all_false xs) in omega (arith, none)
  where
    all_false : (xs : List A) → AllByRecursion {X = A} (λ x. false ≡ false) xs
    all_false [] = tt
    all_false (x ∷ xs) = (refl, all_false xs)

-- ---- the atoms of privileges with different words are different
module _ (table : Name) (columns : List Column) (t : Name) where
  -- how many of them are of this kind on t
  abbrev many : Kind → List Atom → ℕ
  many kind atoms = count_by (λ a. same_atom a (of_table t kind)) atoms

  abbrev Other : Kind → Atom → Type 0
  Other kind a = same_atom a (of_table t kind) ≡ false

  none-of : (p : Privilege) (kind : Kind) → same_word p (privilege_of kind) ≡ false → AllByRecursion (Other kind) (atoms_of_one table columns p)
  none-of (privileges.Select list) kinds.Insert h = all-mapped (Other kinds.Insert) (to_select table) (columns_given columns list) (λ n. and_right _ _ refl)
  none-of (privileges.Select list) kinds.Delete h = all-mapped (Other kinds.Delete) (to_select table) (columns_given columns list) (λ n. and_right _ _ refl)
  none-of (privileges.Select list) (kinds.Update c) h = all-mapped (Other (kinds.Update c)) (to_select table) (columns_given columns list) (λ n. and_right _ _ refl)
  none-of (privileges.Update list) kinds.Insert h = all-mapped (Other kinds.Insert) (to_update table) (columns_given columns list) (λ n. and_right _ _ refl)
  none-of (privileges.Update list) kinds.Delete h = all-mapped (Other kinds.Delete) (to_update table) (columns_given columns list) (λ n. and_right _ _ refl)
  none-of (privileges.Update list) (kinds.Select c) h = all-mapped (Other (kinds.Select c)) (to_update table) (columns_given columns list) (λ n. and_right _ _ refl)
  none-of privileges.Insert (kinds.Select c) h = (and_right _ _ refl, tt)
  none-of privileges.Insert kinds.Delete h = (and_right _ _ refl, tt)
  none-of privileges.Insert (kinds.Update c) h = (and_right _ _ refl, tt)
  none-of privileges.Delete (kinds.Select c) h = (and_right _ _ refl, tt)
  none-of privileges.Delete kinds.Insert h = (and_right _ _ refl, tt)
  none-of privileges.Delete (kinds.Update c) h = (and_right _ _ refl, tt)
  none-of (privileges.Select list) (kinds.Select c) h = cc
  none-of privileges.Insert kinds.Insert h = cc
  none-of privileges.Delete kinds.Delete h = cc
  none-of (privileges.Update list) (kinds.Update c) h = cc

  -- columns as they may be listed are different
  given-once : (differ : ColumnsDiffer columns) (x : Name) (list : Option (List Name)) → IsSelection list → count_by (λ n. same_name n x) (columns_given columns list) ≤ 1
  given-once differ x None h = names-once x (map (λ c. c.name) columns) differ
  given-once differ x (Some names) h = let same = count-map (λ n. same_name n x) (λ (n : Name). n) names in omega (arith, same, names-once x (map (λ n. n) names) h.1)

  once : (differ : ColumnsDiffer columns) (p : Privilege) (kind : Kind) → IsWellFormedPrivilege p → same_word p (privilege_of kind) ≡ true → many kind (atoms_of_one table columns p) ≤ 1
  once differ (privileges.Select list) (kinds.Select c) form h =
      let mapped = count-map (λ a. same_atom a (of_table t (kinds.Select c))) (to_select table) (columns_given columns list) in
      omega (arith, mapped, count-and (same_name table t) (λ n. same_name n c) (columns_given columns list) (given-once differ c list form))
  once differ (privileges.Update list) (kinds.Update c) form h =
      let mapped = count-map (λ a. same_atom a (of_table t (kinds.Update c))) (to_update table) (columns_given columns list) in
      omega (arith, mapped, count-and (same_name table t) (λ n. same_name n c) (columns_given columns list) (given-once differ c list form))
  once differ privileges.Insert kinds.Insert form h = count_by-le-length (λ a. same_atom a (of_table t kinds.Insert)) (of_table table kinds.Insert ∷ [])
  once differ privileges.Delete kinds.Delete form h = count_by-le-length (λ a. same_atom a (of_table t kinds.Delete)) (of_table table kinds.Delete ∷ [])
  once differ _ _ form h = cc

  -- privileges with other words have none of the kind
  none-of-others : (p : Privilege) (ps : List Privilege) (kind : Kind) → same_word p (privilege_of kind) ≡ true → list_any (same_word p) ps ≡ false → many kind (atoms_of table columns ps) ≡ 0
  none-of-others p [] kind h others = refl
  none-of-others p (q ∷ ps) kind h others =
      let parts = or_parts (same_word p q) (list_any (same_word p) ps) others in
      let other : same_word q (privilege_of kind) ≡ false = false_from_ne_true _ (λ same. both_ways _ parts.0 (eq-eqb _ _ (eqb-true _ _ h ∙ sym (eqb-true _ _ same)))) in
      let both = sum_by-append (λ a. cond (same_atom a (of_table t kind)) 1 0) (atoms_of_one table columns q) (atoms_of table columns ps) in
      omega (arith, both, never (λ a. same_atom a (of_table t kind)) (atoms_of_one table columns q) (none-of q kind other), none-of-others p ps kind h parts.1)

  atoms-once : (differ : ColumnsDiffer columns) (ps : List Privilege) (kind : Kind) → are_different ps ≡ true → AllByRecursion IsWellFormedPrivilege ps → many kind (atoms_of table columns ps) ≤ 1
  atoms-once differ [] kind h form = omega arith
  atoms-once differ (p ∷ ps) kind h form =
      let parts = and_parts (not (list_any (same_word p) ps)) (are_different ps) h in
      let both = sum_by-append (λ a. cond (same_atom a (of_table t kind)) 1 0) (atoms_of_one table columns p) (atoms_of table columns ps) in
      ⊎_elim
      (λ (same : same_word p (privilege_of kind) ≡ true).
      omega (arith, both, once differ p kind form.0 same, none-of-others p ps kind same (not-true _ parts.0)))
      (λ (other : same_word p (privilege_of kind) ≡ false).
      omega (arith, both, never (λ a. same_atom a (of_table t kind)) (atoms_of_one table columns p) (none-of p kind other), atoms-once differ ps kind parts.1 form.1))
      (cases_Bool (same_word p (privilege_of kind)))

-- ---- the single grants of an atom
each-cases : (b : Bool) (n : ℕ) → (0 + cond b 1 0) + cond b n 0 ≡ cond b (n + 1) 0
each-cases true n = omega arith
each-cases false n = refl

cond-nothing : (b : Bool) → ◌≡◌ {A = ℕ} 0 (cond b 0 0)
cond-nothing true = refl
cond-nothing false = refl

count-each : (n : ℕ) (at : Moment) (by : User) (a : Atom) (whom : List User) (option : Bool) (atom : Atom) → count_of (to_each n at by a whom option) atom ≡ cond (same_atom a atom) (length whom) 0
count-each n at by a [] option atom = cond-nothing (same_atom a atom)
count-each n at by a (u ∷ us) option atom =
    count-cons (λ (g : Grant). same_atom g.atom atom) (record { number = n; moment = at; atom = a; grantor = by; grantee = u; option = option }) (to_each (n + 1) at by a us option)
    ∙ ap (λ k. (0 + cond (same_atom a atom) 1 0) + k) (count-each (n + 1) at by a us option atom)
    ∙ each-cases (same_atom a atom) (length us)
    ∙ ap (λ k. cond (same_atom a atom) k 0) one
  where
    one : length us + 1 ≡ length (u ∷ us)
    one = omega arith

singles-cases : (b : Bool) (m w : ℕ) → cond b w 0 + m * w ≡ ((0 + cond b 1 0) + m) * w
singles-cases true m w = omega arith
singles-cases false m w = omega arith

count-singles : (n : ℕ) (at : Moment) (by : User) (atoms : List Atom) (whom : List User) (option : Bool) (atom : Atom) → count_of (singles n at by atoms whom option) atom ≡ count_by (λ a. same_atom a atom) atoms * length whom
count-singles n at by [] whom option atom = sym (zero-mul (length whom))
count-singles n at by (a ∷ more) whom option atom =
    sum_by-append (λ (g : Grant). cond (same_atom g.atom atom) 1 0) (to_each n at by a whom option) (singles (n + length whom) at by more whom option)
    ∙ ap (λ k. k + count_of (singles (n + length whom) at by more whom option) atom) (count-each n at by a whom option atom)
    ∙ ap (λ k. cond (same_atom a atom) (length whom) 0 + k) (count-singles (n + length whom) at by more whom option atom)
    ∙ singles-cases (same_atom a atom) (count_by (λ b. same_atom b atom) more) (length whom)
    ∙ ap (λ k. k * length whom) (sym (count-cons (λ b. same_atom b atom) a more))

-- ---- a change keeps the limit
room-at : (at : State) (users : List User) (atoms : List Atom) (atom : Atom) → AllByRecursion (λ a. room_for_grants at users a ≡ Ok tt) atoms
    → (count_by (λ a. same_atom a atom) atoms ≡ 0) ⊎ (count_of at.rights.in_force atom + length users ≤ at.limits.grants)
unfolding has_room
room-at at users [] atom h = inl refl
room-at at users (a ∷ more) atom h =
    ⊎_elim
    (λ (same : same_atom a atom ≡ true).
    let Fits : Atom → Type 0 = λ x. count_of at.rights.in_force x + length users ≤ at.limits.grants in
    inr (subst Fits (same_atom-true a atom same) (leb-true _ _ (require-Ok _ _ h.0))))
    (λ (other : same_atom a atom ≡ false).
    let here : counted (same_atom a atom) ≡ 0 = ap counted other in
    ⊎_elim (λ (none : count_by (λ b. same_atom b atom) more ≡ 0). inl (omega (arith, count-cons (λ b. same_atom b atom) a more, here, none)))
    (λ (fits : count_of at.rights.in_force atom + length users ≤ at.limits.grants). inr fits)
    (room-at at users more atom h.1))
    (cases_Bool (same_atom a atom))

at_most_once : (k f w n : ℕ) → k ≤ 1 → (k ≡ 0) ⊎ (f + w ≤ n) → f ≤ n → f + k * w ≤ n
at_most_once k f w n single (inl none) few = let gone : k * w ≡ 0 = ap (λ i. i * w) none ∙ zero-mul w in omega (arith, gone, few)
at_most_once k f w n single (inr fits) few = ⊎_elim
    (λ (less : k < 1). let none : k ≡ 0 = omega (arith, less) in let gone : k * w ≡ 0 = ap (λ i. i * w) none ∙ zero-mul w in omega (arith, gone, few))
    (λ (more : 1 ≤ k). let is : k ≡ 1 = omega (arith, more, single) in let all : k * w ≡ 1 * w = ap (λ i. i * w) is in omega (arith, all, fits))
    (cases_lt k 1)

new-few : (at : State) (n m : ℕ) (user : User) (s : Statement) → IsWellFormed s → ((name : Name) → ColumnsDiffer (columns_of at.tables name)) → verdict at user s ≡ Ok tt → (atom : Atom) → count_of at.rights.in_force atom ≤ at.limits.grants
    → count_of at.rights.in_force atom + count_of (grants_of n m (change_of at.tables user s)) atom ≤ at.limits.grants
new-few at n m user (statements.Grant asked table users option) form differ ok atom few =
    let atoms : List Atom = atoms_at at.tables table asked in
    let count = count-singles n (record { 0 = m }) user atoms users option atom in
    let fits = each-Ok (room_for_grants at users) atoms (passed (checks at user (statements.Grant asked table users option)) ok).1.1.1.1.0 in
    let once = atoms-once table (columns_of at.tables table) atom.table (differ table) asked atom.kind form.0.1 (recursion_from_All IsWellFormedPrivilege asked form.0.2) in
    let bound = at_most_once (count_by (λ a. same_atom a atom) atoms) (count_of at.rights.in_force atom) (length users) at.limits.grants once (room-at at users atoms atom fits) few in
    omega (arith, count, bound)
new-few at n m user _ form differ ok atom few = omega (arith, few)

count-part : (atom : Atom) (part grants : List Grant) → IsPart part grants → count_of part atom ≤ count_of grants atom
count-part atom _ _ nothing = omega arith
count-part atom _ _ (with_first {g = g} {xs = xs} {ys = ys} rest) =
    let test : Grant → Bool = λ h. same_atom h.atom atom in
    omega (arith, count-cons test g xs, count-cons test g ys, count-part atom xs ys rest)
count-part atom part _ (without_first {g = g} {ys = ys} rest) =
    omega (arith, count-cons (λ (h : Grant). same_atom h.atom atom) g ys, count-part atom part ys rest)

few-after : (c : Rights) (m : ℕ) (ch : Change) (atom : Atom) (n : ℕ) → count_of c.in_force atom + count_of (grants_of c.made (m + 1) ch) atom ≤ n → count_of (rights_after c m ch).in_force atom ≤ n
few-after c m (change.Create table owner) atom n h = omega (arith, h)
few-after c m (change.Grant by atoms whom option) atom n h = omega (arith, h, sum_by-append (λ (g : Grant). cond (same_atom g.atom atom) 1 0) c.in_force (singles c.made (record { 0 = m + 1 }) by atoms whom option))
few-after c m (change.Revoke by atoms whom) atom n h =
    let left : List Grant = without by atoms whom c.in_force in
    omega (arith, h, count-part atom (valid c.owners left) left (valid-part c.owners left), count-part atom left c.in_force (part-filter _ c.in_force))
few-after c m (change.RevokeOption by atoms whom) atom n h =
    let left : List Grant = options_off by atoms whom c.in_force in
    let same : count_of left atom ≡ count_of c.in_force atom = fold-map (λ (k : ℕ) (g : Grant). k + cond (same_atom g.atom atom) 1 0) (option_off (names by atoms whom)) 0 c.in_force in
    omega (arith, h, count-part atom (valid c.owners left) left (valid-part c.owners left), same)
few-after c m change.Other atom n h = omega (arith, h)

-- ---- columns stay as a statement may have them
abbrev pub IsFormed : Option Table → Type 0
IsFormed None = Unit {0}
IsFormed (Some t) = AreNamed 32 (λ c. c.name) t.columns

formed-differ : (o : Option Table) → IsFormed o → ColumnsDiffer (option_map_or (λ t. t.columns) o [])
formed-differ None h = refl
formed-differ (Some t) h = h.1

formed-kept : (f : Table → Table) → ((t : Table) → (f t).columns ≡ t.columns) → (o : Option Table) → IsFormed o → IsFormed (option_map f o)
formed-kept f same None h = h
formed-kept f same (Some t) h = let P : List Column → Type 0 = AreNamed 32 (λ c. c.name) in subst P (sym (same t)) h

formed-after : (tables : List (Name × Table)) (user : User) (s : Statement) (name : Name) → IsWellFormed s → IsNew tables s → IsFormed (table_of tables name) → IsFormed (table_of (tables_after tables user s) name)
formed-after tables user (statements.CreateTable table columns) name form fresh h =
    subst IsFormed (sym (table_of-append tables table name (empty_table user columns) fresh))
    (elim (same_name table name) as (λ b. IsFormed (cond b (Some (empty_table user columns)) (table_of tables name))) [ true ↦ form | false ↦ h ])
formed-after tables user (statements.Insert table values) name form fresh h = changed IsFormed tables table (with_row (record { values = values })) name (formed-kept _ (λ t. refl) (table_of tables name)) h
formed-after tables user (statements.Delete table filter) name form fresh h = changed IsFormed tables table (without_chosen_rows filter) name (formed-kept _ (λ t. refl) (table_of tables name)) h
formed-after tables user (statements.Update table sets filter) name form fresh h = changed IsFormed tables table (with_updated_rows sets filter) name (formed-kept _ (λ t. refl) (table_of tables name)) h
formed-after tables user _ name form fresh h = h

-- ---- all together
pub record IsWithin (l : Limits) (journal : List Entry) : Type 0 where
  pub formed : (name : Name) → IsFormed (table_of (tables_at journal) name)
  pub few : (atom : Atom) → count_of (rights_at journal).in_force atom ≤ l.grants

within-more : (l : Limits) (journal : List Entry) (e : Entry) → IsLawful l journal → IsWithin l journal → IsWellFormed e.statement → verdict_at l journal e.user e.statement ≡ Ok tt → IsWithin l (journal ++ e ∷ [])
within-more l journal e lawful h form ok =
    let at : State = state_of l journal in
    let ch : Change = change_of (tables_at journal) e.user e.statement in
    let rights = rights-more l journal e.user e.statement (known l journal lawful).on ok e.pass in
    record {
      formed = λ name.
          let P : List (Name × Table) → Type 0 = λ ts. IsFormed (table_of ts name) in
          subst P (sym (contents-more journal e)) (formed-after (tables_at journal) e.user e.statement name form (new at e.user e.statement ok) (h.formed name));
      few = λ atom.
          let Q : Rights → Type 0 = λ c. count_of c.in_force atom ≤ l.grants in
          subst Q (sym rights) (few-after (rights_at journal) (length journal) ch atom l.grants (new-few at (rights_at journal).made (length journal + 1) e.user e.statement form (λ name. formed-differ (table_of (tables_at journal) name) (h.formed name)) ok atom (h.few atom)));
    }

-- **no more than the limit**
pub within : (l : Limits) (journal : List Entry) → IsLawful l journal → AreWellFormed journal → IsWithin l journal
within l journal lawful form =
    by_entries l (λ e. IsWellFormed e.statement) (IsWithin l) (λ j e was h q ok. within-more l j e was h q ok) journal
    (record { formed = λ name. tt; few = λ atom. omega arith }) form lawful
