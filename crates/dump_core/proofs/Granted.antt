-- The grants of a dump, statement by statement: each is allowed, and what they lead to.
use Rattle.std.proofs.Common.{◌≡◌, ◌+◌, ◌<◌, ◌≤◌, Bool, true, ◌||◌, ◌&&◌, subst, List, [], ◌∷◌, ◌++◌, map, length, Ok, refl, sym, ap, ◌∙◌, append_assoc, append-nil, arith, cond}
use Rattle.std.specs.Prelude.{is_some}
use Rattle.std.specs.List.{AllByRecursion, list_any, flat_map}
use Rattle.std.proofs.lemmas.Bool.{le-leb}
use Rattle.std.proofs.lemmas.List.{map-append, length-append, length-map}
use Rattle.std.proofs.lemmas.List.Sums.{sum_by-append}
use Rattle.base_core.specs.Privileges.{of_table, same_atom}
use Rattle.base_core.specs.declared.name.Name.{Name}
use Rattle.base_core.specs.declared.name.User.{User}
use Rattle.base_core.specs.declared.limits.Limits.{Limits}
use Rattle.base_core.specs.declared.value.Moment.{Moment}
use Rattle.base_core.specs.declared.privilege.Kind.{Kind}
use Rattle.base_core.specs.declared.privilege.Atom.{Atom}
use Rattle.base_core.specs.declared.lack.Lack.TheVariants as lacks
use Rattle.base_core.specs.declared.lack.What.TheVariants as whats
use Rattle.base_core.proofs.SameLemmas.{same_atom-refl}
use Rattle.reader_core.specs.declared.privilege.Privilege.{Privilege}
use Rattle.tables_core.specs.Contents.{Table}
use Rattle.grants_core.specs.declared.grant.Grant.{Grant}
use Rattle.grants_core.specs.declared.grant.Ownership.{Ownership}
use Rattle.grants_core.specs.Valid.{is_supported, AreSupported}
use Rattle.grants_core.specs.Content as rights
use Rattle.grants_core.specs.Content.{gives, count_of, singles}
use Rattle.monitor_core.specs.Atoms.{atoms_of, columns_listed}
use Rattle.monitor_core.specs.Verdict.{State, Check, each, is_table, columns_of, column_stands, holds_grant_option, room_for_grants, has_room, checks}
use Rattle.monitor_core.proofs.Columns.{column_of_columns}
use Rattle.system_core.specs.declared.machine.event.Entry.{Entry}
use Rattle.system_core.specs.Journal.{tables_at, change_of, rights_at, state_of, verdict_at}
use Rattle.system_core.specs.Carrying.{rights_after}
use Rattle.dump_core.specs.Grouped.{Group, members}
use Rattle.dump_core.specs.Dump.{grantees, privilege_of, privileges_given, granting}
use Rattle.dump_core.specs.Alike.{undated, plain_grants}
use Rattle.dump_core.proofs.Grouping.{all-parts, each-members, all-members, all-implied}
use Rattle.dump_core.proofs.InTurn.{AreInTurn}
use Rattle.dump_core.proofs.Undated.{OwnAlike, may_grant-undated, count_of-undated}
use Rattle.dump_core.proofs.Facts.{found, AtomStands}
use Rattle.dump_core.proofs.Dumping.{Reaches, reach-more, reach-journal, all_pass, each_pass, pass}
use Rattle.dump_core.proofs.Steps.{in_room}
use Rattle.dump_core.proofs.Counted.{counted, count-cons}
use Rattle.dump_core.proofs.Listing.{atoms-listed, columns-hold}
use Rattle.dump_core.proofs.Together.{IsMade, IsPartOf, AreOfOneStatement, grants_of_group, parts-made}
use Rattle.dump_core.proofs.Supported.{may-all}

-- ---- how many there are of an atom
count-append : (xs ys : List Grant) (atom : Atom) → count_of (xs ++ ys) atom ≡ count_of xs atom + count_of ys atom
count-append xs ys atom = sum_by-append (λ (h : Grant). cond (same_atom h.atom atom) 1 0) xs ys

count-all : (by : User) (atom : Atom) (option : Bool) (gs : List Grant) → AllByRecursion (IsMade by atom option) gs → count_of gs atom ≡ length gs
count-all by atom option [] h = refl
count-all by atom option (g ∷ gs) h =
    let here : counted (same_atom g.atom atom) ≡ 1 = ap (λ (a : Atom). counted (same_atom a atom)) h.0.of_it ∙ ap counted (same_atom-refl atom) in
    omega (arith, count-cons (λ (k : Grant). same_atom k.atom atom) g gs, here, count-all by atom option gs h.1)

-- each part has a grant to each of the users
count-parts : (by : User) (table : Name) (users : List User) (option : Bool) (front : List Grant) (parts : List (Group Grant)) → AllByRecursion (IsPartOf by table users option) parts
    → AllByRecursion (λ grants. length users ≤ count_of (front ++ flat_map members parts) grants.first.atom) parts
count-parts by table users option front [] h = tt
count-parts by table users option front (grants ∷ parts) h =
    let atom : Atom = grants.first.atom in
    let own : List Grant = members grants in
    let more : List Grant = flat_map members parts in
    let as_many : length users ≡ length own = ap length (sym h.0.to_them) ∙ length-map own (λ (g : Grant). g.grantee) in
    let All : List Grant → Type 0 = λ k. AllByRecursion (λ grants. length users ≤ count_of k grants.first.atom) parts in (
      omega (arith, count-append front (own ++ more) atom, count-append own more atom, count-all by atom option own h.0.made, as_many),
      subst All (append_assoc front own more) (count-parts by table users option (front ++ own) parts h.1),
    )

-- ---- the statement
module _ (l : Limits) (j : List Entry) (by : User) (table : Name) (users : List User) (option : Bool) where
  abbrev at : State
  at = state_of l j

  abbrev Part : Group Grant → Type 0
  Part = IsPartOf by table users option

  abbrev kinds_of : List (Group Grant) → List Kind
  kinds_of parts = map (λ grants. grants.first.atom.kind) parts

  -- a check of the atoms of the parts passes where it does for each
  each-check : (check : Atom → Check) (parts : List (Group Grant)) → AllByRecursion Part parts → AllByRecursion (λ grants. check grants.first.atom ≡ Ok tt) parts → AllByRecursion (λ a. check a ≡ Ok tt) (map (of_table table) (kinds_of parts))
  each-check check [] h k = tt
  each-check check (grants ∷ parts) h k = (ap (λ t. check (of_table t grants.first.atom.kind)) (sym h.0.on_it) ∙ k.0, each-check check parts h.1 k.1)

  abbrev Stands : Name → Type 0
  Stands name = is_some (found (columns_of (tables_at j) table) name) ≡ true

  each-stands : (parts : List (Group Grant)) → AllByRecursion Part parts → AllByRecursion (λ grants. AtomStands (tables_at j) grants.first.atom) parts → AllByRecursion (λ k. AllByRecursion Stands (columns_listed (privilege_of k))) (kinds_of parts)
  each-stands [] h s = tt
  each-stands (grants ∷ parts) h s =
      let Here : Name → Type 0 = λ t. AllByRecursion (λ name. is_some (found (columns_of (tables_at j) t) name) ≡ true) (columns_listed (privilege_of grants.first.atom.kind)) in
      (subst Here h.0.on_it s.0.columns, each-stands parts h.1 s.1)

  columns-pass : (names : List Name) → AllByRecursion Stands names → AllByRecursion (λ name. column_stands at table name ≡ Ok tt) names
  columns-pass names h = all-implied Stands (λ name. column_stands at table name ≡ Ok tt) names (λ name s. pass _ (lacks.NoColumn table name) (ap is_some (column_of_columns (tables_at j) table name) ∙ s)) h

  lists-pass : (ps : List Privilege) → AllByRecursion (λ p. AllByRecursion Stands (columns_listed p)) ps → AllByRecursion (λ p. each (columns_listed p) (column_stands at table) ≡ Ok tt) ps
  lists-pass ps h = all-implied (λ p. AllByRecursion Stands (columns_listed p)) (λ p. each (columns_listed p) (column_stands at table) ≡ Ok tt) ps (λ p s. each_pass (column_stands at table) (columns_listed p) (columns-pass (columns_listed p) s)) h

module _ (l : Limits) (j : List Entry) (atoms : Group (Group Grant)) (h : AreOfOneStatement atoms) where
  abbrev f : Grant
  f = atoms.first.first

  abbrev users : List User
  users = grantees atoms.first

  abbrev of_parts : List Atom
  of_parts = atoms_of f.atom.table (columns_of (tables_at j) f.atom.table) (privileges_given atoms)

  of_all : of_parts ≡ map (of_table f.atom.table) (map (λ grants. grants.first.atom.kind) (members atoms))
  of_all = atoms-listed f.atom.table (columns_of (tables_at j) f.atom.table) (map (λ grants. grants.first.atom.kind) (members atoms))

  -- a check of its atoms passes where it does for each part
  all-check : (check : Atom → Check) → AllByRecursion (λ grants. check grants.first.atom ≡ Ok tt) (members atoms) → each of_parts check ≡ Ok tt
  all-check check k =
      ap (λ (k : List Atom). each k check) of_all
      ∙ each_pass check (map (of_table f.atom.table) (map (λ grants. grants.first.atom.kind) (members atoms))) (each-check l j f.grantor f.atom.table users f.option check (members atoms) h.parts k)

  grant-allowed : AllByRecursion (λ grants. AtomStands (tables_at j) grants.first.atom) (members atoms)
      → AllByRecursion (λ grants. rights.may_grant (rights_at j).owners (rights_at j).in_force f.grantor grants.first.atom ≡ true) (members atoms)
      → length j < l.changes
      → AllByRecursion (λ grants. count_of (rights_at j).in_force grants.first.atom + length users ≤ l.grants) (members atoms)
      → verdict_at l j f.grantor (granting atoms).statement ≡ Ok tt
  unfolding has_room
  grant-allowed stands may few room =
      let now : State = state_of l j in
      let lists : AllByRecursion (λ p. each (columns_listed p) (column_stands now f.atom.table) ≡ Ok tt) (privileges_given atoms) =
      lists-pass l j f.grantor f.atom.table users f.option (privileges_given atoms)
      (columns-hold (λ name. is_some (found (columns_of (tables_at j) f.atom.table) name) ≡ true) (map (λ grants. grants.first.atom.kind) (members atoms)) (each-stands l j f.grantor f.atom.table users f.option (members atoms) h.parts stands)) in
      let Option : Atom → Type 0 = λ atom. holds_grant_option now f.grantor atom ≡ Ok tt in
      let Room : Atom → Type 0 = λ atom. room_for_grants now users atom ≡ Ok tt in
      all_pass (checks now f.grantor (granting atoms).statement) (
        pass (is_table (tables_at j) f.atom.table) (lacks.NoTable f.atom.table) stands.0.table,
        (
          each_pass (λ p. each (columns_listed p) (column_stands now f.atom.table)) (privileges_given atoms) lists,
          (
            all-check (holds_grant_option now f.grantor) (all-implied (λ grants. rights.may_grant (rights_at j).owners (rights_at j).in_force f.grantor grants.first.atom ≡ true) (λ grants. Option grants.first.atom) (members atoms)
                (λ grants m. pass _ (lacks.NoGrantOption f.grantor grants.first.atom) m) may),
            (
              in_room l j few,
              (
                all-check (room_for_grants now users) (all-implied (λ grants. count_of (rights_at j).in_force grants.first.atom + length users ≤ l.grants) (λ grants. Room grants.first.atom) (members atoms)
                    (λ grants r. pass _ (lacks.Full whats.Grants) (le-leb _ _ r)) room),
                tt,
              ),
            ),
          ),
        ),
      )

  -- what it makes
  made : (gs : List Grant) → plain_grants (rights_at j).in_force ≡ plain_grants gs
      → plain_grants (rights_after (rights_at j) (length j) (change_of (tables_at j) f.grantor (granting atoms).statement)).in_force ≡ plain_grants (gs ++ grants_of_group atoms)
  made gs e =
      let fs : List Grant = (rights_at j).in_force in
      let moment : Moment = record { 0 = length j + 1 } in
      let new : List Atom → List Grant = λ k. singles (rights_at j).made moment f.grantor k users f.option in
      let all : List Atom = map (of_table f.atom.table) (map (λ grants. grants.first.atom.kind) (members atoms)) in
      ap (λ k. plain_grants (fs ++ new k)) of_all
      ∙ map-append undated fs (new all)
      ∙ ap (λ k. k ++ plain_grants (new all)) e
      ∙ ap (λ k. plain_grants gs ++ k) (parts-made (rights_at j).made moment f.grantor f.atom.table users f.option (members atoms) h.parts)
      ∙ sym (map-append undated gs (grants_of_group atoms))

-- ---- all of them
-- what holds of all grants of parts holds of the first of each
firsts : (P : Grant → Type 0) (parts : List (Group Grant)) → AllByRecursion P (flat_map members parts) → AllByRecursion (λ grants. P grants.first) parts
firsts P parts h = all-implied (λ grants. AllByRecursion P (members grants)) (λ grants. P grants.first) parts (λ grants each. each.0) (each-members P parts h)

-- one grantor made them
by_one : (by : User) (table : Name) (users : List User) (option : Bool) (parts : List (Group Grant)) → AllByRecursion (IsPartOf by table users option) parts → AllByRecursion (λ g. g.grantor ≡ by) (flat_map members parts)
by_one by table users option parts h =
    all-members (λ g. g.grantor ≡ by) parts
    (all-implied (IsPartOf by table users option) (λ grants. AllByRecursion (λ g. g.grantor ≡ by) (members grants)) parts
    (λ grants p. all-implied (IsMade by grants.first.atom option) (λ g. g.grantor ≡ by) (members grants) (λ g m. m.by_him) p.made) h)

module _ (l : Limits) (os : List Ownership) (ts : List (Name × Table)) (all : List Grant) (turn : AreInTurn all) (few : (atom : Atom) → count_of all atom ≤ l.grants)
    (owners : (j : List Entry) (gs : List Grant) → Reaches l j ts gs → OwnAlike (rights_at j).owners os) where
  -- one statement more
  one_more : (j : List Entry) (before after : List Grant) (atoms : Group (Group Grant)) → AreOfOneStatement atoms → before ++ (grants_of_group atoms ++ after) ≡ all → Reaches l j ts before
      → AllByRecursion (λ g. is_supported os all g ≡ true) (grants_of_group atoms) → AllByRecursion (λ g. AtomStands ts g.atom) (grants_of_group atoms) → length j < l.changes
      → Reaches l (j ++ granting atoms ∷ []) ts (before ++ grants_of_group atoms)
  one_more j before after atoms h e r s stand room =
      let f : Grant = atoms.first.first in
      let parts : List (Group Grant) = members atoms in
      let fs : List Grant = (rights_at j).in_force in
      let users : List User = grantees atoms.first in
      let group : List Grant = grants_of_group atoms in
      let MayThen : Atom → Type 0 = λ atom. rights.may_grant os before f.grantor atom ≡ true in
      let MayNow : Atom → Type 0 = λ atom. rights.may_grant (rights_at j).owners fs f.grantor atom ≡ true in
      let Now : Atom → Type 0 = λ atom. count_of fs atom + length users ≤ l.grants in
      let here : AllByRecursion (λ g. AtomStands (tables_at j) g.first.atom) parts =
      (let Here : List (Name × Table) → Type 0 = λ k. AllByRecursion (λ g. AtomStands k g.first.atom) parts in subst Here (sym r.tables) (firsts (λ g. AtomStands ts g.atom) parts stand)) in
      let may : AllByRecursion (λ g. MayNow g.first.atom) parts =
      all-implied (λ g. MayThen g.first.atom) (λ g. MayNow g.first.atom) parts
      (λ g m.
      sym (may_grant-undated (rights_at j).owners fs f.grantor g.first.atom)
      ∙ ap (λ k. rights.may_grant (rights_at j).owners k f.grantor g.first.atom) r.grants
      ∙ ap (λ b. b || list_any (λ k. k.option && gives f.grantor g.first.atom k) (plain_grants before)) (owners j before r f.grantor g.first.atom)
      ∙ may_grant-undated os before f.grantor g.first.atom
      ∙ m)
      (firsts (λ g. MayThen g.atom) parts (may-all os before f.grantor group after all e turn (by_one f.grantor f.atom.table users f.option parts h.parts) s)) in
      let fits : AllByRecursion (λ g. Now g.first.atom) parts =
      all-implied (λ g. length users ≤ count_of ([] ++ flat_map members parts) g.first.atom) (λ g. Now g.first.atom) parts
      (λ g most.
      let atom : Atom = g.first.atom in
      let count : count_of fs atom ≡ count_of before atom = sym (count_of-undated fs atom) ∙ ap (λ k. count_of k atom) r.grants ∙ count_of-undated before atom in
      let whole : count_of (before ++ (group ++ after)) atom ≡ count_of all atom = ap (λ k. count_of k atom) e in
      omega (arith, most, count, whole, few atom, count-append before (group ++ after) atom, count-append group after atom))
      (count-parts f.grantor f.atom.table users f.option [] parts h.parts) in
      reach-more l j ts before (before ++ group) f.grantor (granting atoms).statement r refl (grant-allowed l j atoms h here may room fits) (made l j atoms h before r.grants)

  -- **statement by statement, they lead to all of them**
  pub granted_in : (j : List Entry) (before : List Grant) (groups : List (Group (Group Grant))) → before ++ flat_map grants_of_group groups ≡ all → Reaches l j ts before
      → AllByRecursion AreOfOneStatement groups → AreSupported os all (flat_map grants_of_group groups) → AllByRecursion (λ g. AtomStands ts g.atom) (flat_map grants_of_group groups)
      → length j + length groups ≤ l.changes → Reaches l (j ++ map granting groups) ts all
  granted_in j before [] e r each s stand room =
      let P : List Grant → Type 0 = λ k. Reaches l (j ++ []) ts k in
      subst P (sym (append-nil before) ∙ e) (reach-journal l j (j ++ []) ts before (sym (append-nil j)) r)
  granted_in j before (atoms ∷ groups) e r each s stand room =
      let group : List Grant = grants_of_group atoms in
      let rest : List Grant = flat_map grants_of_group groups in
      let supported = all-parts (λ g. is_supported os all g ≡ true) group rest s in
      let standing = all-parts (λ g. AtomStands ts g.atom) group rest stand in
      let next = one_more j before rest atoms each.0 e r supported.0 standing.0 (omega (arith, room)) in
      let long : length (j ++ granting atoms ∷ []) ≡ length j + 1 = length-append j (granting atoms ∷ []) in
      let done = granted_in (j ++ granting atoms ∷ []) (before ++ group) groups (append_assoc before group rest ∙ e) next each.1 supported.1 standing.1 (omega (arith, room, long)) in
      reach-journal l _ _ ts all (append_assoc j (granting atoms ∷ []) (map granting groups)) done
