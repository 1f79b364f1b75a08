-- What is exported of an image is what the journals at its point and now say.
use Rattle.std.proofs.Common.{◌≡◌, ℕ, ◌||◌, ◌&&◌, Bool, true, false, cond, if◌then◌else◌, List, [], ◌∷◌, ◌++◌, length, map, find, flat_map, Option, Some, None, Ok, option_map, option_to_list, codes, refl, sym, ap, ◌∙◌, subst}
use Rattle.std.specs.List.{AllByRecursion, list_any}
use Rattle.std.specs.Option.{option_map_or, unwrap_or}
use Rattle.std.specs.Prelude.{IsSomeAnd}
use Rattle.std.proofs.lemmas.Slice.Eq.{bytes_eq-Decides}
use Rattle.std.proofs.lemmas.List.Folds.{flat_map-map}
use Rattle.base_core.specs.Words.{same_name}
use Rattle.base_core.specs.Users.{same_user}
use Rattle.base_core.specs.declared.name.Name.{Name}
use Rattle.base_core.specs.declared.name.User.{User}
use Rattle.base_core.specs.declared.privilege.Atom.{Atom}
use Rattle.base_core.specs.Privileges.{to_select}
use Rattle.base_core.specs.declared.value.Column.{Column}
use Rattle.base_core.specs.declared.value.Row.{Row}
use Rattle.base_core.specs.declared.value.Moment.{Moment}
use Rattle.base_core.specs.declared.lack.Lack.TheVariants as lacks
use Rattle.base_core.specs.declared.limits.Limits.{Limits}
use Rattle.tables_core.specs.Contents.{Table, table_of}
use Rattle.grants_core.specs.declared.grant.Grant.{Grant}
use Rattle.grants_core.specs.declared.grant.Ownership.{Ownership}
use Rattle.grants_core.specs.Owners.{owner_of, owns}
use Rattle.grants_core.specs.Content.{Rights, gives}
use Rattle.monitor_core.specs.Verdict.{require, first_lack, is_table, columns_of}
use Rattle.monitor_core.proofs.Passing.{require-Ok, passed}
use Rattle.capture_core.specs.Image as images
use Rattle.capture_core.specs.Image.{table_image, has, columns_in}
use Rattle.capture_core.specs.declared.image.Image.{Image}
use Rattle.capture_core.specs.declared.image.TableImage.{TableImage}
use Rattle.capture_core.proofs.ImageLemmas.{has-table_image, owns-table_image}
use Rattle.catalogue_core.proofs.RingLemmas.{find-map}
use Rattle.export_core.specs.Record.{record_line, row_line}
use Rattle.export_core.specs.Export.{held_then, holds_now, held, listed_marks, is_any, cut, chosen, table_records, listed_lines, withheld_line, end_line, IsAllowed}
use Rattle.export_core.specs.Ticket.{issued}
use Rattle.system_core.specs.declared.machine.event.Entry.{Entry}
use Rattle.system_core.specs.Journal.{tables_at, rights_at, IsLawful}
use Rattle.system_core.specs.Exports.{journal_at, may_select, could_select, shown, table_lines, table_told, tables_told, export_of}
use Rattle.system_core.specs.Judging.{export_check}
use Rattle.system_core.specs.Standing.{AgreeOn, image_at, IsImageOf, image_check}
use Rattle.system_core.proofs.Agreeing.{owns-alike}
use Rattle.system_core.proofs.Rising.{each-weaker, each-map}
use Rattle.system_core.proofs.Owning.{OwnersStand, owner_in, owners-at}
use Rattle.system_core.proofs.Imaging.{stands_now, each-table}

each-marked : {X Y : Type 0} (f g : X → Y) (xs : List X) → ((x : X) → f x ≡ g x) → map f xs ≡ map g xs
each-marked f g [] h = refl
each-marked f g (x ∷ xs) h = ap (λ y. y ∷ map f xs) (h x) ∙ ap (λ ys. g x ∷ ys) (each-marked f g xs h)

-- one of the marks is set where the test of one passes
pub any_marked : {X : Type 0} (f : X → Bool) (xs : List X) → is_any (map f xs) ≡ list_any f xs
any_marked f [] = refl
any_marked f (x ∷ xs) = ap (λ b. f x || b) (any_marked f xs)

-- ---- rights that agree on the tables allow the same exports
holds_now-agree : (tables : List (Name × Table)) (r s : Rights) (user : User) (table column : Name) → AgreeOn tables r s → is_table tables table ≡ true → holds_now r user table column ≡ holds_now s user table column
holds_now-agree tables r s user table column h stands =
    ap (λ b. b || list_any (gives user (to_select table column)) r.in_force) (owns-alike r.owners s.owners user (to_select table column) (h.owned table stands))
    ∙ ap (λ (gs : List Grant). owns s.owners user (to_select table column) || list_any (gives user (to_select table column)) gs) h.in_force

listed-agree : (tables : List (Name × Table)) (i : Image) (r s : Rights) (user : User) (table : Name) (columns : List Column) → AgreeOn tables r s → is_table tables table ≡ true → listed_marks i r user table columns ≡ listed_marks i s user table columns
listed-agree tables i r s user table columns h stands =
    each-marked (λ (c : Column). held_then i user table c.name && holds_now r user table c.name) (λ c. held_then i user table c.name && holds_now s user table c.name) columns
    (λ c. ap (λ b. held_then i user table c.name && b) (holds_now-agree tables r s user table c.name h stands))

-- what is told of a table, where the columns listed are marked so
abbrev by_marks : Image → User → TableImage → List Bool → List (List ℕ)
by_marks i user t marks =
    if is_any marks then listed_lines marks t else withheld_line t.name (if is_any (held i user t.name t.columns) then codes "now" else codes "point") ∷ []

alike : (i : Image) (r s : Rights) (user : User) (ts : List TableImage) → AllByRecursion (λ t. listed_marks i r user t.name t.columns ≡ listed_marks i s user t.name t.columns) ts
    → flat_map (table_records i r user) ts ≡ flat_map (table_records i s user) ts
alike i r s user [] h = refl
alike i r s user (t ∷ ts) h =
    ap (λ marks. by_marks i user t marks ++ flat_map (table_records i r user) ts) h.0
    ∙ ap (λ k. table_records i s user t ++ k) (alike i r s user ts h.1)

found-each : {X : Type 0} (P : X → Type 0) (p : X → Bool) (xs : List X) → AllByRecursion P xs → AllByRecursion P (option_to_list (find p xs))
found-each P p [] h = tt
found-each P p (x ∷ xs) h = elim (p x) as (λ b. AllByRecursion P (option_to_list (cond b (Some x) (find p xs)))) [ true ↦ (h.0, tt) | false ↦ found-each P p xs h.1 ]

chosen-each : (P : TableImage → Type 0) (ts : List TableImage) (only : Option Name) → AllByRecursion P ts → AllByRecursion P (chosen ts only)
chosen-each P ts None h = h
chosen-each P ts (Some name) h = found-each P (λ t. same_name name t.name) ts h

-- **an export of a kept image is the same by rights that agree on the tables of the journal**
pub issued-agree : (journal : List Entry) (i : Image) (r s : Rights) (user : User) (only : Option Name) (at : Moment) → IsImageOf journal i → AgreeOn (tables_at journal) r s → issued i r user only at ≡ issued i s user only at
issued-agree journal i r s user only at is h =
    ap (λ lines. record { number = i.number; point = i.point; at = at; given = []; to_come = lines ++ end_line i.number ∷ [] }) (alike i r s user (chosen i.tables only) (chosen-each Alike i.tables only each))
  where
    Alike : TableImage → Type 0
    Alike t = listed_marks i r user t.name t.columns ≡ listed_marks i s user t.name t.columns

    each : AllByRecursion Alike i.tables
    each = subst (λ (k : Image). AllByRecursion Alike k.tables) (sym is.is)
        (each-map Alike table_image (tables_at (journal_at journal i.point))
        (each-weaker (λ t. is_table (tables_at (journal_at journal i.point)) t.0 ≡ true) (λ t. Alike (table_image t)) (tables_at (journal_at journal i.point))
        (λ t stands. listed-agree (tables_at journal) i r s user t.0 t.1.columns h (stands_now journal i.point t.0 stands))
        (each-table (tables_at (journal_at journal i.point)))))

-- rights that agree on the tables judge an export of an image alike
pub image_check-agree : (journal : List Entry) (i : Image) (r s : Rights) (user : User) (only : Option Name) → AgreeOn (tables_at journal) r s
    → ((table : Name) → only ≡ Some table → is_table (tables_at journal) table ≡ true) → image_check i r user only ≡ image_check i s user only
image_check-agree journal i r s user None h stands = refl
image_check-agree journal i r s user (Some table) h stands =
    ap (λ marks. first_lack (require (has i table) (lacks.NoTableThen table i.number) ∷ require (is_any (held i user table (columns_in i table))) (lacks.NoSelectThen user table) ∷ require (is_any marks) (lacks.NoSelectNow user table) ∷ []))
    (listed-agree (tables_at journal) i r s user table (columns_in i table) h (stands table refl))

-- ---- what the image's checks pass is allowed
found_passes : {X : Type 0} (p : X → Bool) (xs : List X) (t : X) → find p xs ≡ Some t → p t ≡ true
found_passes p [] t e = cc
found_passes {X = X} p (x ∷ xs) t e = by (p x) refl (found_passes p xs t) e
  where
    by : (b : Bool) → p x ≡ b → (find p xs ≡ Some t → p t ≡ true) → cond b (Some x) (find p xs) ≡ Some t → p t ≡ true
    by true is rest e = subst (λ (y : X). p y ≡ true) (ap (λ o. unwrap_or o x) e) is
    by false is rest e = rest e

pub allowed : (i : Image) (now : Rights) (user : User) (only : Option Name) → image_check i now user only ≡ Ok tt → IsAllowed i now user only
allowed i now user None h = tt
allowed i now user (Some name) h =
    let all = passed (
    require (has i name) (lacks.NoTableThen name i.number)
    ∷ require (is_any (held i user name (columns_in i name))) (lacks.NoSelectThen user name)
    ∷ require (is_any (listed_marks i now user name (columns_in i name))) (lacks.NoSelectNow user name)
    ∷ []
    ) h in
    by (find (λ t. same_name name t.name) i.tables) (require-Ok _ _ all.1.1.0) (λ t e. (bytes_eq-Decides name t.name).0 (found_passes (λ (u : TableImage). same_name name u.name) i.tables t e))
  where
    by : (o : Option TableImage) → is_any (listed_marks i now user name (option_map_or (λ (t : TableImage). t.columns) o [])) ≡ true → ((t : TableImage) → o ≡ Some t → name ≡ t.name)
        → IsSomeAnd o (λ t. is_any (listed_marks i now user t.name t.columns) ≡ true)
    by None any same = cc
    by (Some t) any same = subst (λ n. is_any (listed_marks i now user n t.columns) ≡ true) (same t refl) any

-- ---- an image of a journal tells what the journal at its point does
each-same : {X Y : Type 0} (f g : X → List Y) (xs : List X) → ((x : X) → f x ≡ g x) → flat_map f xs ≡ flat_map g xs
each-same f g [] h = refl
each-same f g (x ∷ xs) h = ap (λ l. l ++ flat_map f xs) (h x) ∙ ap (λ l. g x ++ l) (each-same f g xs h)

rows-same : (marks : List Bool) (rows : List (ℕ × Row)) → map (λ (row : Row). row_line (cut marks row.values)) (map (λ numbered. numbered.1) rows) ≡ map (λ numbered. row_line (cut marks numbered.1.values)) rows
rows-same marks [] = refl
rows-same marks (r ∷ rows) = ap (λ l. row_line (cut marks r.1.values) ∷ l) (rows-same marks rows)

lines-same : (marks : List Bool) (t : Name × Table) → listed_lines marks (table_image t) ≡ table_lines marks t
lines-same marks t = ap (λ l. record_line (codes "table" ∷ t.0 ∷ cut marks (map (λ c. c.name) t.1.columns)) ∷ l) (rows-same marks t.1.rows)

-- the columns of a table of an image are those of the table
columns-same : (tables : List (Name × Table)) (name : Name) → option_map_or (λ (t : TableImage). t.columns) (find (λ t. same_name name t.name) (map table_image tables)) [] ≡ columns_of tables name
columns-same [] name = refl
columns-same (t ∷ ts) name = by (same_name name t.0) (columns-same ts name)
  where
    by : (b : Bool) → option_map_or (λ (u : TableImage). u.columns) (find (λ u. same_name name u.name) (map table_image ts)) [] ≡ columns_of ts name
        → option_map_or (λ (u : TableImage). u.columns) (cond b (Some (table_image t)) (find (λ u. same_name name u.name) (map table_image ts))) []
        ≡ option_map_or (λ (u : Table). u.columns) (cond b (Some t.1) (table_of ts name)) []
    by true rest = refl
    by false rest = rest

chosen-same : (tables : List (Name × Table)) (only : Option Name) → chosen (map table_image tables) only ≡ map table_image (tables_told tables only)
chosen-same tables None = refl
chosen-same tables (Some name) =
    ap option_to_list (sym (find-map table_image (λ t. same_name name t.name) tables)) ∙ as_list (find (λ t. same_name name t.0) tables)
  where
    as_list : (o : Option (Name × Table)) → option_to_list (option_map table_image o) ≡ map table_image (option_to_list o)
    as_list None = refl
    as_list (Some t) = refl

-- who owns a table by the rights owns it by the tables
owned-same : (os : List Ownership) (tables : List (Name × Table)) (user : User) (atom : Atom) → owner_of os atom.table ≡ owner_in tables atom.table
    → option_map_or (λ t. same_user t.owner user) (table_of tables atom.table) false ≡ owns os user atom
unfolding owns
owned-same os tables user atom h = by (table_of tables atom.table) ∙ ap owned (sym h)
  where
    owned : Option User → Bool
    owned o = elim o as (λ _. Bool) [ Some p ↦ same_user p user | None ↦ false ]

    by : (o : Option Table) → option_map_or (λ t. same_user t.owner user) o false ≡ owned (option_map (λ t. t.owner) o)
    by None = refl
    by (Some t) = refl

module _ (journal : List Entry) (number : ℕ) (point : Moment) (owners : OwnersStand (journal_at journal point)) where
  abbrev past : List Entry
  past = journal_at journal point

  abbrev then_image : Image
  then_image = image_at journal number point

  held_then-same : (user : User) (table column : Name) → held_then then_image user table column ≡ may_select past user table column
  unfolding images.owns_in_image
  held_then-same user table column =
      ap (λ b. b || list_any (gives user (to_select table column)) (rights_at past).in_force)
      (owns-table_image (tables_at past) table user ∙ owned-same (rights_at past).owners (tables_at past) user (to_select table column) (owners table))

  held-same : (user : User) (table : Name) (columns : List Column) → held then_image user table columns ≡ could_select past user table columns
  held-same user table columns =
      each-marked (λ (c : Column). held_then then_image user table c.name) (λ c. may_select past user table c.name) columns (λ c. held_then-same user table c.name)

  listed-same : (user : User) (table : Name) (columns : List Column) → listed_marks then_image (rights_at journal) user table columns ≡ shown past journal user table columns
  listed-same user table columns =
      each-marked (λ (c : Column). held_then then_image user table c.name && may_select journal user table c.name) (λ c. may_select past user table c.name && may_select journal user table c.name) columns
      (λ c. ap (λ b. b && may_select journal user table c.name) (held_then-same user table c.name))

  told-same : (user : User) (t : Name × Table) → table_records then_image (rights_at journal) user (table_image t) ≡ table_told past journal user t
  told-same user t =
      let withheld : List Bool → List (List ℕ) = λ could. withheld_line t.0 (if is_any could then codes "now" else codes "point") ∷ [] in
      ap (λ marks. if is_any marks then listed_lines marks (table_image t) else withheld (held then_image user t.0 t.1.columns)) (listed-same user t.0 t.1.columns)
      ∙ ap (λ could. if is_any (shown past journal user t.0 t.1.columns) then listed_lines (shown past journal user t.0 t.1.columns) (table_image t) else withheld could) (held-same user t.0 t.1.columns)
      ∙ ap (λ lines. if is_any (shown past journal user t.0 t.1.columns) then lines else withheld (could_select past user t.0 t.1.columns)) (lines-same (shown past journal user t.0 t.1.columns) t)

  lines-told : (user : User) (only : Option Name) → flat_map (table_records then_image (rights_at journal) user) (chosen then_image.tables only) ≡ flat_map (table_told past journal user) (tables_told (tables_at past) only)
  lines-told user only =
      ap (flat_map (table_records then_image (rights_at journal) user)) (chosen-same (tables_at past) only)
      ∙ flat_map-map (table_records then_image (rights_at journal) user) table_image (tables_told (tables_at past) only)
      ∙ each-same (λ t. table_records then_image (rights_at journal) user (table_image t)) (table_told past journal user) (tables_told (tables_at past) only) (told-same user)

  -- **an export of it is that of the journals**
  issued-is : (user : User) (only : Option Name) → issued then_image (rights_at journal) user only (record { 0 = length journal }) ≡ export_of journal number point user only
  issued-is user only = ap (λ lines. record { number = number; point = point; at = record { 0 = length journal }; given = []; to_come = lines ++ end_line number ∷ [] }) (lines-told user only)

  -- **and is judged alike**
  check-is : (user : User) (only : Option Name) → image_check then_image (rights_at journal) user only ≡ export_check past journal number user only
  check-is user None = refl
  check-is user (Some table) =
      let columns : List Column = columns_of (tables_at past) table in
      ap (λ b. first_lack (require b (lacks.NoTableThen table number) ∷ require (is_any (held then_image user table (columns_in then_image table))) (lacks.NoSelectThen user table) ∷ require (is_any (listed_marks then_image (rights_at journal) user table (columns_in then_image table))) (lacks.NoSelectNow user table) ∷ []))
      (has-table_image (tables_at past) table)
      ∙ ap (λ cs. first_lack (require (is_table (tables_at past) table) (lacks.NoTableThen table number) ∷ require (is_any (held then_image user table cs)) (lacks.NoSelectThen user table) ∷ require (is_any (listed_marks then_image (rights_at journal) user table cs)) (lacks.NoSelectNow user table) ∷ []))
      (columns-same (tables_at past) table)
      ∙ ap (λ marks. first_lack (require (is_table (tables_at past) table) (lacks.NoTableThen table number) ∷ require (is_any marks) (lacks.NoSelectThen user table) ∷ require (is_any (listed_marks then_image (rights_at journal) user table columns)) (lacks.NoSelectNow user table) ∷ []))
      (held-same user table columns)
      ∙ ap (λ marks. first_lack (require (is_table (tables_at past) table) (lacks.NoTableThen table number) ∷ require (is_any (could_select past user table columns)) (lacks.NoSelectThen user table) ∷ require (is_any marks) (lacks.NoSelectNow user table) ∷ []))
      (listed-same user table columns)

-- ---- a kept image, by rights that agree on the tables of the journal
module _ (limits : Limits) (journal : List Entry) (lawful : IsLawful limits journal) (i : Image) (of : IsImageOf journal i) (number : ℕ) (bears : i.number ≡ number) (r : Rights) (agree : AgreeOn (tables_at journal) r (rights_at journal)) where
  owners : OwnersStand (journal_at journal i.point)
  owners = owners-at limits journal i.point lawful

  is-image : i ≡ image_at journal number i.point
  is-image = of.is ∙ ap (λ n. image_at journal n i.point) bears

  pub exported : (user : User) (only : Option Name) → issued i r user only (record { 0 = length journal }) ≡ export_of journal number i.point user only
  exported user only =
      issued-agree journal i r (rights_at journal) user only (record { 0 = length journal }) of agree
      ∙ ap (λ k. issued k (rights_at journal) user only (record { 0 = length journal })) is-image
      ∙ issued-is journal number i.point owners user only

  pub checked : (user : User) (only : Option Name) → ((table : Name) → only ≡ Some table → is_table (tables_at journal) table ≡ true) → image_check i r user only ≡ export_check (journal_at journal i.point) journal number user only
  checked user only stands =
      image_check-agree journal i r (rights_at journal) user only agree stands
      ∙ ap (λ k. image_check k (rights_at journal) user only) is-image
      ∙ check-is journal number i.point owners user only
