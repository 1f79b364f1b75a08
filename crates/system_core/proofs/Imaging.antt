-- Images of a journal, found by their numbers, and its tables, which stay.
use Rattle.std.proofs.Common.{◌≡◌, ◌≤◌, ℕ, zero, suc, ◌==◌, Bool, true, false, cond, List, [], ◌∷◌, ◌++◌, length, take, drop, map, find, reverse, Option, Some, None, option_map, is_some, fold, refl, sym, ap, ◌∙◌, subst, arith}
use Rattle.std.specs.List.{AllByRecursion}
use Rattle.std.proofs.lemmas.Bool.{eqb-true}
use Rattle.std.proofs.lemmas.List.{take-append-drop, reverse-append}
use Rattle.std.proofs.lemmas.List.Sums.{fold-append}
use Rattle.base_core.specs.Words.{same_name}
use Rattle.base_core.specs.declared.name.Name.{Name}
use Rattle.base_core.specs.declared.name.User.{User}
use Rattle.base_core.specs.declared.value.Moment.{Moment}
use Rattle.reader_core.specs.declared.statement.Statement.{Statement}
use Rattle.reader_core.specs.declared.statement.Statement.TheVariants as statements
use Rattle.tables_core.specs.Contents.{Table, empty_table, with_row, without_chosen_rows, with_updated_rows, with_change, table_of}
use Rattle.tables_core.proofs.ContentsLemmas.{table_of-with_change}
use Rattle.base_core.proofs.SameLemmas.{same_name-refl}
use Rattle.monitor_core.specs.Verdict.{is_table}
use Rattle.capture_core.specs.Image.{image}
use Rattle.capture_core.specs.declared.image.Image.{Image}
use Rattle.catalogue_core.specs.Kept.{bears, newest, number_and_point}
use Rattle.catalogue_core.proofs.RingLemmas.{find-map, map-reverse}
use Rattle.system_core.specs.declared.machine.event.Entry.{Entry}
use Rattle.system_core.specs.Journal.{tables_at, tables_after, tables_with, rights_at}
use Rattle.system_core.specs.Exports.{journal_at}
use Rattle.system_core.specs.Standing.{image_at, IsImageOf}
use Rattle.system_core.proofs.Rising.{each-weaker, each-end}

-- ---- one more entry
take-front : {X : Type 0} (n : ℕ) (xs ys : List X) → n ≤ length xs → take n (xs ++ ys) ≡ take n xs
take-front zero xs ys h = refl
take-front (suc n) [] ys h = absurd (omega (arith, h))
take-front (suc n) (x ∷ xs) ys h = ap (λ k. x ∷ k) (take-front n xs ys (omega (arith, h)))

pub journal_at-more : (journal : List Entry) (e : Entry) (point : Moment) → point.0 ≤ length journal → journal_at (journal ++ e ∷ []) point ≡ journal_at journal point
journal_at-more journal e point h = take-front point.0 journal (e ∷ []) h

pub image_at-more : (journal : List Entry) (e : Entry) (number : ℕ) (point : Moment) → point.0 ≤ length journal → image_at (journal ++ e ∷ []) number point ≡ image_at journal number point
image_at-more journal e number point h = ap (λ j. image number point (tables_at j) (rights_at j)) (journal_at-more journal e point h)

-- ---- by the number
each-reverse : {X : Type 0} (P : X → Type 0) (xs : List X) → AllByRecursion P xs → AllByRecursion P (reverse xs)
each-reverse P [] h = tt
each-reverse P (x ∷ xs) h = subst (AllByRecursion P) (sym (reverse-append (x ∷ []) xs)) (each-end P (reverse xs) x (each-reverse P xs h.1) h.0)

-- the point of the kept checkpoint of a number is that of the newest image of the number
pub point-newest : (images : List Image) (number : ℕ) → option_map (λ c. c.1) (find (λ c. c.0 == number) (reverse (map number_and_point images))) ≡ option_map (λ i. i.point) (newest images number)
point-newest images number =
    ap (λ (cs : List (ℕ × Moment)). option_map (λ c. c.1) (find (λ c. c.0 == number) cs)) (sym (map-reverse number_and_point images))
    ∙ ap (option_map (λ (c : ℕ × Moment). c.1)) (sym (find-map number_and_point (λ c. c.0 == number) (reverse images)))
    ∙ twice (find (bears number) (reverse images))
  where
    twice : (o : Option Image) → option_map (λ (c : ℕ × Moment). c.1) (option_map number_and_point o) ≡ option_map (λ (i : Image). i.point) o
    twice None = refl
    twice (Some i) = refl

abbrev IfSome_of : {X : Type 0} → (X → Type 0) → Option X → Type 0
IfSome_of P None = Unit {0}
IfSome_of P (Some x) = P x

found-of : {X : Type 0} (P : X → Type 0) (p : X → Bool) (xs : List X) (x : X) → AllByRecursion P xs → find p xs ≡ Some x → P x
found-of P p [] x h e = cc
found-of P p (y ∷ ys) x h e =
    (elim (p y) as (λ b. cond b (Some y) (find p ys) ≡ Some x → P x) [
      | true ↦ (λ k. subst (IfSome_of P) k h.0)
      | false ↦ (λ k. found-of P p ys x h.1 k)
    ]) e

-- what is found is of the journal
pub newest-of : (journal : List Entry) (images : List Image) (number : ℕ) (i : Image) → AllByRecursion (IsImageOf journal) images → newest images number ≡ Some i → IsImageOf journal i
newest-of journal images number i h e = found-of (IsImageOf journal) (bears number) (reverse images) i (each-reverse (IsImageOf journal) images h) e

found-passes : {X : Type 0} (p : X → Bool) (xs : List X) (x : X) → find p xs ≡ Some x → p x ≡ true
found-passes p [] x e = cc
found-passes p (y ∷ ys) x e =
    (elim (p y) as (λ b. p y ≡ b → cond b (Some y) (find p ys) ≡ Some x → p x ≡ true) [
      | true ↦ (λ here k. subst (IfSome_of (λ z. p z ≡ true)) k here)
      | false ↦ (λ there k. found-passes p ys x k)
    ]) refl e

-- and bears the number
pub newest-number : (images : List Image) (number : ℕ) (i : Image) → newest images number ≡ Some i → i.number ≡ number
newest-number images number i e = eqb-true i.number number (found-passes (bears number) (reverse images) i e)

-- ---- tables stay
in_longer : (tables more : List (Name × Table)) (name : Name) → is_table tables name ≡ true → is_table (tables ++ more) name ≡ true
in_longer [] more name h = cc
in_longer (t ∷ ts) more name h =
    (elim (same_name name t.0) as (λ b. is_some (cond b (Some t.1) (table_of ts name)) ≡ true → is_some (cond b (Some t.1) (table_of (ts ++ more) name)) ≡ true) [
      | true ↦ (λ k. refl)
      | false ↦ (λ k. in_longer ts more name k)
    ]) h

in_changed : (tables : List (Name × Table)) (table : Name) (change : Table → Table) (name : Name) → is_table tables name ≡ true → is_table (with_change table change tables) name ≡ true
in_changed tables table change name h = ap is_some (table_of-with_change tables table name change) ∙ by (same_name table name) (table_of tables name) h
  where
    by : (b : Bool) (o : Option Table) → is_some o ≡ true → is_some (cond b (option_map change o) o) ≡ true
    by true None k = k
    by true (Some t) k = refl
    by false o k = k

still : (tables : List (Name × Table)) (user : User) (s : Statement) (name : Name) → is_table tables name ≡ true → is_table (tables_after tables user s) name ≡ true
still tables user (statements.CreateTable table columns) name h = in_longer tables ((table, empty_table user columns) ∷ []) name h
still tables user (statements.Insert table values) name h = in_changed tables table (with_row (record { values = values })) name h
still tables user (statements.Delete table filter) name h = in_changed tables table (without_chosen_rows filter) name h
still tables user (statements.Update table sets filter) name h = in_changed tables table (with_updated_rows sets filter) name h
still tables user _ name h = h

still_after : (tables : List (Name × Table)) (es : List Entry) (name : Name) → is_table tables name ≡ true → is_table (fold tables_with tables es) name ≡ true
still_after tables [] name h = h
still_after tables (e ∷ es) name h = still_after (tables_with tables e) es name (still tables e.user e.statement name h)

pub stands_now : (journal : List Entry) (point : Moment) (name : Name) → is_table (tables_at (journal_at journal point)) name ≡ true → is_table (tables_at journal) name ≡ true
stands_now journal point name h =
    let parts : fold tables_with (tables_at (take point.0 journal)) (drop point.0 journal) ≡ tables_at journal =
    sym (fold-append tables_with [] (take point.0 journal) (drop point.0 journal)) ∙ ap tables_at (take-append-drop point.0 journal) in
    ap (λ ts. is_table ts name) (sym parts) ∙ still_after (tables_at (journal_at journal point)) (drop point.0 journal) name h

-- each table of a list is found in it
pub each-table : (tables : List (Name × Table)) → AllByRecursion (λ t. is_table tables t.0 ≡ true) tables
each-table [] = tt
each-table (t ∷ ts) = (
  ap (λ b. is_some (cond b (Some t.1) (table_of ts t.0))) (same_name-refl t.0),
  each-weaker (λ u. is_table ts u.0 ≡ true) (λ u. is_table (t ∷ ts) u.0 ≡ true) ts (λ u h. behind (same_name u.0 t.0) u.0 h) (each-table ts),
)
  where
    behind : (b : Bool) (name : Name) → is_table ts name ≡ true → is_some (cond b (Some t.1) (table_of ts name)) ≡ true
    behind true name h = refl
    behind false name h = h
