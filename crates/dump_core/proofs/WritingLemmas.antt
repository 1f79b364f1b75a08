-- Lines that are written one after another.
use Rattle.std.proofs.Common.{◌≡◌, ◌<◌, ℕ, zero, suc, false, get_or, arith, ◌+◌, List, [], ◌∷◌, ◌++◌, map, length, take, drop, Option, Some, Result, Err, refl, sym, ap, ◌∙◌, subst, append_assoc, append-nil}
use Rattle.std.specs.Prelude.{slice_get}
use Rattle.std.specs.List.{AllByRecursion, flat_map}
use Rattle.std.specs.Io.KnownBytes.{Appends, Keeps}
use Rattle.std.proofs.KnownBytes.{Appends-kept, Appends-nil, Appends-trans}
use Rattle.std.proofs.Math.Seq.{split_at}
use Rattle.std.proofs.lemmas.Grind.{flat_map-append}
use Rattle.std.proofs.lemmas.List.{map-append, take_more}
use Rattle.std.proofs.lemmas.Option.{get_or_from_slice_get, slice_get_within}
use Rattle.base_core.specs.Streams.{WritesFront}
use Rattle.base_core.specs.declared.name.Name.{Name}
use Rattle.base_core.specs.declared.name.User.{User}
use Rattle.base_core.specs.declared.value.Row.{Row}
use Rattle.reader_core.specs.Forming.{IsWellFormed}
use Rattle.tables_core.specs.Contents.{Table}
use Rattle.grants_core.proofs.OwnersLemmas.{AllByRecursion-append}
use Rattle.journal_core.specs.Text.{journal_text}
use Rattle.base_core.proofs.Fronts.{front-first, front-second}
use Rattle.journal_core.proofs.Lines.{text-append}
use Rattle.printer_core.specs.Printing.{ended_line, has_literals}
use Rattle.grants_core.specs.declared.grant.Grant.{Grant}
use Rattle.system_core.specs.declared.machine.event.Entry.{Entry}
use Rattle.dump_core.specs.declared.fault.DumpFault.{DumpFault}
use Rattle.dump_core.specs.declared.fault.DumpFault.TheVariants as faults
use Rattle.dump_core.specs.Dump.{creation, insertion, insertions, granting, grants_together, dump_of}
use Rattle.dump_core.specs.Grouped.{Group}
use Rattle.dump_core.specs.Laws.{AreWellFormed}
use Rattle.dump_core.specs.Ending.{HasLine, WritesLines, IsLongItself, IsLongAmong, IsLongIn, IsLongRow, IsNowhere, EndsLines}

pub none : (a : Option (List ℕ)) → WritesLines [] a a
none a = record { each = tt; wrote = Appends-nil a }

module _ (xs ys : List Entry) (a b c : Option (List ℕ)) where
  pub then : WritesLines xs a b → WritesLines ys b c → WritesLines (xs ++ ys) a c
  then v w = record {
    each = AllByRecursion-append HasLine xs ys v.each w.each;
    wrote = subst (λ t. Appends a c t) (sym (text-append xs ys)) (Appends-trans a b c (journal_text xs) (journal_text ys) v.wrote w.wrote);
  }

  -- a front of what comes behind
  pub front-behind : (zs : List Entry) → WritesLines xs a b → WritesFront b c (journal_text ys) → WritesFront a c (journal_text (xs ++ (ys ++ zs)))
  front-behind zs v w =
      let text = text-append xs (ys ++ zs) ∙ ap (λ t. journal_text xs ++ t) (text-append ys zs) in
      subst (λ t. WritesFront a c t) (sym text) (front-second a b c (journal_text xs) (journal_text ys ++ journal_text zs) v.wrote (front-first b c (journal_text ys) (journal_text zs) w))

-- the line of one entry
module _ (e : Entry) (line : List ℕ) (a b : Option (List ℕ)) (is : line ≡ ended_line e.user e.statement) where
  text-single : line ≡ journal_text (e ∷ [])
  text-single = is ∙ sym (append-nil (ended_line e.user e.statement))

  pub single : HasLine e → Appends a b line → WritesLines (e ∷ []) a b
  single has wrote = record { each = (has, tt); wrote = subst (λ t. Appends a b t) text-single wrote }

  pub single-front : WritesFront a b line → WritesFront a b (journal_text (e ∷ []))
  single-front w = subst (λ t. WritesFront a b t) text-single w

-- nothing was written behind the lines
pub front : (xs zs : List Entry) (a b : Option (List ℕ)) → WritesLines xs a b → WritesFront a b (journal_text (xs ++ zs))
front xs zs a b v = record { part = journal_text xs; unwritten = journal_text zs; front = text-append xs zs; wrote = v.wrote }

-- what ends the writing of some entries ends that of all
pub ends-behind : (S T : Type 0) (IsLong IsLong' : Name → ℕ → List Entry → Type 0) (xs ys zs : List Entry) (a b c : Option (List ℕ)) (f : DumpFault)
    → ((name : Name) (number : ℕ) (before : List Entry) → IsLong name number before → IsLong' name number (xs ++ before))
    → WritesLines xs a b → EndsLines {T = S} IsLong ys (Err f) b c → EndsLines {T = T} IsLong' (xs ++ (ys ++ zs)) (Err f) a c
ends-behind S T IsLong IsLong' xs ys zs a b c (faults.LongRow table row) long v e = (xs ++ e.0, long table row e.0 e.1, then xs e.0 a b c v e.2)
ends-behind S T IsLong IsLong' xs ys zs a b c faults.Write long v e = front-behind xs ys a b c zs v e
ends-behind S T IsLong IsLong' xs ys zs a b c faults.NoMemory long v e = front-behind xs ys a b c zs v e

-- ---- items one after another
-- a list, cut around one of its items
pub around : {A : Type 0} (xs : List A) (i : ℕ) (x : A) → slice_get xs i ≡ Some x → xs ≡ take i xs ++ x ∷ drop (suc i) xs
around xs i x e = split_at xs i x (slice_get_within xs i x e) ∙ ap (λ y. take i xs ++ y ∷ drop (suc i) xs) (get_or_from_slice_get xs i x x e)

pub one_more : {A : Type 0} (xs : List A) (i : ℕ) (x : A) → slice_get xs i ≡ Some x → take (i + 1) xs ≡ take i xs ++ x ∷ []
one_more xs i x e = take_more xs i x (slice_get_within xs i x e) ∙ ap (λ y. take i xs ++ y ∷ []) (get_or_from_slice_get xs i x x e)

-- what is made of an item stands where the item does
pub made_at : {A B : Type 0} (f : A → B) (xs : List A) (i : ℕ) (x : A) → i < length xs → x ≡ get_or xs i x → slice_get (map f xs) i ≡ Some (f x)
made_at f [] i x within e = absurd (let h : ⊥ = omega arith in h)
made_at f (y ∷ ys) zero x within e = ap (λ z. Some (f z)) (sym e)
made_at f (y ∷ ys) (suc i) x within e = made_at f ys i x (let h : i < length ys = omega arith in h) e

-- what holds of all entries holds of those in their midst
module _ {A : Type 0} (P : A → Type 0) where
  pub All-behind : (xs ys : List A) → AllByRecursion P (xs ++ ys) → AllByRecursion P ys
  All-behind [] ys h = h
  All-behind (x ∷ xs) ys h = All-behind xs ys h.1

  pub All-before : (xs ys : List A) → AllByRecursion P (xs ++ ys) → AllByRecursion P xs
  All-before [] ys h = tt
  All-before (x ∷ xs) ys h = (h.0, All-before xs ys h.1)

-- ---- an item of some, each with an entry or more
module _ {A : Type 0} (f : A → Entry) (xs : List A) (i : ℕ) (x : A) (e : slice_get xs i ≡ Some x) where
  map-around : map f xs ≡ map f (take i xs) ++ f x ∷ map f (drop (suc i) xs)
  map-around = ap (map f) (around xs i x e) ∙ map-append f (take i xs) (x ∷ drop (suc i) xs)

  map-more : map f (take (i + 1) xs) ≡ map f (take i xs) ++ f x ∷ []
  map-more = ap (map f) (one_more xs i x e) ∙ map-append f (take i xs) (x ∷ [])

  pub map-formed : AreWellFormed (map f xs) → IsWellFormed (f x).statement
  map-formed h =
      let P : Entry → Type 0 = λ k. IsWellFormed k.statement in
      let Q : List Entry → Type 0 = AllByRecursion P in
      (All-behind P (map f (take i xs)) (f x ∷ map f (drop (suc i) xs)) (subst Q map-around h)).0

  module _ (a b c : Option (List ℕ)) (v : WritesLines (map f (take i xs)) a b) where
    pub map-next : WritesLines (f x ∷ []) b c → WritesLines (map f (take (i + 1) xs)) a c
    map-next w = subst (λ es. WritesLines es a c) (sym map-more) (then (map f (take i xs)) (f x ∷ []) a b c v w)

    pub map-stop : (S T : Type 0) (r : Result T DumpFault) (fault : DumpFault) → r ≡ Err fault → EndsLines {T = S} IsNowhere (f x ∷ []) (Err fault) b c → EndsLines {T = T} IsNowhere (map f xs) r a c
    map-stop S T r fault is w =
        let whole = ends-behind S T IsNowhere IsNowhere (map f (take i xs)) (f x ∷ []) (map f (drop (suc i) xs)) a b c fault (λ name number before h. h) v w in
        subst (λ k. EndsLines {T = T} IsNowhere (map f xs) k a c) (sym is) (subst (λ es. EndsLines {T = T} IsNowhere es (Err fault) a c) (sym map-around) whole)

module _ {A : Type 0} (f : A → List Entry) (xs : List A) (i : ℕ) (x : A) (e : slice_get xs i ≡ Some x) where
  flat_map-around : flat_map f xs ≡ flat_map f (take i xs) ++ (f x ++ flat_map f (drop (suc i) xs))
  flat_map-around = ap (flat_map f) (around xs i x e) ∙ flat_map-append f (take i xs) (x ∷ drop (suc i) xs)

  flat_map-more : flat_map f (take (i + 1) xs) ≡ flat_map f (take i xs) ++ f x
  flat_map-more = ap (flat_map f) (one_more xs i x e) ∙ flat_map-append f (take i xs) (x ∷ []) ∙ ap (λ t. flat_map f (take i xs) ++ t) (append-nil (f x))

  pub flat_map-formed : AreWellFormed (flat_map f xs) → AreWellFormed (f x)
  flat_map-formed h =
      let P : Entry → Type 0 = λ k. IsWellFormed k.statement in
      let Q : List Entry → Type 0 = AllByRecursion P in
      All-before P (f x) (flat_map f (drop (suc i) xs)) (All-behind P (flat_map f (take i xs)) (f x ++ flat_map f (drop (suc i) xs)) (subst Q flat_map-around h))

  module _ (a b c : Option (List ℕ)) (v : WritesLines (flat_map f (take i xs)) a b) where
    pub flat_map-next : WritesLines (f x) b c → WritesLines (flat_map f (take (i + 1) xs)) a c
    flat_map-next w = subst (λ es. WritesLines es a c) (sym flat_map-more) (then (flat_map f (take i xs)) (f x) a b c v w)

    pub flat_map-stop : (T : Type 0) (IsLong IsLong' : Name → ℕ → List Entry → Type 0) (r : Result T DumpFault) (fault : DumpFault) → r ≡ Err fault
        → ((name : Name) (number : ℕ) (before : List Entry) → IsLong name number before → IsLong' name number (flat_map f (take i xs) ++ before))
        → EndsLines {T = T} IsLong (f x) (Err fault) b c → EndsLines {T = T} IsLong' (flat_map f xs) r a c
    flat_map-stop T IsLong IsLong' r fault is long w =
        let whole = ends-behind T T IsLong IsLong' (flat_map f (take i xs)) (f x) (flat_map f (drop (suc i) xs)) a b c fault long v w in
        subst (λ k. EndsLines {T = T} IsLong' (flat_map f xs) k a c) (sym is) (subst (λ es. EndsLines {T = T} IsLong' es (Err fault) a c) (sym flat_map-around) whole)

-- ---- the endings
-- a row without a line among those of a table is one of the tables
pub in_table : (tables : List (Name × Table)) (i : ℕ) (t : Name × Table) → slice_get tables i ≡ Some t
    → (name : Name) (number : ℕ) (before : List Entry) → IsLongAmong t.0 t.1.owner t.1.rows name number before
    → IsLongIn tables name number (flat_map insertions (take i tables) ++ before)
in_table tables i t e name number before h = record {
  tables_before = take i tables;
  table = t.1;
  tables_behind = drop (suc i) tables;
  tables_are = around tables i t e ∙ ap (λ n. take i tables ++ (n, t.1) ∷ drop (suc i) tables) (sym h.name_is);
  inserted = before;
  among = subst (λ n. IsLongAmong n t.1.owner t.1.rows name number before) (sym h.name_is) h;
  before_are = refl;
}

-- a row that has no line itself is one among those of its table
pub among_rows : (table : Name) (owner : User) (done : List (ℕ × Row)) (row : ℕ × Row) (rest rows : List (ℕ × Row)) (count : ℕ)
    → rows ≡ done ++ row ∷ rest → count ≡ length done + 1
    → (name : Name) (number : ℕ) (before : List Entry) → IsLongItself table count (insertion table owner row) name number before
    → IsLongAmong table owner rows name number (map (insertion table owner) done ++ before)
among_rows table owner done row rest rows count all counted name number before h = record {
  name_is = h.name_is;
  rows_before = done;
  row = row;
  rows_behind = rest;
  rows_are = all;
  number_is = h.number_is ∙ counted;
  long = h.long;
  before_are = ap (λ b. map (insertion table owner) done ++ b) h.before_are ∙ append-nil (map (insertion table owner) done);
}

-- a row, and those before and behind it in its table
module _ (table : Name) (owner : User) (done rest rows : List (ℕ × Row)) (row : ℕ × Row) (all : rows ≡ done ++ row ∷ rest) where
  abbrev inserting : ℕ × Row → Entry
  inserting = insertion table owner

  rows-around : map inserting rows ≡ map inserting done ++ inserting row ∷ map inserting rest
  rows-around = ap (map inserting) all ∙ map-append inserting done (row ∷ rest)

  pub row-formed : AreWellFormed (map inserting rows) → IsWellFormed (inserting row).statement
  row-formed h =
      let P : Entry → Type 0 = λ k. IsWellFormed k.statement in
      let Q : List Entry → Type 0 = AllByRecursion P in
      (All-behind P (map inserting done) (inserting row ∷ map inserting rest) (subst Q rows-around h)).0

  module _ (a b c : Option (List ℕ)) (v : WritesLines (map inserting done) a b) where
    pub row-next : WritesLines (inserting row ∷ []) b c → WritesLines (map inserting (done ++ row ∷ [])) a c
    row-next w = subst (λ es. WritesLines es a c) (sym (map-append inserting done (row ∷ []))) (then (map inserting done) (inserting row ∷ []) a b c v w)

    pub row-stop : (count : ℕ) → count ≡ length done + 1 → (r : Result (Unit {0}) DumpFault) (fault : DumpFault) → r ≡ Err fault
        → EndsLines {T = Unit {0}} (IsLongItself table count (inserting row)) (inserting row ∷ []) (Err fault) b c
        → EndsLines (IsLongAmong table owner rows) (map inserting rows) r a c
    row-stop count counted r fault is w =
        let Among = IsLongAmong table owner rows in
        let whole = ends-behind (Unit {0}) (Unit {0}) (IsLongItself table count (inserting row)) Among (map inserting done) (inserting row ∷ []) (map inserting rest) a b c fault (among_rows table owner done row rest rows count all counted) v w in
        subst (λ k. EndsLines {T = Unit {0}} Among (map inserting rows) k a c) (sym is) (subst (λ es. EndsLines {T = Unit {0}} Among es (Err fault) a c) (sym rows-around) whole)

-- the writing ended at some entries in the midst of all, none of which is a row
pub nowhere-stop : (S : Type 0) (done ys more all : List Entry) (a b c : Option (List ℕ)) (r : Result (Unit {0}) DumpFault) (fault : DumpFault)
    → all ≡ done ++ (ys ++ more) → r ≡ Err fault → WritesLines done a b → EndsLines {T = S} IsNowhere ys (Err fault) b c → EndsLines IsNowhere all r a c
nowhere-stop S done ys more all a b c r fault same is v w =
    let whole = ends-behind S (Unit {0}) IsNowhere IsNowhere done ys more a b c fault (λ name number before h. h) v w in
    subst (λ k. EndsLines {T = Unit {0}} IsNowhere all k a c) (sym is) (subst (λ es. EndsLines {T = Unit {0}} IsNowhere es (Err fault) a c) (sym same) whole)

-- a GRANT of the dump says no number and no text
pub granting-plain : (groups : List (Group (Group Grant))) (e : Entry) (more : List Entry) → map granting groups ≡ e ∷ more → has_literals e.statement ≡ false
granting-plain [] e more is = cc
granting-plain (group ∷ groups) e more is = let same : e ≡ granting group = cc in ap (λ k. has_literals k.statement) same

-- ---- the three parts of a dump
module _ (tables : List (Name × Table)) (given : List Grant) (a b c d : Option (List ℕ)) where
  abbrev Ends : Result (Unit {0}) DumpFault → Option (List ℕ) → Option (List ℕ) → Type 0
  Ends = EndsLines (IsLongRow tables) (dump_of tables given)

  abbrev creations : List Entry
  creations = map creation tables

  abbrev rows : List Entry
  rows = flat_map insertions tables

  abbrev grants : List Entry
  grants = map granting (grants_together given)

  pub in_creations : (f : DumpFault) → EndsLines {T = Unit {0}} IsNowhere creations (Err f) a b → Ends (Err f) a b
  in_creations f e = ends-behind (Unit {0}) (Unit {0}) IsNowhere (IsLongRow tables) [] creations (rows ++ grants) a a b f (λ name number before h. absurd h) (none a) e

  pub in_rows : (f : DumpFault) → WritesLines creations a b → EndsLines {T = Unit {0}} (IsLongIn tables) rows (Err f) b c → Ends (Err f) a c
  in_rows f v e = ends-behind (Unit {0}) (Unit {0}) (IsLongIn tables) (IsLongRow tables) creations rows grants a b c f (λ name number before h. record { inserted = before; row = h; before_are = refl }) v e

  pub in_grants : (f : DumpFault) → WritesLines creations a b → WritesLines rows b c → EndsLines {T = Unit {0}} IsNowhere grants (Err f) c d → Ends (Err f) a d
  in_grants f v w e =
      let all : (creations ++ rows) ++ (grants ++ []) ≡ creations ++ (rows ++ grants) = ap (λ t. (creations ++ rows) ++ t) (append-nil grants) ∙ append_assoc creations rows grants in
      let whole = ends-behind (Unit {0}) (Unit {0}) IsNowhere (IsLongRow tables) (creations ++ rows) grants [] a c d f (λ name number before h. absurd h) (then creations rows a b c v w) e in
      subst (λ es. EndsLines {T = Unit {0}} (IsLongRow tables) es (Err f) a d) all whole

  pub all_parts : WritesLines creations a b → WritesLines rows b c → WritesLines grants c d → WritesLines (dump_of tables given) a d
  all_parts v w u = then creations (rows ++ grants) a b d v (then rows grants b c d w u)

-- what is handed on stays written
pub kept : (es : List Entry) (a b c : Option (List ℕ)) → WritesLines es a b → Keeps b c → WritesLines es a c
kept es a b c v k = record { each = v.each; wrote = Appends-kept a b c (journal_text es) v.wrote k }

-- all was written, and then the writer failed
pub whole-front : (es : List Entry) (a b : Option (List ℕ)) → WritesLines es a b → WritesFront a b (journal_text es)
whole-front es a b v = record { part = journal_text es; unwritten = []; front = sym (append-nil (journal_text es)); wrote = v.wrote }
