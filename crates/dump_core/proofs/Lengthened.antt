-- Kinds with one more: whether their privileges may be listed.
use Rattle.std.proofs.Common.{◌≡◌, ℕ, ◌+◌, Bool, true, false, not, ◌&&◌, ◌||◌, leb, ltb, List, [], ◌∷◌, ◌++◌, length, Some, None, add-one, append_assoc, append-nil, subst, refl, sym, ap, ◌∙◌}
use Rattle.std.specs.List.{list_any, filter_map, cons_option, flat_map}
use Rattle.std.proofs.lemmas.Bool.{and_parts, not-true}
use Rattle.std.proofs.lemmas.List.{length-append}
use Rattle.std.proofs.lemmas.List.Folds.{list_any-append, list_all-append}
use Rattle.std.proofs.lemmas.List.Concat.{flat_map-append}
use Rattle.base_core.specs.Words.{same_name}
use Rattle.base_core.specs.Distinct.{are_distinct}
use Rattle.base_core.specs.declared.name.Name.{Name}
use Rattle.base_core.specs.declared.privilege.Kind.{Kind}
use Rattle.base_core.specs.declared.privilege.Kind.TheVariants as kinds
use Rattle.reader_core.specs.declared.privilege.Privilege.{Privilege}
use Rattle.reader_core.specs.declared.privilege.Privilege.TheVariants as privileges
use Rattle.reader_core.specs.Privileges.{same_word, are_different}
use Rattle.monitor_core.specs.Atoms.{columns_listed}
use Rattle.monitor_core.specs.declared.atoms.ByColumn.{ByColumn}
use Rattle.monitor_core.specs.declared.atoms.ByColumn.TheVariants as by_column
use Rattle.dump_core.specs.Dump.{are_few_names, privilege_of, with_kind, privileges_of_kinds, may_be_listed}
use Rattle.dump_core.specs.Kinds.{own_column, meeting}
use Rattle.dump_core.proofs.Ahead.{by_columns, lists_few}

-- ---- one more at the end
module _ {A : Type 0} (t : A → A → Bool) (differ : List A → Bool) (nil : differ [] ≡ true) (cons : (x : A) (xs : List A) → differ (x ∷ xs) ≡ (not (list_any (t x) xs) && differ xs)) where
  regroup : (a b d e : Bool) → (not (a || (b || false)) && (d && not e)) ≡ ((not a && d) && not (b || e))
  regroup true b d e = refl
  regroup false true true e = refl
  regroup false true false e = refl
  regroup false false d e = refl

  -- all differ with it where all did before it, and it is none of them
  pub differ-more : (xs : List A) (y : A) → differ (xs ++ y ∷ []) ≡ (differ xs && not (list_any (λ x. t x y) xs))
  differ-more [] y = cons y [] ∙ ap (λ b. not false && b) nil ∙ ap (λ b. b && not false) (sym nil)
  differ-more (x ∷ xs) y =
      cons x (xs ++ y ∷ [])
      ∙ ap (λ b. not b && differ (xs ++ y ∷ [])) (list_any-append (t x) xs (y ∷ []))
      ∙ ap (λ b. not (list_any (t x) xs || (t x y || false)) && b) (differ-more xs y)
      ∙ regroup (list_any (t x) xs) (t x y) (differ xs) (list_any (λ z. t z y) xs)
      ∙ ap (λ b. b && not (t x y || list_any (λ z. t z y) xs)) (sym (cons x xs))

pub distinct-more : (names : List Name) (name : Name) → are_distinct (names ++ name ∷ []) ≡ (are_distinct names && not (list_any (λ n. same_name n name) names))
distinct-more names name = differ-more same_name are_distinct refl (λ x xs. refl) names name

pub different-more : (ps : List Privilege) (p : Privilege) → are_different (ps ++ p ∷ []) ≡ (are_different ps && not (list_any (λ q. same_word q p) ps))
different-more ps p = differ-more same_word are_different refl (λ x xs. refl) ps p

leb-more : (n m : ℕ) → leb (n + 1) m ≡ ltb n m
leb-more n m = ap (λ (i : ℕ). leb i m) (add-one n)

-- few names are, with one more, if there are fewer than the limit and it is none of them
pub few-more : (limit : ℕ) (names : List Name) (name : Name) → are_few_names limit names ≡ true → are_few_names limit (names ++ name ∷ []) ≡ (ltb (length names) limit && not (list_any (λ n. same_name n name) names))
few-more limit names name h =
    let parts = and_parts (leb (length names) limit) (are_distinct names) h in
    ap (λ (n : ℕ). leb n limit && are_distinct (names ++ name ∷ [])) (length-append names (name ∷ []))
    ∙ ap (λ b. b && are_distinct (names ++ name ∷ [])) (leb-more (length names) limit)
    ∙ ap (λ b. ltb (length names) limit && b) (distinct-more names name)
    ∙ ap (λ b. ltb (length names) limit && (b && not (list_any (λ n. same_name n name) names))) parts.1

-- ---- a kind after others
abbrev joined : Privilege → Kind → List Privilege
joined (privileges.Select (Some cs)) (kinds.Select c) = privileges.Select (Some (cs ++ c ∷ [])) ∷ []
joined (privileges.Update (Some cs)) (kinds.Update c) = privileges.Update (Some (cs ++ c ∷ [])) ∷ []
joined p k = p ∷ privilege_of k ∷ []

abbrev with_last : List Privilege → Kind → List Privilege
with_last [] k = privilege_of k ∷ []
with_last (p ∷ []) k = joined p k
with_last (p ∷ q ∷ ps) k = p ∷ with_last (q ∷ ps) k

nothing-behind : (k : Kind) → with_kind k [] ≡ privilege_of k ∷ []
nothing-behind (kinds.Select c) = refl
nothing-behind kinds.Insert = refl
nothing-behind kinds.Delete = refl
nothing-behind (kinds.Update c) = refl

first-last : (j k : Kind) → with_kind j (privilege_of k ∷ []) ≡ joined (privilege_of j) k
first-last (kinds.Select c) (kinds.Select d) = refl
first-last (kinds.Update c) (kinds.Update d) = refl
first-last j k = refl

one-last : (j : Kind) (p : Privilege) (k : Kind) → with_kind j (joined p k) ≡ with_last (with_kind j (p ∷ [])) k
one-last (kinds.Select c) (privileges.Select (Some cs)) (kinds.Select d) = refl
one-last (kinds.Update c) (privileges.Update (Some cs)) (kinds.Update d) = refl
one-last (kinds.Select c) (privileges.Update (Some cs)) (kinds.Update d) = refl
one-last (kinds.Update c) (privileges.Select (Some cs)) (kinds.Select d) = refl
one-last j p k = refl

more-last : (j : Kind) (p q : Privilege) (ps : List Privilege) (k : Kind) → with_kind j (p ∷ with_last (q ∷ ps) k) ≡ with_last (with_kind j (p ∷ q ∷ ps)) k
more-last (kinds.Select c) (privileges.Select (Some cs)) q ps k = refl
more-last (kinds.Update c) (privileges.Update (Some cs)) q ps k = refl
more-last j p q ps k = refl

kind-last : (j : Kind) (ps : List Privilege) (k : Kind) → with_kind j (with_last ps k) ≡ with_last (with_kind j ps) k
kind-last j [] k = first-last j k ∙ ap (λ ps. with_last ps k) (sym (nothing-behind j))
kind-last j (p ∷ []) k = one-last j p k
kind-last j (p ∷ q ∷ ps) k = more-last j p q ps k

-- **the last kind goes behind the privileges of the others**
pub kinds-last : (ks : List Kind) (k : Kind) → privileges_of_kinds (ks ++ k ∷ []) ≡ with_last (privileges_of_kinds ks) k
kinds-last [] k = nothing-behind k
kinds-last (j ∷ ks) k = ap (with_kind j) (kinds-last ks k) ∙ kind-last j (privileges_of_kinds ks) k

behind : (qs : List Privilege) (p : Privilege) (k : Kind) → with_last (qs ++ p ∷ []) k ≡ qs ++ joined p k
behind [] p k = refl
behind (q ∷ []) p k = refl
behind (q ∷ r ∷ qs) p k = ap (λ ps. q ∷ ps) (behind (r ∷ qs) p k)

-- ---- the last privilege is of the last kind
-- the privilege has the kind's word, and lists columns where it is by column
abbrev HasWord : Kind → Privilege → Type 0
HasWord (kinds.Select c) (privileges.Select (Some cs)) = Unit {0}
HasWord (kinds.Update c) (privileges.Update (Some cs)) = Unit {0}
HasWord kinds.Insert privileges.Insert = Unit {0}
HasWord kinds.Delete privileges.Delete = Unit {0}
HasWord k p = ⊥

own-word : (k : Kind) → HasWord k (privilege_of k)
own-word (kinds.Select c) = tt
own-word kinds.Insert = tt
own-word kinds.Delete = tt
own-word (kinds.Update c) = tt

record EndsWith (l : Kind) (ps : List Privilege) : Type 0 where
  before : List Privilege
  last : Privilege
  is : ps ≡ before ++ last ∷ []
  word : HasWord l last

ends-joined : (p : Privilege) (l : Kind) → EndsWith l (joined p l)
ends-joined (privileges.Select (Some cs)) (kinds.Select c) = record { before = []; last = privileges.Select (Some (cs ++ c ∷ [])); is = refl; word = tt }
ends-joined (privileges.Update (Some cs)) (kinds.Update c) = record { before = []; last = privileges.Update (Some (cs ++ c ∷ [])); is = refl; word = tt }
ends-joined p l = record { before = p ∷ []; last = privilege_of l; is = refl; word = own-word l }

ends-last : (ps : List Privilege) (l : Kind) → EndsWith l (with_last ps l)
ends-last [] l = record { before = []; last = privilege_of l; is = refl; word = own-word l }
ends-last (p ∷ []) l = ends-joined p l
ends-last (p ∷ q ∷ ps) l =
    let rest = ends-last (q ∷ ps) l in
    record { before = p ∷ rest.before; last = rest.last; is = ap (λ k. p ∷ k) rest.is; word = rest.word }

ends : (front : List Kind) (l : Kind) → EndsWith l (privileges_of_kinds (front ++ l ∷ []))
ends front l = subst (EndsWith l) (sym (kinds-last front l)) (ends-last (privileges_of_kinds front) l)

-- ---- what was listed
pub unit-right : (b : Bool) → (b && true) ≡ b
unit-right true = refl
unit-right false = refl

-- the columns of a privilege, where it has this word
abbrev listed_by : ByColumn → Privilege → List Name
listed_by by_column.Select (privileges.Select (Some cs)) = cs
listed_by by_column.Update (privileges.Update (Some cs)) = cs
listed_by by p = []

columns-kept : (by : ByColumn) (k : Kind) (ps : List Privilege) → flat_map (listed_by by) (with_kind k ps) ≡ cons_option (own_column by k) (flat_map (listed_by by) ps)
columns-kept by_column.Select (kinds.Select c) (privileges.Select (Some cs) ∷ ps) = refl
columns-kept by_column.Select (kinds.Update c) (privileges.Update (Some cs) ∷ ps) = refl
columns-kept by_column.Update (kinds.Select c) (privileges.Select (Some cs) ∷ ps) = refl
columns-kept by_column.Update (kinds.Update c) (privileges.Update (Some cs) ∷ ps) = refl
columns-kept by_column.Select k ps = refl
columns-kept by_column.Update k ps = refl

-- the columns of the kinds of a word are those that its privileges list
columns-all : (by : ByColumn) (ks : List Kind) → filter_map (own_column by) ks ≡ flat_map (listed_by by) (privileges_of_kinds ks)
columns-all by [] = refl
columns-all by (k ∷ ks) = ap (cons_option (own_column by k)) (columns-all by ks) ∙ sym (columns-kept by k (privileges_of_kinds ks))

-- privileges of other words list none of them
listed-none : (by : ByColumn) (cs : List Name) (qs : List Privilege) → list_any (λ q. same_word q (by_columns by cs)) qs ≡ false → flat_map (listed_by by) qs ≡ []
listed-none by cs [] h = refl
listed-none by_column.Select cs (privileges.Select c ∷ qs) h = cc
listed-none by_column.Update cs (privileges.Update c ∷ qs) h = cc
listed-none by_column.Select cs (q ∷ qs) h = listed-none by_column.Select cs qs h
listed-none by_column.Update cs (q ∷ qs) h = listed-none by_column.Update cs qs h

-- the words of the kinds are those of their privileges
twice : (b r : Bool) → (b || (b || r)) ≡ (b || r)
twice true r = refl
twice false r = refl

words-kept : (p : Privilege) (k : Kind) (ps : List Privilege) → list_any (λ q. same_word q p) (with_kind k ps) ≡ (same_word (privilege_of k) p || list_any (λ q. same_word q p) ps)
words-kept p (kinds.Select c) (privileges.Select (Some cs) ∷ ps) = sym (twice (same_word (privilege_of (kinds.Select c)) p) (list_any (λ q. same_word q p) ps))
words-kept p (kinds.Update c) (privileges.Update (Some cs) ∷ ps) = sym (twice (same_word (privilege_of (kinds.Update c)) p) (list_any (λ q. same_word q p) ps))
words-kept p k ps = refl

words-all : (p : Privilege) (ks : List Kind) → list_any (λ k. same_word (privilege_of k) p) ks ≡ list_any (λ q. same_word q p) (privileges_of_kinds ks)
words-all p [] = refl
words-all p (k ∷ ks) = ap (λ b. same_word (privilege_of k) p || b) (words-all p ks) ∙ sym (words-kept p k (privileges_of_kinds ks))

-- ---- one more privilege, or one more column of the last
few-append : (ps : List Privilege) (p : Privilege) → lists_few (ps ++ p ∷ []) ≡ (lists_few ps && (are_few_names 32 (columns_listed p) && true))
few-append ps p = list_all-append (λ q. are_few_names 32 (columns_listed q)) ps (p ∷ [])

both : (a b c d : Bool) → a ≡ true → b ≡ true → ((a && c) && (b && (d && true))) ≡ (c && d)
both true true c d h k = ap (λ b. c && b) (unit-right d)
both true false c d h k = cc
both false true c d h k = cc
both false false c d h k = cc

-- a privilege of another word
add-word : (ps : List Privilege) (k : Kind) → may_be_listed ps ≡ true → may_be_listed (ps ++ privilege_of k ∷ []) ≡ not (list_any (λ q. same_word q (privilege_of k)) ps)
add-word ps k h =
    let parts = and_parts (are_different ps) (lists_few ps) h in
    let other : Bool = not (list_any (λ q. same_word q (privilege_of k)) ps) in
    ap (λ b. b && lists_few (ps ++ privilege_of k ∷ [])) (different-more ps (privilege_of k))
    ∙ ap (λ b. (are_different ps && other) && b) (few-append ps (privilege_of k))
    ∙ both (are_different ps) (lists_few ps) other (are_few_names 32 (columns_listed (privilege_of k))) parts.0 parts.1
    ∙ ap (λ b. other && b) (one-few k)
    ∙ unit-right other
  where
    one-few : (k : Kind) → are_few_names 32 (columns_listed (privilege_of k)) ≡ true
    one-few (kinds.Select c) = refl
    one-few kinds.Insert = refl
    one-few kinds.Delete = refl
    one-few (kinds.Update c) = refl

by_columns-listed : (by : ByColumn) (cs : List Name) → columns_listed (by_columns by cs) ≡ cs
by_columns-listed by_column.Select cs = refl
by_columns-listed by_column.Update cs = refl

same-words : (by : ByColumn) (cs ds : List Name) (qs : List Privilege) → list_any (λ q. same_word q (by_columns by cs)) qs ≡ list_any (λ q. same_word q (by_columns by ds)) qs
same-words by_column.Select cs ds qs = refl
same-words by_column.Update cs ds qs = refl

-- what is known where the last lists columns
record IsLast (by : ByColumn) (cs : List Name) (qs : List Privilege) : Type 0 where
  different : are_different qs ≡ true
  other : list_any (λ q. same_word q (by_columns by cs)) qs ≡ false
  few : lists_few qs ≡ true
  columns : are_few_names 32 cs ≡ true

last-known : (by : ByColumn) (cs : List Name) (qs : List Privilege) → may_be_listed (qs ++ by_columns by cs ∷ []) ≡ true → IsLast by cs qs
last-known by cs qs h =
    let parts = and_parts (are_different (qs ++ by_columns by cs ∷ [])) (lists_few (qs ++ by_columns by cs ∷ [])) h in
    let one = and_parts (are_different qs) (not (list_any (λ q. same_word q (by_columns by cs)) qs)) (sym (different-more qs (by_columns by cs)) ∙ parts.0) in
    let two = and_parts (lists_few qs) (are_few_names 32 (columns_listed (by_columns by cs)) && true) (sym (few-append qs (by_columns by cs)) ∙ parts.1) in
    record {
      different = one.0;
      other = not-true _ one.1;
      few = two.0;
      columns = ap (are_few_names 32) (sym (by_columns-listed by cs)) ∙ (and_parts _ true two.1).0;
    }

-- a column of the same word
add-column : (by : ByColumn) (cs : List Name) (c : Name) (qs : List Privilege) → may_be_listed (qs ++ by_columns by cs ∷ []) ≡ true
    → may_be_listed (qs ++ by_columns by (cs ++ c ∷ []) ∷ []) ≡ (ltb (length cs) 32 && not (list_any (λ n. same_name n c) cs))
add-column by cs c qs h =
    let known = last-known by cs qs h in
    let more : List Name = cs ++ c ∷ [] in
    let other : Bool = not (list_any (λ q. same_word q (by_columns by more)) qs) in
    let none : other ≡ true = ap not (same-words by more cs qs ∙ known.other) in
    ap (λ b. b && lists_few (qs ++ by_columns by more ∷ [])) (different-more qs (by_columns by more))
    ∙ ap (λ b. (are_different qs && other) && b) (few-append qs (by_columns by more))
    ∙ both (are_different qs) (lists_few qs) other (are_few_names 32 (columns_listed (by_columns by more))) known.different known.few
    ∙ ap (λ b. b && are_few_names 32 (columns_listed (by_columns by more))) none
    ∙ ap (are_few_names 32) (by_columns-listed by more)
    ∙ few-more 32 cs c known.columns

-- ---- one more kind
-- a column joins those of the last privilege
record IsColumn (by : ByColumn) (c : Name) (p : Privilege) (k : Kind) : Type 0 where
  columns : List Name
  lists : p ≡ by_columns by columns
  longer : joined p k ≡ by_columns by (columns ++ c ∷ []) ∷ []

meets : (l k : Kind) (by : ByColumn) (c : Name) (p : Privilege) → meeting l k ≡ Some (by, c) → HasWord l p → IsColumn by c p k
meets (kinds.Select d) (kinds.Select e) by c (privileges.Select (Some cs)) h w =
    let P : ByColumn × Name → Type 0 = λ pair. IsColumn pair.0 pair.1 (privileges.Select (Some cs)) (kinds.Select e) in
    let same : ◌≡◌ {A = ByColumn × Name} (by_column.Select, e) (by, c) = cc in
    subst P same (record { columns = cs; lists = refl; longer = refl })
meets (kinds.Update d) (kinds.Update e) by c (privileges.Update (Some cs)) h w =
    let P : ByColumn × Name → Type 0 = λ pair. IsColumn pair.0 pair.1 (privileges.Update (Some cs)) (kinds.Update e) in
    let same : ◌≡◌ {A = ByColumn × Name} (by_column.Update, e) (by, c) = cc in
    subst P same (record { columns = cs; lists = refl; longer = refl })
meets (kinds.Select d) (kinds.Select e) by c p h w = absurd w
meets (kinds.Update d) (kinds.Update e) by c p h w = absurd w
meets l k by c p h w = cc

before-insert : (p : Privilege) → joined p kinds.Insert ≡ p ∷ privileges.Insert ∷ []
before-insert (privileges.Select (Some cs)) = refl
before-insert (privileges.Update (Some cs)) = refl
before-insert p = refl

before-delete : (p : Privilege) → joined p kinds.Delete ≡ p ∷ privileges.Delete ∷ []
before-delete (privileges.Select (Some cs)) = refl
before-delete (privileges.Update (Some cs)) = refl
before-delete p = refl

parts-from : (l k : Kind) (p : Privilege) → meeting l k ≡ None → HasWord l p → joined p k ≡ p ∷ privilege_of k ∷ []
parts-from l kinds.Insert p h w = before-insert p
parts-from l kinds.Delete p h w = before-delete p
parts-from kinds.Insert (kinds.Select e) privileges.Insert h w = refl
parts-from kinds.Insert (kinds.Update e) privileges.Insert h w = refl
parts-from kinds.Delete (kinds.Select e) privileges.Delete h w = refl
parts-from kinds.Delete (kinds.Update e) privileges.Delete h w = refl
parts-from (kinds.Select d) (kinds.Update e) (privileges.Select (Some cs)) h w = refl
parts-from (kinds.Update d) (kinds.Select e) (privileges.Update (Some cs)) h w = refl
parts-from (kinds.Select d) (kinds.Select e) p h w = cc
parts-from (kinds.Update d) (kinds.Update e) p h w = cc
parts-from l k p h w = absurd w

module _ (front : List Kind) (l k : Kind) (few : may_be_listed (privileges_of_kinds (front ++ l ∷ [])) ≡ true) where
  abbrev ks : List Kind
  ks = front ++ l ∷ []

  abbrev end : EndsWith l (privileges_of_kinds ks)
  end = ends front l

  behind-all : privileges_of_kinds (ks ++ k ∷ []) ≡ end.before ++ joined end.last k
  behind-all = kinds-last ks k ∙ ap (λ ps. with_last ps k) end.is ∙ behind end.before end.last k

  -- **where both are by column, the column is to be a new one, of at most 32**
  pub also-column : (by : ByColumn) (c : Name) → meeting l k ≡ Some (by, c)
      → may_be_listed (privileges_of_kinds (ks ++ k ∷ [])) ≡ (ltb (length (filter_map (own_column by) ks)) 32 && not (list_any (λ n. same_name n c) (filter_map (own_column by) ks)))
  also-column by c h =
      let p = meets l k by c end.last h end.word in
      let cs : List Name = p.columns in
      let was : privileges_of_kinds ks ≡ end.before ++ by_columns by cs ∷ [] = end.is ∙ ap (λ q. end.before ++ q ∷ []) p.lists in
      let fine : may_be_listed (end.before ++ by_columns by cs ∷ []) ≡ true = ap may_be_listed (sym was) ∙ few in
      let known = last-known by cs end.before fine in
      let all : cs ≡ filter_map (own_column by) ks =
      sym (columns-all by ks
      ∙ ap (flat_map (listed_by by)) was
      ∙ flat_map-append (listed_by by) end.before (by_columns by cs ∷ [])
      ∙ ap (λ (k : List Name). k ++ flat_map (listed_by by) (by_columns by cs ∷ [])) (listed-none by cs end.before known.other)
      ∙ own-listed by cs) in
      ap may_be_listed (behind-all ∙ ap (λ ps. end.before ++ ps) p.longer)
      ∙ add-column by cs c end.before fine
      ∙ ap (λ (k : List Name). ltb (length k) 32 && not (list_any (λ n. same_name n c) k)) all
    where
      own-listed : (by : ByColumn) (cs : List Name) → flat_map (listed_by by) (by_columns by cs ∷ []) ≡ cs
      own-listed by_column.Select cs = append-nil cs
      own-listed by_column.Update cs = append-nil cs

  -- **and else it is to be of a new word**
  pub also-word : meeting l k ≡ None → may_be_listed (privileges_of_kinds (ks ++ k ∷ [])) ≡ not (list_any (λ j. same_word (privilege_of j) (privilege_of k)) ks)
  also-word h =
      let parted : privileges_of_kinds (ks ++ k ∷ []) ≡ privileges_of_kinds ks ++ privilege_of k ∷ [] =
      behind-all
      ∙ ap (λ ps. end.before ++ ps) (parts-from l k end.last h end.word)
      ∙ sym (append_assoc end.before (end.last ∷ []) (privilege_of k ∷ []))
      ∙ ap (λ ps. ps ++ privilege_of k ∷ []) (sym end.is) in
      ap may_be_listed parted
      ∙ add-word (privileges_of_kinds ks) k few
      ∙ ap not (sym (words-all (privilege_of k) ks))

-- what may be said of a kind behind a list, from its last
pub may-column : (all front : List Kind) (l k : Kind) (by : ByColumn) (c : Name) → all ≡ front ++ l ∷ [] → may_be_listed (privileges_of_kinds all) ≡ true → meeting l k ≡ Some (by, c)
    → (ltb (length (filter_map (own_column by) all)) 32 && not (list_any (λ n. same_name n c) (filter_map (own_column by) all))) ≡ may_be_listed (privileges_of_kinds (all ++ k ∷ []))
may-column all front l k by c e few h =
    let P : List Kind → Type 0 = λ ks. (ltb (length (filter_map (own_column by) ks)) 32 && not (list_any (λ n. same_name n c) (filter_map (own_column by) ks))) ≡ may_be_listed (privileges_of_kinds (ks ++ k ∷ [])) in
    subst P (sym e) (sym (also-column front l k (ap (λ ks. may_be_listed (privileges_of_kinds ks)) (sym e) ∙ few) by c h))

pub may-word : (all front : List Kind) (l k : Kind) → all ≡ front ++ l ∷ [] → may_be_listed (privileges_of_kinds all) ≡ true → meeting l k ≡ None
    → not (list_any (λ j. same_word (privilege_of j) (privilege_of k)) all) ≡ may_be_listed (privileges_of_kinds (all ++ k ∷ []))
may-word all front l k e few h =
    let P : List Kind → Type 0 = λ ks. not (list_any (λ j. same_word (privilege_of j) (privilege_of k)) ks) ≡ may_be_listed (privileges_of_kinds (ks ++ k ∷ [])) in
    subst P (sym e) (sym (also-word front l k (ap (λ ks. may_be_listed (privileges_of_kinds ks)) (sym e) ∙ few) h))
