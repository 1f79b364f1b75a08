-- Whether a column may be listed with those of its word, kind by kind.
use Rattle.std.proofs.Common.{◌≡◌, ℕ, ◌+◌, Bool, true, false, not, ◌&&◌, ◌||◌, ltb, List, [], ◌∷◌, length, Some, None, refl, ap, ◌∙◌, arith}
use Rattle.std.specs.List.{filter_map, cons_option, list_any}
use Rattle.std.proofs.lemmas.Bool.{and_right}
use Rattle.base_core.specs.Words.{same_name}
use Rattle.base_core.specs.declared.name.Name.{Name}
use Rattle.base_core.specs.declared.privilege.Kind.{Kind}
use Rattle.monitor_core.specs.declared.atoms.ByColumn.{ByColumn}
use Rattle.dump_core.specs.Kinds.{own_column}
use Rattle.dump_core.proofs.Lengthened.{unit-right}

-- with so many before, the columns are fewer than 32, and the one is none of them
abbrev pub fits_names : Name → ℕ → List Name → Bool
fits_names column count names = ltb (count + length names) 32 && not (list_any (λ n. same_name n column) names)

-- the same of the columns of kinds
abbrev pub fits : ByColumn → Name → ℕ → List Kind → Bool
fits by column count ks = fits_names column count (filter_map (own_column by) ks)

pub fits-other_word : (by : ByColumn) (column : Name) (count : ℕ) (k : Kind) (ks : List Kind) → own_column by k ≡ None → fits by column count (k ∷ ks) ≡ fits by column count ks
fits-other_word by column count k ks h = ap (λ o. fits_names column count (cons_option o (filter_map (own_column by) ks))) h

pub fits-same : (by : ByColumn) (column : Name) (count : ℕ) (k : Kind) (c : Name) (ks : List Kind) → own_column by k ≡ Some c → same_name c column ≡ true → fits by column count (k ∷ ks) ≡ false
fits-same by column count k c ks h same =
    let more : List Name = filter_map (own_column by) ks in
    ap (λ o. fits_names column count (cons_option o more)) h
    ∙ ap (λ b. ltb (count + length (c ∷ more)) 32 && not (b || list_any (λ n. same_name n column) more)) same
    ∙ and_right _ _ refl

pub fits-other : (by : ByColumn) (column : Name) (count : ℕ) (k : Kind) (c : Name) (ks : List Kind) → own_column by k ≡ Some c → same_name c column ≡ false → fits by column count (k ∷ ks) ≡ fits by column (count + 1) ks
fits-other by column count k c ks h other =
    let more : List Name = filter_map (own_column by) ks in
    let long : count + length (c ∷ more) ≡ (count + 1) + length more = omega arith in
    ap (λ o. fits_names column count (cons_option o more)) h
    ∙ ap (λ b. ltb (count + length (c ∷ more)) 32 && not (b || list_any (λ n. same_name n column) more)) other
    ∙ ap (λ (n : ℕ). ltb n 32 && not (list_any (λ n. same_name n column) more)) long

pub fits-none : (by : ByColumn) (column : Name) (count : ℕ) → fits by column count [] ≡ ltb count 32
fits-none by column count =
    let same : count + 0 ≡ count = omega arith in
    unit-right (ltb (count + 0) 32) ∙ ap (λ (n : ℕ). ltb n 32) same

pub fits-all : (by : ByColumn) (column : Name) (ks : List Kind) → fits by column 0 ks ≡ (ltb (length (filter_map (own_column by) ks)) 32 && not (list_any (λ n. same_name n column) (filter_map (own_column by) ks)))
fits-all by column ks =
    let names : List Name = filter_map (own_column by) ks in
    let same : 0 + length names ≡ length names = omega arith in
    ap (λ (n : ℕ). ltb n 32 && not (list_any (λ n. same_name n column) names)) same
