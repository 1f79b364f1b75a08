-- How many statements a dump has.
use Rattle.std.proofs.Common.{◌≡◌, ◌≤◌, ◌<◌, ◌+◌, ◌-◌, ℕ, List, [], ◌∷◌, ◌++◌, length, map, take, get_or, refl, sym, ap, ◌∙◌, arith, length-append}
use Rattle.std.specs.List.{flat_map}
use Rattle.std.proofs.lemmas.List.{length-map, take_more, take_all}
use Rattle.capture_core.specs.declared.image.Image.{Image}
use Rattle.capture_core.specs.declared.image.TableImage.{TableImage}
use Rattle.dump_core.specs.Dump.{as_table, creation, insertion, insertions, granting, grants_together, dump_of_image}
use Rattle.dump_core.proofs.Together.{together-few}

-- those that make the tables and their rows
pub statements : List TableImage → ℕ
statements [] = 0
statements (t ∷ ts) = (length t.rows + 1) + statements ts

pub no_statements : (ts : List TableImage) (most : ℕ) → statements (take 0 ts) + most ≤ most
unfolding statements
no_statements ts most = omega arith

pub statements_more : (ts : List TableImage) (i : ℕ) (t : TableImage) → i < length ts → t ≡ get_or ts i t → statements (take (i + 1) ts) ≡ statements (take i ts) + (length t.rows + 1)
unfolding statements
statements_more ts i t within is = ap statements (take_more ts i t within) ∙ (behind (take i ts) (get_or ts i t) ∙ ap (λ (x : TableImage). statements (take i ts) + (length x.rows + 1)) (sym is))
  where
    behind : (xs : List TableImage) (x : TableImage) → statements (xs ++ x ∷ []) ≡ statements xs + (length x.rows + 1)
    behind [] x = omega arith
    behind (y ∷ ys) x = (let more = behind ys x in omega arith)

pub one_more : (ts : List TableImage) (i : ℕ) (t : TableImage) (left rows most : ℕ) → i < length ts → t ≡ get_or ts i t → rows ≡ length t.rows → rows < left → statements (take i ts) + left ≤ most → statements (take (i + 1) ts) + (left - (rows + 1)) ≤ most
one_more ts i t left rows most within is size room h = (let more = statements_more ts i t within is in omega arith)

counted : (ts : List TableImage) → length (map creation (map as_table ts)) + length (flat_map insertions (map as_table ts)) ≡ statements ts
unfolding statements
counted [] = refl
counted (t ∷ ts) =
    let more = counted ts in
    let own : length (insertions (as_table t)) ≡ length t.rows = length-map (as_table t).1.rows (insertion t.name t.owner) ∙ length-map t.rows (λ row. (0, row)) in
    let both = length-append (insertions (as_table t)) (flat_map insertions (map as_table ts)) in
    omega arith

pub few_statements : (image : Image) (items : List TableImage) (n most left : ℕ) → items ≡ image.tables → length items ≤ n → statements (take n items) + left ≤ most → length image.grants ≤ left → length (dump_of_image image) ≤ most
few_statements image items n most left same all h g =
    let ts = image.tables in
    let tables = map as_table ts in
    let groups = grants_together image.grants in
    let whole = ap statements (take_all n items all ∙ same) in
    let a = length-append (map creation tables) (flat_map insertions tables ++ map granting groups) in
    let b = length-append (flat_map insertions tables) (map granting groups) in
    let c = length-map groups granting in
    let d = together-few image.grants in
    let e = counted ts in
    omega arith
