-- Taking rows leaves what comes of the tables of an image.
use Rattle.std.proofs.Common.{◌≡◌, ◌≤◌, ◌<◌, ◌+◌, ℕ, min, List, [], ◌++◌, length, take, drop, false, Result, Ok, Err, IfErr, OnOk, OnErr, refl, subst, sym, ap, ◌∙◌, arith}
use Rattle.std.specs.List.{sum_by}
use Rattle.std.specs.Result.{is_err}
use Rattle.std.proofs.lemmas.List.{drop_all, length-set, get_or-set_same}
use Rattle.base_core.specs.declared.value.Row.{Row}
use Rattle.grants_core.specs.declared.grant.Grant.{Grant}
use Rattle.tables_core.specs.Contents.{Database, rest_at, with_rows_given}
use Rattle.tables_core.proofs.CaptureLemmas.{sum-rows_given}
use Rattle.capture_core.specs.declared.image.Image.{Image}
use Rattle.capture_core.specs.declared.image.TableImage.{TableImage}
use Rattle.capture_core.specs.Filling.{Filled, heads, completed, completed_from, AreGiven, PassesRows}
use Rattle.capture_core.specs.Capturing.{ActiveCapture}
use Rattle.capture_core.proofs.FillingLemmas.{completed-taken}
use Rattle.capture_core.proofs.GivenLemmas.{given-set, given-more}

-- the image to come, by the tables that come of what was taken
abbrev pub with_tables : ActiveCapture → List Grant → List TableImage → Image
with_tables a due tables = record { number = a.number; point = a.point; tables = tables; grants = a.grants ++ due }

-- ---- one call after another
pub passes-same : (old new : Database) (before after : Filled) → AreGiven (take (length before.whole) old.rest) → new ≡ old → after ≡ before → PassesRows old new before after
passes-same old new before after given tables filled = record {
  tables = ap (λ (d : Database). d.tables) tables;
  covered = ap (λ (d : Database). length d.rest) tables;
  given = subst (λ (d : Database). AreGiven (take (length after.whole) d.rest)) (sym tables) (subst (λ (f : Filled). AreGiven (take (length f.whole) old.rest)) (sym filled) given);
  same = ap (λ (d : Database). completed_from d after) tables ∙ ap (completed_from old) filled;
}

pub passes-then : {a b c : Database} {x y z : Filled} → PassesRows a b x y → PassesRows b c y z → PassesRows a c x z
passes-then p q = record { tables = q.tables ∙ p.tables; covered = q.covered ∙ p.covered; given = q.given; same = q.same ∙ p.same }

-- ---- the next table gives rows, k at most
module _ (old new : Database) (before after : Filled) (k : ℕ)
    (next : length before.whole < length old.rest)
    (given : AreGiven (take (length before.whole) old.rest))
    (whole : after.whole ≡ before.whole)
    (rows : after.rows ≡ before.rows ++ take k (rest_at (length before.whole) old))
    (rest : new ≡ with_rows_given (length before.whole) k old) where
  pub passes-taken : PassesRows old new before after
  passes-taken =
      let made : Filled = record { whole = before.whole; rows = before.rows ++ take k (rest_at (length before.whole) old) } in
      let left : Database = with_rows_given (length before.whole) k old in
      let long : length left.rest ≡ length old.rest = length-set old.rest (length before.whole) (drop k (rest_at (length before.whole) old)) in
      let is : after ≡ made = ap (λ (w : List TableImage). record { whole = w; rows = after.rows }) whole ∙ ap (λ (r : List Row). record { whole = before.whole; rows = r }) rows in
      record {
        tables = ap (λ (d : Database). d.tables) rest;
        covered = ap (λ (d : Database). length d.rest) rest ∙ long;
        given = subst (λ (d : Database). AreGiven (take (length after.whole) d.rest)) (sym rest)
            (subst (λ (w : List TableImage). AreGiven (take (length w) left.rest)) (sym whole) (given-set old.rest (length before.whole) (drop k (rest_at (length before.whole) old)) given));
        same = ap (λ (d : Database). completed_from d after) rest
            ∙ (ap (completed_from left) is
            ∙ (ap (λ n. completed (heads n old.tables) made left.rest) long
            ∙ completed-taken (heads (length old.rest) old.tables) before old.rest k next));
      }

  module _ (taken : ℕ) (count : taken ≡ min k (length (rest_at (length before.whole) old))) where
    pub sum-taken : taken + sum_by length new.rest ≡ sum_by length old.rest
    sum-taken =
        let sums = sum-rows_given old.rest (length before.whole) k in
        let now = ap (λ (d : Database). sum_by length d.rest) rest in
        omega arith

    -- where these were fewer than k, it has given all
    pub nothing-there : taken < k → rest_at (length after.whole) new ≡ []
    nothing-there fewer =
        let all : length (rest_at (length before.whole) old) ≤ k = omega arith in
        ap (λ (w : List TableImage). rest_at (length w) new) whole
        ∙ (ap (rest_at (length before.whole)) rest
        ∙ (get_or-set_same old.rest (length before.whole) (drop k (rest_at (length before.whole) old)) [] next ∙ drop_all k (rest_at (length before.whole) old) all))

-- ---- and is closed
pub passes-closed : (d : Database) (before after : Filled) → AreGiven (take (length before.whole) d.rest) → rest_at (length before.whole) d ≡ []
    → length after.whole ≡ length before.whole + 1 → completed_from d after ≡ completed_from d before → PassesRows d d before after
passes-closed d before after given none longer same = record {
  tables = refl;
  covered = refl;
  given = subst (λ n. AreGiven (take n d.rest)) (sym longer) (given-more d.rest (length before.whole) given none);
  same = same;
}

-- ---- results
-- what an error is, it satisfies
pub if_err : {A E : Type 0} (r : Result A E) (x : E) (P : E → Type 0) → IfErr r (λ e. e ≡ x) → P x → IfErr r P
if_err (Ok a) x P is p = tt
if_err (Err e) x P is p = subst P (sym is) p

pub on_ok : {A E : Type 0} (r : Result A E) (P : Type 0) → is_err r ≡ false → OnOk r P → P
on_ok (Ok a) P ok p = p
on_ok (Err e) P ok p = cc

-- what follows from each of the two, follows
pub either_way : {T E A B P : Type 0} (r : Result T E) → OnOk r A → OnErr r B → (A → P) → (B → P) → P
either_way (Ok x) a b f g = f a
either_way (Err e) a b f g = g b
