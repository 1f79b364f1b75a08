-- Pieces that do not join, removed.
use Rattle.std.specs.Prelude.{eqb}
use Rattle.std.proofs.Common.{◌≡◌, ℕ, ◌+◌, ◌≤◌, ◌<◌, Bool, true, false, if◌then◌else◌, None, Some, Option, IfSome, List, [], length, take, get_or, refl, subst, sym, ap, arith, eq-eqb}
use Rattle.std.proofs.lemmas.List.Elements.{All-nil, All-more, All-weaker}
use Rattle.folder_core.specs.FileNames.{piece}
use Rattle.folder_core.specs.Disk.{name_removed}
use Rattle.folder_core.specs.Restoring.{HasNone}
use Rattle.folder_core.specs.Calls.{TextState, Moves, MayRemovePiece, stale, without_piece}
use Rattle.recovery_core.specs.Recovered.{IsStartingWith, Clears}
use Rattle.folder_core.proofs.Moving.{moves_then, moved_has, not_moved}

none_if : (b : Bool) (x : Option ℕ) → x ≡ None → (if b then None else x) ≡ None
none_if true x e = refl
none_if false x e = e

still_none : (t : TextState) (p q : ℕ) → HasNone t.disk (piece q) → HasNone (name_removed (piece p) t.disk) (piece q)
still_none t p q none = none_if (eqb q p) (t.disk.now (piece q)) none

none_now : (t : TextState) (p : ℕ) → HasNone (name_removed (piece p) t.disk) (piece p)
none_now t p = subst (λ (b : Bool). (if b then None else t.disk.now (piece p)) ≡ None) (sym (eq-eqb p p refl)) refl

module _ (at : ℕ) where
  cleared_none : (s : TextState) → IsStartingWith at s → Clears at [] s s
  cleared_none s starts = record { starts = starts.starts; journal_is = refl; same_told = refl; same_base = (refl, refl); gone = All-nil (λ (p : ℕ). at ≤ p → HasNone s.disk (piece p)); no_more = λ p none. none }

  pub nothing_cleared : (o : Option TextState) (points : List ℕ) → IfSome o (IsStartingWith at) → Moves (Clears at (take 0 points)) o o
  nothing_cleared o points starts = not_moved (Clears at []) (IsStartingWith at) cleared_none o starts

  -- one is removed
  module _ (points : List ℕ) (i p : ℕ) (within : i < length points) (is : p ≡ get_or points i p) where
    removed : (s t u : TextState) → Clears at (take i points) s t → u ≡ without_piece p t → Clears at (take (i + 1) points) s u
    removed s t u c same =
        let Gone : ℕ → Type 0 = λ (q : ℕ). at ≤ q → HasNone (without_piece p t).disk (piece q) in
        subst (Clears at (take (i + 1) points) s) (sym same) (record {
          starts = c.starts;
          journal_is = c.journal_is;
          same_told = c.same_told;
          same_base = c.same_base;
          gone = All-more Gone points i p within (All-weaker (λ (q : ℕ). at ≤ q → HasNone t.disk (piece q)) Gone (λ q gone le. still_none t p q (gone le)) (take i points) c.gone)
              (subst Gone is (λ le. none_now t p));
          no_more = λ q none. still_none t p q (c.no_more q none);
        })

    kept : (p < at) → (s t : TextState) → Clears at (take i points) s t → Clears at (take (i + 1) points) s t
    kept below s t c =
        let Gone : ℕ → Type 0 = λ (q : ℕ). at ≤ q → HasNone t.disk (piece q) in
        record {
          starts = c.starts;
          journal_is = c.journal_is;
          same_told = c.same_told;
          same_base = c.same_base;
          gone = All-more Gone points i p within c.gone (subst Gone is (λ le. absurd (omega arith)));
          no_more = c.no_more;
        }

    pub one_removed : (o q r : Option TextState) → Moves (Clears at (take i points)) o q → Moves (λ s t. t ≡ without_piece p s) q r → Moves (Clears at (take (i + 1) points)) o r
    one_removed = moves_then (Clears at (take i points)) (λ s t. t ≡ without_piece p s) (Clears at (take (i + 1) points)) removed

    pub one_kept : p < at → (o q : Option TextState) → Moves (Clears at (take i points)) o q → Moves (Clears at (take (i + 1) points)) o q
    one_kept below None q a = a
    one_kept below (Some s) q (t, same, a) = (t, same, kept below s t a)

  may : (p : ℕ) → at ≤ p → (points : List ℕ) (s t : TextState) → IsStartingWith at s → Clears at points s t → MayRemovePiece p t
  may p le points s t starts c =
      let few = starts.few in
      let same = ap length c.journal_is in
      stale c.starts (omega arith)

  pub may_remove : (p : ℕ) → at ≤ p → (points : List ℕ) (o q : Option TextState) → IfSome o (IsStartingWith at) → Moves (Clears at points) o q → IfSome q (MayRemovePiece p)
  may_remove p le points = moved_has (Clears at points) (IsStartingWith at) (MayRemovePiece p) (may p le points)
