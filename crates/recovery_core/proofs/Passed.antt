-- Pieces that were read one behind another.
use Rattle.std.proofs.Common.{◌≡◌, ℕ, zero, suc, ◌+◌, ◌-◌, ◌≤◌, ◌<◌, None, Some, Option, IfSome, List, [], ◌∷◌, ◌++◌, length, drop, refl, subst, sym, ◌∙◌, ap, arith, Contains, append_assoc, append-nil, length-append, length-drop}
use Rattle.std.specs.Prelude.{true, false, eqb, slice_index_or}
use Rattle.std.proofs.Common.{eq-eqb}
use Rattle.std.proofs.lemmas.List.{map-append}
use Rattle.std.specs.Str.Lines.{strip_carriage_return}
use Rattle.base_core.specs.declared.limits.Limits.{Limits}
use Rattle.system_core.specs.World.{World}
use Rattle.system_core.specs.declared.machine.event.Entry.{Entry}
use Rattle.load_core.specs.Loading.{Loads, unmarked}
use Rattle.load_core.specs.Loader.{lines_at}
use Rattle.load_core.proofs.Room.{Loads-count}
use Rattle.folder_core.specs.FileNames.{piece}
use Rattle.folder_core.specs.Restoring.{Joins, no_piece, no_line, next_piece}
use Rattle.folder_core.specs.Calls.{TextState, AreNamed}
use Rattle.recovery_core.specs.declared.recovering.Read.{Read}
use Rattle.recovery_core.specs.Reading.{as_read, LoadsLines, IsSound, ReadsPiece, GoesOnBy, IsFurther, IsReadUpTo, IsReadWhole}
use Rattle.recovery_core.proofs.PieceLoaded.{read_length}
use Rattle.recovery_core.proofs.Newest.{unlisted}

-- ---- lists
none_dropped : {X : Type 0} (n : ℕ) → drop {A = X} n [] ≡ []
none_dropped zero = refl
none_dropped (suc n) = refl

drop_both : {X : Type 0} (n : ℕ) (xs ys : List X) → drop n (xs ++ ys) ≡ drop n xs ++ drop (n - length xs) ys
drop_both n [] ys =
    let all : n ≡ n - 0 = omega arith in
    ap (λ k. drop k ys) all ∙ ap (λ zs. zs ++ drop (n - 0) ys) (sym (none_dropped n))
drop_both zero (x ∷ xs) ys =
    let none : 0 ≡ 0 - length (x ∷ xs) = omega arith in
    ap (λ k. x ∷ xs ++ drop k ys) none
drop_both (suc n) (x ∷ xs) ys =
    let one_less : n - length xs ≡ suc n - length (x ∷ xs) = omega arith in
    drop_both n xs ys ∙ ap (λ k. drop n xs ++ drop k ys) one_less

no_lines : {X : Type 0} (xs : List X) → length xs ≡ 0 → xs ≡ []
no_lines [] e = refl
no_lines (x ∷ xs) e = absurd (omega arith)

-- ---- lines that load one journal behind another
both_load : (limits : Limits) (a b c : List Entry) (xs ys : List (List ℕ)) → Loads limits a xs b → Loads limits b ys c → Loads limits a (xs ++ ys) c
both_load limits a b c [] ys first second = subst (λ j. Loads limits j ys c) first second
both_load limits a b c (x ∷ xs) ys (e, says, more) second = (e, says, both_load limits (a ++ e ∷ []) b c xs ys more second)

-- behind at least one entry the first line keeps its mark
marked : (journal : List Entry) (n : ℕ) (ys : List (List ℕ)) → length journal ≡ suc n → lines_at journal ys ≡ ys
marked [] n ys e = absurd (omega arith)
marked (x ∷ xs) n ys e = refl

lines_load : (limits : Limits) (a b c : List Entry) (xs ys : List (List ℕ)) → Loads limits a (lines_at a xs) b → Loads limits b (lines_at b ys) c → Loads limits a (lines_at a (xs ++ ys)) c
lines_load limits [] b c [] ys first second = subst (λ j. Loads limits j (lines_at j ys) c) first second
lines_load limits [] b c (x ∷ xs) ys first second =
    let count = Loads-count limits [] (unmarked x ∷ xs) b first in
    both_load limits [] b c (unmarked x ∷ xs) ys first (subst (λ zs. Loads limits b zs c) (marked b (length xs) ys (omega arith)) second)
lines_load limits (e ∷ es) b c xs ys first second =
    let count = Loads-count limits (e ∷ es) xs b first in
    both_load limits (e ∷ es) b c xs ys first (subst (λ zs. Loads limits b zs c) (marked b (length es + length xs) ys (omega arith)) second)

pub loads_behind : (limits : Limits) (a b c : List Entry) (xs ys : List (List ℕ)) → LoadsLines limits a xs b → LoadsLines limits b ys c → LoadsLines limits a (xs ++ ys) c
loads_behind limits a b c xs ys first second =
    subst (λ zs. Loads limits a (lines_at a zs) c) (sym (map-append strip_carriage_return xs ys)) (lines_load limits a b c (as_read xs) (as_read ys) first second)

loads_count : (limits : Limits) (a b : List Entry) (xs : List (List ℕ)) → LoadsLines limits a xs b → length b ≡ length a + length xs
loads_count limits [] b [] loads = Loads-count limits [] [] b loads
loads_count limits [] b (x ∷ xs) loads = (let c = Loads-count limits [] (unmarked (strip_carriage_return x) ∷ as_read xs) b loads in let l = read_length xs in omega arith)
loads_count limits (e ∷ es) b xs loads = (let c = Loads-count limits (e ∷ es) (as_read xs) b loads in let l = read_length xs in omega arith)

-- ---- one piece more
pub further_still : (a b c : Read) → IsFurther a b → IsFurther b c → IsFurther a c
further_still a b c f h =
    let then : World → World = λ (w : World). record w { journal = c.recovered.system.journal } in
    record {
      world_is = h.world_is ∙ ap then f.world_is;
      point_is = h.point_is ∙ f.point_is;
      resumes_is = h.resumes_is ∙ f.resumes_is;
    }

module _ (start : List Entry) (old new : Read) (s : TextState) (sound : IsSound old) (up : IsReadUpTo start old s) (reads : ReadsPiece old new s) (goes : GoesOnBy old new) where
  entered_lines : length new.recovered.system.journal ≡ length old.recovered.system.journal + (length reads.file.lines - old.skips)
  entered_lines = loads_count old.recovered.system.limits old.recovered.system.journal new.recovered.system.journal (drop old.skips reads.file.lines) reads.loads ∙ ap (λ n. length old.recovered.system.journal + n) (length-drop old.skips reads.file.lines)

  pub piece_end : new.recovered.at ≡ old.recovered.at + length reads.file.lines
  piece_end =
      let n = entered_lines in
      let a = up.at_is in
      let b = up.before in
      let c = up.skips_is in
      let d = up.entered_is in
      let e = length-drop (old.recovered.point - old.recovered.resumes) up.passed in
      let f = reads.skips_is in
      let h = goes.entered_is in
      let i = goes.at_is in
      let j = goes.further.point_is in
      omega arith

  joined : (lines behind : List (List ℕ)) → lines ≡ reads.file.lines → Joins s.disk (old.recovered.at + length lines) behind → Joins s.disk old.recovered.resumes ((up.passed ++ lines) ++ behind)
  joined [] behind is joins =
      subst (λ zs. Joins s.disk old.recovered.resumes (zs ++ behind)) (sym (append-nil up.passed)) (up.joins behind (subst (λ n. Joins s.disk n behind) (omega arith) joins))
  joined (l ∷ ls) behind is joins =
      let some = ap length is in
      subst (Joins s.disk old.recovered.resumes) (sym (append_assoc up.passed (l ∷ ls) behind))
      (up.joins ((l ∷ ls) ++ behind)
      (subst (λ zs. Joins s.disk old.recovered.at (zs ++ behind)) (sym is)
      (next_piece old.recovered.at reads.file behind reads.has (omega arith) (subst (λ zs. Joins s.disk (old.recovered.at + length zs) behind) is joins))))

  pub read_on : IsReadUpTo start new s
  read_on =
      let k : ℕ = old.recovered.point - old.recovered.resumes in
      let lines : List (List ℕ) = reads.file.lines in
      let passed : List (List ℕ) = up.passed ++ lines in
      let n = entered_lines in
      let both = length-append up.passed lines in
      let e = length-drop k up.passed in
      let all = length-drop k passed in
      let a = up.at_is in
      let b = up.before in
      let c = up.skips_is in
      let d = up.entered_is in
      let f = reads.skips_is in
      let h = goes.entered_is in
      let j = goes.further.point_is in
      let r = goes.further.resumes_is in
      let end = piece_end in
      let parts : drop k passed ≡ drop k up.passed ++ drop old.skips lines = drop_both k up.passed lines ∙ ap (λ m. drop k up.passed ++ drop m lines) (sym up.skips_is) in
      let here : drop (new.recovered.point - new.recovered.resumes) passed ≡ drop k passed = ap (λ m. drop m passed) (omega arith) in
      let limits : new.recovered.system.limits ≡ old.recovered.system.limits = ap (λ w. w.limits) goes.further.world_is in
      record {
        passed = passed;
        joins = λ behind joins. subst (λ m. Joins s.disk m (passed ++ behind)) (sym r) (joined lines behind refl (subst (λ m. Joins s.disk m behind) end joins));
        at_is = (omega arith);
        before = (omega arith);
        skips_is = (omega arith);
        entered_is = (let same = ap length here in omega arith);
        loads = subst (λ zs. LoadsLines new.recovered.system.limits start zs new.recovered.system.journal) (sym (here ∙ parts))
            (subst (λ l. LoadsLines l start (drop k up.passed ++ drop old.skips lines) new.recovered.system.journal) (sym limits)
            (loads_behind old.recovered.system.limits start old.recovered.system.journal new.recovered.system.journal (drop k up.passed) (drop old.skips lines) up.loads reads.loads));
      }

  -- a piece without lines is the last
  pub read_empty : new.recovered.at ≡ old.recovered.at → IsReadWhole start new s
  read_empty same =
      let on = read_on in
      let end = piece_end in
      let none : reads.file.lines ≡ [] = no_lines reads.file.lines (omega arith) in
      record {
        up_to = on;
        joins = subst (Joins s.disk new.recovered.resumes) (append-nil on.passed)
            (on.joins [] (subst (λ m. Joins s.disk m []) (sym same) (no_line old.recovered.at reads.file reads.has none)));
      }

-- where no piece begins the reading ends
pub read_out : (start : List Entry) (read : Read) (s : TextState) (points : List ℕ) → IsReadUpTo start read s → AreNamed piece s points → (Contains points read.recovered.at → ⊥) → IsReadWhole start read s
read_out start read s points up named not = record {
  up_to = up;
  joins = subst (Joins s.disk read.recovered.resumes) (append-nil up.passed) (up.joins [] (no_piece read.recovered.at (unlisted piece s points named read.recovered.at not)));
}

-- a number that no element equals is not listed
pub not_listed : (points : List ℕ) (at : ℕ) → ((k : ℕ) (d : ℕ) → 0 ≤ k → k < length points → eqb (slice_index_or points k d) at ≡ false) → Contains points at → ⊥
not_listed points at cases (k, within, is) =
    let clash : true ≡ false = sym (eq-eqb (slice_index_or points k at) at is) ∙ cases k at (omega arith) within in
    absurd cc

-- ---- where the state is known
module _ (o : Option TextState) (first old : Read) (sofar : IfSome o (λ s. (start : List Entry) → IsReadUpTo start first s → IsReadUpTo start old s)) where
  module _ (new : Read) (sound : IsSound old) (goes : GoesOnBy old new) where
    pub known_on : IfSome o (ReadsPiece old new) → IfSome o (λ s. (start : List Entry) → IsReadUpTo start first s → IsReadUpTo start new s)
    known_on = by o sofar
      where
        by : (p : Option TextState) → IfSome p (λ s. (start : List Entry) → IsReadUpTo start first s → IsReadUpTo start old s) → IfSome p (ReadsPiece old new) → IfSome p (λ s. (start : List Entry) → IsReadUpTo start first s → IsReadUpTo start new s)
        by None up reads = tt
        by (Some s) up reads = λ start begun. read_on start old new s sound (up start begun) reads goes

    pub known_empty : (points : List ℕ) → new.recovered.at ≡ old.recovered.at → IfSome o (ReadsPiece old new) → IfSome o (λ s. AreNamed piece s points → (start : List Entry) → IsReadUpTo start first s → IsReadWhole start new s)
    known_empty points same = by o sofar
      where
        by : (p : Option TextState) → IfSome p (λ s. (start : List Entry) → IsReadUpTo start first s → IsReadUpTo start old s) → IfSome p (ReadsPiece old new) → IfSome p (λ s. AreNamed piece s points → (start : List Entry) → IsReadUpTo start first s → IsReadWhole start new s)
        by None up reads = tt
        by (Some s) up reads = λ named start begun. read_empty start old new s sound (up start begun) reads goes same

  pub known_out : (points : List ℕ) → (Contains points old.recovered.at → ⊥) → IfSome o (λ s. AreNamed piece s points → (start : List Entry) → IsReadUpTo start first s → IsReadWhole start old s)
  known_out points not = by o sofar
    where
      by : (p : Option TextState) → IfSome p (λ s. (start : List Entry) → IsReadUpTo start first s → IsReadUpTo start old s) → IfSome p (λ s. AreNamed piece s points → (start : List Entry) → IsReadUpTo start first s → IsReadWhole start old s)
      by None up = tt
      by (Some s) up = λ named start begun. read_out start old s points (up start begun) named not
