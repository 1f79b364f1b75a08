-- What a start finds is one thing, and it finds it again behind another crash.
use Rattle.std.proofs.Common.{◌≡◌, ℕ, ◌+◌, ◌≤◌, true, false, Option, Some, None, List, [], ◌∷◌, ◌++◌, length, drop, All, refl, sym, ap, ◌∙◌, subst, inl, inr, arith, length-append, leb, leb-true, leb-false}
use Rattle.std.proofs.lemmas.List.{length-take-le, drop_at}
use Rattle.std.proofs.lemmas.List.Elements.{All-nil, All-cons, All-contains}
use mathlib.Core.Option.{some-injective}
use Rattle.folder_core.specs.FileNames.{FileName, dump, piece}
use Rattle.folder_core.specs.Disk.{File, Disk, Is, named, CrashLeaves}
use Rattle.folder_core.specs.Restoring.{Has, HasNone, Joins, no_piece, no_line, next_piece, IsNewest, Restores, behind_dump, from_first}
use Rattle.folder_core.proofs.Chains.{MayName, IsEnd, IsBlank, Chain, ends, goes_on}
use Rattle.folder_core.proofs.Births.{AreBorn, MayBe, same_there}

module _ {L : Type 0} (disk : Disk L) where
  -- ---- what a start finds is one thing
  there_or_not : (name : FileName) (file : File L) → Has disk name file → HasNone disk name → ⊥
  there_or_not name file has none = let clash : Some has.number ≡ None = sym has.named ∙ none in absurd cc

  one_file : (name : FileName) (a b : File L) → Has disk name a → Has disk name b → a ≡ b
  one_file name a b p q =
      let same : p.number ≡ q.number = same_there p.number q.number (sym p.named ∙ q.named) in
      some-injective a b (sym p.is ∙ subst (λ k. Is disk k b) (sym same) q.is)

  pub joins_one : (n : ℕ) (a b : List L) → Joins disk n a → Joins disk n b → a ≡ b
  joins_one n _ _ (no_piece _ none) (no_piece _ none') = refl
  joins_one n _ _ (no_piece _ none) (no_line _ file has empty) = absurd (there_or_not (piece n) file has none)
  joins_one n _ _ (no_piece _ none) (next_piece _ file behind has full more) = absurd (there_or_not (piece n) file has none)
  joins_one n _ _ (no_line _ file has empty) (no_piece _ none) = absurd (there_or_not (piece n) file has none)
  joins_one n _ _ (no_line _ file has empty) (no_line _ file' has' empty') = refl
  joins_one n _ _ (no_line _ file has empty) (next_piece _ file' behind has' full more) =
      absurd (let same = ap (λ (f : File L). length f.lines) (one_file (piece n) file file' has has') in let none = ap length empty in let h : ⊥ = omega arith in h)
  joins_one n _ _ (next_piece _ file behind has full more) (no_piece _ none) = absurd (there_or_not (piece n) file has none)
  joins_one n _ _ (next_piece _ file behind has full more) (no_line _ file' has' empty) =
      absurd (let same = ap (λ (f : File L). length f.lines) (one_file (piece n) file file' has has') in let none = ap length empty in let h : ⊥ = omega arith in h)
  joins_one n _ _ (next_piece _ file behind has full more) (next_piece _ file' behind' has' full' more') =
      let same = one_file (piece n) file file' has has' in
      let more'' : Joins disk (n + length file.lines) behind' = subst (λ (f : File L). Joins disk (n + length f.lines) behind') (sym same) more' in
      let rest = joins_one (n + length file.lines) behind behind' more more'' in
      λ i. (same i).lines ++ rest i

  not_later : (a b : ℕ) (file : File L) → IsNewest disk a → Has disk (dump b) file → b ≤ a
  not_later a b file newest has =
      elim (leb b a) as (λ z. leb b a ≡ z → b ≤ a) [
        | true ↦ λ e. leb-true b a e
        | false ↦ λ e. absurd (there_or_not (dump b) file has (newest b (leb-false b a e)))
      ] refl

  -- behind as many lines that are skipped stands the same
  same_behind : (n : ℕ) (a b s t : List L) → Joins disk n (s ++ a) → Joins disk n (t ++ b) → length s ≡ length t → a ≡ b
  same_behind n a b s t p q e =
      sym (drop_at s a (length s) refl) ∙ (ap (drop (length s)) (joins_one n (s ++ a) (t ++ b) p q) ∙ drop_at t b (length s) (sym e))

  pub restores_one : (p q r r' : ℕ) (base base' behind behind' : List L) → Restores disk p r base behind → Restores disk q r' base' behind' → (p ≡ q) × (r ≡ r') × (base ≡ base') × (behind ≡ behind')
  restores_one p q _ _ _ _ _ _ (behind_dump point file skipped behind has newest joins at) (behind_dump point' file' skipped' behind' has' newest' joins' at') =
      let a = not_later point point' file' newest has' in
      let b = not_later point' point file newest' has in
      let same : point ≡ point' = omega arith in
      let one : file ≡ file' = one_file (dump point) file file' has (subst (λ k. Has disk (dump k) file') (sym same) has') in
      let resumes : file.resumes ≡ file'.resumes = ap (λ (f : File L). f.resumes) one in (
        same,
        resumes,
        ap (λ (f : File L). f.lines) one,
        same_behind file.resumes behind behind' skipped skipped' joins (subst (λ k. Joins disk k (skipped' ++ behind')) (sym resumes) joins') (omega arith),
      )
  restores_one p q _ _ _ _ _ _ (behind_dump point file skipped behind has newest joins at) (from_first behind' none newest' joins') =
      let a = not_later 0 point file newest' has in
      let same : point ≡ 0 = omega arith in
      absurd (there_or_not (dump 0) file (subst (λ k. Has disk (dump k) file) same has) none)
  restores_one p q _ _ _ _ _ _ (from_first behind none newest joins) (behind_dump point' file' skipped' behind' has' newest' joins' at') =
      let a = not_later 0 point' file' newest has' in
      let same : point' ≡ 0 = omega arith in
      absurd (there_or_not (dump 0) file' (subst (λ k. Has disk (dump k) file') same has') none)
  restores_one p q _ _ _ _ _ _ (from_first behind none newest joins) (from_first behind' none' newest' joins') = (refl, refl, refl, joins_one 0 behind behind' joins joins')

  -- ---- behind a crash all that is there is on the disk
  pub record IsSettled : Type 0 where
    pub names : (name : FileName) → disk.earlier name ≡ []
    pub files : (name : FileName) (number : ℕ) (file : File L) → disk.now name ≡ Some number → Is disk number file → file.synced ≡ length file.lines

  -- what joins is a chain
  pub joins_chain : (told : ℕ) → IsSettled → (n : ℕ) (behind : List L) → Joins disk n behind → told ≤ n + length behind → Chain disk told (IsEnd disk told) n behind
  joins_chain told settled n _ (no_piece _ none) within = ends _ [] record {
    none = refl;
    told_is = (omega arith);
    blank = subst (λ (earlier : List (Option ℕ)). All (IsBlank disk told) (disk.now (piece n) ∷ earlier)) (sym (settled.names (piece n)))
        (All-cons (IsBlank disk told) (disk.now (piece n)) [] (inl none) (All-nil (IsBlank disk told)));
  }
  joins_chain told settled n _ (no_line _ file has empty) within = ends _ [] record {
    none = refl;
    told_is = (omega arith);
    blank = subst (λ (earlier : List (Option ℕ)). All (IsBlank disk told) (disk.now (piece n) ∷ earlier)) (sym (settled.names (piece n)))
        (All-cons (IsBlank disk told) (disk.now (piece n)) [] (inr (has.number, file, has.named, has.is, empty)) (All-nil (IsBlank disk told)));
  }
  joins_chain told settled n _ (next_piece _ file behind has full more) within =
      let whole = settled.files (piece n) has.number file has.named has.is in
      let parts = length-append file.lines behind in
      goes_on _ file behind
      (record {
        number = has.number;
        here = has.named;
        names = subst (λ (earlier : List (Option ℕ)). All (MayName disk told n has.number) (disk.now (piece n) ∷ earlier)) (sym (settled.names (piece n)))
            (All-cons (MayName disk told n has.number) (disk.now (piece n)) [] (inl has.named) (All-nil (MayName disk told n has.number)));
        is = has.is;
      })
      full (inr whole) (inr whole)
      (joins_chain told settled (n + length file.lines) behind more (omega arith))

module _ {L : Type 0} where
  pub crash_settles : (before after : Disk L) → AreBorn before → CrashLeaves before after → IsSettled after
  crash_settles before after born may = record {
    names = may.settled;
    files = λ name number file here is.
        let b = All-contains (MayBe before name) (named before name) (after.now name) (born name) (may.names name) number here in
        let f = may.files number b.file b.is in
        let one : file ≡ f.0 = some-injective file f.0 (sym is ∙ f.1) in
        let c = f.2 in
        let count = length-take-le c.count b.file.lines c.within in
        let left = ap length c.lines in
        let a = ap (λ (g : File L). g.synced) one in
        let z = ap (λ (g : File L). length g.lines) one in
        let on_disk = c.on_disk in
        omega arith;
  }
