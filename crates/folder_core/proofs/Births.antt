-- Under which name each file was made.
use Rattle.std.proofs.Common.{◌≡◌, ℕ, true, false, Option, Some, None, List, [], ◌∷◌, ◌++◌, length, All, refl, sym, ap, ◌∙◌, subst, eqb-true, if◌then◌else◌, ⊎_elim}
use Rattle.std.proofs.lemmas.List.Elements.{All-nil, All-cons, All-head, All-contains, All-weaker}
use Rattle.atomic_table.proofs.Lists.{at_longer, at_last}
use native.Mathlib.Decide.{ℕ_discrete}
use lib.ListN.{get_elem?}
use mathlib.Core.Option.{some-injective}
use Rattle.folder_core.specs.FileNames.{FileName, dump, piece, is_same_file_name}
use Rattle.folder_core.specs.Disk.{File, Disk, empty_disk, Is, named, naming, new_file, whole_file, made, put, name_removed, Changes, SyncsSome, CrashLeaves}

abbrev value_or : {X : Type 0} → X → Option X → X
value_or x None = x
value_or x (Some y) = y

-- what is there is one
pub same_there : {X : Type 0} (x y : X) → Some x ≡ Some y → x ≡ y
same_there x y e = ap (value_or x) e

same_name : (other name : FileName) → is_same_file_name other name ≡ true → other ≡ name
same_name (dump q) (dump p) e = ap dump (eqb-true q p e)
same_name (piece q) (piece p) e = ap piece (eqb-true q p e)
same_name (dump q) (piece p) e = absurd cc
same_name (piece q) (dump p) e = absurd cc

module _ {L : Type 0} where
  -- the file of this number is there, and was made so
  pub record IsBorn (disk : Disk L) (name : FileName) (number : ℕ) : Type 0 where
    pub file : File L
    pub is : Is disk number file
    pub born : file.born ≡ name

  abbrev pub MayBe : Disk L → FileName → Option ℕ → Type 0
  MayBe disk name file = (number : ℕ) → file ≡ Some number → IsBorn disk name number

  -- each file that a name may name was made under it
  abbrev pub AreBorn : Disk L → Type 0
  AreBorn disk = (name : FileName) → All (MayBe disk name) (named disk name)

  none_may_be : (disk : Disk L) (name : FileName) → MayBe disk name None
  none_may_be disk name number e = absurd cc

  pub empty_born : AreBorn empty_disk
  empty_born name = All-cons (MayBe empty_disk name) None [] (none_may_be empty_disk name) (All-nil (MayBe empty_disk name))

  -- the same where all files are there still, made as they were
  pub born_still : (before after : Disk L) → ((number : ℕ) (file : File L) → Is before number file → (later : File L) × Is after number later × (later.born ≡ file.born))
      → (name : FileName) (file : Option ℕ) → MayBe before name file → MayBe after name file
  born_still before after files name file may number e =
      let b = may number e in
      let f = files number b.file b.is in
      record { file = f.0; is = f.1; born = f.2 ∙ b.born }

  -- where a name names something else, which was made so
  naming_born : (disk : Disk L) (name : FileName) (file : Option ℕ) → MayBe disk name file → AreBorn disk → AreBorn (naming name file disk)
  naming_born disk name file may born other =
      All-weaker (MayBe disk other) (MayBe (naming name file disk) other) (λ f. born_still disk (naming name file disk) (λ number g is. (g, is, refl)) other f) (named (naming name file disk) other)
      (elim (is_same_file_name other name) as (λ b. is_same_file_name other name ≡ b → All (MayBe disk other) ((if b then file else disk.now other) ∷ (if b then named disk other else disk.earlier other))) [
        | true ↦ λ same. All-cons (MayBe disk other) file (named disk other) (subst (λ (n : FileName). MayBe disk n file) (sym (same_name other name same)) may) (born other)
        | false ↦ λ _. born other
      ] refl)

  pub removed_born : (disk : Disk L) (name : FileName) → AreBorn disk → AreBorn (name_removed name disk)
  removed_born disk name = naming_born disk name None (none_may_be disk name)

  -- what is now under a name was made under it
  pub now_born : (disk : Disk L) → AreBorn disk → (name : FileName) → MayBe disk name (disk.now name)
  now_born disk born name = All-head (MayBe disk name) (disk.now name) (disk.earlier name) (born name)

  -- a file more
  abbrev pub longer : File L → Disk L → Disk L
  longer new disk = record disk { files = disk.files ++ new ∷ [] }

  pub longer_has : (new : File L) (disk : Disk L) (number : ℕ) (file : File L) → Is disk number file → Is (longer new disk) number file
  longer_has new disk number file is = at_longer disk.files (new ∷ []) number file is

  pub is_new : (new : File L) (disk : Disk L) → Is (longer new disk) (length disk.files) new
  is_new new disk = at_last disk.files new (length disk.files) refl

  added_born : (disk : Disk L) (name : FileName) (new : File L) → new.born ≡ name → AreBorn disk → AreBorn (naming name (Some (length disk.files)) (longer new disk))
  added_born disk name new made_so born =
      naming_born (longer new disk) name (Some (length disk.files))
      (λ number e. record {
        file = new;
        is = subst (λ n. Is (longer new disk) n new) (same_there (length disk.files) number e) (is_new new disk);
        born = made_so;
      })
      (λ other. All-weaker (MayBe disk other) (MayBe (longer new disk) other)
      (λ file. born_still disk (longer new disk) (λ number file is. (file, longer_has new disk number file is, refl)) other file)
      (named disk other) (born other))

  pub made_born : (disk : Disk L) (name : FileName) (resumes : ℕ) → AreBorn disk → AreBorn (made name resumes disk)
  made_born disk name resumes = added_born disk name (new_file name resumes) refl

  pub put_born : (disk : Disk L) (name : FileName) (resumes : ℕ) (lines : List L) → AreBorn disk → AreBorn (put name resumes lines disk)
  put_born disk name resumes lines = added_born disk name (whole_file name resumes lines) refl

  -- where some are synced
  pub synced_born : (before after : Disk L) → SyncsSome before after → AreBorn before → AreBorn after
  synced_born before after s born name =
      let still : (file : Option ℕ) → MayBe before name file → MayBe after name file = born_still before after (λ number file is. let f = s.files number file is in (record file { synced = f.0 }, f.2, refl)) name in
      let now : MayBe after name (after.now name) = subst (MayBe after name) (sym (s.now name)) (still (before.now name) (now_born before born name)) in
      ⊎_elim
      (λ (same : after.earlier name ≡ before.earlier name).
      subst (λ earlier. All (MayBe after name) (after.now name ∷ earlier)) (sym same)
      (subst (λ n. All (MayBe after name) (n ∷ before.earlier name)) (sym (s.now name)) (All-weaker (MayBe before name) (MayBe after name) still (named before name) (born name))))
      (λ (none : after.earlier name ≡ []).
      subst (λ earlier. All (MayBe after name) (after.now name ∷ earlier)) (sym none) (All-cons (MayBe after name) (after.now name) [] now (All-nil (MayBe after name))))
      (s.earlier name)

  -- where one file has become another that was made alike
  pub changed_file : (number : ℕ) (old new : File L) (before after : Disk L) → Changes number old new before after → new.born ≡ old.born
      → (other : ℕ) (file : File L) → Is before other file → (later : File L) × Is after other later × (later.born ≡ file.born)
  changed_file number old new before after c alike other file is =
      elim (ℕ_discrete other number) [
        | yes same ↦ (new, subst (λ n. Is after n new) (sym same) c.is, alike ∙ ap (λ (f : File L). f.born) (some-injective old file (sym c.was ∙ (ap (λ n. get_elem? before.files n) (sym same) ∙ is))))
        | no not ↦ (file, c.files other file not is, refl)
      ]

  pub changed_born : (number : ℕ) (old new : File L) (before after : Disk L) → Changes number old new before after → new.born ≡ old.born → AreBorn before → AreBorn after
  changed_born number old new before after c alike born name =
      subst (All (MayBe after name)) (λ i. sym (c.now name) i ∷ sym (c.earlier name) i)
      (All-weaker (MayBe before name) (MayBe after name) (λ file. born_still before after (changed_file number old new before after c alike) name file) (named before name) (born name))

  pub crash_born : (before after : Disk L) → CrashLeaves before after → AreBorn before → AreBorn after
  crash_born before after may born name =
      let now : MayBe before name (after.now name) = All-contains (MayBe before name) (named before name) (after.now name) (born name) (may.names name) in
      subst (λ earlier. All (MayBe after name) (after.now name ∷ earlier)) (sym (may.settled name))
      (All-cons (MayBe after name) (after.now name) []
      (born_still before after (λ number file is. let f = may.files number file is in (f.0, f.1, f.2.born)) name (after.now name) now)
      (All-nil (MayBe after name)))
