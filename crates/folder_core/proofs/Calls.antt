-- Which calls leave the pieces of a journal as they stand.
use Rattle.std.proofs.Common.{◌≡◌, ◌≢◌, ℕ, ◌≤◌, Option, List, [], ◌∷◌, length, Contains, refl, sym, ap, ◌∙◌, subst, ⊎_elim, arith, ne_eqb}
use lib.ListN.{get_elem?}
use Rattle.std.proofs.lemmas.List.Elements.{Contains-append_left}
use native.Mathlib.Decide.{ℕ_discrete}
use mathlib.Core.Option.{some-injective}
use Rattle.folder_core.specs.FileNames.{FileName, dump, piece}
use Rattle.folder_core.specs.Disk.{File, Disk, Is, named, whole_file, put, name_removed, Changes, MaySync, SyncsSome}
use Rattle.folder_core.proofs.Births.{longer_has}
use Rattle.folder_core.proofs.Steps.{Stays, IsNoLess, no_less_itself}

head_only : (now : Option ℕ) (earlier : List (Option ℕ)) (file : Option ℕ) → Contains (now ∷ []) file → Contains (now ∷ earlier) file
head_only now earlier file has = Contains-append_left (now ∷ []) earlier file has

-- of all pieces
abbrev pub Anywhere : ℕ → Type 0
Anywhere p = Unit {0}

module _ {L : Type 0} where
  -- where the pieces name what they named, and all files are there
  elsewhere : (at : ℕ → Type 0) (before after : Disk L)
      → ((p : ℕ) → at p → after.now (piece p) ≡ before.now (piece p))
      → ((p : ℕ) → at p → after.earlier (piece p) ≡ before.earlier (piece p))
      → ((number : ℕ) (file : File L) → Is before number file → Is after number file)
      → Stays at before after
  elsewhere at before after now earlier files = record {
    now = now;
    names = λ p here file has. subst (λ (names : List (Option ℕ)). Contains names file) (λ i. now p here i ∷ earlier p here i) has;
    files = λ p number file here named is. (file, files number file is, no_less_itself file);
  }

  pub removed_dump_stays : (p : ℕ) (disk : Disk L) → Stays Anywhere disk (name_removed (dump p) disk)
  removed_dump_stays p disk = elsewhere Anywhere disk (name_removed (dump p) disk) (λ q _. refl) (λ q _. refl) (λ number f is. is)

  pub removed_piece_stays : (p : ℕ) (disk : Disk L) → Stays (λ q. q ≢ p) disk (name_removed (piece p) disk)
  removed_piece_stays p disk =
      elsewhere (λ q. q ≢ p) disk (name_removed (piece p) disk) (λ q other. rw (ne_eqb q p other)) (λ q other. rw (ne_eqb q p other)) (λ number f is. is)

  pub put_stays : (p resumes : ℕ) (lines : List L) (disk : Disk L) → Stays Anywhere disk (put (dump p) resumes lines disk)
  put_stays p resumes lines disk = elsewhere Anywhere disk (put (dump p) resumes lines disk) (λ q _. refl) (λ q _. refl) (longer_has (whole_file (dump p) resumes lines) disk)

  -- a file of which more is synced has no less
  more_synced : (file : File L) (count : ℕ) → MaySync file count → IsNoLess file (record file { synced = count })
  more_synced file count may =
      let bounds : (file.synced ≤ count) × (file.synced ≡ length file.lines → count ≡ length file.lines) =
      ⊎_elim (λ (same : count ≡ file.synced). (omega arith, λ e. same ∙ e)) (λ (m : (file.synced ≤ count) × (count ≤ length file.lines)). (m.0, λ e. let a = m.0 in let b = m.1 in omega arith)) may in
      record { lines = refl; synced = bounds.0; whole = bounds.1; resumes = refl }

  pub synced_files : (before after : Disk L) → SyncsSome before after → (number : ℕ) (file : File L) → Is before number file → (later : File L) × Is after number later × IsNoLess file later
  synced_files before after s number file is = let f = s.files number file is in (record file { synced = f.0 }, f.2, more_synced file f.0 f.1)

  -- what names named later they named before
  pub synced_names : (before after : Disk L) → SyncsSome before after → (name : FileName) (file : Option ℕ) → Contains (named after name) file → Contains (named before name) file
  synced_names before after s name file has =
      ⊎_elim
      (λ (same : after.earlier name ≡ before.earlier name). subst (λ (names : List (Option ℕ)). Contains names file) (λ i. s.now name i ∷ same i) has)
      (λ (none : after.earlier name ≡ []). head_only (before.now name) (before.earlier name) file (subst (λ (names : List (Option ℕ)). Contains names file) (λ i. s.now name i ∷ none i) has))
      (s.earlier name)

  pub synced_stays : (before after : Disk L) → SyncsSome before after → Stays Anywhere before after
  synced_stays before after s = record {
    now = λ p _. s.now (piece p);
    names = λ p _ file has. synced_names before after s (piece p) file has;
    files = λ p number file _ named is. synced_files before after s number file is;
  }

  -- where one file has become another that has no less
  pub changed_files : (number : ℕ) (old new : File L) (before after : Disk L) → Changes number old new before after → IsNoLess old new
      → (other : ℕ) (file : File L) → Is before other file → (later : File L) × Is after other later × IsNoLess file later
  changed_files number old new before after c alike other file is = elim (ℕ_discrete other number) [
    | yes same ↦
        let one : old ≡ file = some-injective old file (sym c.was ∙ (ap (λ k. get_elem? before.files k) (sym same) ∙ is)) in
        (new, subst (λ k. Is after k new) (sym same) c.is, subst (λ (f : File L). IsNoLess f new) one alike)
    | no not ↦ (file, c.files other file not is, no_less_itself file)
  ]

  pub changed_stays : (number : ℕ) (old new : File L) (before after : Disk L) → Changes number old new before after → IsNoLess old new → Stays Anywhere before after
  changed_stays number old new before after c alike = record {
    now = λ p _. c.now (piece p);
    names = λ p _ file has. subst (λ (names : List (Option ℕ)). Contains names file) (λ i. c.now (piece p) i ∷ c.earlier (piece p) i) has;
    files = λ p other file _ named is. changed_files number old new before after c alike other file is;
  }
