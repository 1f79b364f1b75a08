-- What calls leave of dumps, and which files they are not.
use Rattle.std.proofs.Common.{◌≡◌, ℕ, ◌+◌, ◌≤◌, ◌<◌, Option, Some, None, List, [], ◌∷◌, length, All, Contains, refl, sym, ap, ◌∙◌, subst, arith}
use Rattle.std.proofs.lemmas.List.Elements.{All-nil, All-cons, All-contains}
use native.Mathlib.Decide.{ℕ_discrete}
use mathlib.Core.Option.{some-injective}
use Rattle.folder_core.specs.FileNames.{FileName, dump, piece}
use Rattle.folder_core.specs.Disk.{File, Disk, Is, named, new_file, made, WritesLines}
use Rattle.folder_core.specs.Serving.{NamesNone}
use Rattle.folder_core.proofs.Chains.{Unnamed, IsLast, Chain, ends, goes_on}
use Rattle.folder_core.proofs.Births.{AreBorn, MayBe, longer_has}
use Rattle.folder_core.proofs.Steps.{IsNoLess, no_less_itself}

module _ {L : Type 0} where
  -- What a call leaves of the dumps from n on.
  pub record DumpsStay (n : ℕ) (before after : Disk L) : Type 0 where
    pub names : (p : ℕ) → n ≤ p → (file : Option ℕ) → Contains (named after (dump p)) file → Contains (named before (dump p)) file
    pub files : (p number : ℕ) (file : File L) → n ≤ p → Contains (named before (dump p)) (Some number) → Is before number file
        → (later : File L) × Is after number later × IsNoLess file later

  -- ---- what calls leave of dumps
  pub dumps_elsewhere : (n : ℕ) (before after : Disk L)
      → ((p : ℕ) → n ≤ p → after.now (dump p) ≡ before.now (dump p))
      → ((p : ℕ) → n ≤ p → after.earlier (dump p) ≡ before.earlier (dump p))
      → ((number : ℕ) (file : File L) → Is before number file → (later : File L) × Is after number later × IsNoLess file later)
      → DumpsStay n before after
  dumps_elsewhere n before after now earlier files = record {
    names = λ p le file has. subst (λ (names : List (Option ℕ)). Contains names file) (λ i. now p le i ∷ earlier p le i) has;
    files = λ p number file le had is. files number file is;
  }

  pub all_there : (before after : Disk L) → ((number : ℕ) (file : File L) → Is before number file → Is after number file) → (number : ℕ) (file : File L) → Is before number file → (later : File L) × Is after number later × IsNoLess file later
  all_there before after files number file is = (file, files number file is, no_less_itself file)

  -- a line to a file of which no dump's is
  pub written_dumps : (n number : ℕ) (lines : List L) (part : Option L) (before after : Disk L) → AreBorn before → (w : WritesLines number lines part before after)
      → ((p : ℕ) → n ≤ p → Contains (named before (dump p)) (Some number) → ⊥)
      → DumpsStay n before after
  written_dumps n number lines part before after born w never = record {
    names = λ p le file has. subst (λ (names : List (Option ℕ)). Contains names file) (λ i. w.wrote.now (dump p) i ∷ w.wrote.earlier (dump p) i) has;
    files = λ p other file le had is. elim (ℕ_discrete other number) [
      | yes same ↦ absurd (never p le (subst (λ k. Contains (named before (dump p)) (Some k)) same had))
      | no not ↦ (file, w.wrote.files other file not is, no_less_itself file)
    ];
  }

  -- files of different births are different
  pub births_differ : (disk : Disk L) → AreBorn disk → (name other : FileName) (number : ℕ) → Contains (named disk name) (Some number) → Contains (named disk other) (Some number) → name ≡ other
  births_differ disk born name other number has has' =
      let b = All-contains (MayBe disk name) (named disk name) (Some number) (born name) has number refl in
      let c = All-contains (MayBe disk other) (named disk other) (Some number) (born other) has' number refl in
      sym b.born ∙ (ap (λ (f : File L). f.born) (some-injective b.file c.file (sym b.is ∙ c.is)) ∙ c.born)

  -- ---- a piece is begun
  pub later_unnamed : (disk : Disk L) (told first' n : ℕ) (lines : List L) → Chain disk told (IsLast disk told first') n lines → (p : ℕ) → first' < p → Unnamed disk told (piece p)
  later_unnamed disk told first' n _ (ends _ lines e) p above = (let h = e.is_first in e.no_later p (omega arith))
  later_unnamed disk told first' n _ (goes_on _ file lines q full told_is between more) p above = later_unnamed disk told first' (n + length file.lines) lines more p above

  pub made_piece_dumps : (n point : ℕ) (disk : Disk L) → DumpsStay n disk (made (piece point) point disk)
  made_piece_dumps n point disk = dumps_elsewhere n disk (made (piece point) point disk) (λ p le. refl) (λ p le. refl) (all_there disk (made (piece point) point disk) (longer_has (new_file (piece point) point) disk))

  pub none_named : (disk : Disk L) (name : FileName) → NamesNone disk name → All (λ (file : Option ℕ). file ≡ None) (named disk name)
  none_named disk name n =
      subst (λ (earlier : List (Option ℕ)). All (λ (file : Option ℕ). file ≡ None) (disk.now name ∷ earlier)) (sym n.1)
      (All-cons (λ (file : Option ℕ). file ≡ None) (disk.now name) [] n.0 (All-nil (λ (file : Option ℕ). file ≡ None)))
