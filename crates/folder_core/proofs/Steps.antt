-- What each call does to the pieces of a journal as they stand in a folder.
use Rattle.std.proofs.Common.{◌≡◌, ◌≢◌, ℕ, ◌+◌, ◌≤◌, ◌<◌, ◌⊎◌, Option, Some, None, List, [], ◌∷◌, ◌++◌, length, All, Contains, refl, sym, ap, ◌∙◌, subst, inl, inr, ⊎_elim, leb, leb-true, leb-false, true, false, arith, append_assoc, length-append}
use Rattle.std.proofs.lemmas.List.Elements.{All-nil, All-cons, All-contains, All-weaker, All-contains_itself}
use mathlib.Core.Option.{some-injective}
use Rattle.folder_core.specs.FileNames.{FileName, dump, piece}
use Rattle.folder_core.specs.Disk.{File, Disk, Is, named, WritesLines}
use Rattle.folder_core.proofs.Chains.{Unnamed, MayName, IsPiece, IsLast, IsEnd, IsBlank, Chain, ends, goes_on}
use Rattle.folder_core.proofs.Births.{AreBorn, now_born, same_there}

abbrev pub number_of : FileName → ℕ
number_of (dump p) = p
number_of (piece p) = p

pub piece_number : (n m : ℕ) → piece n ≡ piece m → n ≡ m
piece_number n m e = ap number_of e

-- the first of a list is one of it
pub is_first : (now : Option ℕ) (earlier : List (Option ℕ)) (file : Option ℕ) → now ≡ file → Contains (now ∷ earlier) file
is_first now earlier file e = subst (λ (z : Option ℕ). Contains (z ∷ earlier) file) (sym e) (0, omega arith, refl)

module _ {L : Type 0} where
  -- a file has no other lines than before, and no fewer of them are on the disk
  pub record IsNoLess (before after : File L) : Type 0 where
    pub lines : after.lines ≡ before.lines
    pub synced : before.synced ≤ after.synced
    pub whole : before.synced ≡ length before.lines → after.synced ≡ length before.lines
    pub resumes : after.resumes ≡ before.resumes

  pub no_less_itself : (file : File L) → IsNoLess file file
  no_less_itself file = record { lines = refl; synced = (omega arith); whole = λ e. e; resumes = refl }

  -- What a call leaves of such pieces: each names the same now, and before only what it named; and their files
  -- have no less.
  pub record Stays (at : ℕ → Type 0) (before after : Disk L) : Type 0 where
    pub now : (p : ℕ) → at p → after.now (piece p) ≡ before.now (piece p)
    pub names : (p : ℕ) → at p → (file : Option ℕ) → Contains (named after (piece p)) file → Contains (named before (piece p)) file
    pub files : (p number : ℕ) (file : File L) → at p → Contains (named before (piece p)) (Some number) → Is before number file
        → (later : File L) × Is after number later × IsNoLess file later

  -- what is true of all that a name may name stays so
  stays_named : (at : ℕ → Type 0) (p : ℕ) (before after : Disk L) → Stays at before after → at p → (P : Option ℕ → Type 0) → All P (named before (piece p)) → All P (named after (piece p))
  stays_named at p before after s here P all =
      All-weaker (Contains (named after (piece p))) P (λ file has. All-contains P (named before (piece p)) file all (s.names p here file has)) (named after (piece p)) (All-contains_itself (named after (piece p)))

  module _ (told : ℕ) (at : ℕ → Type 0) (before after : Disk L) (s : Stays at before after) where
    -- a piece stays one
    piece_stays : (n : ℕ) (file : File L) → at n → IsPiece before told n file → (later : File L) × IsPiece after told n later × IsNoLess file later
    piece_stays n file here p =
        let f = s.files n p.number file here (is_first (before.now (piece n)) (before.earlier (piece n)) (Some p.number) p.here) p.is in
        (f.0, record { number = p.number; here = s.now n here ∙ p.here; names = stays_named at n before after s here (MayName before told n p.number) p.names; is = f.1 }, f.2)

    unnamed_stays : (p : ℕ) → at p → Unnamed before told (piece p) → Unnamed after told (piece p)
    unnamed_stays p here none = stays_named at p before after s here (λ (file : Option ℕ). file ≡ None) none

    pub last_stays : (first n : ℕ) (lines : List L) → ((p : ℕ) → n ≤ p → at p) → IsLast before told first n lines → IsLast after told first n lines
    last_stays first n lines all e =
        let f = piece_stays n e.file (all n (omega arith)) e.is_piece in
        let synced = f.2.synced in
        let was = e.told_is in
        record {
          is_first = e.is_first;
          file = f.0;
          is_piece = f.1;
          lines_are = e.lines_are ∙ sym f.2.lines;
          told_is = (omega arith);
          no_later = λ p above. unnamed_stays p (all p (omega arith)) (e.no_later p above);
        }

    pub end_stays : (n : ℕ) (lines : List L) → at n → IsEnd before told n lines → IsEnd after told n lines
    end_stays n lines here e = record {
      none = e.none;
      told_is = e.told_is;
      blank = All-weaker (Contains (named after (piece n))) (IsBlank after told)
          (λ file has. let had = s.names n here file has in
          ⊎_elim inl
          (λ (t : (number : ℕ) × (f : File L) × (file ≡ Some number) × Is before number f × (f.lines ≡ [])).
          let g = s.files n t.0 t.1 here (subst (Contains (named before (piece n))) t.2 had) t.3 in
          inr (t.0, g.0, t.2, g.1, g.2.lines ∙ t.4))
          (All-contains (IsBlank before told) (named before (piece n)) file e.blank had))
          (named after (piece n)) (All-contains_itself (named after (piece n)));
    }

    pub chain_stays : (base : ℕ) (End End' : ℕ → List L → Type 0) → ((m : ℕ) (lines : List L) → base ≤ m → End m lines → End' m lines)
        → (n : ℕ) (lines : List L) → base ≤ n → ((p : ℕ) → n ≤ p → p < n + length lines → at p) → Chain before told End n lines → Chain after told End' n lines
    chain_stays base End End' keeps n _ above all (ends _ lines e) = ends _ lines (keeps n lines above e)
    chain_stays base End End' keeps n _ above all (goes_on _ file lines p full told_is between more) =
        let whole = length-append file.lines lines in
        let f = piece_stays n file (all n (omega arith) (omega arith)) p in
        let same : length f.0.lines ≡ length file.lines = ap length f.2.lines in
        let synced = f.2.synced in
        subst (λ (front : List L). Chain after told End' n (front ++ lines)) f.2.lines
        (goes_on _ f.0 lines f.1 (omega arith)
        (⊎_elim (λ (t : told ≤ n + file.synced). inl (omega arith)) (λ (t : file.synced ≡ length file.lines). inr (f.2.whole t ∙ sym same)) told_is)
        (⊎_elim
        (λ (b : (p : ℕ) → n < p → p < n + length file.lines → Unnamed before told (piece p)). inl (λ p low high. unnamed_stays p (all p (omega arith) (omega arith)) (b p low (omega arith))))
        (λ (t : file.synced ≡ length file.lines). inr (f.2.whole t ∙ sym same)) between)
        (subst (λ m. Chain after told End' m lines) (ap (λ k. n + k) (sym same))
        (chain_stays base End End' keeps (n + length file.lines) lines (omega arith) (λ q low high. all q (omega arith) (omega arith)) more)))

  -- ---- where the last piece begins
  pub chain_first : (disk : Disk L) (told first n : ℕ) (lines : List L) → Chain disk told (IsLast disk told first) n lines → n ≤ first
  chain_first disk told first n _ (ends _ lines e) = (let h = e.is_first in omega arith)
  chain_first disk told first n _ (goes_on _ file lines p full told_is between more) = (let h = chain_first disk told first (n + length file.lines) lines more in omega arith)

  -- of a chain its last piece is one
  pub last_chain : (disk : Disk L) (told first n : ℕ) (lines : List L) → Chain disk told (IsLast disk told first) n lines
      → (skipped : List L) × (rest : List L) × (lines ≡ skipped ++ rest) × (n + length skipped ≡ first) × Chain disk told (IsLast disk told first) first rest
  last_chain disk told first n _ (ends _ lines e) =
      let is = e.is_first in
      ([], lines, refl, omega arith, subst (λ m. Chain disk told (IsLast disk told first) m lines) is (ends _ lines e))
  last_chain disk told first n _ (goes_on _ file lines p full told_is between more) =
      let t = last_chain disk told first (n + length file.lines) lines more in
      let size = length-append file.lines t.0 in
      let at = t.3 in
      (file.lines ++ t.0, t.1, ap (λ z. file.lines ++ z) t.2 ∙ sym (append_assoc file.lines t.0 t.1), omega arith, t.4)

  -- ---- more is told
  -- Of a piece the changes up to there are told: where it begins before them, its name is settled, and they are on
  -- the disk, all of it or so many.
  abbrev pub HoldsTold : Disk L → ℕ → ℕ → ℕ → Type 0
  HoldsTold disk told n number =
      (disk.earlier (piece n) ≡ []) × ((file : File L) → Is disk number file → (file.synced ≡ length file.lines) ⊎ (told ≤ n + file.synced))

  told_piece : (disk : Disk L) (told told' n : ℕ) (file : File L) → ((number : ℕ) → n < told' → disk.now (piece n) ≡ Some number → HoldsTold disk told' n number)
      → IsPiece disk told n file → IsPiece disk told' n file × ((told' ≤ n + file.synced) ⊎ (file.synced ≡ length file.lines))
  told_piece disk told told' n file on p =
      elim (leb told' n) as (λ z. leb told' n ≡ z → IsPiece disk told' n file × ((told' ≤ n + file.synced) ⊎ (file.synced ≡ length file.lines))) [
        | true ↦ λ e. let beyond : told' ≤ n = leb-true told' n e in (
          record {
            number = p.number;
            here = p.here;
            names = All-weaker (MayName disk told n p.number) (MayName disk told' n p.number)
                (λ name. ⊎_elim inl (λ (t : (name ≡ None) × (told ≤ n)). inr (t.0, beyond)))
                (named disk (piece n)) p.names;
            is = p.is;
          },
          inl (omega arith),
        )
        | false ↦ λ e. let h = on p.number (leb-false told' n e) p.here in (
          record {
            number = p.number;
            here = p.here;
            names = subst (λ (earlier : List (Option ℕ)). All (MayName disk told' n p.number) (disk.now (piece n) ∷ earlier)) (sym h.0)
                (All-cons (MayName disk told' n p.number) (disk.now (piece n)) [] (inl p.here) (All-nil (MayName disk told' n p.number)));
            is = p.is;
          },
          ⊎_elim inr inl (h.1 file p.is),
        )
      ] refl

  told_last : (disk : Disk L) (told told' first n : ℕ) (lines : List L) → told' ≤ n + length lines
      → ((p number : ℕ) → n ≤ p → p < told' → disk.now (piece p) ≡ Some number → HoldsTold disk told' p number)
      → IsLast disk told first n lines → IsLast disk told' first n lines
  told_last disk told told' first n lines within on e =
      let h = told_piece disk told told' n e.file (λ number. on n number (omega arith)) e.is_piece in
      let same = ap length e.lines_are in
      record {
        is_first = e.is_first;
        file = e.file;
        is_piece = h.0;
        lines_are = e.lines_are;
        told_is = ⊎_elim (λ (t : told' ≤ n + e.file.synced). t) (λ (t : e.file.synced ≡ length e.file.lines). omega arith) h.1;
        no_later = e.no_later;
      }

  pub told_chain : (disk : Disk L) (told told' first n : ℕ) (lines : List L) → told' ≤ n + length lines
      → ((p number : ℕ) → n ≤ p → p < told' → disk.now (piece p) ≡ Some number → HoldsTold disk told' p number)
      → Chain disk told (IsLast disk told first) n lines → Chain disk told' (IsLast disk told' first) n lines
  told_chain disk told told' first n _ within on (ends _ lines e) = ends _ lines (told_last disk told told' first n lines within on e)
  told_chain disk told told' first n _ within on (goes_on _ file lines p full told_is between more) =
      let h = told_piece disk told told' n file (λ number. on n number (omega arith)) p in
      let whole = length-append file.lines lines in
      goes_on _ file lines h.0 full h.1 between
      (told_chain disk told told' first (n + length file.lines) lines (omega arith) (λ q number above. on q number (omega arith)) more)

  -- ---- lines more
  -- the number of a file says which it is
  is_one : (disk : Disk L) (number : ℕ) (a b : File L) → Is disk number a → Is disk number b → a ≡ b
  is_one disk number a b p q = some-injective a b (sym p ∙ q)

  -- pieces of different names are different files
  pub pieces_differ : (disk : Disk L) → AreBorn disk → (n m number number' : ℕ) → disk.now (piece n) ≡ Some number → disk.now (piece m) ≡ Some number' → n ≢ m → number ≢ number'
  pieces_differ disk born n m number number' here here' differ same =
      let b = now_born disk born (piece n) number here in
      let c = now_born disk born (piece m) number' here' in
      let one = is_one disk number b.file c.file b.is (subst (λ k. Is disk k c.file) (sym same) c.is) in
      differ (piece_number n m (sym b.born ∙ (ap (λ (f : File L). f.born) one ∙ c.born)))

  entered_last : (before after : Disk L) (told first number : ℕ) (more_lines : List L) (part : Option L) → before.now (piece first) ≡ Some number → (w : WritesLines number more_lines part before after)
      → (n : ℕ) (lines : List L) → IsLast before told first n lines → IsLast after told first n (lines ++ more_lines)
  entered_last before after told first number more_lines part here w n lines e =
      let p = e.is_piece in
      let same : p.number ≡ number = same_there p.number number (sym p.here ∙ (ap (λ k. before.now (piece k)) e.is_first ∙ here)) in
      let one : e.file ≡ w.file = is_one before number e.file w.file (subst (λ k. Is before k e.file) same p.is) w.wrote.was in
      let synced = ap (λ (f : File L). f.synced) one in
      let was = e.told_is in
      record {
        is_first = e.is_first;
        file = record w.file { lines = w.file.lines ++ more_lines; part = part };
        is_piece = record {
          number = number;
          here = w.wrote.now (piece n) ∙ (ap (λ k. before.now (piece k)) e.is_first ∙ here);
          names = subst (All (MayName after told n number)) (λ i. sym (w.wrote.now (piece n)) i ∷ sym (w.wrote.earlier (piece n)) i)
              (subst (λ k. All (MayName before told n k) (named before (piece n))) same p.names);
          is = w.wrote.is;
        };
        lines_are = ap (λ z. z ++ more_lines) (e.lines_are ∙ ap (λ (f : File L). f.lines) one);
        told_is = (omega arith);
        no_later = λ q above. subst (All (λ (file : Option ℕ). file ≡ None)) (λ i. sym (w.wrote.now (piece q)) i ∷ sym (w.wrote.earlier (piece q)) i) (e.no_later q above);
      }

  pub entered_chain : (before after : Disk L) (told first number : ℕ) (more_lines : List L) (part : Option L) → AreBorn before → before.now (piece first) ≡ Some number → (w : WritesLines number more_lines part before after)
      → (n : ℕ) (lines : List L) → Chain before told (IsLast before told first) n lines → Chain after told (IsLast after told first) n (lines ++ more_lines)
  entered_chain before after told first number more_lines part born here w n _ (ends _ lines e) = ends _ (lines ++ more_lines) (entered_last before after told first number more_lines part here w n lines e)
  entered_chain before after told first number more_lines part born here w n _ (goes_on _ file lines p full told_is between more) =
      let le = chain_first before told first (n + length file.lines) lines more in
      let other = pieces_differ before born n first p.number number p.here here (λ e. omega arith) in
      subst (Chain after told (IsLast after told first) n) (sym (append_assoc file.lines lines (more_lines)))
      (goes_on _ file (lines ++ more_lines)
      (record {
        number = p.number;
        here = w.wrote.now (piece n) ∙ p.here;
        names = subst (All (MayName before told n p.number)) (λ i. sym (w.wrote.now (piece n)) i ∷ sym (w.wrote.earlier (piece n)) i) p.names;
        is = w.wrote.files p.number file other p.is;
      })
      full told_is
      (⊎_elim (λ (b : (q : ℕ) → n < q → q < n + length file.lines → Unnamed before told (piece q)).
      inl (λ q above below. subst (All (λ (f : Option ℕ). f ≡ None)) (λ i. sym (w.wrote.now (piece q)) i ∷ sym (w.wrote.earlier (piece q)) i) (b q above below))) inr between)
      (entered_chain before after told first number more_lines part born here w (n + length file.lines) lines more))
