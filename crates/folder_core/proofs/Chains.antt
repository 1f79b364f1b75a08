-- The pieces of a journal as they stand in a folder, one behind another, and what a crash leaves of them.
use Rattle.std.proofs.Common.{◌≡◌, ℕ, ◌+◌, ◌≤◌, ◌<◌, ◌⊎◌, Option, Some, None, List, [], ◌∷◌, ◌++◌, length, take, drop, All, refl, sym, ap, ◌∙◌, subst, inl, inr, ⊎_elim, arith, append_assoc, append-nil, length-append, eq-or-lt_of_le, take-append-drop}
use Rattle.std.proofs.lemmas.List.{length-take-le, take_all}
use Rattle.std.proofs.lemmas.List.Elements.{All-contains}
use Rattle.folder_core.specs.FileNames.{FileName, piece}
use Rattle.folder_core.specs.Disk.{File, Disk, Is, named, IsLeftOf, CrashLeaves}
use Rattle.folder_core.specs.Restoring.{Has, HasNone, Joins, no_piece, no_line, next_piece}

module _ {L : Type 0} where
  -- a list without length has nothing
  nothing : (lines : List L) → length lines ≡ 0 → lines ≡ []
  nothing [] e = refl
  nothing (x ∷ xs) e = absurd (omega arith)

  take_none : (count : ℕ) → take {A = L} count [] ≡ []
  take_none count = take_all {A = L} count [] (omega arith)

module _ {L : Type 0} (disk : Disk L) (told : ℕ) where
  -- it names nothing, and has not since the folder's last sync
  abbrev pub Unnamed : FileName → Type 0
  Unnamed name = All (λ (file : Option ℕ). file ≡ None) (named disk name)

  -- it names this file, or nothing where nothing of it was told
  abbrev pub MayName : ℕ → ℕ → Option ℕ → Type 0
  MayName n number file = (file ≡ Some number) ⊎ ((file ≡ None) × (told ≤ n))

  -- the piece from n on is this file
  pub record IsPiece (n : ℕ) (file : File L) : Type 0 where
    pub number : ℕ
    pub here : disk.now (piece n) ≡ Some number
    pub names : All (MayName n number) (named disk (piece n))
    pub is : Is disk number file

  -- What a crash that left this folder has left of these lines from n on: a front, with all of it that was told.
  pub record Leaves (left : Disk L) (n : ℕ) (lines : List L) : Type 0 where
    pub behind : List L
    pub rest : List L
    pub joins : Joins left n behind
    pub front : lines ≡ behind ++ rest
    pub all_told : told ≤ n + length behind

  module _ (left : Disk L) (may : CrashLeaves disk left) where
    -- what names nothing names nothing behind it
    pub unnamed_left : (name : FileName) → Unnamed name → HasNone left name
    unnamed_left name none =
        All-contains (λ (file : Option ℕ). file ≡ None) (named disk name) (left.now name) none (may.names name)

    -- a piece is there, cut, or is not there
    pub piece_left : (n : ℕ) (file : File L) → IsPiece n file
        → ((cut : File L) × Has left (piece n) cut × IsLeftOf file cut) ⊎ (HasNone left (piece n) × (told ≤ n))
    piece_left n file p =
        let f = may.files p.number file p.is in
        ⊎_elim
        (λ (e : left.now (piece n) ≡ Some p.number). inl (f.0, record { number = p.number; named = e; is = f.1 }, f.2))
        (λ (t : (left.now (piece n) ≡ None) × (told ≤ n)). inr (t.0, t.1))
        (All-contains (MayName n p.number) (named disk (piece n)) (left.now (piece n)) p.names (may.names (piece n)))

    -- where nothing of it is there, nothing of it was told
    none_left : (n : ℕ) (lines : List L) → HasNone left (piece n) → told ≤ n → Leaves left n lines
    none_left n lines none untold = record { behind = []; rest = lines; joins = no_piece _ none; front = refl; all_told = (omega arith) }

    -- a piece that was cut, or left whole, and what stands behind it
    cut_left : (n : ℕ) (file cut : File L) (lines : List L) → Has left (piece n) cut → (c : IsLeftOf file cut)
        → (told ≤ n + file.synced) ⊎ (file.synced ≡ length file.lines)
        → (told ≤ n + file.synced) ⊎ (0 < length file.lines)
        → ((p : ℕ) → n < p → p < n + length file.lines → HasNone left (piece p)) ⊎ (file.synced ≡ length file.lines)
        → (0 < length file.lines → Leaves left (n + length file.lines) lines)
        → Leaves left n (file.lines ++ lines)
    cut_left n file cut lines has c told_is full between whole =
        let count : length cut.lines ≡ c.count = ap length c.lines ∙ length-take-le c.count file.lines c.within in
        let parts : file.lines ≡ cut.lines ++ drop c.count file.lines = sym (take-append-drop c.count file.lines) ∙ ap (λ z. z ++ drop c.count file.lines) (sym c.lines) in
        let synced = c.synced in
        let within = c.within in
        ⊎_elim
        (λ (all : c.count ≡ length file.lines). ⊎_elim
        (λ (none : 0 ≡ length file.lines). record {
          behind = [];
          rest = file.lines ++ lines;
          joins = no_line _ cut has (nothing cut.lines (omega arith));
          front = refl;
          all_told = ⊎_elim (λ (t : told ≤ n + file.synced). omega arith) (λ (t : 0 < length file.lines). absurd (omega arith)) full;
        })
        (λ (more : 0 < length file.lines).
        let same : cut.lines ≡ file.lines = c.lines ∙ take_all c.count file.lines (omega arith) in
        let next = whole more in
        record {
          behind = cut.lines ++ next.behind;
          rest = next.rest;
          joins = next_piece _ cut next.behind has (omega arith) (subst (λ p. Joins left p next.behind) (ap (λ z. n + length z) (sym same)) next.joins);
          front = ap (λ z. file.lines ++ z) next.front ∙ (sym (append_assoc file.lines next.behind next.rest) ∙ ap (λ z. (z ++ next.behind) ++ next.rest) (sym same));
          all_told = (let a = length-append cut.lines next.behind in let b = next.all_told in omega arith);
        })
        (eq-or-lt_of_le (omega arith)))
        (λ (short : c.count < length file.lines). ⊎_elim
        (λ (none : 0 ≡ c.count). record {
          behind = [];
          rest = file.lines ++ lines;
          joins = no_line _ cut has (nothing cut.lines (omega arith));
          front = refl;
          all_told = ⊎_elim (λ (t : told ≤ n + file.synced). omega arith) (λ (t : file.synced ≡ length file.lines). absurd (omega arith)) told_is;
        })
        (λ (more : 0 < c.count). record {
          behind = cut.lines ++ [];
          rest = drop c.count file.lines ++ lines;
          joins = next_piece _ cut [] has (omega arith) (no_piece _ (⊎_elim
              (λ (b : (p : ℕ) → n < p → p < n + length file.lines → HasNone left (piece p)). b (n + length cut.lines) (omega arith) (omega arith))
              (λ (t : file.synced ≡ length file.lines). absurd (omega arith)) between));
          front = ap (λ z. z ++ lines) parts ∙ (append_assoc cut.lines (drop c.count file.lines) lines ∙ ap (λ z. z ++ (drop c.count file.lines ++ lines)) (sym (append-nil cut.lines)));
          all_told = (let a = length-append cut.lines [] in ⊎_elim (λ (t : told ≤ n + file.synced). omega arith) (λ (t : file.synced ≡ length file.lines). absurd (omega arith)) told_is);
        })
        (eq-or-lt_of_le (omega arith)))
        (eq-or-lt_of_le c.within)

  -- ---- the last piece, while a server writes to it
  pub record IsLast (first n : ℕ) (lines : List L) : Type 0 where
    pub is_first : n ≡ first
    pub file : File L
    pub is_piece : IsPiece n file
    pub lines_are : lines ≡ file.lines
    pub told_is : told ≤ n + file.synced
    pub no_later : (p : ℕ) → n < p → Unnamed (piece p)

  -- ---- the end of what a start has found: nothing that was told stands behind it
  abbrev pub IsBlank : Option ℕ → Type 0
  IsBlank b = (b ≡ None) ⊎ ((number : ℕ) × (file : File L) × (b ≡ Some number) × Is disk number file × (file.lines ≡ []))

  pub record IsEnd (n : ℕ) (lines : List L) : Type 0 where
    pub none : lines ≡ []
    pub told_is : told ≤ n
    pub blank : All IsBlank (named disk (piece n))

  -- The pieces from n on say these lines, one behind another, and the last is such a one.
  pub data Chain (End : ℕ → List L → Type 0) : ℕ → List L → Type 0 where
    ends : (n : ℕ) (lines : List L) → End n lines → Chain End n lines
    goes_on : (n : ℕ) (file : File L) (lines : List L)
        → IsPiece n file
        → 0 < length file.lines
        → (told ≤ n + file.synced) ⊎ (file.synced ≡ length file.lines)
        → ((p : ℕ) → n < p → p < n + length file.lines → Unnamed (piece p)) ⊎ (file.synced ≡ length file.lines)
        → Chain End (n + length file.lines) lines
        → Chain End n (file.lines ++ lines)

  -- such an end outlives a crash
  abbrev pub Outlasts : Disk L → (ℕ → List L → Type 0) → Type 0
  Outlasts left End = (n : ℕ) (lines : List L) → End n lines → Leaves left n lines

  module _ (left : Disk L) (may : CrashLeaves disk left) where
    pub last_outlasts : (first : ℕ) → Outlasts left (IsLast first)
    last_outlasts first n lines e =
        ⊎_elim
        (λ (t : (cut : File L) × Has left (piece n) cut × IsLeftOf e.file cut).
        subst (Leaves left n) (append-nil e.file.lines ∙ sym e.lines_are)
        (cut_left left may n e.file t.0 [] t.1 t.2 (inl e.told_is) (inl e.told_is)
        (inl (λ p above below. unnamed_left left may (piece p) (e.no_later p above)))
        (λ full. let synced = t.2.synced in let within = t.2.within in let told_is = e.told_is in
        none_left left may (n + length e.file.lines) [] (unnamed_left left may (piece (n + length e.file.lines)) (e.no_later (n + length e.file.lines) (omega arith))) (omega arith))))
        (λ (t : HasNone left (piece n) × (told ≤ n)). none_left left may n lines t.0 t.1)
        (piece_left left may n e.file e.is_piece)

    pub end_outlasts : Outlasts left IsEnd
    end_outlasts n lines e =
        ⊎_elim
        (λ (none : left.now (piece n) ≡ None). none_left left may n lines none e.told_is)
        (λ (t : (number : ℕ) × (file : File L) × (left.now (piece n) ≡ Some number) × Is disk number file × (file.lines ≡ [])).
        let f = may.files t.0 t.1 t.3 in
        record {
          behind = [];
          rest = lines;
          joins = no_line _ f.0 (record { number = t.0; named = t.2; is = f.1 }) (f.2.lines ∙ (ap (take f.2.count) t.4 ∙ take_none f.2.count));
          front = refl;
          all_told = (let h = e.told_is in omega arith);
        })
        (All-contains IsBlank (named disk (piece n)) (left.now (piece n)) e.blank (may.names (piece n)))

    -- of the lines of a chain a crash leaves a front, with all that was told
    pub chain_outlasts : (End : ℕ → List L → Type 0) → Outlasts left End → (n : ℕ) (lines : List L) → Chain End n lines → Leaves left n lines
    chain_outlasts End outlasts n _ (ends _ lines e) = outlasts n lines e
    chain_outlasts End outlasts n _ (goes_on _ file lines p full told_is between more) =
        ⊎_elim
        (λ (t : (cut : File L) × Has left (piece n) cut × IsLeftOf file cut).
        cut_left left may n file t.0 lines t.1 t.2 told_is (inr full)
        (⊎_elim (λ (b : (p : ℕ) → n < p → p < n + length file.lines → Unnamed (piece p)). inl (λ p above below. unnamed_left left may (piece p) (b p above below))) inr between)
        (λ _. chain_outlasts End outlasts (n + length file.lines) lines more))
        (λ (t : HasNone left (piece n) × (told ≤ n)). none_left left may n (file.lines ++ lines) t.0 t.1)
        (piece_left left may n file p)
