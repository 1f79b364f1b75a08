-- The journal goes on in a new piece.
use Rattle.std.proofs.Common.{◌≡◌, ◌≢◌, ℕ, ◌+◌, ◌≤◌, ◌<◌, Option, Some, None, List, [], ◌∷◌, length, All, refl, sym, ap, ◌∙◌, subst, inl, inr, ⊎_elim, arith, append-nil, length-append, eq-eqb, ne_eqb, if◌then◌else◌}
use Rattle.std.proofs.lemmas.List.Elements.{All-cons, All-weaker}
use Rattle.folder_core.specs.FileNames.{piece}
use Rattle.folder_core.specs.Disk.{File, Disk, named, new_file, made}
use Rattle.folder_core.proofs.Chains.{Unnamed, MayName, IsPiece, IsLast, IsEnd, Chain, ends, goes_on}
use Rattle.folder_core.proofs.Births.{longer_has, is_new}
use Rattle.folder_core.proofs.Steps.{chain_first}

module _ {L : Type 0} (disk : Disk L) (point : ℕ) where
  abbrev after : Disk L
  after = made (piece point) point disk

  -- another piece names what it named
  names_elsewhere : (p : ℕ) → p ≢ point → (P : Option ℕ → Type 0) → All P (named disk (piece p)) → All P (named after (piece p))
  names_elsewhere p other P all =
      subst (λ b. All P ((if b then Some (length disk.files) else disk.now (piece p)) ∷ (if b then named disk (piece p) else disk.earlier (piece p)))) (sym (ne_eqb p point other)) all

  now_elsewhere : (p : ℕ) → p ≢ point → after.now (piece p) ≡ disk.now (piece p)
  now_elsewhere p other = rw (ne_eqb p point other)

  now_here : after.now (piece point) ≡ Some (length disk.files)
  now_here = rw (eq-eqb point point refl)

  module _ (told : ℕ) where
    -- the new piece names its file, or nothing
    names_here : Unnamed disk told (piece point) → told ≤ point → All (MayName after told point (length disk.files)) (named after (piece point))
    names_here none untold =
        subst (λ b. All (MayName after told point (length disk.files)) ((if b then Some (length disk.files) else disk.now (piece point)) ∷ (if b then named disk (piece point) else disk.earlier (piece point)))) (sym (eq-eqb point point refl))
        (All-cons (MayName after told point (length disk.files)) (Some (length disk.files)) (named disk (piece point)) (inl refl)
        (All-weaker (λ (file : Option ℕ). file ≡ None) (MayName after told point (length disk.files)) (λ file is. inr (is, untold)) (named disk (piece point)) none))

    pub new_last : Unnamed disk told (piece point) → ((p : ℕ) → point < p → Unnamed disk told (piece p)) → told ≤ point → IsLast after told point point []
    new_last none later untold = record {
      is_first = refl;
      file = new_file (piece point) point;
      is_piece = record {
        number = length disk.files;
        here = now_here;
        names = names_here none untold;
        is = is_new (new_file (piece point) point) disk;
      };
      lines_are = refl;
      told_is = (omega arith);
      no_later = λ p above. names_elsewhere p (λ e. omega arith) (λ (file : Option ℕ). file ≡ None) (later p above);
    }

    piece_elsewhere : (n : ℕ) (file : File L) → n ≢ point → IsPiece disk told n file → IsPiece after told n file
    piece_elsewhere n file other p = record {
      number = p.number;
      here = now_elsewhere n other ∙ p.here;
      names = names_elsewhere n other (MayName disk told n p.number) p.names;
      is = longer_has (new_file (piece point) point) disk p.number file p.is;
    }

    -- behind a last piece that has lines there is then an empty one
    begun_last : (first n : ℕ) (lines : List L) → n + length lines ≡ point → first < point → told ≤ point → IsLast disk told first n lines → Chain after told (IsLast after told point) n lines
    begun_last first n lines at above untold e =
        let is_first = e.is_first in
        let same = ap length e.lines_are in
        subst (Chain after told (IsLast after told point) n) (append-nil e.file.lines ∙ sym e.lines_are)
        (goes_on _ e.file [] (piece_elsewhere n e.file (λ q. omega arith) e.is_piece) (omega arith) (inl e.told_is)
        (inl (λ p low high. names_elsewhere p (λ q. omega arith) (λ (file : Option ℕ). file ≡ None) (e.no_later p low)))
        (ends _ []
        (subst (λ m. IsLast after told point m []) (sym at ∙ ap (λ k. n + k) same)
        (new_last (e.no_later point (omega arith)) (λ p high. e.no_later p (omega arith)) untold))))

    pub begun_chain : (first n : ℕ) (lines : List L) → n + length lines ≡ point → first < point → told ≤ point → Chain disk told (IsLast disk told first) n lines → Chain after told (IsLast after told point) n lines
    begun_chain first n _ at above untold (ends _ lines e) = begun_last first n lines at above untold e
    begun_chain first n _ at above untold (goes_on _ file lines p full told_is between more) =
        let whole = length-append file.lines lines in
        let le = chain_first disk told first (n + length file.lines) lines more in
        goes_on _ file lines (piece_elsewhere n file (λ q. omega arith) p) full told_is
        (⊎_elim (λ (b : (q : ℕ) → n < q → q < n + length file.lines → Unnamed disk told (piece q)).
        inl (λ q low high. names_elsewhere q (λ e. omega arith) (λ (f : Option ℕ). f ≡ None) (b q low high))) inr between)
        (begun_chain first (n + length file.lines) lines (omega arith) above untold more)

    -- ---- a start that has read all begins a piece of its own
    pub ready_chain : (n : ℕ) (lines : List L) → n + length lines ≡ point
        → ((p : ℕ) → point ≤ p → Unnamed disk told (piece p))
        → Chain disk told (IsEnd disk told) n lines → Chain after told (IsLast after told point) n lines
    ready_chain n _ at none (ends _ lines e) =
        let here : n ≡ point = (let h = ap length e.none in omega arith) in
        let told_is = e.told_is in
        subst (λ (z : ℕ × List L). Chain after told (IsLast after told point) z.0 z.1) (λ i. (sym here i, sym e.none i))
        (ends _ [] (new_last (none point (omega arith)) (λ p above. none p (omega arith)) (omega arith)))
    ready_chain n _ at none (goes_on _ file lines p full told_is between more) =
        let whole = length-append file.lines lines in
        goes_on _ file lines (piece_elsewhere n file (λ q. omega arith) p) full told_is
        (⊎_elim (λ (b : (q : ℕ) → n < q → q < n + length file.lines → Unnamed disk told (piece q)).
        inl (λ q low high. names_elsewhere q (λ e. omega arith) (λ (f : Option ℕ). f ≡ None) (b q low high))) inr between)
        (ready_chain (n + length file.lines) lines (omega arith) none more)
