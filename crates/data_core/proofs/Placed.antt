-- What a writer knows of the state behind each call.
use Rattle.std.proofs.Common.{◌≡◌, ◌≢◌, ℕ, ◌≤◌, ◌<◌, Bool, true, false, Option, Some, None, IfSome, List, [], ◌∷◌, ◌++◌, length, refl, sym, ap, subst, ◌∙◌, append_assoc, append-nil, arith, eq-eqb, ne_eqb}
use Rattle.folder_core.specs.FileNames.{dump}
use Rattle.folder_core.specs.Disk.{Disk, put, folder_synced, name_removed}
use Rattle.folder_core.specs.Serving.{Phase, serving, on, begun, Reaches}
use Rattle.folder_core.specs.Texts.{lines_text, part_text, IsInOneLine}
use Rattle.folder_core.specs.Calls.{TextState, AreTexts, Moves, WritesText, Tells, Puts, Settles, without_piece, without_dump, part_at}
use Rattle.folder_core.proofs.Outlives.{put_behind}
use Rattle.folder_core.proofs.EndOfJournal.{told_end, put_end, settled_end, names_end, dump_end, piece_end, begun_end}
use Rattle.data_core.specs.declared.place.Place.{Place}
use Rattle.data_core.specs.Written.{is_some_text, IsAt, BeginsAt}
use Rattle.data_core.proofs.WrittenMore.{phase_is, part_was, part_is, in_line_if, ended_if}

abbrev first_of : Phase → ℕ
first_of (serving first capture) = first
first_of phase = 0

abbrev capture_of : Phase → Option ℕ
capture_of (serving first capture) = capture
capture_of phase = None

-- where the writing begins
pub begun_at : (at base resumes : ℕ) (place : Place) → place ≡ record { first = at; base = base; resumes = resumes; told = 0; put = None; is_in_line = false } → (o : Option TextState) → IfSome o (BeginsAt at base resumes) → IfSome o (IsAt place)
begun_at at base resumes place is None b = tt
begun_at at base resumes place is (Some s) b = subst (λ p. IsAt p s) (sym is) (record {
  serves = b.serves;
  base_is = b.base_is;
  resumes_is = b.resumes_is;
  told = (omega arith);
  named = tt;
  in_line = ap is_some_text (sym b.no_part);
})

module _ (IsDumpOf : List (List ℕ) → List (List ℕ) → Type 0) (none : IsDumpOf [] []) (place : Place) (s t : TextState) (reached : Reaches IsDumpOf s) (at : IsAt place s) where
  same_first : (first : ℕ) (capture : Option ℕ) → s.phase ≡ serving first capture → first ≡ place.first
  same_first first capture serves = ap first_of (sym serves ∙ at.serves)

  -- something was told
  still_named : (put : Option ℕ) → ((p : ℕ) → t.disk.now (dump p) ≡ s.disk.now (dump p)) → IfSome put (λ p. (number : ℕ) × (s.disk.now (dump p) ≡ Some number)) → IfSome put (λ p. (number : ℕ) × (t.disk.now (dump p) ≡ Some number))
  still_named None now h = tt
  still_named (Some p) now h = (h.0, now p ∙ h.1)

  pub told_at : (count : ℕ) → Tells count s t → IsAt (record place { told = count }) t
  told_at count c =
      record {
        serves = ap (λ (x : TextState). x.phase) c.is ∙ at.serves;
        base_is = ap (λ (x : TextState). x.base) c.is ∙ at.base_is;
        resumes_is = ap (λ (x : TextState). x.resumes) c.is ∙ at.resumes_is;
        told = (let e = ap (λ (x : TextState). x.told) c.is in omega arith);
        named = still_named place.put (λ p. c.synced.now (dump p)) at.named;
        in_line = at.in_line ∙ ap is_some_text (sym (told_end IsDumpOf none s t reached count c));
      }

  -- a dump was put
  put_named : (point : ℕ) (c_first : ℕ) (lines : List (List ℕ)) → t.disk ≡ put (dump point) c_first lines s.disk → t.disk.now (dump point) ≡ Some (length s.disk.files)
  put_named point c_first lines is = ap (λ (d : Disk (List ℕ)). d.now (dump point)) is ∙ rw (eq-eqb point point refl) refl

  pub put_at : (point : ℕ) (lines : List (List ℕ)) → Puts point lines s t → IsAt (record place { put = Some point }) t
  put_at point lines c =
      record {
        serves = ap (λ (x : TextState). x.phase) c.is ∙ ap (λ n. serving n (Some point)) (same_first c.first None c.serves);
        base_is = ap (λ (x : TextState). x.base) c.is ∙ at.base_is;
        resumes_is = ap (λ (x : TextState). x.resumes) c.is ∙ at.resumes_is;
        told = subst (λ (x : TextState). place.told ≤ x.told) (sym c.is) at.told;
        named = (length s.disk.files, put_named point c.first lines (ap (λ (x : TextState). x.disk) c.is));
        in_line = at.in_line ∙ ap is_some_text (sym (put_end IsDumpOf none s t reached point lines c));
      }

  -- names were synced
  pub names_at : t ≡ on (folder_synced s.disk) s → IsAt place t
  names_at is =
      record {
        serves = ap (λ (x : TextState). x.phase) is ∙ at.serves;
        base_is = ap (λ (x : TextState). x.base) is ∙ at.base_is;
        resumes_is = ap (λ (x : TextState). x.resumes) is ∙ at.resumes_is;
        told = subst (λ (x : TextState). place.told ≤ x.told) (sym is) at.told;
        named = still_named place.put (λ p. ap (λ (x : TextState). x.disk.now (dump p)) is) at.named;
        in_line = at.in_line ∙ ap is_some_text (sym (names_end s t is));
      }

  -- the dump is the newest
  pub settled_at : (point : ℕ) → Settles point s t → IsAt (record place { base = point; resumes = place.first; put = None }) t
  settled_at point c =
      let same = same_first c.first (Some point) c.serves in
      record {
        serves = ap (λ (x : TextState). x.phase) c.is ∙ ap (λ n. serving n None) same;
        base_is = ap (λ (x : TextState). x.base) c.is;
        resumes_is = ap (λ (x : TextState). x.resumes) c.is ∙ same;
        told = subst (λ (x : TextState). place.told ≤ x.told) (sym c.is) at.told;
        named = tt;
        in_line = at.in_line ∙ ap is_some_text (sym (settled_end IsDumpOf none s t reached point c));
      }

  -- a piece was begun
  pub piece_at : (point : ℕ) → place.put ≡ None → place.is_in_line ≡ false → point ≡ length s.journal → t ≡ begun s → IsAt (record place { first = point }) t
  piece_at point no_put ended here is =
      record {
        serves = ap (λ (x : TextState). x.phase) is ∙ (ap (λ n. serving n None) (sym here) ∙ ap (serving point) (sym no_put));
        base_is = ap (λ (x : TextState). x.base) is ∙ at.base_is;
        resumes_is = ap (λ (x : TextState). x.resumes) is ∙ at.resumes_is;
        told = subst (λ (x : TextState). place.told ≤ x.told) (sym is) at.told;
        named = subst (λ (put : Option ℕ). IfSome put (λ p. (number : ℕ) × (t.disk.now (dump p) ≡ Some number))) (sym no_put) tt;
        in_line = ended ∙ ap is_some_text (sym (begun_end s t is));
      }

  -- a piece was removed
  pub piece_gone_at : (point : ℕ) → point < place.resumes → t ≡ without_piece point s → IsAt place t
  piece_gone_at point behind is =
      let r = at.resumes_is in
      record {
        serves = ap (λ (x : TextState). x.phase) is ∙ at.serves;
        base_is = ap (λ (x : TextState). x.base) is ∙ at.base_is;
        resumes_is = ap (λ (x : TextState). x.resumes) is ∙ at.resumes_is;
        told = subst (λ (x : TextState). place.told ≤ x.told) (sym is) at.told;
        named = still_named place.put (λ p. ap (λ (x : TextState). x.disk.now (dump p)) is) at.named;
        in_line = at.in_line ∙ ap is_some_text (sym (piece_end IsDumpOf none s t reached point place.first place.put at.serves (omega arith) is));
      }

  -- a dump was removed
  named_else : (point : ℕ) → point < place.base → t ≡ without_dump point s → (put : Option ℕ) → put ≡ place.put → IfSome put (λ p. (number : ℕ) × (s.disk.now (dump p) ≡ Some number)) → IfSome put (λ p. (number : ℕ) × (t.disk.now (dump p) ≡ Some number))
  named_else point older is None e h = tt
  named_else point older is (Some p) e h =
      let b = at.base_is in
      let newer = put_behind IsDumpOf none s reached place.first place.put at.serves p (sym e) in
      let other : p ≢ point = λ same. (let same = same in absurd (omega arith)) in
      let stays : (name_removed (dump point) s.disk).now (dump p) ≡ s.disk.now (dump p) = rw (ne_eqb p point other) refl in
      (h.0, ap (λ (x : TextState). x.disk.now (dump p)) is ∙ (stays ∙ h.1))

  pub dump_gone_at : (point : ℕ) → point < place.base → t ≡ without_dump point s → IsAt place t
  dump_gone_at point older is =
      record {
        serves = ap (λ (x : TextState). x.phase) is ∙ at.serves;
        base_is = ap (λ (x : TextState). x.base) is ∙ at.base_is;
        resumes_is = ap (λ (x : TextState). x.resumes) is ∙ at.resumes_is;
        told = subst (λ (x : TextState). place.told ≤ x.told) (sym is) at.told;
        named = named_else point older is place.put refl at.named;
        in_line = at.in_line ∙ ap is_some_text (sym (dump_end point s t is));
      }

  -- text was written
  pub written_at : (text : List ℕ) (in_line : Bool) (w : WritesText text s t) → in_line ≡ is_some_text (part_at t.phase t.disk) → IsAt (record place { is_in_line = in_line }) t
  written_at text in_line w noted =
      record {
        serves = phase_is text s t w ∙ at.serves;
        base_is = ap (λ (x : TextState). x.base) w.is ∙ at.base_is;
        resumes_is = ap (λ (x : TextState). x.resumes) w.is ∙ at.resumes_is;
        told = subst (λ (x : TextState). place.told ≤ x.told) (sym w.is) at.told;
        named = still_named place.put (λ p. w.wrote.now (dump p)) at.named;
        in_line = noted;
      }

-- ---- where the state is known
module _ (IsDumpOf : List (List ℕ) → List (List ℕ) → Type 0) (none : IsDumpOf [] []) (o p : Option TextState) (reached : IfSome o (Reaches IsDumpOf)) where
  -- what is known behind a call
  placed : (Does : TextState → TextState → Type 0) (place place' : Place) → ((s t : TextState) → Reaches IsDumpOf s → IsAt place s → Does s t → IsAt place' t) → IfSome o (IsAt place) → Moves Does o p → IfSome p (IsAt place')
  placed Does place place' says at moved = by o reached at moved
    where
      by : (x : Option TextState) → IfSome x (Reaches IsDumpOf) → IfSome x (IsAt place) → Moves Does x p → IfSome p (IsAt place')
      by None r a m = subst (λ (y : Option TextState). IfSome y (IsAt place')) (sym m) tt
      by (Some s) r a (t, is, does) = subst (λ (y : Option TextState). IfSome y (IsAt place')) (sym is) (says s t r a does)

  pub known_told : (place : Place) (count : ℕ) → IfSome o (IsAt place) → Moves (Tells count) o p → IfSome p (IsAt (record place { told = count }))
  known_told place count = placed (Tells count) place (record place { told = count }) (λ s t r a c. told_at IsDumpOf none place s t r a count c)

  pub known_put : (place : Place) (point : ℕ) (lines : List (List ℕ)) → IfSome o (IsAt place) → Moves (Puts point lines) o p → IfSome p (IsAt (record place { put = Some point }))
  known_put place point lines = placed (Puts point lines) place (record place { put = Some point }) (λ s t r a c. put_at IsDumpOf none place s t r a point lines c)

  pub known_names : (place : Place) → IfSome o (IsAt place) → Moves (λ s t. t ≡ on (folder_synced s.disk) s) o p → IfSome p (IsAt place)
  known_names place = placed (λ s t. t ≡ on (folder_synced s.disk) s) place place (λ s t r a c. names_at IsDumpOf none place s t r a c)

  pub known_settled : (place : Place) (point : ℕ) → IfSome o (IsAt place) → Moves (Settles point) o p → IfSome p (IsAt (record place { base = point; resumes = place.first; put = None }))
  known_settled place point = placed (Settles point) place (record place { base = point; resumes = place.first; put = None }) (λ s t r a c. settled_at IsDumpOf none place s t r a point c)

  pub known_begun : (place : Place) (point : ℕ) → place.put ≡ None → place.is_in_line ≡ false → IfSome o (IsAt place) → IfSome o (λ s. point ≡ length s.journal) → Moves (λ s t. t ≡ begun s) o p → IfSome p (IsAt (record place { first = point }))
  known_begun place point no_put ended at here moved = by o reached at here moved
    where
      by : (x : Option TextState) → IfSome x (Reaches IsDumpOf) → IfSome x (IsAt place) → IfSome x (λ s. point ≡ length s.journal) → Moves (λ s t. t ≡ begun s) x p → IfSome p (IsAt (record place { first = point }))
      by None r a h m = subst (λ (y : Option TextState). IfSome y (IsAt (record place { first = point }))) (sym m) tt
      by (Some s) r a h (t, is, does) = subst (λ (y : Option TextState). IfSome y (IsAt (record place { first = point }))) (sym is) (piece_at IsDumpOf none place s t r a point no_put ended h does)

  pub known_piece_gone : (place : Place) (point : ℕ) → point < place.resumes → IfSome o (IsAt place) → Moves (λ s t. t ≡ without_piece point s) o p → IfSome p (IsAt place)
  known_piece_gone place point behind = placed (λ s t. t ≡ without_piece point s) place place (λ s t r a c. piece_gone_at IsDumpOf none place s t r a point behind c)

  pub known_dump_gone : (place : Place) (point : ℕ) → point < place.base → IfSome o (IsAt place) → Moves (λ s t. t ≡ without_dump point s) o p → IfSome p (IsAt place)
  known_dump_gone place point older = placed (λ s t. t ≡ without_dump point s) place place (λ s t r a c. dump_gone_at IsDumpOf none place s t r a point older c)

-- ---- writing
in_line_of : (x : ℕ) (in_line : Bool) → (in_line ≡ true → x ≢ 10) → (in_line ≡ false → x ≡ 10) → (one : List ℕ) → (is_some_text one ≡ true → x ≢ 10) → (is_some_text one ≡ false → x ≡ 10) → in_line ≡ is_some_text one
in_line_of x true goes_on ends_line [] some ended = absurd (goes_on refl (ended refl))
in_line_of x true goes_on ends_line (b ∷ bs) some ended = refl
in_line_of x false goes_on ends_line [] some ended = refl
in_line_of x false goes_on ends_line (b ∷ bs) some ended = absurd (some refl (ends_line refl))

-- the text ends with this byte, and it is noted whether it ends a line
pub known_written : (IsDumpOf : List (List ℕ) → List (List ℕ) → Type 0) (none : IsDumpOf [] []) (o p : Option TextState) → IfSome o (Reaches IsDumpOf) → (place : Place) (text front : List ℕ) (x : ℕ) (in_line : Bool) → text ≡ front ++ x ∷ [] → (in_line ≡ true → x ≢ 10) → (in_line ≡ false → x ≡ 10)
    → IfSome o (IsAt place) → Moves (WritesText text) o p → IfSome p (IsAt (record place { is_in_line = in_line }))
known_written IsDumpOf none o p reached place text front x in_line ends goes_on ends_line at moved =
    placed IsDumpOf none o p reached (WritesText text) place (record place { is_in_line = in_line }) says at moved
  where
    says : (s t : TextState) → Reaches IsDumpOf s → IsAt place s → WritesText text s t → IsAt (record place { is_in_line = in_line }) t
    says s t r a w =
        let both : part_text w.file.part ++ (front ++ x ∷ []) ≡ lines_text w.lines ++ part_text w.part = ap (λ z. part_text w.file.part ++ z) (sym ends) ∙ w.text_is in
        written_at IsDumpOf none place s t r a text in_line w
        (in_line_of x in_line goes_on ends_line (part_text w.part) (in_line_if front x (part_text w.file.part) w.lines (part_text w.part) w.are.1 both) (ended_if front x (part_text w.file.part) w.lines (part_text w.part) w.are.1 both)
        ∙ ap is_some_text (sym (part_is text s t w)))

-- no line was finished, and the part is the same
no_feed : (line more : List ℕ) → IsInOneLine ((line ++ 10 ∷ []) ++ more) → ⊥
no_feed [] more all = all.0 refl
no_feed (b ∷ bs) more all = no_feed bs more all.1

same_part : (part one : List ℕ) (lines : List (List ℕ)) → IsInOneLine part → part ≡ lines_text lines ++ one → is_some_text part ≡ is_some_text one
same_part part one [] in_one e = ap is_some_text e
same_part part one (l ∷ ls) in_one e = absurd (no_feed l (lines_text ls ++ one) (subst IsInOneLine (e ∙ append_assoc (l ++ 10 ∷ []) (lines_text ls) one) in_one))

-- nothing was written
pub known_nothing : (IsDumpOf : List (List ℕ) → List (List ℕ) → Type 0) (none : IsDumpOf [] []) (o p : Option TextState) → IfSome o (Reaches IsDumpOf) → IfSome o AreTexts → (place : Place) (text : List ℕ) → text ≡ [] → IfSome o (IsAt place) → Moves (WritesText text) o p → IfSome p (IsAt place)
known_nothing IsDumpOf none o p reached texts place text empty at moved = by o reached texts at moved
  where
    says : (s t : TextState) → Reaches IsDumpOf s → AreTexts s → IsAt place s → WritesText text s t → IsAt place t
    says s t r are a w =
        let both : part_text w.file.part ≡ lines_text w.lines ++ part_text w.part = sym (append-nil (part_text w.file.part)) ∙ (ap (λ z. part_text w.file.part ++ z) (sym empty) ∙ w.text_is) in
        let in_one : IsInOneLine (part_text w.file.part) = (are.files w.number w.file w.wrote.was).1 in
        written_at IsDumpOf none place s t r a text place.is_in_line w
        (a.in_line ∙ (ap is_some_text (part_was text s t w) ∙ (same_part (part_text w.file.part) (part_text w.part) w.lines in_one both ∙ ap is_some_text (sym (part_is text s t w)))))

    by : (x : Option TextState) → IfSome x (Reaches IsDumpOf) → IfSome x AreTexts → IfSome x (IsAt place) → Moves (WritesText text) x p → IfSome p (IsAt place)
    by None r are a m = subst (λ (y : Option TextState). IfSome y (IsAt place)) (sym m) tt
    by (Some s) r are a (t, is, does) = subst (λ (y : Option TextState). IfSome y (IsAt place)) (sym is) (says s t r are a does)
