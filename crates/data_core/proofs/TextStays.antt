-- Calls that write nothing leave the text of the journal as it is.
use Rattle.std.proofs.Common.{◌≡◌, ℕ, ◌<◌, true, false, Option, Some, None, IfSome, List, [], ◌∷◌, ◌++◌, refl, sym, ap, ◌∙◌, arith}
use Rattle.folder_core.specs.Disk.{folder_synced}
use Rattle.folder_core.specs.Serving.{Reaches, on, begun}
use Rattle.folder_core.specs.Texts.{lines_text}
use Rattle.folder_core.specs.Calls.{TextState, Moves, Tells, Puts, Settles, without_piece, without_dump, part_at}
use Rattle.folder_core.proofs.EndOfJournal.{HasSameEnd, told_end, put_end, settled_end, names_end, dump_end, piece_end, begun_end}
use Rattle.data_core.specs.declared.place.Place.{Place}
use Rattle.data_core.specs.Written.{text_of, text_written, is_some_text, IsAt}

same_text : (s t : TextState) → t.journal ≡ s.journal → HasSameEnd s t → text_of t ≡ text_of s
same_text s t journal end = λ i. lines_text (journal i) ++ end i

no_text : (text : List ℕ) → false ≡ is_some_text text → text ≡ []
no_text [] e = refl
no_text (b ∷ bs) e = absurd (neither e)
  where
    neither : false ≡ true → ⊥
    neither e' = absurd cc

module _ (IsDumpOf : List (List ℕ) → List (List ℕ) → Type 0) (none : IsDumpOf [] []) (o p : Option TextState) (reached : IfSome o (Reaches IsDumpOf)) where
  stays : (P : TextState → Type 0) (Does : TextState → TextState → Type 0) → ((s t : TextState) → Reaches IsDumpOf s → P s → Does s t → text_of t ≡ text_of s) → IfSome o P → Moves Does o p → text_written p ≡ text_written o
  stays P Does says h moved = by o reached h moved
    where
      by : (x : Option TextState) → IfSome x (Reaches IsDumpOf) → IfSome x P → Moves Does x p → text_written p ≡ text_written x
      by None r k m = ap text_written m
      by (Some s) r k (t, is, does) = ap text_written is ∙ ap (λ (z : List ℕ). Some z) (says s t r k does)

  pub told_text : (place : Place) (count : ℕ) → IfSome o (IsAt place) → Moves (Tells count) o p → text_written p ≡ text_written o
  told_text place count = stays (IsAt place) (Tells count) (λ s t r k c. same_text s t (ap (λ (x : TextState). x.journal) c.is) (told_end IsDumpOf none s t r count c))

  pub put_text : (place : Place) (point : ℕ) (lines : List (List ℕ)) → IfSome o (IsAt place) → Moves (Puts point lines) o p → text_written p ≡ text_written o
  put_text place point lines = stays (IsAt place) (Puts point lines) (λ s t r k c. same_text s t (ap (λ (x : TextState). x.journal) c.is) (put_end IsDumpOf none s t r point lines c))

  pub names_text : (place : Place) → IfSome o (IsAt place) → Moves (λ s t. t ≡ on (folder_synced s.disk) s) o p → text_written p ≡ text_written o
  names_text place = stays (IsAt place) (λ s t. t ≡ on (folder_synced s.disk) s) (λ s t r k is. same_text s t (ap (λ (x : TextState). x.journal) is) (names_end s t is))

  pub settled_text : (place : Place) (point : ℕ) → IfSome o (IsAt place) → Moves (Settles point) o p → text_written p ≡ text_written o
  settled_text place point = stays (IsAt place) (Settles point) (λ s t r k c. same_text s t (ap (λ (x : TextState). x.journal) c.is) (settled_end IsDumpOf none s t r point c))

  pub begun_text : (place : Place) → place.is_in_line ≡ false → IfSome o (IsAt place) → Moves (λ s t. t ≡ begun s) o p → text_written p ≡ text_written o
  begun_text place ended = stays (IsAt place) (λ s t. t ≡ begun s) (λ s t r k is. same_text s t (ap (λ (x : TextState). x.journal) is) (begun_end s t is ∙ sym (no_text (part_at s.phase s.disk) (sym ended ∙ k.in_line))))

  pub piece_gone_text : (place : Place) (point : ℕ) → point < place.resumes → IfSome o (IsAt place) → Moves (λ s t. t ≡ without_piece point s) o p → text_written p ≡ text_written o
  piece_gone_text place point behind = stays (IsAt place) (λ s t. t ≡ without_piece point s) says
    where
      says : (s t : TextState) → Reaches IsDumpOf s → IsAt place s → t ≡ without_piece point s → text_of t ≡ text_of s
      says s t r k is =
          let e = k.resumes_is in
          same_text s t (ap (λ (x : TextState). x.journal) is) (piece_end IsDumpOf none s t r point place.first place.put k.serves (omega arith) is)

  pub dump_gone_text : (place : Place) (point : ℕ) → IfSome o (IsAt place) → Moves (λ s t. t ≡ without_dump point s) o p → text_written p ≡ text_written o
  dump_gone_text place point = stays (IsAt place) (λ s t. t ≡ without_dump point s) (λ s t r k is. same_text s t (ap (λ (x : TextState). x.journal) is) (dump_end point s t is))
