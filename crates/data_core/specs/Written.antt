-- What was written to the journal in a folder, and what its writer knows.
use Rattle.std.specs.Prelude.{◌≡◌, ◌≤◌, ℕ, Bool, true, false, List, [], ◌∷◌, ◌++◌, Option, Some, None, IfSome}
use Rattle.folder_core.specs.FileNames.{dump}
use Rattle.folder_core.specs.Serving.{serving}
use Rattle.folder_core.specs.Texts.{lines_text}
use Rattle.folder_core.specs.Calls.{TextState, part_at}
use Rattle.data_core.specs.declared.place.Place.{Place}

-- What is seen of the pieces: the folder, how many changes were told to be on the disk since the writing
-- began, and whether a write failed.
pub record PiecesState (F : Type 0) : Type 0 where
  pub folder : F
  pub told : ℕ
  pub failed : Bool

-- the text of the journal: the lines since the first, and the part of one more
abbrev pub text_of : TextState → List ℕ
text_of s = lines_text s.journal ++ part_at s.phase s.disk

-- the same, where the state is known
abbrev pub text_written : Option TextState → Option (List ℕ)
text_written None = None
text_written (Some s) = Some (text_of s)

-- ---- what a writer knows
-- whether there is something
abbrev pub is_some_text : List ℕ → Bool
is_some_text [] = false
is_some_text (byte ∷ text) = true

-- The state has come to this place: it serves, and writes to this piece; this dump is the newest, and
-- resumes with this piece; at least so many changes were told; where a dump was put, that has its name; and it is
-- noted whether a part of a line stands at the end.
pub record IsAt (place : Place) (s : TextState) : Type 0 where
  pub serves : s.phase ≡ serving place.first place.put
  pub base_is : s.base ≡ place.base
  pub resumes_is : s.resumes ≡ place.resumes
  pub told : place.told ≤ s.told
  pub named : IfSome place.put (λ point. (number : ℕ) × (s.disk.now (dump point) ≡ Some number))
  pub in_line : place.is_in_line ≡ is_some_text (part_at s.phase s.disk)

-- the writing begins here: in the piece behind so many changes, in which nothing stands; this dump is the
-- newest, and resumes with this piece
pub record BeginsAt (at base resumes : ℕ) (s : TextState) : Type 0 where
  pub serves : s.phase ≡ serving at None
  pub base_is : s.base ≡ base
  pub resumes_is : s.resumes ≡ resumes
  pub no_part : part_at s.phase s.disk ≡ []
