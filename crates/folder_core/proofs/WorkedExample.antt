-- A worked example: a dump of the first three of five changes, of which four were told, in the midst of the
-- first piece; the crash leaves a part of the last line.
use Rattle.std.proofs.Common.{◌≡◌, ◌<◌, ℕ, if◌then◌else◌, Option, Some, None, List, [], ◌∷◌, refl, arith, ne_eqb, subst, zero, suc}
use mathlib.Core.Option.{some-injective}
use Rattle.folder_core.specs.FileNames.{FileName, dump, piece, is_same_file_name}
use Rattle.folder_core.specs.Disk.{File, Disk, Is, IsLeftOf, CrashLeaves}
use Rattle.folder_core.specs.Restoring.{no_piece, next_piece, Restores, behind_dump}

-- its piece, and the dump, whose one line says what three changes leave
abbrev pub piece_of : List ℕ → ℕ → File ℕ
piece_of lines synced = record { born = piece 0; resumes = 0; lines = lines; synced = synced; part = None }

abbrev pub dump_of_three : File ℕ
dump_of_three = record { born = dump 3; resumes = 0; lines = 6 ∷ []; synced = 1; part = None }

abbrev pub two_names : FileName → Option ℕ
two_names name = if is_same_file_name name (piece 0) then Some 0 else (if is_same_file_name name (dump 3) then Some 1 else None)

abbrev pub folder_with : File ℕ → Disk ℕ
folder_with first = record { files = first ∷ dump_of_three ∷ []; now = two_names; earlier = λ name. [] }

abbrev pub before_crash : Disk ℕ
before_crash = folder_with (piece_of (1 ∷ 2 ∷ 3 ∷ 4 ∷ 5 ∷ []) 4)

abbrev pub cut_piece : File ℕ
cut_piece = record { born = piece 0; resumes = 0; lines = 1 ∷ 2 ∷ 3 ∷ 4 ∷ []; synced = 4; part = Some 5 }

abbrev pub behind_crash : Disk ℕ
behind_crash = folder_with cut_piece

-- the crash may leave it so
pub crash_cuts : CrashLeaves before_crash behind_crash
crash_cuts = record {
  files = left;
  names = λ name. (0, omega arith, refl);
  settled = λ name. refl;
}
  where
    left : (number : ℕ) (file : File ℕ) → Is before_crash number file → (cut : File ℕ) × Is behind_crash number cut × IsLeftOf file cut
    left zero file is = (
      cut_piece,
      refl,
      subst (λ f. IsLeftOf f cut_piece) (some-injective (piece_of (1 ∷ 2 ∷ 3 ∷ 4 ∷ 5 ∷ []) 4) file is)
          (record { count = 4; synced = (omega arith); within = (omega arith); lines = refl; on_disk = refl; born = refl; resumes = refl }),
    )
    left (suc zero) file is = (
      dump_of_three,
      refl,
      subst (λ f. IsLeftOf f dump_of_three) (some-injective dump_of_three file is)
          (record { count = 1; synced = (omega arith); within = (omega arith); lines = refl; on_disk = refl; born = refl; resumes = refl }),
    )
    left (suc (suc number)) file is = absurd cc

-- a start restores the dump, skips three lines, and reads the one that was told
pub restores_four : Restores behind_crash 3 0 (6 ∷ []) (4 ∷ [])
restores_four =
    behind_dump 3 dump_of_three (1 ∷ 2 ∷ 3 ∷ []) (4 ∷ [])
    (record { number = 1; named = refl; is = refl })
    none_later
    (next_piece 0 cut_piece []
    (record { number = 0; named = refl; is = refl })
    (omega arith) (no_piece 4 refl))
    refl
  where
    none_later : (later : ℕ) → 3 < later → behind_crash.now (dump later) ≡ None
    none_later later above = rw (ne_eqb later 3 (λ e. omega arith))
