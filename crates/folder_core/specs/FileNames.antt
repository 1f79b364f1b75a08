-- The files of a server's folder.
use Rattle.std.specs.Prelude.{ℕ, Bool, false, nat_eq}

-- Which file: the dump of what the first so many changes leave, or the piece of the journal that
-- begins behind so many changes.
pub data FileName : Type 0 where
  dump : ℕ → FileName
  piece : ℕ → FileName

-- whether it is the same file
abbrev pub is_same_file_name : FileName → FileName → Bool
is_same_file_name (dump p) (dump q) = nat_eq p q
is_same_file_name (piece p) (piece q) = nat_eq p q
is_same_file_name _ _ = false
