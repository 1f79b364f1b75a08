-- The bytes of a file, read to their end, and its lines.
use Rattle.std.proofs.Common.{◌≡◌, ℕ, Option, Some, List, IfSome, refl, subst}
use Rattle.std.specs.Io.KnownBytes.{Consumes, IsAtEnd}
use Rattle.std.proofs.KnownBytes.{Consumes-whole}
use Rattle.lines_core.specs.Lines.{whole_lines}
use Rattle.lines_core.proofs.LineLemmas.{whole_lines-Cut}
use Rattle.folder_core.specs.Disk.{File}
use Rattle.folder_core.specs.Texts.{file_text, part_text, AreLines}
use Rattle.recovery_core.specs.Reading.{as_read}

-- what is read to its end is all that there was
pub all_read : (left left' : Option (List ℕ)) (bytes text : List ℕ) → left ≡ Some text → Consumes left left' bytes → IsAtEnd left' → bytes ≡ text
all_read left left' bytes text is read end =
    subst (λ (o : Option (List ℕ)). IfSome o (λ xs. bytes ≡ xs)) is (Consumes-whole left left' bytes (λ xs. bytes ≡ xs) read end refl)

-- the lines of a file whose line feed has come
pub lines_read : (file : File (List ℕ)) → AreLines file.lines file.part → whole_lines (file_text file) ≡ as_read file.lines
lines_read file are = whole_lines-Cut (file_text file) file.lines (part_text file.part) (record { whole = refl; each = are.0; open_rest = are.1 })
