-- Numbers that fit into a name.
use Rattle.std.specs.Prelude.{◌≤◌, ℕ, Bool, nat_eq}
use Rattle.directory_core.specs.declared.names.FileName.{FileName}
use Rattle.directory_core.specs.declared.names.FileName.TheVariants as names
use Rattle.folder_core.specs.declared.errand.NamesSynced.{NamesSynced}

-- its numbers have ten digits at most
abbrev pub IsSmall : FileName → Type 0
IsSmall (names.Dump point resumes) = (point ≤ 9999999999) × (resumes ≤ 9999999999)
IsSmall (names.Piece point) = point ≤ 9999999999

-- names have changed so often, and were synced since
abbrev pub are_names : ℕ → NamesSynced → Bool
are_names names synced = nat_eq synced.names names
