-- How the end of a session is named.
use Rattle.std.specs.Prelude.{ℕ, List, codes}
use Rattle.lines_core.specs.Endings.{session_fault_name}
use Rattle.session_core.specs.declared.session_end.SessionEnd.{SessionEnd}
use Rattle.session_core.specs.declared.session_end.SessionEnd.TheVariants as session_ends

abbrev pub end_name : SessionEnd → List ℕ
end_name (session_ends.Session fault) = session_fault_name fault
end_name session_ends.Journal = codes "journal"
