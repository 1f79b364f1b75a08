-- How a program that answers lines ends: what is told of a fault, and how an audit ends.
use Rattle.std.specs.Prelude.{ℕ, List, ◌++◌, codes, decimal, Option, Some, None}
use Rattle.lines_core.specs.declared.serving.SessionFault.{SessionFault}
use Rattle.lines_core.specs.declared.serving.SessionFault.TheVariants as faults

-- a fault in a word or two
abbrev pub session_fault_name : SessionFault → List ℕ
session_fault_name faults.Read = codes "read"
session_fault_name faults.Write = codes "write"
session_fault_name faults.Bound = codes "bound"
session_fault_name faults.NoMemory = codes "no memory"

-- what is told of a fault that ended the answering of lines
abbrev pub session_fault_text : SessionFault → List ℕ
session_fault_text faults.Read = codes "sysr: read fault"
session_fault_text faults.Write = codes "sysr: write fault"
session_fault_text faults.Bound = codes "sysr: bound reached"
session_fault_text faults.NoMemory = codes "sysr: no memory"

-- the last line of an audit, by the number of grants in force where the rights are those of the journal
abbrev pub audit_line : Option ℕ → List ℕ
audit_line (Some grants) = codes "audit ok " ++ decimal grants ++ codes "\n"
audit_line None = codes "audit failed\n"

-- the exit status of an audit
abbrev pub audit_status : Option ℕ → ℕ
audit_status (Some grants) = 0
audit_status None = 3
