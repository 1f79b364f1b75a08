-- How a client comes in that has named a user.
use Rattle.std.specs.Prelude.{Option, Some, None, if◌then◌else◌}
use Rattle.base_core.specs.Words.{same_name}
use Rattle.base_core.specs.declared.name.Name.{Name}
use Rattle.session_core.specs.declared.admission.Admission.{Admission}
use Rattle.session_core.specs.declared.admission.Admission.TheVariants as admissions
use Rattle.entry_core.specs.declared.entry.Entry.{Entry}
use Rattle.entry_core.specs.declared.entry.Entry.TheVariants as entries

-- What comes of it, by how sessions come by their users: anyone is welcome as who he says; where it is known
-- who he is, he alone; otherwise he has to log in. Who names nobody may not come in.
abbrev pub entry_of : Admission → Option Name → Entry
entry_of admission None = entries.Refused
entry_of admissions.Anyone (Some name) = entries.Welcome (record { 0 = name })
entry_of (admissions.Known user) (Some name) =
    if same_name user.0 name then entries.Welcome user else entries.Refused
entry_of (admissions.Login file secret own) (Some name) = entries.Login name
