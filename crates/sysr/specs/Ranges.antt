-- The numbers of a command line.
use Rattle.std.specs.Prelude.{◌≢◌, ℕ, ◌<◌, ◌≤◌, Option, IfSome}
use Rattle.base_core.specs.Full.{IsFullBut}
use Rattle.base_core.specs.declared.limits.Limits.{Limits}
use Rattle.sysr.specs.declared.command.command_line.CommandLine.{CommandLine}
use Rattle.sysr.specs.declared.command.command_line.CommandLine.TheVariants as asked
use Rattle.sysr.specs.declared.command.command_line.Serving.{Serving}

-- as many records as a step of the checkpointer may take
abbrev pub IsChunk : ℕ → Type 0
IsChunk chunk = (0 < chunk) × (chunk ≤ 64)

-- full limits, but of changes as many as are asked for, of which there is one at least
abbrev pub AreAsked : Limits → Type 0
AreAsked limits = IsFullBut limits.changes limits × (0 < limits.changes)

-- the seconds after which an idle session ends, if they are given
abbrev pub IsIdle : Option ℕ → Type 0
IsIdle idle = IfSome idle (λ seconds. (0 < seconds) × (seconds ≤ 86400))

-- how many sessions may be open at once, if that is given
abbrev pub IsMostSessions : Option ℕ → Type 0
IsMostSessions most = IfSome most (λ n. (0 < n) × (n ≤ 1000000))

-- a port at which sessions come in, if one is given
abbrev pub IsPort : Option ℕ → Type 0
IsPort port = IfSome port (λ p. (0 < p) × (p ≤ 65535))

-- two ports, if both are given, are not the same
abbrev pub AreApart : Option ℕ → Option ℕ → Type 0
AreApart port other = IfSome port (λ p. IfSome other (λ q. p ≢ q))

-- the moment that is asked for, if one is
abbrev pub IsMoment : Option ℕ → Type 0
IsMoment at = IfSome at (λ m. m ≤ 1000000000)

-- each number that is asked of a server is in its range, and its two ports are apart
abbrev pub ServesInRange : Serving → Type 0
ServesInRange s =
    IsPort s.port
    × IsPort s.pg_port
    × AreApart s.port s.pg_port
    × ((0 < s.workers) × (s.workers ≤ 16))
    × (0 < s.sessions)
    × IsChunk s.chunk
    × AreAsked s.limits
    × IsIdle s.idle
    × IsMostSessions s.max_sessions
    × (s.grace ≤ 86400)

-- each number that is asked for is in its range, and two ports are apart
abbrev pub IsInRange : CommandLine → Type 0
IsInRange (asked.Run r) = IsChunk r.chunk × AreAsked r.limits
IsInRange (asked.Journal folder reading) = AreAsked reading.limits
IsInRange (asked.Dump load folder reading) = AreAsked reading.limits
IsInRange (asked.Stream folder limits from) = AreAsked limits
IsInRange (asked.Serve s sockets) = ServesInRange s
IsInRange (asked.Verifier user) = Unit {0}
IsInRange (asked.Stop control) = Unit {0}
IsInRange (asked.Status control form) = Unit {0}
IsInRange (asked.Reload control) = Unit {0}
IsInRange (asked.Explain e) = IsMoment e.at × AreAsked e.reading.limits
