-- The history of a server in its folder: the journal since its first start, and dumps of it.
use Rattle.std.specs.Prelude.{◌≡◌, ◌≤◌, ℕ, List, [], ◌∷◌, length, take}
use Rattle.std.proofs.Common.{refl, ap, arith}
use Rattle.std.specs.List.{AllByRecursion}
use Rattle.base_core.specs.Full.{IsFullBut}
use Rattle.base_core.specs.declared.limits.Limits.{Limits}
use Rattle.system_core.specs.Journal.{IsLawful}
use Rattle.system_core.specs.declared.machine.event.Entry.{Entry}
use Rattle.journal_core.specs.Text.{journal_lines, WasRead}
use Rattle.dump_core.specs.Dump.{dump}
use Rattle.dump_core.specs.Laws.{AreLawfulAlike}
use Rattle.folder_core.specs.Serving.{crashed, Reaches}
use Rattle.folder_core.specs.Calls.{TextState}
use Rattle.recovery_core.specs.declared.recovered.Recovered.{Recovered}
use Rattle.recovery_core.specs.Recovered.{MakesCore}

-- the limits that no core's are above
abbrev pub IsGreatest : Limits → Type 0
IsGreatest limits = IsFullBut 1000000000 limits

-- These entries may be a history: each of them was read from a line, and was allowed where it stands; and no
-- dump of a front of it has more statements than there may be changes.
pub record IsHistory (most : Limits) (entries : List Entry) : Type 0 where
  pub greatest : IsGreatest most
  pub lawful : IsLawful most entries
  pub read : AllByRecursion WasRead entries
  pub few : (count : ℕ) → length (dump (take count entries)) ≤ most.changes

-- these lines are those of the entries' dump, each of which was read from a line
pub record AreLinesOfDump (entries : List Entry) (dumped : List (List ℕ)) : Type 0 where
  pub lines : dumped ≡ journal_lines (dump entries)
  pub read : AllByRecursion WasRead (dump entries)

-- of which history the first lines may be those, the second lines are those of its dump
abbrev pub IsDumpOfHistory : List (List ℕ) → List (List ℕ) → Type 0
IsDumpOfHistory front dumped =
    (most : Limits) (entries : List Entry)
    → IsHistory most entries
    → front ≡ journal_lines entries
    → AreLinesOfDump entries dumped

-- no change is dumped by no line
pub nothing_dumped : IsDumpOfHistory [] []
nothing_dumped most [] history lines = record { lines = refl; read = tt }
nothing_dumped most (e ∷ es) history lines = absurd (let n = ap length lines in omega arith)

-- **What a start restores is the history, up to some change that is at least the last told one.** Where the lines
-- up to there are those of these entries, the core leaves what they leave: so it judges and answers as they do.
pub record IsHistoryUpTo (most : Limits) (entries : List Entry) (r : Recovered) (s : TextState) : Type 0 where
  pub alike : AreLawfulAlike most entries r.system.journal
  pub all_told : s.told ≤ r.at

abbrev pub RestoresHistory : Type 0
RestoresHistory =
    (chunk : ℕ) (limits most : Limits) (r : Recovered) (s : TextState) (entries : List Entry)
    → Reaches IsDumpOfHistory s
    → s.phase ≡ crashed
    → MakesCore chunk limits r s
    → IsHistory most entries
    → take r.at s.journal ≡ journal_lines entries
    → IsHistoryUpTo most entries r s
