-- What a start restores of a folder: a core whose journal the lines of the newest dump and of the
-- pieces behind it load.
use Rattle.std.specs.Prelude.{◌≡◌, ◌≤◌, ◌+◌, ℕ, List, [], length, take, None}
use Rattle.std.specs.List.{All}
use Rattle.base_core.specs.declared.limits.Limits.{Limits}
use Rattle.system_core.specs.declared.machine.event.Entry.{Entry}
use Rattle.load_core.specs.Loading.{world_with}
use Rattle.folder_core.specs.FileNames.{piece}
use Rattle.folder_core.specs.Restoring.{HasNone, Restores}
use Rattle.folder_core.specs.Serving.{starting, serving}
use Rattle.folder_core.specs.Calls.{TextState, part_at}
use Rattle.recovery_core.specs.declared.recovered.Recovered.{Recovered}
use Rattle.recovery_core.specs.Reading.{LoadsLines}

-- the lines of a dump load a journal, and those behind it lead from there to this one
pub record LoadBoth (limits : Limits) (base behind : List (List ℕ)) (journal : List Entry) : Type 0 where
  pub start : List Entry
  pub loads_base : LoadsLines limits [] base start
  pub loads_behind : LoadsLines limits start behind journal

-- what stands in the folder makes this core, and nothing else
pub record MakesCore (chunk : ℕ) (limits : Limits) (r : Recovered) (s : TextState) : Type 0 where
  pub base : List (List ℕ)
  pub behind : List (List ℕ)
  pub restores : Restores s.disk r.point r.resumes base behind
  pub at_is : r.at ≡ r.point + length behind
  pub load : LoadBoth limits base behind r.system.journal
  pub world_is : r.system ≡ world_with chunk limits r.system.journal

-- From one state of the folder to the other: the journal is cut to so many changes, which are all that
-- were told, and goes on behind them in a piece of its own, in which nothing stands yet. The newest dump is of
-- that point, and resumes with that piece.
pub record GoesOnFrom (point resumes at : ℕ) (s t : TextState) : Type 0 where
  pub goes_on : t.phase ≡ serving at None
  pub no_part : part_at t.phase t.disk ≡ []
  pub base_is : t.base ≡ point
  pub resumes_is : t.resumes ≡ resumes
  pub journal_is : t.journal ≡ take at s.journal
  pub count_is : length t.journal ≡ at
  pub same_told : t.told ≡ s.told
  pub all_told : s.told ≤ at

-- from one state of the folder on a start restored this core, and left the other state
abbrev pub Recovers : ℕ → Limits → Recovered → TextState → TextState → Type 0
Recovers chunk limits r s t = MakesCore chunk limits r s × GoesOnFrom r.point r.resumes r.at s t

-- ---- while the folder is made ready
-- it starts, with a journal of at most so many changes
pub record IsStartingWith (at : ℕ) (s : TextState) : Type 0 where
  pub starts : s.phase ≡ starting
  pub few : length s.journal ≤ at

-- A start goes on from this state of the folder, and has come to the other: of these pieces those at the end
-- of the journal or behind it are removed, and no name names a piece that did not before.
pub record Clears (at : ℕ) (points : List ℕ) (s t : TextState) : Type 0 where
  pub starts : t.phase ≡ starting
  pub journal_is : t.journal ≡ s.journal
  pub same_told : t.told ≡ s.told
  pub same_base : (t.base ≡ s.base) × (t.resumes ≡ s.resumes)
  pub gone : All (λ point. at ≤ point → HasNone t.disk (piece point)) points
  pub no_more : (point : ℕ) → HasNone s.disk (piece point) → HasNone t.disk (piece point)
