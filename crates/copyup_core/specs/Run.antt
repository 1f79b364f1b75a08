-- What the steps of a capture give over a whole run of calls.
use Rattle.std.specs.Prelude.{ℕ, Bool, List, [], ◌++◌, take}
use Rattle.copyup_core.specs.Holding.{Holding, due}
use Rattle.copyup_core.specs.Calls.{pushed, replaced, removed, retained, stepped}

-- calls, one after the other, lead from one store to another, and the steps among them give these
-- items; how many pushes have their room does not matter
pub data Leads {V : Type 0} (first : Holding V) : List (ℕ × V) → Holding V → Type 0 where
  nothing : Leads first [] first
  push : {given : List (ℕ × V)} {h : Holding V} → (v : V) (spare : ℕ) → Leads first given h → Leads first given (record (pushed v h) { spare = spare })
  replace : {given : List (ℕ × V)} {h : Holding V} → (n : ℕ) (v : V) (spare : ℕ) → Leads first given h → Leads first given (record (replaced n v h) { spare = spare })
  remove : {given : List (ℕ × V)} {h : Holding V} → (n : ℕ) (spare : ℕ) → Leads first given h → Leads first given (record (removed n h) { spare = spare })
  retain : {given : List (ℕ × V)} {h : Holding V} → (keeps : V → Bool) (spare : ℕ) → Leads first given h → Leads first given (record (retained keeps h) { spare = spare })
  step : {given : List (ℕ × V)} {h : Holding V} → (k : ℕ) → Leads first given h → Leads first (given ++ take k (due h)) (stepped k h)
