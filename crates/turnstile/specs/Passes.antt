-- What contracts see of a turnstile, of a pass and of a note.
use Rattle.std.specs.Prelude.{◌≡◌, ℕ, zero, suc, List, [], ◌∷◌, Option, Some}
use Rattle.atomic_table.specs.Seated.{TableId}
use Rattle.turnstile.specs.Logs.{own}

-- which turnstile it is: no two that stand at one time have the same
abbrev pub Identity : Type 0
Identity = TableId

-- A turnstile: which one it is, how many passes it has, what its turns are counted from, and its
-- object's fixed part.
pub record TurnstileState (F : Type 0) : Type 0 where
  pub identity : Identity
  pub count : ℕ
  pub start : ℕ
  pub fixed : F

-- A pass: whose it is, its number, the beginning of the history that it has seen, a lower bound of
-- the object's mark, how many turns it drew, and a lower bound of how many turns are drawn, counted
-- from the start.
pub record PassState (E F : Type 0) : Type 0 where
  pub lock : Option (TurnstileState F)
  pub number : ℕ
  pub seen : List E
  pub mark : ℕ
  pub turns : ℕ
  pub drawn : ℕ

-- A note: whose it is, and what the pass that gave it had seen.
pub record Told (E F : Type 0) : Type 0 where
  pub lock : Option (TurnstileState F)
  pub seen : List E
  pub mark : ℕ

-- what the pass made: the entries of what it has seen that bear its number
abbrev pub mine : {E F : Type 0} → (E → ℕ) → PassState E F → List E
mine by p = own by p.number p.seen

-- it is the same pass of the same turnstile
abbrev pub IsSamePass : {E F : Type 0} → PassState E F → PassState E F → Type 0
IsSamePass old new = (new.lock ≡ old.lock) × (new.number ≡ old.number)

-- n new passes, numbered from p on, which have seen this log and drawn no turn
abbrev pub passes_from : {E F : Type 0} → List E → TurnstileState F → ℕ → ℕ → List (PassState E F)
passes_from log l p zero = []
passes_from log l p (suc n) =
    record { lock = Some l; number = p; seen = log; mark = 0; turns = 0; drawn = l.start }
    ∷ passes_from log l (suc p) n

-- all passes of a new turnstile, whose object came with this log
abbrev pub new_passes : {E F : Type 0} → List E → TurnstileState F → List (PassState E F)
new_passes log l = passes_from log l 0 l.count
