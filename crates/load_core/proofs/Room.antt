-- No journal that is loaded is longer than the limit.
use Rattle.std.proofs.Common.{◌≡◌, ℕ, ◌+◌, ◌<◌, ◌≤◌, List, [], ◌∷◌, ◌++◌, length, ap, arith, length-append}
use Rattle.base_core.specs.declared.limits.Limits.{Limits}
use Rattle.system_core.specs.Journal.{state_of}
use Rattle.system_core.specs.declared.machine.event.Entry.{Entry}
use Rattle.system_core.proofs.Keeping.{room}
use Rattle.load_core.specs.Loading.{Loads}

pub Loads-few : (limits : Limits) (before : List Entry) (ls : List (List ℕ)) (after : List Entry) → length before ≤ limits.changes → Loads limits before ls after → length after ≤ limits.changes
Loads-few limits before [] after few p = omega (arith, ap length p)
Loads-few limits before (line ∷ ls) after few (e, says, more) =
    let here : length before < limits.changes = room (state_of limits before) e.user e.statement says.change says.allowed in
    Loads-few limits (before ++ e ∷ []) ls after (omega (arith, length-append before (e ∷ []))) more

-- each line is one entry
pub Loads-count : (limits : Limits) (before : List Entry) (ls : List (List ℕ)) (after : List Entry) → Loads limits before ls after → length after ≡ length before + length ls
Loads-count limits before [] after p = omega (arith, ap length p)
Loads-count limits before (line ∷ ls) after (e, says, more) =
    omega (arith, Loads-count limits (before ++ e ∷ []) ls after more, length-append before (e ∷ []))
