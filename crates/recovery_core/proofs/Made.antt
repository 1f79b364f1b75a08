-- Cores that lines made.
use Rattle.std.proofs.Common.{◌≡◌, ℕ, Option, Result, Ok, Err, IfOk, List, refl, subst, sym, ◌∙◌, ap}
use Rattle.std.specs.Prelude.{drop}
use Rattle.base_core.specs.declared.limits.Limits.{Limits}
use Rattle.lines_core.specs.Lines.{whole_lines}
use Rattle.system_core.specs.World.{World, opening}
use Rattle.load_core.specs.declared.behind.LoadedBehind.{LoadedBehind}
use Rattle.load_core.specs.Loader.{lines_at}
use Rattle.load_core.specs.Skipping.{EndsBehind}
use Rattle.load_core.proofs.Again.{loaded_said}
use Rattle.recovery_core.specs.Reading.{IsMade, IsMadeWith, IsWithJournal}

pub empty_made : (chunk : ℕ) (limits : Limits) (w : World) → w ≡ opening chunk limits → IsMadeWith chunk limits w
empty_made chunk limits w is = subst (IsMadeWith chunk limits) (sym is) (record { world_is = refl; entries = tt }, refl, refl)

-- one that goes on by lines
pub still_made : (begins : World) (skips : ℕ) (b : LoadedBehind) (left left' : Option (List ℕ)) → IsMade begins → EndsBehind begins skips (Ok b) left left' → IsMade b.loaded.system
still_made begins skips b left left' made ends =
    let (bytes, consumed, end, cut, k, loads, same) = ends in
    let journal = b.loaded.system.journal in
    let said = loaded_said begins.limits begins.journal journal (lines_at begins.journal (drop skips (whole_lines bytes))) loads made.entries in
    subst IsMade (sym same) (record { world_is = ap (λ (w : World). record w { journal = journal }) made.world_is; entries = said })

-- with the chunk and the limits that it had
pub made_further : (chunk : ℕ) (limits : Limits) (old new : World) → IsMadeWith chunk limits old → IsMade new → IsWithJournal old new → IsMadeWith chunk limits new
made_further chunk limits old new with_them made same =
    (made, ap (λ (w : World). w.chunk) same ∙ with_them.1, ap (λ (w : World). w.limits) same ∙ with_them.2)
