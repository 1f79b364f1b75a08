-- Where a fault is shown.
use Rattle.std.proofs.Common.{◌≡◌, ℕ, List, None, refl}
use Rattle.lexer_core.specs.declared.fault.Code.{Code}
use Rattle.asking_core.specs.declared.asking.Asked.{Asked}
use Rattle.asking_core.specs.declared.asking.Asked.TheVariants as askeds
use Rattle.conversation_core.specs.Telling.{IsAskedPlace}

-- what is not at fault has no place
pub unplaced : (text : List ℕ) (start : ℕ) (statement : List ℕ) (asked : Asked) → ((code : Code) (offset : ℕ) → asked ≡ askeds.Faulty code offset → ⊥)
    → IsAskedPlace text start statement asked None
unplaced text start statement (askeds.Command command) other = refl
unplaced text start statement (askeds.Faulty code offset) other = absurd (other code offset refl)
unplaced text start statement askeds.Unread other = refl
unplaced text start statement (askeds.Barred bar) other = refl
unplaced text start statement (askeds.Told tag reply columns) other = refl
unplaced text start statement askeds.Withheld other = refl
