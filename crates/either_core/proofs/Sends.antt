-- A session of either protocol may cross to another thread, where a core, its keeper and both machines may.
use denote.RattleType.{RattleType}
use denote.Param.Send.{IsSend, sendable}
use denote.Param.SendFields.{variants_send}
use Rattle.std.proofs.Crossing.{crosses}
use Rattle.journal_core.specs.declared.keeper.Keeper as keeper
use Rattle.turnstile.proofs.pass.Note.TheSendSync as notes
use Rattle.desk_core.specs.contracts.object.Core as Core
use Rattle.either_core.specs.contracts.either_session.EitherSession as EitherSession

pub either_send : (K L M : RattleType) (k : keeper.Ghosts K.Denot)
    → IsSend (Core.the_row K k) → IsSend L → IsSend M → IsSend (EitherSession.the_row K L M k)
either_send K L M k core lines messages = search (sendable, crosses, variants_send, notes.the_send) depth 60 fits 20000
