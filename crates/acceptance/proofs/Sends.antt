-- What the threads share and take may cross to them.
use denote.RattleType.{RattleType}
use denote.Param.Send.{IsSend, IsSync, sendable}
use Rattle.std.proofs.Crossing.{crosses}
use Rattle.journal_core.specs.declared.keeper.Keeper as keeper
use Rattle.system_core.proofs.machine.system.System.TheSendSync as system
use Rattle.turnstile.proofs.turnstile.Turnstile.TheSendSync as turnstile
use Rattle.desk_core.specs.contracts.object.Basis as Basis
use Rattle.desk_core.specs.contracts.object.Core as Core
use Rattle.desk_core.specs.contracts.desk.Desk as Desk
use Rattle.journal_core.specs.contracts.keeper.NoKeeper as NoKeeper
use Rattle.journal_core.specs.contracts.keeper.NoKeeperKeeper.TheImpl as no_keeper

basis_send : (K : RattleType) → IsSend (Basis.the_row K)
basis_send K = search (sendable, crosses) depth 20

core_send : (K : RattleType) (k : keeper.Ghosts K.Denot) → IsSend K → IsSend (Core.the_row K k)
core_send K k s = let basis = basis_send K in search (sendable, crosses, system.the_send) depth 30

desk_sync : (K : RattleType) (k : keeper.Ghosts K.Denot) → IsSend K → IsSync (Desk.the_row K k)
desk_sync K k s = let core = core_send K k s in search (sendable, crosses, turnstile.the_sync) depth 20

no_keeper_send : IsSend NoKeeper.the_row
no_keeper_send = search (sendable, crosses) depth 20

pub core_crosses : IsSend (Core.the_row NoKeeper.the_row no_keeper.ghosts)
core_crosses = core_send NoKeeper.the_row no_keeper.ghosts no_keeper_send

pub desk_crosses : IsSync (Desk.the_row NoKeeper.the_row no_keeper.ghosts)
desk_crosses = desk_sync NoKeeper.the_row no_keeper.ghosts no_keeper_send
