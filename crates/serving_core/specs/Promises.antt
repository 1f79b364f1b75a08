-- What the threads of a server promise.
use Rattle.std.specs.Prelude.{◌≡◌, List}
use Rattle.std.specs.declared.snapshot.Snapshot.{Snapshot}
use Rattle.system_core.specs.World.{World}
use Rattle.system_core.specs.declared.machine.event.Entry.{Entry}
use Rattle.desk_core.specs.Guarded.{DeskLock}
use Rattle.door_core.specs.Entrance.{Admittance}
use Rattle.server_core.specs.Sessions.{IsNew, IsTenders, IsCheckpointers}
use Rattle.serving_core.specs.declared.own_passes.OwnPasses.{OwnPasses}
use Rattle.serving_core.specs.declared.threads.Works.{Works}

-- the promise is of a worker of this desk, which was built on this world, and of this entrance
abbrev pub IsOfServer : {K M : Type 0} → DeskLock K → Snapshot World → Admittance
    → Works K M → Type 0
IsOfServer desk begun by promise =
    (promise.0.now ≡ desk) × (promise.1.now ≡ begun) × (promise.2.now ≡ by)

-- nothing was done yet through the passes of a server's own threads
abbrev pub AreNew : {K : Type 0} → List Entry → DeskLock K → OwnPasses K → Type 0
AreNew journal desk own = IsNew journal desk own.tender × IsNew journal desk own.checkpointer

-- through one of them what is kept was tended, and through the other checkpoints were looked after
abbrev pub AreOwn : {K : Type 0} → List Entry → DeskLock K → OwnPasses K → Type 0
AreOwn journal desk own =
    IsTenders journal desk own.tender × IsCheckpointers journal desk own.checkpointer
