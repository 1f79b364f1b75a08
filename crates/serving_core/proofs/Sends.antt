-- What the threads of a server take and share may cross to them, where the keeper may.
use denote.RattleType.{RattleType}
use denote.Ref.{NamedLft}
use denote.Param.Send.{IsSend, IsSync, sendable}
use denote.Param.SendFields.{declared_send, declared_sync, variants_send}
use Rattle.std.proofs.Crossing.{crosses}
use Rattle.std.specs.declared.sync.ledger.Ledger as ledger
use Rattle.std.proofs.sync.ledger.Share.TheSendSync as share
use Rattle.journal_core.specs.declared.keeper.Keeper as keeper
use Rattle.system_core.proofs.machine.system.System.TheSendSync as system
use Rattle.turnstile.proofs.turnstile.Turnstile.TheSendSync as turnstile
use Rattle.turnstile.proofs.pass.Pass.TheSendSync as pass
use Rattle.turnstile.proofs.pass.Note.TheSendSync as notes
use Rattle.base_core.proofs.name.User.TheSendSync as users
use Rattle.base_core.proofs.value.Moment.TheSendSync as moments
use Rattle.desk_core.specs.contracts.object.Basis as Basis
use Rattle.desk_core.specs.contracts.object.Core as Core
use Rattle.desk_core.specs.contracts.desk.Desk as Desk
use Rattle.door_core.proofs.door.Door.TheSendSync as door
use Rattle.door_core.proofs.entrance.Entrance.TheSendSync as entrances
use Rattle.door_core.proofs.manners.Manners.TheSendSync as manners
use Rattle.door_core.specs.contracts.door.Door as Door
use Rattle.server_core.proofs.room.Room.TheSendSync as rooms
use Rattle.server_core.proofs.connection.Connection.TheSendSync as connections
use Rattle.server_core.proofs.sign.Sign.TheSendSync as signs
use Rattle.server_core.proofs.permits.Permits.TheSendSync as permits
use Rattle.server_core.proofs.counters.Counters.TheSendSync as counters
use Rattle.server_core.proofs.bell.Bell.TheSendSync as bells
use Rattle.server_core.proofs.idle.Idle.TheSendSync as idles
use Rattle.lines_core.proofs.feeding.Feeding.TheSendSync as feedings
use Rattle.login_core.proofs.beginning.Beginning.TheSendSync as beginnings
use Rattle.reply_core.proofs.pending.Pending.TheSendSync as pendings
use Rattle.session_core.proofs.summary.Summary.TheSendSync as summaries
use Rattle.session_core.proofs.admission.Admission.TheSendSync as admissions
use Rattle.session_core.specs.contracts.parked.Parked as Parked
use Rattle.wire_core.proofs.client.Client.TheSendSync as clients
use Rattle.wire_core.specs.contracts.wire_session.WireSession as WireSession
use Rattle.session_core.specs.declared.session_machine.SessionMachine as machine
use Rattle.server_core.specs.declared.instance.Instance as instance
use Rattle.server_core.specs.contracts.instance.AtSite as AtSite
use Rattle.server_core.specs.contracts.parked_session.ParkedSession as ParkedSession
use Rattle.server_core.specs.contracts.guest.Guest as Guest
use Rattle.server_core.specs.contracts.guest.Stage as Stage
use Rattle.server_core.specs.contracts.sessions.Sessions as Sessions
use Rattle.server_core.specs.contracts.service.Service as Service
use Rattle.server_core.specs.contracts.syncing.Progress as Progress
use Rattle.server_core.specs.contracts.syncing.Standing as Standing
use Rattle.server_core.specs.contracts.syncing.Syncing as Syncing
use Rattle.journal_core.specs.declared.syncs.Syncs as syncs
use Rattle.server_core.specs.contracts.worker.Worker as Worker

basis_send : (K : RattleType) → IsSend (Basis.the_row K)
basis_send K = search (sendable, crosses) depth 20

pub core_send : (K : RattleType) (k : keeper.Ghosts K.Denot) → IsSend K → IsSend (Core.the_row K k)
core_send K k s = let basis = basis_send K in search (sendable, crosses, system.the_send) depth 30

pub desk_sync : (K : RattleType) (k : keeper.Ghosts K.Denot) → IsSend K → IsSync (Desk.the_row K k)
desk_sync K k s = let core = core_send K k s in search (sendable, crosses, turnstile.the_sync) depth 20

pub worker_send : (K L : RattleType) (k : keeper.Ghosts K.Denot) (l : ledger.Ghosts L.Denot) → IsSend K → IsSend (Worker.the_row K L k l)
worker_send K L k l s = let core = core_send K k s in search (sendable, crosses, pass.the_send, share.the_send, rooms.the_send) depth 60 fits 20000

pub door_send : (L : RattleType) (l : ledger.Ghosts L.Denot) → IsSend (Door.the_row L l)
door_send L l = door.the_send L l

pub parked_send : (K : RattleType) (k : keeper.Ghosts K.Denot) → IsSend K → IsSend (Parked.the_row K k)
parked_send K k s =
    let core = core_send K k s in
    search (sendable, crosses, notes.the_send, feedings.the_send, beginnings.the_send, pendings.the_send, users.the_send, moments.the_send) depth 60 fits 20000

pub wire_send : (K : RattleType) (k : keeper.Ghosts K.Denot) → IsSend K → IsSend (WireSession.the_row K k)
wire_send K k s =
    let core = core_send K k s in
    search (sendable, crosses, notes.the_send, clients.the_send) depth 60 fits 20000

pub at_site_send : (S M Y : RattleType) → IsSend S → IsSend M → IsSend Y → IsSend (AtSite.the_row S M Y)
at_site_send S M Y s m y = search (sendable, crosses) depth 60 fits 20000

-- what waits in a server whose sessions are such machines
module _ (K I M Y : RattleType) (k : keeper.Ghosts K.Denot) (send_keeper : IsSend K) (send_instance : IsSend I) (send_machine : IsSend M) (sync_syncer : IsSync Y)
    (i : instance.Ghosts I.Denot K.Denot M.Denot Y.Denot) (m : machine.Ghosts M.Denot K.Denot) (y : syncs.Ghosts Y.Denot K.Denot) where
  session_send : IsSend (ParkedSession.the_row K I M Y k i m y)
  session_send = search (sendable, crosses, admissions.the_send) depth 60 fits 20000

  stage_send : IsSend (Stage.the_row K I M Y k i m y)
  stage_send = let session = session_send in search (sendable, crosses, variants_send, pendings.the_send, summaries.the_send) depth 60 fits 20000

  guest_send : IsSend (Guest.the_row K I M Y k i m y)
  guest_send = let stage = stage_send in search (sendable, crosses, declared_send, connections.the_send) depth 60 fits 20000

  sessions_sync : IsSync (Sessions.the_row K I M Y k i m y)
  sessions_sync = let guest = guest_send in search (sendable, crosses) depth 60 fits 20000

  progress_send : IsSend (Progress.the_row K I M Y k i m y)
  progress_send = let core = core_send K k send_keeper in search (sendable, crosses, declared_send, notes.the_send) depth 60 fits 20000

  standing_send : IsSend (Standing.the_row K I M Y k i m y)
  standing_send = let progress = progress_send in search (sendable, crosses, declared_send) depth 60 fits 20000

  syncing_sync : IsSync (Syncing.the_row K I M Y k i m y)
  syncing_sync = let standing = standing_send in search (sendable, crosses, declared_sync) depth 60 fits 20000

  pub service_sync : (entrance : NamedLft) → IsSync (Service.the_row entrance K I M Y k i m y)
  service_sync entrance =
      let sessions = sessions_sync in
      let syncing = syncing_sync in
      search (sendable, crosses, declared_sync, entrances.the_sync, signs.the_sync, permits.the_sync, counters.the_sync, bells.the_sync, idles.the_sync, manners.the_sync) depth 60 fits 20000
