use Rattle.std.proofs.Common.{ℕ, List, None, sym, subst}
use Rattle.lines_core.specs.Serving.{traffic_of}
use Rattle.wire_core.specs.State.{ClientState, WireState}
use Rattle.wire_core.specs.Coming.{HasAnswered}
use Rattle.wire_core.proofs.Going.{come_first}
use Rattle.wire_core.proofs.wire_session.WireSessionSessionMachine.new.Goals as goal

pub returns-clause-come : goal.returns-clause-come
returns-clause-come g c = λ desk admission left taken.
    subst (λ (k : List ℕ). HasAnswered desk admission (record { kept = k; unread = 4294967296; client = c.in_ok-client.client.state; sending = c.in_ok-client.client.sending; note = None }) (traffic_of left left taken taken)) (sym c.new-2.ensures.items)
    (come_first desk admission c.in_ok-client.client.state c.in_ok-client.client.sending left taken c.in_ok-client.ensures.state c.in_ok-client.ensures.sending)
