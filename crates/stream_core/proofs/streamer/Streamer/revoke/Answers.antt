use Rattle.stream_core.proofs.Entered.{allowed-here, refused-here, entered, tells-losses}
use Rattle.stream_core.proofs.streamer.Streamer.revoke.Goals as goal

pub returns-in-Err : goal.returns-in-Err
returns-in-Err c =
    let i = c.self.inside in
    let old = c.args.self.now in
    let allowed = allowed-here i.untold i.standings.items i.system i.stop i.from old c.self.view_is c.requires.open c.self.invariant c.args.entry c.requires.allowed in
    refused-here i.untold i.standings.items i.system i.stop i.from old c.self.view_is c.requires.open c.self.invariant c.args.entry c.change.new.self c.moment-at.result c.to_change.result c.stop_for.new.stop
    c.requires.change allowed c.moment-at.ensures c.to_change.ensures c.in-Err.ensures c.stop_for.ensures

pub returns-in-Ok : goal.returns-in-Ok
returns-in-Ok c =
    let i = c.self.inside in
    let old = c.args.self.now in
    let new = c.change.new.self in
    let allowed = allowed-here i.untold i.standings.items i.system i.stop i.from old c.self.view_is c.requires.open c.self.invariant c.args.entry c.requires.allowed in
    let tells = tells-losses i.untold i.standings.items i.system i.stop i.from old c.self.view_is c.requires.open c.self.invariant c.args.entry new c.deref.result.now c.in-Ok.text.items c.deref.ensures.value c.requires.takes c.in_default.ensures.2 c.in-Ok.ensures.text in
    entered i.untold i.standings.items i.system i.stop i.from old c.self.view_is c.requires.open c.self.invariant c.args.entry c.in-Ok.text new c.requires.change allowed c.in_default.ensures.2 tells
