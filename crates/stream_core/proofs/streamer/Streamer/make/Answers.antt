use Rattle.stream_core.proofs.Entered.{allowed-here, refused-here}
use Rattle.stream_core.proofs.streamer.Streamer.make.Goals as goal

pub foretold_text-requires-clause-allowed : goal.foretold_text-requires-clause-allowed
foretold_text-requires-clause-allowed c =
    let i = c.self.inside in
    allowed-here i.untold i.standings.items i.system i.stop i.from c.args.self.now c.self.view_is c.requires.open c.self.invariant c.args.entry c.requires.allowed

pub change-requires-clause-allowed : goal.change-requires-clause-allowed
change-requires-clause-allowed c =
    let i = c.self.inside in
    allowed-here i.untold i.standings.items i.system i.stop i.from c.args.self.now c.self.view_is c.requires.open c.self.invariant c.args.entry c.requires.allowed

pub returns : goal.returns
returns c =
    let i = c.self.inside in
    let old = c.args.self.now in
    let allowed = allowed-here i.untold i.standings.items i.system i.stop i.from old c.self.view_is c.requires.open c.self.invariant c.args.entry c.requires.allowed in
    refused-here i.untold i.standings.items i.system i.stop i.from old c.self.view_is c.requires.open c.self.invariant c.args.entry c.change.new.self c.moment-at.result c.to_change.result c.stop_for-in-Err.new.stop
    c.requires.change allowed c.moment-at.ensures c.to_change.ensures c.in-Err.ensures c.stop_for-in-Err.ensures
