use Rattle.std.proofs.Common.{◌≡◌, List, ℕ, refl, subst}
use Rattle.lines_core.specs.declared.line.TheConstants.{LONGEST_LINE}
use Rattle.script_core.specs.Addressed.{Asks}
use Rattle.system_core.specs.World.{entry}
use Rattle.load_core.specs.Loading.{SaysEntry}
use Rattle.load_core.specs.Loader.{line_at}
use Rattle.stream_core.specs.Streamer.{EntersTelling, StreamerState}
use Rattle.stream_core.proofs.Entered.{line-here, line-stopped, line-told}
use Rattle.stream_core.proofs.streamer.Streamer.take.Goals as goal

pub returns-in-Ok-clause-told : goal.returns-in-Ok-clause-told
returns-in-Ok-clause-told c =
    let i = c.self.inside in
    let old = c.args.self.now in
    let e = entry 0 c.in-Ok.user c.in-Ok.statement in
    let line : List ℕ = line_at old.world.journal c.args.line.now in
    let read : c.line_at-line.result.now ≡ line = line-here i.untold i.standings.items i.system i.stop i.from old c.self.view_is c.requires c.self.invariant c.args.line.now c.line_at-line.result.now c.line_at-line.ensures in
    let says : SaysEntry LONGEST_LINE line e = record { asks = subst (λ l. Asks LONGEST_LINE l e.user e.statement) read c.in-Ok.ensures.asks; pass = refl } in
    line-told old c.enter.new.self e line says c.enter.result c.requires (subst (λ (s : StreamerState). EntersTelling s e c.enter.result c.enter.new.self) c.self.view_is c.enter.ensures)

pub returns-in-Ok-clause-stopped : goal.returns-in-Ok-clause-stopped
returns-in-Ok-clause-stopped c =
    let i = c.self.inside in
    let old = c.args.self.now in
    let e = entry 0 c.in-Ok.user c.in-Ok.statement in
    let line : List ℕ = line_at old.world.journal c.args.line.now in
    let read : c.line_at-line.result.now ≡ line = line-here i.untold i.standings.items i.system i.stop i.from old c.self.view_is c.requires c.self.invariant c.args.line.now c.line_at-line.result.now c.line_at-line.ensures in
    let says : SaysEntry LONGEST_LINE line e = record { asks = subst (λ l. Asks LONGEST_LINE l e.user e.statement) read c.in-Ok.ensures.asks; pass = refl } in
    line-stopped old c.enter.new.self e line says c.enter.result (subst (λ (s : StreamerState). EntersTelling s e c.enter.result c.enter.new.self) c.self.view_is c.enter.ensures)
