use Rattle.std.proofs.Common.{◌≡◌, ◌<◌, List, ℕ, Some, None, length, ap, sym, subst, ◌∙◌, arith}
use Rattle.system_core.specs.World.{World, with_entry}
use Rattle.load_core.specs.Loader.{EntersUpTo}
use Rattle.load_core.specs.Replayer.{ReplayerState, line_behind, passing, undone_noted, TakesLine}
use Rattle.load_core.proofs.ReplayEnds.{takes_undone, takes_entered}
use Rattle.load_core.proofs.replayer.Replayer.take.Goals as goal

pub returns-in-None : goal.returns-in-None
returns-in-None c =
    let i = c.self.inside in
    let before : ReplayerState = record { manner = i.manner; world = i.system; numbers = i.lines.items; left_out = i.left_out; first_left_out = i.first_left_out; count = i.count; stop = i.stop } in
    let line : List ℕ = c.line_behind-line.result.now in
    let new = c.note_entered.new.self in
    let few : length i.system.journal < i.manner.most = omega (arith, ap (λ m. m.0) c.moment.ensures, c.if-moment-self.false) in
    let came = subst (λ m. EntersUpTo m i.system line None c.enter_line.new.system) c.longest-most.ensures c.in-None.ensures in
    let mid : ReplayerState = record (passing before) { world = c.enter_line.new.system } in
    let is : mid ≡ record (passing before) { world = with_entry i.system came.0 } = ap (λ (w : World). record (passing before) { world = w }) came.2 in
    let taken : TakesLine before line new = takes_entered before line few came.0 mid new came.1 is c.note_entered.ensures in
    subst (λ (p : ReplayerState). TakesLine p (line_behind p.count c.args.line.now) new) c.self.view_is
    (subst (λ (l : List ℕ). TakesLine before l new) c.line_behind-line.ensures taken)

pub returns-in-Some : goal.returns-in-Some
returns-in-Some c =
    let i = c.self.inside in
    let before : ReplayerState = record { manner = i.manner; world = i.system; numbers = i.lines.items; left_out = i.left_out; first_left_out = i.first_left_out; count = i.count; stop = i.stop } in
    let line : List ℕ = c.line_behind-line.result.now in
    let new = c.note_undone.new.self in
    let why = c.in-Some.why in
    let few : length i.system.journal < i.manner.most = omega (arith, ap (λ m. m.0) c.moment.ensures, c.if-moment-self.false) in
    let came = subst (λ m. EntersUpTo m i.system line (Some why) c.enter_line.new.system) c.longest-most.ensures c.in-Some.ensures in
    let taken = takes_undone before line few why came.0 in
    let same : new ≡ undone_noted (passing before) why = c.note_undone.ensures ∙ ap (λ (w : World). undone_noted (record (passing before) { world = w }) why) came.1 in
    subst (λ (p : ReplayerState). TakesLine p (line_behind p.count c.args.line.now) new) c.self.view_is
    (subst (λ (l : List ℕ). TakesLine before l new) c.line_behind-line.ensures (subst (λ (p : ReplayerState). TakesLine before line p) (sym same) taken))
