use Rattle.std.proofs.Common.{◌++◌, [], min, drop, ap, sym, subst, ◌∙◌, Option}
use Rattle.std.specs.Option.{unwrap_or}
use Rattle.std.specs.Map.{values_of}
use Rattle.std.proofs.lemmas.List.{drop_min}
use Rattle.copyup_core.specs.Holding.{unfinished}
use Rattle.copyup_core.specs.declared.window.Window.{Window}
use Rattle.copyup_core.specs.Slot.{had_within}
use Rattle.copyup_core.specs.Sound.{IsSoundStore, rest_of}
use Rattle.copyup_core.proofs.Soundness.{sound-stepped, rest-stepped, given-stepped, same_holding}
use Rattle.copyup_core.proofs.store.Store.capture_step.Goals as goal

pub invariant_of-self : goal.invariant_of-self
invariant_of-self g c =
    let s = c.self.inside in
    let xs = s.slots.items in
    let zs = c.forget.new.slots.items in
    let w = c.unwrap-window.result in
    let stop = c.in_ok-stop.stop in
    let given = c.min-given.result in
    let sound = subst (λ (o : Option Window). IsSoundStore xs s.next s.len o) c.unwrap-window.ensures c.self.invariant in
    let e = c.in_ok-stop.ensures in
    rw c.after-self-inside.ensures (sound-stepped xs zs s.next s.len stop given w sound e.stop.0 e.stop.1 c.forget.ensures.keeps c.forget.ensures.outside c.forget.ensures.free e.count)

pub returns-clause-count : goal.returns-clause-count
returns-clause-count g c =
    let s = c.self.inside in
    let sound = subst (λ (o : Option Window). IsSoundStore s.slots.items s.next s.len o) c.unwrap-window.ensures c.self.invariant in
    rw (← c.self.view_is, c.unwrap-window.ensures) (c.min-given.ensures ∙ ap (λ n. min c.args.count n) sound.capture_sound.left)

pub returns-clause-items : goal.returns-clause-items
returns-clause-items g c =
    let s = c.self.inside in
    let xs = s.slots.items in
    let zs = c.forget.new.slots.items in
    let w = c.unwrap-window.result in
    let stop = c.in_ok-stop.stop in
    let given = c.min-given.result in
    let sound = subst (λ (o : Option Window). IsSoundStore xs s.next s.len o) c.unwrap-window.ensures c.self.invariant in
    let e = c.in_ok-stop.ensures in
    let out = c.args.out.now.items in
    rw (← c.self.view_is, c.unwrap-window.ensures) (e.items ∙ ap (λ t. t ++ values_of (had_within w.cursor stop xs)) c.reserve.ensures.items ∙ ap (λ t. out ++ values_of t) (given-stepped xs s.next s.len stop c.args.count given w sound e.stop.0 e.stop.1 e.count c.min-given.ensures))

pub returns-clause-rest : goal.returns-clause-rest
returns-clause-rest g c =
    let s = c.self.inside in
    let xs = s.slots.items in
    let zs = c.forget.new.slots.items in
    let w = c.unwrap-window.result in
    let stop = c.in_ok-stop.stop in
    let given = c.min-given.result in
    let sound = subst (λ (o : Option Window). IsSoundStore xs s.next s.len o) c.unwrap-window.ensures c.self.invariant in
    let e = c.in_ok-stop.ensures in
    let had = had_within w.cursor w.end xs in
    let rest = ap (λ o. rest_of zs o) c.after-self-inside.ensures ∙ rest-stepped xs zs s.next s.len stop given w sound e.stop.0 e.stop.1 c.forget.ensures.keeps e.count ∙ ap (λ n. unfinished (drop n had)) (c.min-given.ensures ∙ ap (λ n. min c.args.count n) sound.capture_sound.left) ∙ ap unfinished (drop_min c.args.count had) ∙ ap (λ o. unfinished (drop c.args.count (unwrap_or (rest_of xs o) []))) (sym c.unwrap-window.ensures) in
    rw (← c.self.view_is, c.forget.ensures.spare) (same_holding _ _ _ _ _ _ c.forget.ensures.keeps.contents rest)
