use Rattle.std.proofs.Common.{ℕ, List, [], ◌∷◌, ◌∙◌, ap, length, subst}
use Rattle.links_core.specs.declared.standing.Standing.{Standing}
use Rattle.system_core.specs.declared.machine.event.Entry.{Entry}
use Rattle.stream_core.specs.declared.effect.Effect.{Effect}
use Rattle.stream_core.specs.Losses.{AreLossesOf}
use Rattle.stream_core.specs.Streams.{ChangeTold, stream_text}
use Rattle.stream_core.proofs.streamer.losses_text.Goals as goal

pub returns-clause-text : goal.returns-clause-text
returns-clause-text c =
    let before = c.args.before.now in
    let effects = c.in_ok-effects.effects.items in
    let said : List Entry → List Effect → List ℕ = λ journal all. let one : ChangeTold = record { moment = length journal; all = all } in stream_text c.args.from (one ∷ []) in
    record {
      all = effects;
      are = subst (λ (after : List Standing). AreLossesOf before after effects) (c.deref.ensures.value ∙ c.in_ok-after.ensures) c.in_ok-effects.ensures;
      text_is = c.in_ok-text.ensures ∙ ap (said c.journal.result.now) c.deref-2.ensures.value ∙ ap (λ j. said j effects) c.journal.ensures.journal;
    }
