use Rattle.std.proofs.Common.{◌∙◌, ◌++◌, map, ap, sym}
use Rattle.std.proofs.lemmas.List.{map-append}
use Rattle.graph_core.specs.Indices.{standing_of}
use Rattle.system_core.specs.Journal.{rights_at}
use Rattle.stream_core.proofs.Rights.{in_force-made}
use Rattle.stream_core.proofs.streamer.foretold_text.Goals as goal

pub returns-clause-standings : goal.returns-clause-standings
returns-clause-standings c =
    let w = c.args.system.now in
    let made = c.in_ok-grants.grants.items in
    let more = in_force-made w.limits w.journal c.journal.ensures.lawful.journal c.args.entry.now c.requires.change c.requires.gives c.requires.allowed
    ∙ ap (λ gs. (rights_at w.journal).in_force ++ gs) (sym c.in_ok-grants.ensures) in
    ap (map standing_of) more ∙ map-append standing_of (rights_at w.journal).in_force made
    ∙ ap (λ k. map standing_of (rights_at w.journal).in_force ++ k) (sym (c.in_ok-standings.ensures ∙ ap (map standing_of) c.deref-3.ensures.value))
