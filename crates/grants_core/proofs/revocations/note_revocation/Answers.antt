use Rattle.std.proofs.Common.{◌≡◌, ◌+◌, ◌++◌, [], ◌∷◌, cond, ap, sym, ◌∙◌, take}
use Rattle.std.proofs.lemmas.List.{take_more}
use Rattle.grants_core.specs.Content.{names}
use Rattle.grants_core.specs.Log.{noted_revocation}
use Rattle.grants_core.proofs.LogLemmas.{noted-atoms, noted-no_atoms}
use Rattle.grants_core.proofs.revocations.note_revocation.Goals as goal

pub loop-atom-init : goal.loop-atom-init
loop-atom-init c = λ g. noted-no_atoms c.args.by.now c.args.whom.now g c.args.at.0 (noted_revocation c.args.noted.now g)

pub loop-atom-preserved : goal.loop-atom-preserved
loop-atom-preserved c = λ g.
    let sofar = take c.loop-atom.atom-index c.args.atoms.now in
    let more : take (c.loop-atom.atom-index + 1) c.args.atoms.now ≡ sofar ++ c.atom-item.result ∷ [] =
    take_more c.args.atoms.now c.loop-atom.atom-index c.atom-item.result c.loop-atom-test.true ∙ ap (λ a. sofar ++ a ∷ []) (sym c.atom-item.is) in
    let before = noted_revocation c.args.noted.now g in
    c.in_ok-note_each.ensures g
    ∙ ap (cond (names c.args.by.now (c.atom-item.result ∷ []) c.args.whom.now g) c.args.at.0) (c.loop-atom.invariant g)
    ∙ sym (ap (λ atoms. cond (names c.args.by.now atoms c.args.whom.now g) c.args.at.0 before) more
    ∙ noted-atoms c.args.by.now sofar c.atom-item.result c.args.whom.now g c.args.at.0 before)
