use Rattle.std.proofs.Common.{◌≡◌, ◌+◌, ◌++◌, [], ◌∷◌, ap, sym, ◌∙◌, take}
use Rattle.std.proofs.lemmas.List.{take_more}
use Rattle.grants_core.specs.Owners.{with_granted}
use Rattle.grants_core.proofs.OwnedLemmas.{with_granted-nil, with_granted-more}
use Rattle.grants_core.proofs.owners.Owners.note_granted.Goals as goal

pub loop-atom-init : goal.loop-atom-init
loop-atom-init c = sym (with_granted-nil c.args.self.now)

pub loop-atom-preserved : goal.loop-atom-preserved
loop-atom-preserved c =
    let more : take (c.loop-atom.atom-index + 1) c.args.atoms.now ≡ take c.loop-atom.atom-index c.args.atoms.now ++ c.atom-item.result ∷ [] =
    take_more c.args.atoms.now c.loop-atom.atom-index c.atom-item.result c.loop-atom-test.true ∙ ap (λ x. take c.loop-atom.atom-index c.args.atoms.now ++ x ∷ []) (sym c.atom-item.is) in
    c.note.ensures ∙ ap (with_granted (c.atom-item.result ∷ [])) c.loop-atom.invariant
    ∙ sym (ap (λ k. with_granted k c.args.self.now) more ∙ with_granted-more (take c.loop-atom.atom-index c.args.atoms.now) c.atom-item.result c.args.self.now)
