use Rattle.std.proofs.Common.{◌≡◌, ◌+◌, Bool, false, ◌||◌, take, ap, sym, ◌∙◌, arith}
use Rattle.std.specs.List.{list_any}
use Rattle.std.proofs.lemmas.List.Folds.{list_any_more}
use Rattle.grants_core.specs.Content.{gives}
use Rattle.grants_core.specs.declared.grant.Grant.{Grant}
use Rattle.capture_core.proofs.FingerprintLemmas.{few_fingerprints, fingerprint_there, another-fingerprint}
use Rattle.capture_core.proofs.granted.any_fingerprinted.Goals as goal
use Rattle.capture_core.proofs.granted.any_fingerprinted.Goals.{else-fingerprints-at-via-then-fingerprints-at+else-gives, else-fingerprints-at-via-else-fingerprints-at}

pub loop-at-preserved : goal.loop-at-preserved
loop-at-preserved c =
    let fingerprints = c.args.fingerprints.now in
    let grants = c.args.grants.now in
    let user = c.args.user.now in
    let atom = c.args.atom.now in
    let i = c.loop-at.at in
    let g = c.index-grants-at.result in
    let p : Grant → Bool = gives user atom in
    let below = c.loop-at-test.true in
    let many = few_fingerprints fingerprints grants c.requires in
    let fingerprint = fingerprint_there fingerprints grants i g c.requires below c.index-grants-at.is in
    let more : list_any p (take (i + 1) grants) ≡ (list_any p (take i grants) || p g) =
    list_any_more p grants i g (omega (arith, below, many)) ∙ ap (λ x. list_any p (take i grants) || p x) (sym c.index-grants-at.is) in
    let with : p g ≡ false → list_any p (take (i + 1) grants) ≡ false =
    λ none. more ∙ ap (λ b. b || p g) c.loop-at.invariant ∙ none in
    elim c.else-fingerprints-at.branch [
      | else-fingerprints-at-via-then-fingerprints-at+else-gives w ↦ with (sym w.gives.ensures ∙ w.if-gives.false)
      | else-fingerprints-at-via-else-fingerprints-at w ↦
          with (another-fingerprint user atom g (λ same. w.if-fingerprints-at.false (fingerprint ∙ same ∙ sym c.fingerprint_of-wanted.ensures)))
    ]
