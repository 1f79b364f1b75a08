use Rattle.std.proofs.Common.{◌≡◌, ◌+◌, Bool, false, ◌||◌, take, length, ap, sym, ◌∙◌, arith}
use Rattle.std.specs.List.{list_any}
use Rattle.std.proofs.lemmas.List.Folds.{list_any_more, list_any_at}
use Rattle.std.proofs.lemmas.List.{get_or-take, length-take-le}
use Rattle.capture_core.specs.Image.{gives_one}
use Rattle.grants_core.specs.declared.grant.Grant.{Grant}
use Rattle.capture_core.proofs.FingerprintLemmas.{few_fingerprints, fingerprint_there, another-fingerprint-of_one}
use Rattle.capture_core.proofs.granted.any_fingerprinted_one.Goals as goal
use Rattle.capture_core.proofs.granted.any_fingerprinted_one.Goals.{else-fingerprints-at-via-then-fingerprints-at+else-gives_one, else-fingerprints-at-via-else-fingerprints-at}

pub loop-at-preserved : goal.loop-at-preserved
loop-at-preserved c =
    let fingerprints = c.args.fingerprints.now in
    let grants = c.args.grants.now in
    let user = c.args.user.now in
    let table = c.args.table in
    let columns = c.args.columns.now in
    let i = c.loop-at.at in
    let g = c.index-grants-at.result in
    let p : Grant → Bool = gives_one user table columns in
    let below = c.loop-at-test.true in
    let many = few_fingerprints fingerprints grants c.requires in
    let fingerprint = fingerprint_there fingerprints grants i g c.requires below c.index-grants-at.is in
    let more : list_any p (take (i + 1) grants) ≡ (list_any p (take i grants) || p g) =
    list_any_more p grants i g (omega (arith, below, many)) ∙ ap (λ x. list_any p (take i grants) || p x) (sym c.index-grants-at.is) in
    let with : p g ≡ false → list_any p (take (i + 1) grants) ≡ false =
    λ none. more ∙ ap (λ b. b || p g) c.loop-at.invariant ∙ none in
    elim c.else-fingerprints-at.branch [
      | else-fingerprints-at-via-then-fingerprints-at+else-gives_one w ↦ with (sym w.gives_one.ensures ∙ w.if-gives_one.false)
      | else-fingerprints-at-via-else-fingerprints-at w ↦
          with (another-fingerprint-of_one user table columns g (λ same. w.if-fingerprints-at.false (fingerprint ∙ same ∙ sym c.fingerprint_of-wanted.ensures)))
    ]

pub returns-then-gives_one : goal.returns-then-gives_one
returns-then-gives_one c =
    let fingerprints = c.args.fingerprints.now in
    let grants = c.args.grants.now in
    let i = c.loop-at.at in
    let g = c.index-grants-at.result in
    let p : Grant → Bool = gives_one c.args.user.now c.args.table c.args.columns.now in
    let below = c.loop-at-test.true in
    let count = length-take-le (length fingerprints) grants (few_fingerprints fingerprints grants c.requires) in
    sym (list_any_at p (take (length fingerprints) grants) i g (omega (arith, below, count))
    (ap p (get_or-take (length fingerprints) grants i g below ∙ sym c.index-grants-at.is) ∙ sym c.gives_one.ensures ∙ c.if-gives_one.true))
