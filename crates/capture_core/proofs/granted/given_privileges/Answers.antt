use Rattle.std.proofs.Common.{◌≡◌, ◌⊎◌, ℕ, ◌+◌, ◌*◌, ◌<◌, Bool, ◌||◌, get_or, take, subst, ap, sym, ◌∙◌}
use Rattle.std.specs.List.{list_any}
use Rattle.std.proofs.Math.Bool.{or-false}
use Rattle.std.proofs.lemmas.List.Folds.{list_any_more}
use Rattle.grants_core.specs.Content.{gives}
use Rattle.grants_core.specs.declared.grant.Grant.{Grant}
use Rattle.grants_core.specs.Keys.{same_key}
use Rattle.indexmap.specs.IndexSet.{contains_by}
use Rattle.capture_core.specs.Fingerprints.{part_of, grant_fingerprint}
use Rattle.capture_core.proofs.FingerprintLemmas.{fingerprint_there, out_of_range}
use Rattle.capture_core.proofs.granted.given_privileges.Goals as goal
use Rattle.capture_core.proofs.granted.given_privileges.Goals.{then-not-is_of_another+in_ok-add_given, else-not-is_of_another}

pub loop-at-preserved : goal.loop-at-preserved
loop-at-preserved c =
    λ atom.
    let fingerprints = c.args.fingerprints.now in
    let grants = c.args.grants.now in
    let user = c.args.user.now in
    let i = c.loop-at.at in
    let g = c.index-grants-at.result in
    let p : Grant → Bool = gives user atom in
    let before = c.loop-at.invariant atom in
    let more : list_any p (take (i + 1) grants) ≡ (list_any p (take i grants) || p g) =
    list_any_more p grants i g c.loop-at-test.true ∙ ap (λ x. list_any p (take i grants) || p x) (sym c.index-grants-at.is) in
    let first : c.part_of-first.result ≡ part_of user.0 = c.part_of-first.ensures.part ∙ ap part_of c.as_bytes.ensures.value in
    elim c.if-not-is_of_another.branch [
      | then-not-is_of_another+in_ok-add_given w ↦
          ap (contains_by (same_key (record { 0 = atom }))) w.given-is ∙ w.in_ok-add_given.ensures atom ∙ ap (λ b. b || p g) before ∙ sym more
      | else-not-is_of_another w ↦
          let out = c.is_of_another.ensures w.if-not-is_of_another.false in
          let fingerprint : get_or fingerprints i 0 ≡ grant_fingerprint g = fingerprint_there fingerprints grants i g c.requires out.0 c.index-grants-at.is in
          let range = subst (λ (m : ℕ). (m < part_of user.0 * 65536) ⊎ (part_of user.0 * 65536 + 65535 < m)) fingerprint
          (subst (λ (f : ℕ). (get_or fingerprints i 0 < f * 65536) ⊎ (f * 65536 + 65535 < get_or fingerprints i 0)) first out.1) in
          ap (contains_by (same_key (record { 0 = atom }))) w.given-is
          ∙ before
          ∙ sym (or-false (list_any p (take i grants)))
          ∙ ap (λ b. list_any p (take i grants) || b) (sym (out_of_range user atom g range))
          ∙ sym more
    ]
