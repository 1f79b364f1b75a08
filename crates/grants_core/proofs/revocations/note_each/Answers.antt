use Rattle.std.proofs.Common.{◌≡◌, ◌+◌, ◌++◌, [], ◌∷◌, cond, ap, sym, ◌∙◌, take}
use Rattle.std.proofs.lemmas.List.{take_more}
use Rattle.grants_core.specs.Content.{names}
use Rattle.grants_core.specs.Log.{noted_revocation}
use Rattle.grants_core.proofs.LogLemmas.{noted-users, noted-no_users, noted_revocation-noted}
use Rattle.grants_core.proofs.revocations.note_each.Goals as goal

pub loop-user-init : goal.loop-user-init
loop-user-init c = λ g. noted-no_users c.args.by.now (c.args.atom.now ∷ []) g c.args.at.0 (noted_revocation c.args.noted.now g)

pub loop-user-preserved : goal.loop-user-preserved
loop-user-preserved c = λ g.
    let sofar = take c.loop-user.user-index c.args.whom.now in
    let more : take (c.loop-user.user-index + 1) c.args.whom.now ≡ sofar ++ c.user-item.result ∷ [] =
    take_more c.args.whom.now c.loop-user.user-index c.user-item.result c.loop-user-test.true ∙ ap (λ u. sofar ++ u ∷ []) (sym c.user-item.is) in
    let before = noted_revocation c.args.noted.now g in
    noted_revocation-noted c.loop-user.noted c.insert.new.self c.args.by.now c.args.atom.now c.user-item.result c.args.at c.in_ok-insert.ensures.updates g
    ∙ ap (cond (names c.args.by.now (c.args.atom.now ∷ []) (c.user-item.result ∷ []) g) c.args.at.0) (c.loop-user.invariant g)
    ∙ sym (ap (λ whom. cond (names c.args.by.now (c.args.atom.now ∷ []) whom g) c.args.at.0 before) more
    ∙ noted-users c.args.by.now (c.args.atom.now ∷ []) sofar c.user-item.result g c.args.at.0 before)
