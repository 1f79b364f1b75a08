use Rattle.std.proofs.Common.{◌≡◌, ◌+◌, ◌<◌, ◌++◌, List, [], ◌∷◌, ap, sym, ◌∙◌, subst, take, length, get_or}
use Rattle.std.proofs.lemmas.List.{take_more}
use Rattle.grants_core.specs.declared.grant.Grant.{Grant}
use Rattle.grants_core.specs.declared.kept.KeptGrants.{KeptGrants}
use Rattle.grants_core.specs.Kept.{IsIndexed}
use Rattle.grants_core.specs.Valid.{valid, kept_with}
use Rattle.grants_core.specs.Log.{left_by, was_unoptioned}
use Rattle.grants_core.specs.Content.{option_off}
use Rattle.grants_core.proofs.ValidLemmas.{valid-push}
use Rattle.grants_core.proofs.LogLemmas.{left_by-struck, left_by-left}
use Rattle.grants_core.proofs.history.valid_grants.Goals as goal
use Rattle.grants_core.proofs.history.valid_grants.Goals.{then-not-was_struck+in_ok-add, else-not-was_struck}

pub loop-grant-preserved : goal.loop-grant-preserved
loop-grant-preserved c =
    let log = c.args.log.now in
    let i = c.loop-grant.grant-index in
    let g : Grant = c.grant-item.result in
    let made : List Grant = log.made.items in
    let sofar : List Grant = take i made in
    let read : c.deref-grant-items.result.now ≡ made = c.deref-grant-items.ensures.value in
    let within : i < length made = subst (λ (xs : List Grant). i < length xs) read c.loop-grant-test.true in
    let here : g ≡ get_or made i g = c.grant-item.is ∙ ap (λ (xs : List Grant). get_or xs i g) read in
    let more : take (i + 1) made ≡ sofar ++ g ∷ [] =
    take_more made i g within ∙ ap (λ x. sofar ++ x ∷ []) (sym here) in
    elim c.if-not-was_struck.branch [
      | then-not-was_struck+in_ok-add w ↦
          let left = option_off (was_unoptioned log) g in
          record {
            grants = ap (λ (k : KeptGrants). k.grants.items) w.kept-is ∙ w.in_ok-add.ensures.grants
                ∙ ap (kept_with log.owners c.loop-grant.kept.grants.items) w.left.ensures
                ∙ ap (λ k. kept_with log.owners k left) c.loop-grant.invariant.grants
                ∙ sym (ap (λ k. valid log.owners (left_by log k)) more
                ∙ ap (valid log.owners) (left_by-left log sofar g (sym c.was_struck.ensures ∙ w.if-not-was_struck.true))
                ∙ valid-push log.owners (left_by log sofar) left);
            indexed = subst IsIndexed (sym w.kept-is) w.in_ok-add.ensures.indexed;
          }
      | else-not-was_struck w ↦
          record {
            grants = ap (λ (k : KeptGrants). k.grants.items) w.kept-is ∙ c.loop-grant.invariant.grants
                ∙ sym (ap (λ k. valid log.owners (left_by log k)) more
                ∙ ap (valid log.owners) (left_by-struck log sofar g (sym c.was_struck.ensures ∙ w.if-not-was_struck.false)));
            indexed = subst IsIndexed (sym w.kept-is) c.loop-grant.invariant.indexed;
          }
    ]
