use Rattle.std.proofs.Common.{◌≡◌, ◌<◌, ◌+◌, ℕ, List, [], ◌∷◌, ◌++◌, take, drop, length, get_or, ap, sym, ◌∙◌, arith, cond, refl}
use Rattle.std.proofs.lemmas.Grind.{common_steps, take-set_at}
use Rattle.std.proofs.lemmas.List.{drop-set-lt, length-set}
use Rattle.std.proofs.lemmas.List.{take_more}
use Rattle.grants_core.specs.declared.grant.Grant.{Grant}
use Rattle.grants_core.specs.Valid.{valid, is_supported}
use Rattle.grants_core.proofs.ValidLemmas.{valid-push}
use Rattle.grants_core.proofs.grants.move_valid.Goals.{then-is_supported, else-is_supported}
use Rattle.grants_core.proofs.grants.move_valid.Goals as goal

pub loop-at-preserved : goal.loop-at-preserved
loop-at-preserved c =
    let i : ℕ = c.loop-at.at in
    let g : Grant = c.index-grants-at.result in
    let now : List Grant = c.loop-at.grants in
    let old : List Grant = c.args.grants.now in
    let v : List Grant = valid c.args.owners.now (take i old) in
    let within : i < length old = omega (arith, c.loop-at-test.true, c.loop-at.invariant.long) in
    let here : get_or now i g ≡ g = sym c.index-grants-at.is in
    let rest : drop i now ≡ drop i old = c.loop-at.invariant.rest in
    let there : get_or old i g ≡ g = grind (arith, common_steps) in
    let sup : c.is_supported.result ≡ is_supported c.args.owners.now v g = c.is_supported.ensures ∙ ap (λ k. is_supported c.args.owners.now k g) c.loop-at.invariant.front in
    let more : valid c.args.owners.now (take (i + 1) old) ≡ cond c.is_supported.result (v ++ g ∷ []) v =
    ap (valid c.args.owners.now) (take_more old i g within ∙ ap (λ x. take i old ++ x ∷ []) there) ∙ valid-push c.args.owners.now (take i old) g ∙ ap (λ b. cond b (v ++ g ∷ []) v) (sym sup) in
    let rest_more : drop (i + 1) now ≡ drop (i + 1) old = grind (arith, common_steps) in
    elim c.if-is_supported.branch [
      | then-is_supported w ↦
          let yes : valid c.args.owners.now (take (i + 1) old) ≡ v ++ g ∷ [] = more ∙ ap (λ b. cond b (v ++ g ∷ []) v) w.if-is_supported.true in
          let kept : c.loop-at.kept < length now = omega (arith, c.loop-at-test.true, c.loop-at.invariant.within) in
          record {
            front = rw (w.kept-is, w.grants-is) (take-set_at now c.loop-at.kept (c.loop-at.kept + 1) g refl kept ∙ ap (λ k. k ++ g ∷ []) c.loop-at.invariant.front ∙ sym yes);
            rest = rw w.grants-is (drop-set-lt (i + 1) now c.loop-at.kept g (omega (arith, c.loop-at.invariant.within)) ∙ rest_more);
            within = rw w.kept-is (omega (arith, c.loop-at.invariant.within));
            long = rw w.grants-is (length-set now c.loop-at.kept g ∙ c.loop-at.invariant.long);
          }
      | else-is_supported w ↦
          let no : valid c.args.owners.now (take (i + 1) old) ≡ v = more ∙ ap (λ b. cond b (v ++ g ∷ []) v) w.if-is_supported.false in
          record {
            front = rw (w.kept-is, w.grants-is) (c.loop-at.invariant.front ∙ sym no);
            rest = rw w.grants-is rest_more;
            within = rw w.kept-is (omega (arith, c.loop-at.invariant.within));
            long = rw w.grants-is c.loop-at.invariant.long;
          }
    ]
