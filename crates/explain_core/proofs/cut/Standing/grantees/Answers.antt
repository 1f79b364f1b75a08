use Rattle.std.proofs.Common.{◌≡◌, ◌∙◌, true, List, ap, sym, subst}
use Rattle.std.specs.List.{All, list_any}
use Rattle.std.proofs.lemmas.Bool.{both_ways}
use Rattle.std.proofs.lemmas.List.{take_all}
use Rattle.base_core.specs.Users.{same_user}
use Rattle.base_core.specs.declared.name.User.{User}
use Rattle.grants_core.specs.declared.grant.Grant.{Grant}
use Rattle.grants_core.specs.Content.{has_made}
use Rattle.explain_core.specs.declared.users.Users.{Users}
use Rattle.explain_core.specs.Listed.{AreSeen}
use Rattle.explain_core.specs.Losses.{AreAllOf}
use Rattle.explain_core.proofs.ListedLemmas.{listed-self, listed-with, with-All}
use Rattle.explain_core.proofs.LossLemmas.{made_there, all_of_more}
use Rattle.explain_core.proofs.cut.Standing.grantees.Goals as goal
use Rattle.explain_core.proofs.cut.Standing.grantees.Goals.{then-eq+in-Ok, else-eq}

pub loop-grant-preserved : goal.loop-grant-preserved
loop-grant-preserved c =
    let grants = c.args.self.now.grants.now in
    let atom = c.args.self.now.atom.now in
    let by = c.args.by.now in
    let g = c.grant-item.result in
    let old = c.loop-grant.whom.listed.items in
    let more = all_of_more grants atom by c.loop-grant.grant-index g c.loop-grant-test.true c.grant-item.is in
    let Made : User → Type 0 = λ v. has_made grants by v atom ≡ true in
    elim c.if-eq.branch [
      | then-eq+in-Ok w ↦
          let his : same_user g.grantor by ≡ true = sym c.eq.ensures ∙ w.if-eq.true in
          let items = ap (λ (k : Users). k.listed.items) w.whom-is ∙ w.in-Ok.ensures.listed in
          record {
            seen = subst AreSeen (sym w.whom-is) w.in-Ok.ensures.seen;
            made = subst (All Made) (sym items) (with-All Made old g.grantee c.loop-grant.invariant.made (made_there grants atom by c.loop-grant.grant-index g c.loop-grant-test.true c.grant-item.is c.requires his));
            all = more old c.if-eq.whom.listed.items
                (λ h there. ap (list_any (λ v. same_user v h.grantee)) items ∙ listed-with old g.grantee h there)
                (λ by_him. ap (list_any (λ v. same_user v g.grantee)) items ∙ listed-self old g)
                c.loop-grant.invariant.all;
          }
      | else-eq w ↦
          let items = ap (λ (k : Users). k.listed.items) w.whom-is in
          record {
            seen = subst AreSeen (sym w.whom-is) c.loop-grant.invariant.seen;
            made = subst (All Made) (sym items) c.loop-grant.invariant.made;
            all = more old c.if-eq.whom.listed.items
                (λ h there. ap (list_any (λ v. same_user v h.grantee)) items ∙ there)
                (λ by_him. absurd (both_ways _ w.if-eq.false (c.eq.ensures ∙ by_him)))
                c.loop-grant.invariant.all;
          }
    ]

pub returns-clause-all : goal.returns-clause-all
returns-clause-all c =
    let All_of : List Grant → Type 0 = λ k. AreAllOf c.args.by.now k c.loop-grant.whom.listed.items in
    subst All_of (take_all c.loop-grant.grant-index c.args.self.now.grants.now c.loop-grant-test.false) c.loop-grant.invariant.all
