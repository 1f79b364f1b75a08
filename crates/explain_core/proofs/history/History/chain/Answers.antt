use Rattle.std.proofs.Common.{◌≡◌, ◌∙◌, ◌<◌, ◌∷◌, ◌++◌, [], List, ap, sym, subst, length, reverse, rules}
use Rattle.std.proofs.lemmas.List.{reverse-append}
use Rattle.grants_core.specs.declared.grant.Grant.{Grant}
use Rattle.explain_core.specs.declared.life.Life.{Life}
use Rattle.explain_core.specs.Life.{left}
use Rattle.explain_core.specs.Chains.{IsChain}
use Rattle.explain_core.proofs.ChainLemmas.{StandsFrom, stands_alone, stands_above, chain_from}
use Rattle.explain_core.proofs.SupportLemmas.{explained, life_at, is_within, support_of, support_before, same_life}
use Rattle.explain_core.proofs.history.History.chain.Goals as goal
use Rattle.explain_core.proofs.history.History.chain.Goals.{In-Some}

-- the support is at an earlier place
before : (c : In-Some) → (c.in-Some.support < c.loop-support.place) × (c.in-Some.support < length c.as_slice-lives.result.now)
before c =
    let h = explained _ _ c.self.view_is c.self.invariant in
    let same = c.as_slice-lives.ensures.value in
    let (life, at) = life_at _ _ _ _ h c.loop-support.place (rw same at c.loop-support.invariant.within) in
    let is = rw c.in-Some.is at (support_of _ _ _ _ h c.loop-support.place life c.index.result.now at c.index.ensures) in
    let earlier = support_before _ _ _ _ h c.loop-support.place c.in-Some.support life at is in
    (earlier.0, rw same earlier.1)

pub loop-support-init : goal.loop-support-init
loop-support-init c =
    let h = explained _ _ c.self.view_is c.self.invariant in
    let same = c.as_slice-lives.ensures.value in
    let (life, at, stands) = c.requires in
    record {
      within = rw same (is_within _ _ _ _ h c.args.number life at);
      stands = λ last last_at last_stands.
          let P : List Grant → Type 0 = λ k. StandsFrom c.args.self.now c.args.number last (reverse k) in
          let read = same_life _ _ _ _ h c.args.number last c.index-lives-place.result last_at (rw same at c.index-lives-place.is) in
          let items : c.push.new.self.items ≡ left last ∷ [] =
          c.in_ok-push.ensures.items ∙ ap (λ (k : List Grant). k ++ c.left.result ∷ []) c.new-chain.ensures.items
          ∙ ap (λ (g : Grant). g ∷ []) (c.left.ensures ∙ ap left read) in
          subst P (sym items) (stands_alone c.args.self.now h.lawful c.args.number last last_at last_stands);
    }

pub offset_bounds-lives-place-in-Some : goal.offset_bounds-lives-place-in-Some
offset_bounds-lives-place-in-Some c =
    let lt : c.in-Some.support < length c.as_slice-lives.result.now = (before (goal.at.offset_bounds-lives-place-in-Some c).In-Some).1 in
    search rules

pub bounds-lives-place-in-Some : goal.bounds-lives-place-in-Some
bounds-lives-place-in-Some c = (before (goal.at.bounds-lives-place-in-Some c).In-Some).1

pub loop-support-smaller : goal.loop-support-smaller
loop-support-smaller c = (before (goal.at.loop-support-smaller c).In-Some).0

pub loop-support-preserved : goal.loop-support-preserved
loop-support-preserved c =
    let h = explained _ _ c.self.view_is c.self.invariant in
    let same = c.as_slice-lives.ensures.value in
    record {
      within = (before (goal.at.loop-support-preserved c).In-Some).1;
      stands = λ last last_at last_stands.
          let from = c.loop-support.invariant.stands last last_at last_stands in
          let is = rw c.in-Some.is at (support_of _ _ _ _ h c.loop-support.place from.top c.index.result.now from.at c.index.ensures) in
          let above : Life = is.1 in
          let P : List Grant → Type 0 = λ k. StandsFrom c.args.self.now c.in-Some.support last k in
          let read = same_life _ _ _ _ h c.in-Some.support above c.index-lives-place-in-Some.result is.2 (rw same at c.index-lives-place-in-Some.is) in
          let line : reverse c.push-in-Some.new.self.items ≡ left above ∷ reverse c.loop-support.chain.items =
          ap reverse c.in_ok-push-2.ensures.items ∙ reverse-append c.loop-support.chain.items (c.left-in-Some.result ∷ [])
          ∙ ap (λ (g : Grant). g ∷ reverse c.loop-support.chain.items) (c.left-in-Some.ensures ∙ ap left read) in
          subst P (sym line) (stands_above c.args.self.now h.lawful c.loop-support.place c.in-Some.support last above (reverse c.loop-support.chain.items) from is.2 is.3);
    }

pub returns : goal.returns
returns c = λ last last_at last_stands.
    let h = explained _ _ c.self.view_is c.self.invariant in
    let from = c.loop-support.invariant.stands last last_at last_stands in
    let is = rw c.in_default.is at (support_of _ _ _ _ h c.loop-support.place from.top c.index.result.now from.at c.index.ensures) in
    let P : List Grant → Type 0 = λ k. IsChain c.args.self.now k (left last) in
    subst P (sym c.reverse.ensures.items) (chain_from c.args.self.now h.lawful c.loop-support.place last (reverse c.loop-support.chain.items) from is)
