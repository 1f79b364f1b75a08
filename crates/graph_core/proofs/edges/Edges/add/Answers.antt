use Rattle.std.proofs.Common.{◌≡◌, ◌*◌, ◌++◌, ◌∙◌, ℕ, List, map, ap, sym, subst, arith, length}
use Rattle.std.specs.List.{AllByRecursion}
use Rattle.std.proofs.lemmas.List.{map-append, length-map}
use Rattle.std.proofs.lemmas.Result.{err_from_is_err_and}
use Rattle.grants_core.specs.Content.{singles}
use Rattle.grants_core.specs.declared.grant.Grant.{Grant}
use Rattle.grants_core.proofs.NumberLemmas.{numbers-singles}
use Rattle.grants_core.proofs.SinglesLemmas.{length-singles}
use Rattle.links_core.specs.declared.link.Link.{Link}
use Rattle.links_core.specs.Links.{Linked, AreNumbered}
use Rattle.links_core.proofs.EndsLemmas.{all_join}
use Rattle.graph_core.specs.Edges.{EdgesState}
use Rattle.graph_core.specs.Indices.{Indexed, grant_of, IsWithin, Extends}
use Rattle.graph_core.proofs.ExtendLemmas.{grants_kept, all_within_kept}
use Rattle.graph_core.proofs.NumberLemmas.{numbered_alike}
use Rattle.graph_core.proofs.edges.Edges.add.Goals as goal

-- what indices stand for stays, as more come
kept_same : (old new : Indexed) (l : Linked) → Extends old new → AllByRecursion (IsWithin old) l.links → AllByRecursion (IsWithin old) l.rest → ◌≡◌ {A = EdgesState} (record { edges = map (grant_of new) l.links; next = l.next; rest = map (grant_of new) l.rest }) (record { edges = map (grant_of old) l.links; next = l.next; rest = map (grant_of old) l.rest })
kept_same old new l extends links rest =
    ap (λ (k : List Grant). record { edges = k; next = l.next; rest = map (grant_of new) l.rest }) (grants_kept old new l.links extends links)
    ∙ ap (λ (k : List Grant). record { edges = map (grant_of old) l.links; next = l.next; rest = k }) (grants_kept old new l.rest extends rest)

pub returns-in_err-more-clause-err : goal.returns-in_err-more-clause-err
returns-in_err-more-clause-err c =
    let e = c.self.inside in
    let p = err_from_is_err_and c.from_residual-in_err-more.result c.from_residual-in_err-more.ensures.1 in
    rw (p.1, ← c.self.view_is) (kept_same e.indices c.links_of.new.indices e.links c.links_of.ensures.extends c.self.invariant.0 c.self.invariant.1)

pub add-requires-clause-numbered : goal.add-requires-clause-numbered
add-requires-clause-numbered c =
    let new = c.links_of.new.indices in
    let numbers = ap (map (λ (g : Grant). g.number)) (c.deref.ensures.value ∙ c.in_ok-grants.ensures) ∙ numbers-singles c.next.result c.args.at c.args.by.now c.args.atoms.now c.args.whom.now c.args.option in
    let numbered = numbered_alike new c.in_ok-more.more.items c.deref.result.now c.next.result (length c.args.atoms.now * length c.args.whom.now) c.in_ok-more.ensures.grants numbers in
    subst (λ (n : ℕ). AreNumbered n c.deref-2.result.now) c.next.ensures (subst (λ (k : List Link). AreNumbered c.next.result k) (sym c.deref-2.ensures.value) numbered)

pub add-requires-clause-within : goal.add-requires-clause-within
add-requires-clause-within c =
    let view : c.self.inside.links.next ≡ c.args.self.now.next = ap (λ (k : EdgesState). k.next) c.self.view_is in
    let long : length c.deref-2.result.now ≡ length c.args.atoms.now * length c.args.whom.now =
    ap length c.deref-2.ensures.value ∙ sym (length-map c.in_ok-more.more.items (grant_of c.links_of.new.indices)) ∙ ap length (c.in_ok-more.ensures.grants ∙ c.deref.ensures.value ∙ c.in_ok-grants.ensures)
    ∙ length-singles c.next.result c.args.at c.args.by.now c.args.atoms.now c.args.whom.now c.args.option in
    let within = c.requires in
    omega (arith, view, long, within)

pub invariant_of-self-2 : goal.invariant_of-self-2
invariant_of-self-2 c =
    let e = c.self.inside in
    let new = c.links_of.new.indices in
    let more = c.deref-2.result.now in (
      subst (λ (k : List Link). AllByRecursion (IsWithin new) k) (sym c.in_ok-add.ensures.links)
          (all_join (IsWithin new) e.links.links more (all_within_kept e.indices new e.links.links c.links_of.ensures.extends c.self.invariant.0)
          (subst (λ (k : List Link). AllByRecursion (IsWithin new) k) (sym c.deref-2.ensures.value) c.in_ok-more.ensures.within)),
      subst (λ (k : List Link). AllByRecursion (IsWithin new) k) (sym c.add.ensures.rest) (all_within_kept e.indices new e.links.rest c.links_of.ensures.extends c.self.invariant.1),
    )

pub returns-clause-edges : goal.returns-clause-edges
returns-clause-edges c =
    let e = c.self.inside in
    let new = c.links_of.new.indices in
    let more = c.deref-2.result.now in
    let made : map (grant_of new) more ≡ singles e.links.next c.args.at c.args.by.now c.args.atoms.now c.args.whom.now c.args.option =
    ap (map (grant_of new)) c.deref-2.ensures.value ∙ c.in_ok-more.ensures.grants ∙ c.deref.ensures.value ∙ c.in_ok-grants.ensures
    ∙ ap (λ n. singles n c.args.at c.args.by.now c.args.atoms.now c.args.whom.now c.args.option) c.next.ensures in
    rw (← c.self.view_is) (ap (map (grant_of new)) c.in_ok-add.ensures.links ∙ map-append (grant_of new) e.links.links more
    ∙ ap (λ k. k ++ map (grant_of new) more) (grants_kept e.indices new e.links.links c.links_of.ensures.extends c.self.invariant.0)
    ∙ ap (λ k. map (grant_of e.indices) e.links.links ++ k) made)

pub returns-clause-next : goal.returns-clause-next
returns-clause-next c =
    let view : c.self.inside.links.next ≡ c.args.self.now.next = ap (λ (k : EdgesState). k.next) c.self.view_is in
    let long : length c.deref-2.result.now ≡ length c.args.atoms.now * length c.args.whom.now =
    ap length c.deref-2.ensures.value ∙ sym (length-map c.in_ok-more.more.items (grant_of c.links_of.new.indices)) ∙ ap length (c.in_ok-more.ensures.grants ∙ c.deref.ensures.value ∙ c.in_ok-grants.ensures)
    ∙ length-singles c.next.result c.args.at c.args.by.now c.args.atoms.now c.args.whom.now c.args.option in
    let is = c.in_ok-add.ensures.next in
    omega (arith, view, long, is)

pub returns-in_err-add-clause-err : goal.returns-in_err-add-clause-err
returns-in_err-add-clause-err c =
    let e = c.self.inside in
    let new = c.links_of.new.indices in
    let p = err_from_is_err_and c.from_residual-in_err-add.result c.from_residual-in_err-add.ensures.1 in
    rw (p.1, ← c.self.view_is) (ap (λ (l : Linked). record { edges = map (grant_of new) l.links; next = l.next; rest = map (grant_of new) l.rest }) c.in_err-add.ensures.err
    ∙ kept_same e.indices new e.links c.links_of.ensures.extends c.self.invariant.0 c.self.invariant.1)

pub invariant_of-self-in_err-add : goal.invariant_of-self-in_err-add
invariant_of-self-in_err-add c =
    let e = c.self.inside in
    let new = c.links_of.new.indices in
    subst (λ (l : Linked). AllByRecursion (IsWithin new) l.links × AllByRecursion (IsWithin new) l.rest) (sym c.in_err-add.ensures.err)
    (all_within_kept e.indices new e.links.links c.links_of.ensures.extends c.self.invariant.0, all_within_kept e.indices new e.links.rest c.links_of.ensures.extends c.self.invariant.1)

pub returns-in_err-more-clause-rest : goal.returns-in_err-more-clause-rest
returns-in_err-more-clause-rest c =
    rw (← c.self.view_is) (grants_kept c.self.inside.indices c.links_of.new.indices c.self.inside.links.rest c.links_of.ensures.extends c.self.invariant.1)

pub returns-in_err-add-clause-rest : goal.returns-in_err-add-clause-rest
returns-in_err-add-clause-rest c =
    let e = c.self.inside in
    let new = c.links_of.new.indices in
    rw (← c.self.view_is) (ap (map (grant_of new)) c.add.ensures.rest ∙ grants_kept e.indices new e.links.rest c.links_of.ensures.extends c.self.invariant.1)

pub returns-clause-rest : goal.returns-clause-rest
returns-clause-rest c =
    let e = c.self.inside in
    let new = c.links_of.new.indices in
    rw (← c.self.view_is) (ap (map (grant_of new)) c.add.ensures.rest ∙ grants_kept e.indices new e.links.rest c.links_of.ensures.extends c.self.invariant.1)
