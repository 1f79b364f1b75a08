use Rattle.std.proofs.Common.{◌≡◌, ◌∙◌, ◌++◌, List, [], take, drop, map, ap, sym, subst}
use Rattle.std.specs.List.{AllByRecursion}
use Rattle.std.proofs.lemmas.List.{take-map, take-append-drop}
use Rattle.links_core.specs.declared.link.Link.{Link}
use Rattle.links_core.proofs.EndsLemmas.{all_split}
use Rattle.graph_core.specs.Edges.{EdgesState}
use Rattle.graph_core.specs.Indices.{grant_of, IsWithin}
use Rattle.graph_core.proofs.edges.Edges.capture_step.Goals as goal

-- into an empty vector a step gives its links alone
given : (links out new first : List Link) → links ≡ out → out ≡ new ++ first → new ≡ [] → links ≡ first
given links out new first same step none = same ∙ step ∙ ap (λ k. k ++ first) none

pub put_grants-requires-clause-within : goal.put_grants-requires-clause-within
put_grants-requires-clause-within c =
    let e = c.self.inside in
    let first = take c.args.count e.links.rest in
    let In : Link → Type 0 = IsWithin e.indices in
    let whole : AllByRecursion In (first ++ drop c.args.count e.links.rest) = subst (λ (k : List Link). AllByRecursion In k) (sym (take-append-drop c.args.count e.links.rest)) c.self.invariant.1 in
    subst (λ (k : List Link). AllByRecursion In k) (sym (given c.deref.result.now c.capture_step.new.out.items c.new-links.result.items first c.deref.ensures.value c.in_ok-given.ensures.items c.new-links.ensures.items))
    (all_split In first (drop c.args.count e.links.rest) whole).0

pub returns-clause-items : goal.returns-clause-items
returns-clause-items c =
    let e = c.self.inside in
    let count = c.args.count in
    let out = c.args.out.now.items in
    let made = grant_of e.indices in
    c.put_grants.ensures
    ∙ ap (λ k. k ++ map made c.deref.result.now) c.reserve.ensures.items
    ∙ ap (λ k. out ++ map made k) (given c.deref.result.now c.capture_step.new.out.items c.new-links.result.items (take count e.links.rest) c.deref.ensures.value c.in_ok-given.ensures.items c.new-links.ensures.items)
    ∙ ap (λ k. out ++ k) (sym (take-map made count e.links.rest))
    ∙ ap (λ (k : EdgesState). out ++ take count k.rest) c.self.view_is
