use Rattle.std.proofs.Common.{◌≡◌, ◌+◌, true, false, ◌-◌, length, take, drop, List, [], ◌∷◌, ◌++◌, subst, sym, ap, ◌∙◌}
use Rattle.std.proofs.lemmas.List.{take_rest}
use Rattle.base_core.specs.declared.privilege.Kind.{Kind}
use Rattle.grants_core.specs.declared.grant.Grant.{Grant}
use Rattle.dump_core.specs.Grouped.{with_member}
use Rattle.dump_core.specs.Dump.{are_of_one_statement}
use Rattle.dump_core.proofs.Following.{Follows, follows-first, tested-next, follows-more, follows-over, follows-all}
use Rattle.dump_core.proofs.neighbours.kinds_ahead.Goals as goal

pub loop-count-init : goal.loop-count-init
loop-count-init c =
    let gs : List Grant = c.args.grants.now in
    let P : List Kind → Type 0 = λ ks. Follows gs c.args.users ks c.args.users in
    let items = c.in_ok-push.ensures.items ∙ ap (λ (g : Grant). c.new-kinds.result.items ++ g.atom.kind ∷ []) (sym c.index-grants-0.is) ∙ ap (λ (ks : List Kind). ks ++ c.index-grants-0.result.atom.kind ∷ []) c.new-kinds.ensures.items in
    subst P (sym items) (follows-first gs c.args.users c.index-grants-0.result c.requires c.index-grants-0.is)

pub loop-count-preserved : goal.loop-count-preserved
loop-count-preserved c =
    let gs : List Grant = c.args.grants.now in
    let behind : List Grant = take (length gs - c.loop-count.count) (drop c.loop-count.count gs) in
    let is_behind = take_rest gs c.loop-count.count in
    let now : Follows gs c.args.users c.loop-count.kinds.items c.loop-count.count = c.loop-count.invariant in
    let test = tested-next gs behind c.args.users c.loop-count.kinds.items c.loop-count.count c.atom_ahead-more.result now c.atom_ahead-more.ensures c.index-grants-0-in-loop-count.result c.index-behind-0.result c.index-grants-0-in-loop-count.is c.requires.some c.index-behind-0.is in
    let joins : are_of_one_statement (with_member now.atoms c.atom_ahead-more.ensures.group) ≡ true = cc (test, c.joins.ensures, c.if-not-joins.false, c.deref.ensures.value) in
    let P : List Kind → Type 0 = λ ks. Follows gs c.args.users ks (c.loop-count.count + c.atom_ahead-more.result) in
    subst P (sym (c.in_ok-push-2.ensures.items ∙ ap (λ (g : Grant). c.loop-count.kinds.items ++ g.atom.kind ∷ []) (sym c.index-behind-0-in-loop-count.is)))
    (follows-more gs behind c.args.users c.loop-count.kinds.items c.loop-count.count c.atom_ahead-more.result is_behind now c.atom_ahead-more.ensures c.index-behind-0-in-loop-count.result c.index-behind-0-in-loop-count.is joins)

pub returns-then-not-joins : goal.returns-then-not-joins
returns-then-not-joins c =
    let gs : List Grant = c.args.grants.now in
    let behind : List Grant = take (length gs - c.loop-count.count) (drop c.loop-count.count gs) in
    let is_behind = take_rest gs c.loop-count.count in
    let now : Follows gs c.args.users c.loop-count.kinds.items c.loop-count.count = c.loop-count.invariant in
    let test = tested-next gs behind c.args.users c.loop-count.kinds.items c.loop-count.count c.atom_ahead-more.result now c.atom_ahead-more.ensures c.index-grants-0-in-loop-count.result c.index-behind-0.result c.index-grants-0-in-loop-count.is c.requires.some c.index-behind-0.is in
    let parts : are_of_one_statement (with_member now.atoms c.atom_ahead-more.ensures.group) ≡ false = cc (test, c.joins.ensures, c.if-not-joins.true, c.deref.ensures.value) in
    follows-over gs behind c.args.users c.loop-count.kinds.items c.loop-count.count c.atom_ahead-more.result is_behind now c.atom_ahead-more.ensures c.index-behind-0.result c.index-behind-0.is parts

pub returns : goal.returns
returns c = follows-all c.args.grants.now c.args.users c.loop-count.kinds.items c.loop-count.count c.loop-count.invariant c.loop-count-test.false
