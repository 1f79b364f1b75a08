use Rattle.std.proofs.Common.{◌≡◌, ◌≤◌, ◌<◌, ◌∙◌, ℕ, List, length, drop, map, ap, sym, subst}
use Rattle.std.specs.List.{slice_get}
use Rattle.std.specs.Option.{option_copied}
use Rattle.std.proofs.lemmas.Bool.{eq-eqb, ne_eqb}
use Rattle.std.specs.List.Sorted.{IsPartitionPoint}
use Rattle.links_core.specs.declared.end.End.{End}
use Rattle.links_core.specs.Ends.{EndsState, IsByUser, numbers_at}
use Rattle.links_core.proofs.EndsLemmas.{sorted_drop, at_user-from, first-own, first-other, first-none, all_drop}
use Rattle.links_core.proofs.ends.Ends.first_at.Goals as goal

-- the numbers are those of the ends from the place on that was answered
numbers_from : (old now : EndsState) (ends rest : List End) (user start : ℕ) → old ≡ now → ends ≡ old.ends → rest ≡ drop start ends → IsPartitionPoint (λ e. e.user < user) (λ e. user ≤ e.user) ends start → start ≤ length ends → slice_get (numbers_at user rest) 0 ≡ slice_get (numbers_at user now.ends) 0
numbers_from old now ends rest user start view all is first within =
    ap (λ k. slice_get (numbers_at user k) 0) is
    ∙ ap (λ k. slice_get (map (λ (e : End). e.number) k) 0) (sym (at_user-from ends user start first within))
    ∙ ap (λ k. slice_get (numbers_at user k) 0) all ∙ ap (λ (h : EndsState). slice_get (numbers_at user h.ends) 0) view

pub returns-in_default : goal.returns-in_default
returns-in_default c =
    let user = c.args.user in
    sym (first-none c.split_at.result.1.now user (sym c.first.ensures.value ∙ ap option_copied c.in_default.is))
    ∙ numbers_from c.self.inside.row c.args.self.now c.as_slice-ends.result.now c.split_at.result.1.now user c.start_of.result c.self.view_is c.as_slice-ends.ensures c.split_at.ensures.back c.start_of.ensures.parted c.start_of.ensures.within

pub returns-then-end-user : goal.returns-then-end-user
returns-then-end-user c =
    let user = c.args.user in
    sym (first-own c.split_at.result.1.now c.in-Some.end.now user (sym c.in-Some.ensures.value) (eq-eqb c.in-Some.end.now.user user c.if-end-user.true))
    ∙ numbers_from c.self.inside.row c.args.self.now c.as_slice-ends.result.now c.split_at.result.1.now user c.start_of.result c.self.view_is c.as_slice-ends.ensures c.split_at.ensures.back c.start_of.ensures.parted c.start_of.ensures.within

pub returns-else-end-user : goal.returns-else-end-user
returns-else-end-user c =
    let user = c.args.user in
    let ends = c.as_slice-ends.result.now in
    let start = c.start_of.result in
    let sorted : IsByUser (drop start ends) = sorted_drop ends start (subst (λ k. IsByUser k) (sym c.as_slice-ends.ensures) c.self.invariant) in
    let from = all_drop (λ e. user ≤ e.user) ends start c.start_of.ensures.parted.1 in
    sym (first-other c.split_at.result.1.now c.in-Some.end.now user (rw c.split_at.ensures.back sorted) (rw c.split_at.ensures.back from) (sym c.in-Some.ensures.value) (ne_eqb c.in-Some.end.now.user user c.if-end-user.false))
    ∙ numbers_from c.self.inside.row c.args.self.now ends c.split_at.result.1.now user start c.self.view_is c.as_slice-ends.ensures c.split_at.ensures.back c.start_of.ensures.parted c.start_of.ensures.within
