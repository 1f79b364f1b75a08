use Rattle.std.proofs.Common.{◌≡◌, ◌∙◌, ◌<◌, ◌≤◌, ◌==◌, ◌∷◌, ◌++◌, [], ℕ, true, false, List, Some, ap, sym, subst, length, reverse, rules, arith}
use Rattle.std.specs.List.{slice_get}
use Rattle.std.proofs.lemmas.Bool.{eq-eqb, ne_eqb}
use Rattle.std.proofs.lemmas.List.{reverse-append}
use Rattle.std.proofs.lemmas.Option.{get_or_from_slice_get, same_Some}
use Rattle.base_core.specs.declared.value.Moment.{Moment}
use Rattle.explain_core.specs.declared.life.Life.{Life}
use Rattle.explain_core.specs.Lives.{lives_of}
use Rattle.explain_core.specs.Falls.{IsDescent, IsChangeAt}
use Rattle.explain_core.proofs.LifeLemmas.{life-fall}
use Rattle.explain_core.proofs.DescentLemmas.{FallsFrom, falls_alone, falls_above, descent_from}
use Rattle.explain_core.proofs.SupportLemmas.{explained, life_at, is_within, same_life, change_at}
use Rattle.explain_core.proofs.history.History.descent.Goals as goal
use Rattle.explain_core.proofs.history.History.descent.Goals.{In-Some, In-Some-above, After-index-change}

-- the moment that is read is that at which the life fell
fell_then : (c : In-Some) (life : Life) → slice_get (lives_of c.args.self.now) c.args.number ≡ Some life → life.fell ≡ Some c.in-Some.at
fell_then c life at =
    let h = explained _ _ c.self.view_is c.self.invariant in
    let here = ap (λ (l : List Life). slice_get l c.args.number) (c.as_slice-lives.ensures.value ∙ h.lives_are) ∙ at in
    ap (λ (l : Life). l.fell) (sym (get_or_from_slice_get c.as_slice-lives.result.now c.args.number life _ here)) ∙ c.in-Some.is

-- it is that of a change
moment : (c : In-Some) → (1 ≤ c.in-Some.at.0) × (c.in-Some.at.0 ≤ length c.args.self.now)
moment c =
    let (life, at, there, fell) = c.requires in
    life-fall c.args.self.now c.args.number life c.in-Some.at there (fell_then c life there)

pub overflow_sub-at : goal.overflow_sub-at
overflow_sub-at c = (moment (goal.at.overflow_sub-at c).In-Some).0

pub index-change-requires : goal.index-change-requires
index-change-requires c =
    let within = moment (goal.at.index-change-requires c).In-Some in
    let many = ap length c.self.view_is in
    omega (arith, within.0, within.1, many, c.self.inside.changes.ok.0)

pub loop-above-init : goal.loop-above-init
loop-above-init c =
    let h = explained _ _ c.self.view_is c.self.invariant in
    let same = c.as_slice-lives.ensures.value in
    let (life, at, there, fell) = c.requires in
    record {
      within = rw same (is_within _ _ _ _ h c.args.number life there);
      falls = λ last when last_there last_fell.
          let P : List Life → Type 0 = λ k. FallsFrom c.args.self.now when c.args.number c.args.number last (reverse k) in
          let read = same_life _ _ _ _ h c.args.number last c.index-lives-number.result last_there (rw same at c.index-lives-number.is) in
          let items : c.push.new.self.items ≡ last ∷ [] =
          c.in_ok-push.ensures.items ∙ ap (λ (k : List Life). k ++ c.index-lives-number.result ∷ []) c.new-line.ensures.items
          ∙ ap (λ (l : Life). l ∷ []) read in
          subst P (sym items) (falls_alone c.args.self.now when c.args.number last last_there);
    }

-- the support is at an earlier place
before : (c : In-Some-above) → (c.in-Some-above.above < c.loop-above.place) × (c.in-Some-above.above < length c.as_slice-lives.result.now)
before c =
    let h = explained _ _ c.self.view_is c.self.invariant in
    let same = c.as_slice-lives.ensures.value in
    let (life, at) = life_at _ _ _ _ h c.loop-above.place (rw same at c.loop-above.invariant.within) in
    let is = c.in-Some-above.ensures life at in
    (is.1, rw same (is_within _ _ _ _ h c.in-Some-above.above is.2 is.3))

pub offset_bounds-lives-place : goal.offset_bounds-lives-place
offset_bounds-lives-place c =
    let lt : c.in-Some-above.above < length c.as_slice-lives.result.now = (before (goal.at.offset_bounds-lives-place c).In-Some-above).1 in
    search rules

pub bounds-lives-place : goal.bounds-lives-place
bounds-lives-place c = (before (goal.at.bounds-lives-place c).In-Some-above).1

pub loop-above-smaller : goal.loop-above-smaller
loop-above-smaller c = (before (goal.at.loop-above-smaller c).In-Some-above).0

-- the change that is read is that of the moment
change : (c : After-index-change) (at : Moment) (life : Life) → slice_get (lives_of c.args.self.now) c.args.number ≡ Some life → life.fell ≡ Some at → IsChangeAt c.args.self.now at c.index-change.result.now
change c at life there fell =
    let P : Moment → Type 0 = λ m. IsChangeAt c.args.self.now m c.index-change.result.now in
    let within = moment (goal.at.loop-above-init c).In-Some in
    let same : c.in-Some.at ≡ at = same_Some c.in-Some.at at (sym (fell_then (goal.at.loop-above-init c).In-Some life there) ∙ fell) in
    subst P same (change_at c.self.inside.changes.items c.args.self.now c.self.view_is c.in-Some.at c.index-change.result.now within.0 within.1 c.index-change.ensures)

-- whether a place is that of the last
tells : (place number : ℕ) → (place ≡ number → (place == number) ≡ true) × (place < number → (place == number) ≡ false)
tells place number = (eq-eqb place number, λ less. ne_eqb place number (λ same. absurd (omega (arith, less, same))))

pub loop-above-preserved : goal.loop-above-preserved
loop-above-preserved c =
    let h = explained _ _ c.self.view_is c.self.invariant in
    let same = c.as_slice-lives.ensures.value in
    record {
      within = (before (goal.at.loop-above-preserved c).In-Some-above).1;
      falls = λ last when last_there last_fell.
          let from = c.loop-above.invariant.falls last when last_there last_fell in
          let is = c.in-Some-above.ensures from.top from.top_at in
          let above : Life = is.2 in
          let P : List Life → Type 0 = λ k. FallsFrom c.args.self.now when c.args.number c.in-Some-above.above last k in
          let read = same_life _ _ _ _ h c.in-Some-above.above above c.index-lives-place.result is.3 (rw same at c.index-lives-place.is) in
          let line : reverse c.push-in-Some-above.new.self.items ≡ above ∷ reverse c.loop-above.line.items =
          ap reverse c.in_ok-push-2.ensures.items ∙ reverse-append c.loop-above.line.items (c.index-lives-place.result ∷ [])
          ∙ ap (λ (l : Life). l ∷ reverse c.loop-above.line.items) read in
          subst P (sym line)
          (falls_above c.args.self.now when c.args.number last c.index-change.result.now (change (goal.at.loop-above-preserved c).After-index-change when last last_there last_fell) last_fell
          c.loop-above.place (reverse c.loop-above.line.items) from (c.loop-above.place == c.args.number) (tells c.loop-above.place c.args.number) c.in-Some-above.above is);
    }

pub returns : goal.returns
returns c = λ last when last_there last_fell.
    let from = c.loop-above.invariant.falls last when last_there last_fell in
    let P : List Life → Type 0 = λ k. IsDescent c.args.self.now when k last in
    subst P (sym c.reverse.ensures.items)
    (descent_from c.args.self.now when c.args.number last c.index-change.result.now (change (goal.at.returns c).After-index-change when last last_there last_fell) last_fell
    c.loop-above.place (reverse c.loop-above.line.items) from (c.loop-above.place == c.args.number) (tells c.loop-above.place c.args.number) (c.in_default-above.ensures from.top from.top_at))
