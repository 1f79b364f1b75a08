-- Ends, and the next revocations of a grant.
use Rattle.std.proofs.Common.{◌≡◌, ◌⊎◌, ℕ, ◌+◌, ◌-◌, ◌<◌, ◌≤◌, suc, zero, Bool, true, false, not, ◌&&◌, ◌||◌, cond, eqb, ltb, List, [], ◌∷◌, length, slice_get, take, drop, Option, Some, None, inl, inr, refl, sym, ap, ◌∙◌, subst, arith, ⊎_elim, length-drop, add-zero}
use Rattle.std.specs.List.{list_any}
use Rattle.std.proofs.lemmas.Bool.{cases_Bool, and_right, lt-ltb, le-ltb, ltb-true, ltb-false, ne_eqb, cond-true, cond-false}
use Rattle.std.proofs.lemmas.List.{drop-take}
use Rattle.std.proofs.lemmas.Option.{none-some, same_Some}
use Rattle.base_core.specs.declared.value.Moment.{Moment}
use Rattle.grants_core.specs.declared.grant.Grant.{Grant}
use Rattle.grants_core.specs.declared.grant.Change.{Change}
use Rattle.grants_core.specs.declared.grant.Change.TheVariants as change
use Rattle.grants_core.specs.Content.{names}
use Rattle.grants_core.specs.History.{is_struck_by, is_struck_from, is_struck, is_unoptioned_by, is_unoptioned_from, is_unoptioned}
use Rattle.grants_core.specs.Log.{noted_revocation}
use Rattle.explain_core.specs.declared.coming.Coming.{Coming}
use Rattle.explain_core.specs.declared.coming.Ends.{Ends}
use Rattle.explain_core.specs.Falls.{strikes, takes_option, IsChangeAt}
use Rattle.explain_core.specs.Ends.{is_before, is_later, earlier, end_at, next_struck, next_unoptioned, next_ends, AreNoted}
use Rattle.explain_core.specs.Reading.{EndsWithin}

before-both : (m a b : ℕ) → a ≤ b → ltb m a ≡ (ltb m b && ltb m a)
before-both m a b le =
    ⊎_elim
    (λ (near : ltb m a ≡ true).
    let lt : m < a = ltb-true m a near in
    sym (ap (λ k. k && ltb m a) (lt-ltb m b (omega arith))))
    (λ (far : ltb m a ≡ false). far ∙ sym (and_right (ltb m b) (ltb m a) far))
    (cases_Bool (ltb m a))

and_flip : (a b : Bool) → (a && b) ≡ (b && a)
and_flip true true = refl
and_flip true false = refl
and_flip false true = refl
and_flip false false = refl

and_true : (a : Bool) → a ≡ (a && true)
and_true true = refl
and_true false = refl

-- a moment is before the earlier of two ends where it is before both
pub before-earlier : (m : ℕ) (end other : Option Moment) → is_before m (earlier end other) ≡ (is_before m end && is_before m other)
before-earlier m None None = refl
before-earlier m None (Some b) = refl
before-earlier m (Some a) None = and_true (ltb m a.0)
before-earlier m (Some a) (Some b) =
    ⊎_elim
    (λ (sooner : ltb b.0 a.0 ≡ true).
    let lt : b.0 < a.0 = ltb-true b.0 a.0 sooner in
    ap (is_before m) (cond-true (ltb b.0 a.0) (Some b) (Some a) sooner) ∙ before-both m b.0 a.0 (omega arith))
    (λ (later : ltb b.0 a.0 ≡ false).
    let le : a.0 ≤ b.0 = ltb-false b.0 a.0 later in
    ap (is_before m) (cond-false (ltb b.0 a.0) (Some b) (Some a) later) ∙ before-both m a.0 b.0 le ∙ and_flip (ltb m b.0) (ltb m a.0))
    (cases_Bool (ltb b.0 a.0))

-- the earlier of two ends is one of them
pub earlier-either : (P : Option Moment → Type 0) (end other : Option Moment) → P end → P other → P (earlier end other)
earlier-either P end other h k =
    elim (is_later end other) as (λ b. P (cond b other end)) [ true ↦ k | false ↦ h ]

pub earlier-is : (end other : Option Moment) (at : Moment) → earlier end other ≡ Some at → (end ≡ Some at) ⊎ (other ≡ Some at)
earlier-is end other at =
    let P : Option Moment → Type 0 = λ k. k ≡ Some at → (end ≡ Some at) ⊎ (other ≡ Some at) in
    earlier-either P end other (λ e. inl e) (λ e. inr e)

-- where it is never, both are
pub earlier-never : (end other : Option Moment) → earlier end other ≡ None → other ≡ None
earlier-never None None e = refl
earlier-never None (Some b) e = e
earlier-never (Some a) None e = refl
earlier-never (Some a) (Some b) e =
    let P : Option Moment → Type 0 = λ k. k ≡ None → Some b ≡ None in
    let Q : (k : Moment) → Some k ≡ None → Some b ≡ None = λ k f. cc in
    earlier-either P (Some a) (Some b) (Q a) (Q b) e

-- an end that comes no later than another: what is before it is before the other
pub before-no_later : (m : ℕ) (end other : Option Moment) → is_later end other ≡ false → is_before m end ≡ true → is_before m other ≡ true
before-no_later m end None h k = refl
before-no_later m None (Some b) h k = cc
before-no_later m (Some a) (Some b) h k =
    let le : a.0 ≤ b.0 = ltb-false b.0 a.0 h in
    let lt : m < a.0 = ltb-true m a.0 k in
    lt-ltb m b.0 (omega arith)

abbrev moment_at : ℕ → Moment
moment_at m = record { 0 = m }

slice_get-drop : {X : Type 0} (a k : ℕ) (xs : List X) → slice_get (drop a xs) k ≡ slice_get xs (a + k)
slice_get-drop zero k xs = let e : k ≡ 0 + k = omega arith in ap (slice_get xs) e
slice_get-drop (suc a) k [] = let e : (suc a) + k ≡ suc (a + k) = omega arith in sym (ap (slice_get []) e)
slice_get-drop (suc a) k (x ∷ xs) =
    let e : (suc a) + k ≡ suc (a + k) = omega arith in
    slice_get-drop a k xs ∙ sym (ap (slice_get (x ∷ xs)) e)

end_at-some : (m : ℕ) → 0 < m → end_at m ≡ Some (record { 0 = m })
end_at-some m h = cond-false (eqb m 0) None (Some (record { 0 = m })) (ne_eqb m 0 (λ e. omega arith))

-- the first of the changes that passes a test, of which the first has moment m
module _ (test : Change → Bool) where
  abbrev first_from : ℕ → List Change → ℕ
  first_from m [] = 0
  first_from m (c ∷ cs) = cond (test c) m (first_from (m + 1) cs)

  first_from-early : (m j : ℕ) (cs : List Change) → m < j → is_before m (end_at (first_from j cs)) ≡ true
  first_from-early m j [] h = refl
  first_from-early m j (c ∷ cs) h =
      elim (test c) as (λ b. is_before m (end_at (cond b j (first_from (j + 1) cs))) ≡ true) [
        | true ↦ ap (is_before m) (end_at-some j (omega arith)) ∙ lt-ltb m j h
        | false ↦ first_from-early m (j + 1) cs (omega arith)
      ]

  first_from-before : (a k : ℕ) (cs : List Change) → is_before (a + k) (end_at (first_from (a + 1) cs)) ≡ not (list_any test (take k cs))
  first_from-before a zero cs = first_from-early (a + zero) (a + 1) cs (omega arith)
  first_from-before a (suc k) [] = refl
  first_from-before a (suc k) (c ∷ cs) =
      let next : (a + 1) + k ≡ a + suc k = omega arith in
      elim (test c) as (λ b. is_before (a + suc k) (end_at (cond b (a + 1) (first_from ((a + 1) + 1) cs))) ≡ not (b || list_any test (take k cs))) [
        | true ↦ ap (is_before (a + suc k)) (end_at-some (a + 1) (omega arith)) ∙ le-ltb (a + suc k) (a + 1) (omega arith)
        | false ↦ ap (λ n. is_before n (end_at (first_from ((a + 1) + 1) cs))) (sym next) ∙ first_from-before (a + 1) k cs
      ]

  first_from-within : (low high j : ℕ) (cs : List Change) → low ≤ j → 0 < j → j + length cs ≤ high + 1 → EndsWithin low high (end_at (first_from j cs))
  first_from-within low high j [] h p k = tt
  first_from-within low high j (c ∷ cs) h p k =
      let P : Option Moment → Type 0 = λ e. EndsWithin low high e in
      let le : j ≤ high = omega arith in
      elim (test c) as (λ b. EndsWithin low high (end_at (cond b j (first_from (j + 1) cs)))) [
        | true ↦ subst P (sym (end_at-some j p)) (h, le)
        | false ↦ first_from-within low high (j + 1) cs (omega arith) (omega arith) (omega arith)
      ]

-- the change at a first moment passes the test
first_from-passes : (test : Change → Bool) (j : ℕ) (cs : List Change) (at : Moment) (k : ℕ) (c : Change) → 0 < j → end_at (first_from test j cs) ≡ Some at → at.0 ≡ j + k → slice_get cs k ≡ Some c → test c ≡ true
first_from-passes test j [] at k c p e i h = absurd (none-some c h)
first_from-passes test j (d ∷ ds) at zero c p e i h =
    ⊎_elim
    (λ (here : test d ≡ true). ap test (sym (same_Some d c h)) ∙ here)
    (λ (there : test d ≡ false).
    let next : end_at (first_from test (j + 1) ds) ≡ Some at = ap end_at (sym (cond-false (test d) j (first_from test (j + 1) ds) there)) ∙ e in
    let before : is_before j (Some at) ≡ true = ap (is_before j) (sym next) ∙ first_from-early test j (j + 1) ds (omega arith) in
    let lt : j < at.0 = ltb-true j at.0 before in
    absurd (omega (arith, lt, i)))
    (cases_Bool (test d))
first_from-passes test j (d ∷ ds) at (suc k) c p e i h =
    ⊎_elim
    (λ (here : test d ≡ true).
    let is : Some (moment_at j) ≡ Some at = sym (end_at-some j p) ∙ ap end_at (sym (cond-true (test d) j (first_from test (j + 1) ds) here)) ∙ e in
    let same : j ≡ at.0 = ap (λ (t : Moment). t.0) (same_Some (moment_at j) at is) in
    absurd (omega (arith, same, i)))
    (λ (there : test d ≡ false).
    let next : end_at (first_from test (j + 1) ds) ≡ Some at = ap end_at (sym (cond-false (test d) j (first_from test (j + 1) ds) there)) ∙ e in
    first_from-passes test (j + 1) ds at k c (omega arith) next (omega arith) h)
    (cases_Bool (test d))

-- among the changes after the first a
first_after-passes : (test : Change → Bool) (a : ℕ) (changes : List Change) (at : Moment) (c : Change) → end_at (first_from test (a + 1) (drop a changes)) ≡ Some at → IsChangeAt changes at c → test c ≡ true
first_after-passes test a changes at c e h =
    let m : ℕ = h.0 in
    let is : at.0 ≡ m + 1 = h.1 in
    let before : is_before a (Some at) ≡ true = ap (is_before a) (sym e) ∙ first_from-early test a (a + 1) (drop a changes) (omega arith) in
    let lt : a < at.0 = ltb-true a at.0 before in
    let parts : a + (m - a) ≡ m = omega arith in
    first_from-passes test (a + 1) (drop a changes) at (m - a) c (omega arith) e (omega arith) (slice_get-drop a (m - a) changes ∙ ap (slice_get changes) parts ∙ h.2)

-- whether a change passes a test that goes by the moment too
abbrev any_from : (ℕ → Change → Bool) → ℕ → List Change → Bool
any_from by m [] = false
any_from by m (c ∷ cs) = by m c || any_from by (m + 1) cs

-- a test that only changes after moment a pass
module _ (test : Change → Bool) (a : ℕ) (by : ℕ → Change → Bool) (is : (m : ℕ) (c : Change) → by m c ≡ (ltb a m && test c)) where
  any_from-later : (j : ℕ) (cs : List Change) → a < j → any_from by j cs ≡ list_any test cs
  any_from-later j [] h = refl
  any_from-later j (c ∷ cs) h =
      let here : by j c ≡ test c = is j c ∙ ap (λ b. b && test c) (lt-ltb a j h) in
      ap (λ b. b || any_from by (j + 1) cs) here ∙ ap (λ b. test c || b) (any_from-later (j + 1) cs (omega arith))

  any_from-skip : (j i : ℕ) (cs : List Change) → j + i ≤ a + 1 → any_from by j cs ≡ any_from by (j + i) (drop i cs)
  any_from-skip j zero cs h = ap (λ n. any_from by n cs) (sym (add-zero j))
  any_from-skip j (suc i) [] h = refl
  any_from-skip j (suc i) (c ∷ cs) h =
      let next : (j + 1) + i ≡ j + suc i = omega arith in
      let here : by j c ≡ false = is j c ∙ ap (λ b. b && test c) (le-ltb a j (omega arith)) in
      ap (λ b. b || any_from by (j + 1) cs) here
      ∙ any_from-skip (j + 1) i cs (omega arith) ∙ ap (λ n. any_from by n (drop i cs)) next

  any_from-take : (changes : List Change) (m : ℕ) → a ≤ m → any_from by 1 (take m changes) ≡ list_any test (take (m - a) (drop a changes))
  any_from-take changes m h =
      let parts : m ≡ a + (m - a) = omega arith in
      any_from-skip 1 a (take m changes) (omega arith)
      ∙ any_from-later (1 + a) (drop a (take m changes)) (omega arith)
      ∙ ap (λ n. list_any test (drop a (take n changes))) parts ∙ ap (list_any test) (drop-take a (m - a) changes)

  before-first : (changes : List Change) (m : ℕ) → a ≤ m → is_before m (end_at (first_from test (a + 1) (drop a changes))) ≡ not (any_from by 1 (take m changes))
  before-first changes m h =
      let parts : m ≡ a + (m - a) = omega arith in
      ap (λ n. is_before n (end_at (first_from test (a + 1) (drop a changes)))) parts
      ∙ first_from-before test a (m - a) (drop a changes) ∙ ap not (sym (any_from-take changes m h))

-- what revokes a grant
abbrev strikes_it : Grant → Change → Bool
strikes_it g c = strikes c g

struck-by : (g : Grant) (m : ℕ) (c : Change) → is_struck_by m c g ≡ (ltb g.moment.0 m && strikes_it g c)
struck-by g m (change.Create table owner) = sym (and_right (ltb g.moment.0 m) false refl)
struck-by g m (change.Grant by atoms whom option) = sym (and_right (ltb g.moment.0 m) false refl)
struck-by g m (change.Revoke by atoms whom) = refl
struck-by g m (change.RevokeOption by atoms whom) = sym (and_right (ltb g.moment.0 m) false refl)
struck-by g m change.Other = sym (and_right (ltb g.moment.0 m) false refl)

struck-any : (g : Grant) (m : ℕ) (cs : List Change) → is_struck_from m cs g ≡ any_from (λ n c. is_struck_by n c g) m cs
struck-any g m [] = refl
struck-any g m (c ∷ cs) = ap (λ b. is_struck_by m c g || b) (struck-any g (m + 1) cs)

struck-first : (g : Grant) (m : ℕ) (cs : List Change) → next_struck m cs g ≡ first_from (strikes_it g) m cs
struck-first g m [] = refl
struck-first g m (change.Create table owner ∷ cs) = struck-first g (m + 1) cs
struck-first g m (change.Grant by atoms whom option ∷ cs) = struck-first g (m + 1) cs
struck-first g m (change.Revoke by atoms whom ∷ cs) = ap (cond (names by atoms whom g) m) (struck-first g (m + 1) cs)
struck-first g m (change.RevokeOption by atoms whom ∷ cs) = struck-first g (m + 1) cs
struck-first g m (change.Other ∷ cs) = struck-first g (m + 1) cs

-- **a grant is struck from the next revocation on that names it**
pub before-struck : (changes : List Change) (g : Grant) (m : ℕ) → g.moment.0 ≤ m → is_before m (next_ends changes g).struck ≡ not (is_struck (take m changes) g)
before-struck changes g m h =
    ap (λ n. is_before m (end_at n)) (struck-first g (g.moment.0 + 1) (drop g.moment.0 changes))
    ∙ before-first (strikes_it g) g.moment.0 (λ n c. is_struck_by n c g) (struck-by g) changes m h
    ∙ ap not (sym (struck-any g 1 (take m changes)))

pub within-struck : (changes : List Change) (g : Grant) → g.moment.0 ≤ length changes → EndsWithin g.moment.0 (length changes) (next_ends changes g).struck
within-struck changes g h =
    let P : ℕ → Type 0 = λ n. EndsWithin g.moment.0 (length changes) (end_at n) in
    let rest : length (drop g.moment.0 changes) ≡ length changes - g.moment.0 = length-drop g.moment.0 changes in
    subst P (sym (struck-first g (g.moment.0 + 1) (drop g.moment.0 changes)))
    (first_from-within (strikes_it g) g.moment.0 (length changes) (g.moment.0 + 1) (drop g.moment.0 changes) (omega arith) (omega arith) (omega arith))

-- the change at that moment strikes it
pub struck-strikes : (changes : List Change) (g : Grant) (at : Moment) (c : Change) → (next_ends changes g).struck ≡ Some at → IsChangeAt changes at c → strikes c g ≡ true
struck-strikes changes g at c e h =
    first_after-passes (strikes_it g) g.moment.0 changes at c (sym (ap end_at (struck-first g (g.moment.0 + 1) (drop g.moment.0 changes))) ∙ e) h

-- what revokes its option
abbrev unoptions_it : Grant → Change → Bool
unoptions_it g (change.Create table owner) = false
unoptions_it g (change.Grant by atoms whom option) = false
unoptions_it g (change.Revoke by atoms whom) = false
unoptions_it g (change.RevokeOption by atoms whom) = names by atoms whom g
unoptions_it g change.Other = false

unoptioned-by : (g : Grant) (m : ℕ) (c : Change) → is_unoptioned_by m c g ≡ (ltb g.moment.0 m && unoptions_it g c)
unoptioned-by g m (change.Create table owner) = sym (and_right (ltb g.moment.0 m) false refl)
unoptioned-by g m (change.Grant by atoms whom option) = sym (and_right (ltb g.moment.0 m) false refl)
unoptioned-by g m (change.Revoke by atoms whom) = sym (and_right (ltb g.moment.0 m) false refl)
unoptioned-by g m (change.RevokeOption by atoms whom) = refl
unoptioned-by g m change.Other = sym (and_right (ltb g.moment.0 m) false refl)

unoptioned-any : (g : Grant) (m : ℕ) (cs : List Change) → is_unoptioned_from m cs g ≡ any_from (λ n c. is_unoptioned_by n c g) m cs
unoptioned-any g m [] = refl
unoptioned-any g m (c ∷ cs) = ap (λ b. is_unoptioned_by m c g || b) (unoptioned-any g (m + 1) cs)

unoptioned-first : (g : Grant) (m : ℕ) (cs : List Change) → next_unoptioned m cs g ≡ first_from (unoptions_it g) m cs
unoptioned-first g m [] = refl
unoptioned-first g m (change.Create table owner ∷ cs) = unoptioned-first g (m + 1) cs
unoptioned-first g m (change.Grant by atoms whom option ∷ cs) = unoptioned-first g (m + 1) cs
unoptioned-first g m (change.Revoke by atoms whom ∷ cs) = unoptioned-first g (m + 1) cs
unoptioned-first g m (change.RevokeOption by atoms whom ∷ cs) = ap (cond (names by atoms whom g) m) (unoptioned-first g (m + 1) cs)
unoptioned-first g m (change.Other ∷ cs) = unoptioned-first g (m + 1) cs

-- **its option is taken from the next revocation of it on**
pub before-unoptioned : (changes : List Change) (g : Grant) (m : ℕ) → g.moment.0 ≤ m → is_before m (next_ends changes g).unoptioned ≡ not (is_unoptioned (take m changes) g)
before-unoptioned changes g m h =
    ap (λ n. is_before m (end_at n)) (unoptioned-first g (g.moment.0 + 1) (drop g.moment.0 changes))
    ∙ before-first (unoptions_it g) g.moment.0 (λ n c. is_unoptioned_by n c g) (unoptioned-by g) changes m h
    ∙ ap not (sym (unoptioned-any g 1 (take m changes)))

pub within-unoptioned : (changes : List Change) (g : Grant) → g.moment.0 ≤ length changes → EndsWithin g.moment.0 (length changes) (next_ends changes g).unoptioned
within-unoptioned changes g h =
    let P : ℕ → Type 0 = λ n. EndsWithin g.moment.0 (length changes) (end_at n) in
    let rest : length (drop g.moment.0 changes) ≡ length changes - g.moment.0 = length-drop g.moment.0 changes in
    subst P (sym (unoptioned-first g (g.moment.0 + 1) (drop g.moment.0 changes)))
    (first_from-within (unoptions_it g) g.moment.0 (length changes) (g.moment.0 + 1) (drop g.moment.0 changes) (omega arith) (omega arith) (omega arith))

unoptions-takes : (g : Grant) (c : Change) → g.option ≡ true → unoptions_it g c ≡ takes_option c g
unoptions-takes g (change.Create table owner) on = refl
unoptions-takes g (change.Grant by atoms whom option) on = refl
unoptions-takes g (change.Revoke by atoms whom) on = refl
unoptions-takes g (change.RevokeOption by atoms whom) on = sym (ap (λ b. b && names by atoms whom g) on)
unoptions-takes g change.Other on = refl

pub unoptioned-takes : (changes : List Change) (g : Grant) (at : Moment) (c : Change) → g.option ≡ true → (next_ends changes g).unoptioned ≡ Some at → IsChangeAt changes at c → takes_option c g ≡ true
unoptioned-takes changes g at c on e h =
    sym (unoptions-takes g c on)
    ∙ first_after-passes (unoptions_it g) g.moment.0 changes at c (sym (ap end_at (unoptioned-first g (g.moment.0 + 1) (drop g.moment.0 changes))) ∙ e) h

-- what is noted of the changes after a grant's moment tells its ends
pub noted-ends : (changes : List Change) (g : Grant) (coming : Coming) (ends : Ends) → AreNoted changes g.moment.0 coming → ends.struck ≡ end_at (noted_revocation coming.struck g) → ends.unoptioned ≡ end_at (noted_revocation coming.unoptioned g) → ends ≡ next_ends changes g
noted-ends changes g coming ends h struck unoptioned =
    let With_struck : Option Moment → Ends = λ e. record { struck = e; unoptioned = ends.unoptioned } in
    let With_both : Option Moment → Ends = λ e. record { struck = (next_ends changes g).struck; unoptioned = e } in
    ap With_struck (struck ∙ ap end_at (h.struck g)) ∙ ap With_both (unoptioned ∙ ap end_at (h.unoptioned g))
