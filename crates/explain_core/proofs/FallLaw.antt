-- A grant falls by a revocation alone.
use Rattle.std.proofs.Common.{◌≡◌, ◌⊎◌, ℕ, ◌+◌, ◌-◌, ◌<◌, ◌≤◌, Bool, true, false, not, cond, eqb, List, [], ◌∷◌, ◌++◌, length, get_or, take, drop, slice_get, suc, zero, Option, Some, None, refl, sym, ap, ◌∙◌, subst, inl, inr, ⊎_elim, arith}
use Rattle.std.specs.List.{AllByRecursion, All, list_any, find, range_with_len}
use Rattle.std.specs.Option.{option_map, IfSome}
use Rattle.std.proofs.lemmas.Bool.{cases_Bool, cases_eq, cases_lt, both_ways, or_left, or_right, eq-eqb}
use Rattle.std.proofs.lemmas.List.{take_more, drop_more, take-append-drop, length-take-le, append-nil}
use Rattle.std.proofs.lemmas.List.Folds.{list_any-append, list_any_at}
use Rattle.std.proofs.lemmas.List.Elements.{recursion_from_All, All-from_recursion, All-map}
use Rattle.std.proofs.lemmas.Option.{none-some, same_Some, slice_get_within, slice_get-get_or, get_or_from_slice_get}
use Rattle.base_core.specs.declared.value.Moment.{Moment}
use Rattle.grants_core.specs.declared.grant.Grant.{Grant}
use Rattle.grants_core.specs.declared.grant.Change.{Change}
use Rattle.grants_core.specs.declared.grant.Change.TheVariants as change
use Rattle.grants_core.specs.Content.{Rights}
use Rattle.grants_core.specs.History.{made_by, made_by_all, grants_of, granted_from, granted, in_force_after}
use Rattle.grants_core.proofs.GrantLemmas.{All-implied}
use Rattle.grants_core.proofs.OwnersLemmas.{AllByRecursion-append}
use Rattle.grants_core.proofs.HistoryLemmas.{granted_from-append, content-create, content-grant, content-other}
use Rattle.explain_core.specs.declared.life.Life.{Life}
use Rattle.explain_core.specs.Falls.{is_revocation, IsChangeAt}
use Rattle.grants_core.specs.Lawful.{AreLawful}
use Rattle.explain_core.specs.Lives.{stands_at, fall_of, life_of, lives_of}
use Rattle.explain_core.proofs.MadeLemmas.{IsBetween, moment-granted_from, moment-granted, moment-positive}
use Rattle.explain_core.proofs.ListLemmas.{all_at}
use Rattle.explain_core.proofs.Whole.{found_at}

-- a change that is no revocation adds what it makes
in_force-more : (before after : List Change) (c : Change) → AreLawful (before ++ c ∷ after) → is_revocation c ≡ false → in_force_after (before ++ c ∷ []) ≡ in_force_after before ++ grants_of (made_by_all before) (1 + length before) c
in_force-more before after (change.Create table owner) lawful h =
    ap (λ (k : Rights). k.in_force) (content-create before table owner (lawful.created before after table owner refl).1)
    ∙ sym (append-nil (in_force_after before))
in_force-more before after (change.Grant by atoms whom option) lawful h =
    ap (λ (k : Rights). k.in_force) (content-grant before by atoms whom option (lawful.grantable before after by atoms whom option refl))
in_force-more before after (change.Revoke by atoms whom) lawful h = cc
in_force-more before after (change.RevokeOption by atoms whom) lawful h = cc
in_force-more before after (change.Other) lawful h =
    ap (λ (k : Rights). k.in_force) (content-other before) ∙ sym (append-nil (in_force_after before))

abbrev moment_at : ℕ → Moment
moment_at m = record { 0 = m }

-- the test fails at this moment for the first time from a on
record IsFirst (test : ℕ → Bool) (a high at : ℕ) : Type 0 where
  fails : test at ≡ false
  from : a ≤ at
  to : at < high
  earlier : (m : ℕ) → a ≤ m → m < at → test m ≡ true

above : (a m : ℕ) → a ≤ m → (a ≡ m → ⊥) → a + 1 ≤ m
above a m le ne = omega arith

first-fails : (test : ℕ → Bool) (len a high : ℕ) (at : Moment) → high ≡ a + len → option_map moment_at (find (λ m. not (test m)) (range_with_len a len)) ≡ Some at → IsFirst test a high at.0
first-fails test zero a high at count e = absurd (none-some at e)
first-fails test (suc len) a high at count e =
    let found : Bool → Option Moment = λ b. option_map moment_at (cond (not b) (Some a) (find (λ m. not (test m)) (range_with_len (a + 1) len))) in
    ⊎_elim
    (λ (passes : test a ≡ true).
    let next : option_map moment_at (find (λ m. not (test m)) (range_with_len (a + 1) len)) ≡ Some at = sym (ap found passes) ∙ e in
    let rest = first-fails test len (a + 1) high at (omega arith) next in
    let low = rest.from in
    record {
      fails = rest.fails;
      from = omega arith;
      to = rest.to;
      earlier = λ m from to.
          ⊎_elim (λ (equal : a ≡ m). ap test (sym equal) ∙ passes) (λ (other : a ≡ m → ⊥). rest.earlier m (above a m from other) to) (cases_eq a m);
    })
    (λ (fails : test a ≡ false).
    let here : Some (moment_at a) ≡ Some at = sym (ap found fails) ∙ e in
    let is : a ≡ at.0 = ap (λ (t : Moment). t.0) (same_Some (moment_at a) at here) in
    record {
      fails = ap test (sym is) ∙ fails;
      from = omega arith;
      to = omega arith;
      earlier = λ m low high. absurd (omega (arith, low, high, is));
    })
    (cases_Bool (test a))

-- the changes round that at a place
split-at : (changes : List Change) (m : ℕ) (c : Change) → slice_get changes m ≡ Some c → take m changes ++ c ∷ drop (m + 1) changes ≡ changes
split-at changes m c at =
    ap (λ x. take m changes ++ x ∷ drop (m + 1) changes) (sym (get_or_from_slice_get changes m c c at))
    ∙ sym (ap (λ k. take m changes ++ k) (drop_more changes m c (slice_get_within changes m c at)))
    ∙ take-append-drop m changes

-- a grant is among those of its moment's change
abbrev MadeThen : ℕ → List Grant → Grant → Type 0
MadeThen m new g = g.moment.0 ≡ m + 1 → list_any (λ h. eqb h.number g.number) new ≡ true

made-then : (changes : List Change) (m : ℕ) (c : Change) → slice_get changes m ≡ Some c → AllByRecursion (MadeThen m (grants_of (made_by_all (take m changes)) (1 + length (take m changes)) c)) (granted changes)
made-then changes m c at =
    let before : List Change = take m changes in
    let after : List Change = drop (m + 1) changes in
    let count : length before ≡ m = length-take-le m changes (let lt = slice_get_within changes m c at in omega arith) in
    let start : 0 + made_by_all before ≡ made_by_all before = omega arith in
    let new : List Grant = grants_of (made_by_all before) (1 + length before) c in
    let later : List Grant = granted_from (made_by_all before + made_by c) ((1 + length before) + 1) after in
    let P : Grant → Type 0 = MadeThen m new in
    let parts : granted changes ≡ granted before ++ (new ++ later) =
    sym (ap granted (split-at changes m c at)) ∙ granted_from-append 0 1 before (c ∷ after)
    ∙ ap (λ n. granted before ++ granted_from n (1 + length before) (c ∷ after)) start in
    let All_then : List Grant → Type 0 = λ gs. AllByRecursion P gs in
    subst All_then (sym parts)
    (AllByRecursion-append P (granted before) (new ++ later)
    (All-implied (IsBetween 1 (1 + length before)) P (granted before) (λ g h e. let high = h.1 in absurd (omega arith)) (moment-granted_from 0 1 before))
    (AllByRecursion-append P new later
    (recursion_from_All P new (λ k d within e. list_any_at (λ h. eqb h.number (get_or new k d).number) new k d within (eq-eqb _ _ refl)))
    (All-implied (IsBetween ((1 + length before) + 1) (((1 + length before) + 1) + length after)) P later (λ g h e. let low = h.0 in absurd (omega arith))
    (moment-granted_from (made_by_all before + made_by c) ((1 + length before) + 1) after))))

-- **a change that is no revocation ends nothing**
falls-not : (changes : List Change) (m : ℕ) (c : Change) (g : Grant) → AreLawful changes → slice_get changes m ≡ Some c → is_revocation c ≡ false
    → (stands_at changes g m ≡ true) ⊎ (list_any (λ h. eqb h.number g.number) (grants_of (made_by_all (take m changes)) (1 + length (take m changes)) c) ≡ true)
    → stands_at changes g (m + 1) ≡ true
falls-not changes m c g lawful at none h =
    let before : List Change = take m changes in
    let after : List Change = drop (m + 1) changes in
    let Lawful : List Change → Type 0 = λ cs. AreLawful cs in
    let test : Grant → Bool = λ k. eqb k.number g.number in
    let new : List Grant = grants_of (made_by_all before) (1 + length before) c in
    let next : take (m + 1) changes ≡ before ++ c ∷ [] =
    take_more changes m c (slice_get_within changes m c at) ∙ ap (λ x. before ++ x ∷ []) (get_or_from_slice_get changes m c c at) in
    ap (λ cs. list_any test (in_force_after cs)) next
    ∙ ap (list_any test) (in_force-more before after c (subst Lawful (sym (split-at changes m c at)) lawful) none)
    ∙ list_any-append test (in_force_after before) new
    ∙ ⊎_elim (λ (stood : list_any test (in_force_after before) ≡ true). or_left _ _ stood) (λ (made : list_any test new ≡ true). or_right _ _ made) h

IfSome-from : {X : Type 0} (P : X → Type 0) (o : Option X) → ((x : X) → o ≡ Some x → P x) → IfSome o P
IfSome-from P None f = tt
IfSome-from P (Some x) f = f x refl

abbrev pub ByRevocation : List Change → Moment → Type 0
ByRevocation changes at = (c : Change) × IsChangeAt changes at c × (is_revocation c ≡ true)

falls-by : (changes : List Change) (g : Grant) (k : ℕ) (at : Moment) → AreLawful changes → slice_get (granted changes) k ≡ Some g → fall_of changes g ≡ Some at → ByRevocation changes at
falls-by changes g k at lawful there fell =
    let early : g.moment.0 ≤ length changes = all_at (λ (h : Grant). h.moment.0 ≤ length changes) (granted changes) k g there (moment-granted changes) in
    let positive : 0 < g.moment.0 = all_at (λ (h : Grant). 0 < h.moment.0) (granted changes) k g there (moment-positive changes) in
    let first = first-fails (stands_at changes g) (length changes + 1 - g.moment.0) g.moment.0 (length changes + 1) at (omega arith) fell in
    let low = first.from in
    let high = first.to in
    let m : ℕ = at.0 - 1 in
    let next : at.0 ≡ m + 1 = omega arith in
    let found = found_at changes m (omega arith) in
    let c : Change = found.0 in
    let new : List Grant = grants_of (made_by_all (take m changes)) (1 + length (take m changes)) c in
    ⊎_elim
    (λ (is : is_revocation c ≡ true). (c, (m, next, found.1), is))
    (λ (none : is_revocation c ≡ false).
    let stays : stands_at changes g (m + 1) ≡ true =
    falls-not changes m c g lawful found.1 none
    (⊎_elim
    (λ (before : g.moment.0 < at.0). inl (first.earlier m (omega arith) (omega arith)))
    (λ (now : at.0 ≤ g.moment.0).
    let Then : Grant → Type 0 = MadeThen m new in
    inr (all_at Then (granted changes) k g there (All-from_recursion Then (granted changes) (made-then changes m c found.1)) (omega arith)))
    (cases_lt g.moment.0 at.0)) in
    absurd (both_ways (stands_at changes g at.0) first.fails (ap (stands_at changes g) next ∙ stays)))
    (cases_Bool (is_revocation c))

-- **a grant falls by a revocation alone**
pub all-fall_by_revocations : (changes : List Change) → AreLawful changes → All (λ life. IfSome life.fell (ByRevocation changes)) (lives_of changes)
all-fall_by_revocations changes lawful =
    let P : Life → Type 0 = λ life. IfSome life.fell (ByRevocation changes) in
    All-map P (life_of changes) (granted changes)
    (λ k d within.
    let g : Grant = get_or (granted changes) k d in
    IfSome-from (ByRevocation changes) (fall_of changes g)
    (λ at fell. falls-by changes g k at lawful (slice_get-get_or (granted changes) k d within) fell))
