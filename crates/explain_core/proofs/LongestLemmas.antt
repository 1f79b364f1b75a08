-- The lives that were noted, and how long they uphold a grant.
use Rattle.std.proofs.Common.{◌≡◌, ℕ, ◌+◌, ◌<◌, ◌≤◌, Bool, true, false, ◌&&◌, ◌||◌, cond, List, [], ◌∷◌, ◌++◌, length, get_or, take, drop, slice_get, suc, zero, Option, Some, None, refl, sym, ap, ◌∙◌, subst, arith, ⊎_elim}
use Rattle.std.specs.List.{AllByRecursion, All, list_any}
use Rattle.std.proofs.lemmas.Bool.{cases_Bool, both_ways, false≢true, and_parts, and_from, and_left, and_right, or_from, ltb-true, ltb-false, lt-ltb, le-ltb, cond-true, cond-false, false_from_ne_true}
use Rattle.std.proofs.lemmas.List.{take-append-drop, take_more, length-take-le, get_or-take, take-append-le}
use Rattle.std.proofs.lemmas.List.Elements.{All-push, recursion_from_All, All-same}
use Rattle.std.proofs.lemmas.List.Folds.{list_any-append, list_any_none, list_any_at, Any-from_list_any}
use Rattle.std.proofs.lemmas.Option.{none-some, slice_get_within, get_or_from_slice_get}
use Rattle.std.specs.Map.{lookup}
use Rattle.indexmap.specs.IndexMap.{get}
use Rattle.base_core.specs.Users.{same_user}
use Rattle.base_core.specs.Privileges.{same_atom}
use Rattle.base_core.specs.declared.value.Moment.{Moment}
use Rattle.grants_core.specs.declared.grant.Grant.{Grant}
use Rattle.grants_core.specs.declared.key.Holding.{Holding}
use Rattle.grants_core.specs.Keys.{same_holding, given_by, needed_by}
use Rattle.grants_core.specs.Valid.{supports}
use Rattle.explain_core.specs.declared.life.Life.{Life}
use Rattle.explain_core.specs.declared.supports.Support.{Support}
use Rattle.explain_core.specs.declared.supports.Supports.{Supports}
use Rattle.explain_core.specs.Ends.{is_before, is_later}
use Rattle.explain_core.specs.Supports.{gives_option, outlasts, noted_with, IsLongest, AreLongest}
use Rattle.explain_core.proofs.EndLemmas.{before-no_later}
use Rattle.explain_core.proofs.Standing.{upholds, list_any-alike}

later-self : (e : Option Moment) → is_later e e ≡ false
later-self None = refl
later-self (Some a) = le-ltb a.0 a.0 (omega arith)

-- what is no later than an end is no later than a later one
later-between : (h a b : Option Moment) → is_later b a ≡ true → is_later h a ≡ false → is_later h b ≡ false
later-between None None None f g = refl
later-between (Some h) None None f g = refl
later-between None None (Some b) f g = absurd (false≢true f)
later-between (Some h) None (Some b) f g = absurd (false≢true f)
later-between None (Some a) None f g = refl
later-between (Some h) (Some a) None f g = refl
later-between None (Some a) (Some b) f g = absurd (both_ways true g refl)
later-between (Some h) (Some a) (Some b) f g =
    let past : a.0 < b.0 = ltb-true a.0 b.0 f in
    let up : h.0 ≤ a.0 = ltb-false a.0 h.0 g in
    le-ltb b.0 h.0 (omega arith)

abbrev NoLonger : Holding → Option Moment → Life → Type 0
NoLonger w until l = gives_option w l ≡ true → is_later l.option_end until ≡ false

All-none : (w : Holding) (until : Option Moment) (lives : List Life) → list_any (gives_option w) lives ≡ false → All (NoLonger w until) lives
All-none w until lives h k d within =
    λ gives. absurd (both_ways _ h (list_any_at (gives_option w) lives k d within gives))

-- what is noted in place of what lasts less long
pub noted-where_given : (place : ℕ) (life : Life) (w : Holding) (old : Option Support) → life.grant.option ≡ true → (same_holding (given_by life.grant) w ≡ true → outlasts life.option_end old ≡ true) → cond (same_holding (given_by life.grant) w) (Some (record { place = place; until = life.option_end })) old ≡ noted_with place life w old
noted-where_given place life w old on lasts =
    let new : Option Support = Some (record { place = place; until = life.option_end }) in
    let same : Bool = same_holding (given_by life.grant) w in
    let later : Bool = outlasts life.option_end old in
    let by_case : (b : Bool) → (b ≡ true → later ≡ true) → cond b new old ≡ cond (b && later) new old = λ b f. by_cases b later new old f in
    by_case same lasts ∙ sym (ap (λ b. cond ((b && same) && later) new old) on)
  where
    by_cases : (b later : Bool) (new old : Option Support) → (b ≡ true → later ≡ true) → cond b new old ≡ cond (b && later) new old
    by_cases true later new old f = sym (cond-true later new old (f refl))
    by_cases false later new old f = refl

module _ (lives : List Life) (n : ℕ) (life : Life) (w : Holding) (at : slice_get lives n ≡ Some life) where
  inside : n < length lives
  inside = slice_get_within lives n life at

  more : take (n + 1) lives ≡ take n lives ++ life ∷ []
  more = take_more lives n life inside ∙ ap (λ l. take n lives ++ l ∷ []) (get_or_from_slice_get lives n life life at)

  All-one_more : (until : Option Moment) → All (NoLonger w until) (take n lives) → NoLonger w until life → All (NoLonger w until) (take (n + 1) lives)
  All-one_more until h k = All-same (NoLonger w until) (take (n + 1) lives) (take n lives ++ life ∷ []) more (All-push (NoLonger w until) (take n lives) life h k)

  abbrev mine : Support
  mine = record { place = n; until = life.option_end }

  takes : (old : Option Support) → IsLongest lives n w old → gives_option w life ≡ true → outlasts life.option_end old ≡ true → IsLongest lives (n + 1) w (Some mine)
  takes None h gives lasts = (
    omega arith,
    life,
    at,
    gives,
    refl,
    All-one_more life.option_end (All-none w life.option_end (take n lives) h) (λ g. later-self life.option_end),
  )
  takes (Some old) h gives lasts = (
    omega arith,
    life,
    at,
    gives,
    refl,
    All-one_more life.option_end
        (λ k d within g. later-between (get_or (take n lives) k d).option_end old.until life.option_end lasts (h.5 k d within g))
        (λ g. later-self life.option_end),
  )

  stays : (old : Option Support) → IsLongest lives n w old → (gives_option w life && outlasts life.option_end old) ≡ false → IsLongest lives (n + 1) w old
  stays None h same =
      let none : gives_option w life ≡ false = false_from_ne_true _ (λ gives. both_ways _ same (and_from (gives_option w life) true gives refl)) in
      ap (list_any (gives_option w)) more ∙ list_any-append (gives_option w) (take n lives) (life ∷ [])
      ∙ or_from _ _ h (or_from _ _ none refl)
  stays (Some old) h same =
      let place : old.place < n = h.0 in (
        omega arith,
        h.1,
        h.2,
        h.3,
        h.4,
        All-one_more old.until h.5
            (λ gives. false_from_ne_true _ (λ later. both_ways _ same (and_from (gives_option w life) _ gives later))),
      )

  -- **one more life is noted**
  pub longest-more : (old : Option Support) → IsLongest lives n w old → IsLongest lives (n + 1) w (noted_with n life w old)
  longest-more old h =
      let P : Option Support → Type 0 = λ s. IsLongest lives (n + 1) w s in
      ⊎_elim
      (λ (new : (gives_option w life && outlasts life.option_end old) ≡ true).
      let parts = and_parts (gives_option w life) (outlasts life.option_end old) new in
      subst P (sym (cond-true _ (Some mine) old new)) (takes old h parts.0 parts.1))
      (λ (same : (gives_option w life && outlasts life.option_end old) ≡ false).
      subst P (sym (cond-false _ (Some mine) old same)) (stays old h same))
      (cases_Bool (gives_option w life && outlasts life.option_end old))

pub slice_get-push : {X : Type 0} (xs : List X) (y : X) (k : ℕ) (x : X) → slice_get xs k ≡ Some x → slice_get (xs ++ y ∷ []) k ≡ Some x
slice_get-push [] y k x e = absurd (none-some x e)
slice_get-push (z ∷ zs) y zero x e = e
slice_get-push (z ∷ zs) y (suc k) x e = slice_get-push zs y k x e

-- a life that is not noted yet alters nothing
pub longest-push : (lives : List Life) (life : Life) (n : ℕ) (w : Holding) (s : Option Support) → n ≤ length lives → IsLongest lives n w s → IsLongest (lives ++ life ∷ []) n w s
longest-push lives life n w None within h = ap (list_any (gives_option w)) (take-append-le n lives (life ∷ []) within) ∙ h
longest-push lives life n w (Some s) within h =
    let place : s.place < n = h.0 in
    let there : s.place < length lives = omega arith in
    let same : take n (lives ++ life ∷ []) ≡ take n lives = take-append-le n lives (life ∷ []) within in (
      place,
      h.1,
      slice_get-push lives life s.place h.1 h.2,
      h.3,
      h.4,
      All-same (NoLonger w s.until) (take n (lives ++ life ∷ [])) (take n lives) same h.5,
    )

same_gift : (o a u : Bool) → (((o && a) && u) && true) ≡ (o && (u && a))
same_gift true true true = refl
same_gift true true false = refl
same_gift true false true = refl
same_gift true false false = refl
same_gift false a u = refl

-- an earlier life supports a grant where it gives its grantor what he needs
pub supports-early : (h : Life) (g : Grant) → h.grant.moment.0 < g.moment.0 → supports h.grant g ≡ gives_option (needed_by g) h
unfolding supports
supports-early h g early =
    ap (λ b. ((h.grant.option && same_atom h.grant.atom g.atom) && same_user h.grant.grantee g.grantor) && b) (lt-ltb h.grant.moment.0 g.moment.0 early)
    ∙ same_gift h.grant.option (same_atom h.grant.atom g.atom) (same_user h.grant.grantee g.grantor)

supports-late : (h : Life) (g : Grant) → g.moment.0 ≤ h.grant.moment.0 → supports h.grant g ≡ false
unfolding supports
supports-late h g late =
    ap (λ b. ((h.grant.option && same_atom h.grant.atom g.atom) && same_user h.grant.grantee g.grantor) && b) (le-ltb h.grant.moment.0 g.moment.0 late)
    ∙ and_right ((h.grant.option && same_atom h.grant.atom g.atom) && same_user h.grant.grantee g.grantor) false refl

both_ways_eq : (x y : Bool) → (x ≡ true → y ≡ true) → (y ≡ true → x ≡ true) → x ≡ y
both_ways_eq true y f g = sym (f refl)
both_ways_eq false true f g = g refl
both_ways_eq false false f g = refl

module _ (lives : List Life) (n : ℕ) (g : Grant)
    (early : All (λ h. h.grant.moment.0 < g.moment.0) (take n lives))
    (late : All (λ h. g.moment.0 ≤ h.grant.moment.0) (drop n lives)) where
  abbrev keeps : ℕ → Life → Bool
  keeps m h = gives_option (needed_by g) h && is_before m h.option_end

  upholds-noted : (m : ℕ) → list_any (upholds m g) lives ≡ list_any (keeps m) (take n lives)
  upholds-noted m =
      let Early : Life → Type 0 = λ h. h.grant.moment.0 < g.moment.0 in
      let rest : list_any (upholds m g) (drop n lives) ≡ false =
      list_any_none (upholds m g) (drop n lives) (λ k d within. and_left _ (is_before m (get_or (drop n lives) k d).option_end) (supports-late (get_or (drop n lives) k d) g (late k d within))) in
      ap (list_any (upholds m g)) (sym (take-append-drop n lives))
      ∙ list_any-append (upholds m g) (take n lives) (drop n lives)
      ∙ ap (λ b. list_any (upholds m g) (take n lives) || b) rest
      ∙ or_nothing (list_any (upholds m g) (take n lives))
      ∙ list_any-alike (upholds m g) (keeps m) (take n lives) (each m (take n lives) (recursion_from_All Early (take n lives) early))
    where
      or_nothing : (b : Bool) → (b || false) ≡ b
      or_nothing true = refl
      or_nothing false = refl

      each : (m : ℕ) (ls : List Life) → AllByRecursion (λ h. h.grant.moment.0 < g.moment.0) ls → AllByRecursion (λ h. upholds m g h ≡ keeps m h) ls
      each m [] h = tt
      each m (l ∷ ls) h = (ap (λ b. b && is_before m l.option_end) (supports-early l g h.0), each m ls h.1)

  -- where none is noted, none upholds it
  pub upholds-none : (m : ℕ) → IsLongest lives n (needed_by g) None → list_any (upholds m g) lives ≡ false
  upholds-none m h =
      upholds-noted m
      ∙ list_any_none (keeps m) (take n lives)
      (λ k d within. and_left _ (is_before m (get_or (take n lives) k d).option_end)
      (false_from_ne_true _ (λ gives. both_ways _ h (list_any_at (gives_option (needed_by g)) (take n lives) k d within gives))))

  -- **the noted one upholds it longest**
  pub upholds-longest : (m : ℕ) (s : Support) → n ≤ length lives → IsLongest lives n (needed_by g) (Some s) → list_any (upholds m g) lives ≡ is_before m s.until
  upholds-longest m s within h =
      upholds-noted m ∙ both_ways_eq (list_any (keeps m) (take n lives)) (is_before m s.until)
      (λ some.
      let found = Any-from_list_any (keeps m) (take n lives) some in
      let parts = and_parts (gives_option (needed_by g) found.1) (is_before m found.1.option_end) found.4 in
      let Longer : Life → Type 0 = NoLonger (needed_by g) s.until in
      let up : Longer found.1 = subst Longer found.3 (h.5 found.0 found.1 found.2) in
      before-no_later m found.1.option_end s.until (up parts.0) parts.1)
      (λ lasts.
      let place : s.place < n = h.0 in
      let count : length (take n lives) ≡ n = length-take-le n lives within in
      let there : s.place < length (take n lives) = omega arith in
      let is : get_or (take n lives) s.place h.1 ≡ h.1 = get_or-take n lives s.place h.1 place ∙ get_or_from_slice_get lives s.place h.1 h.1 h.2 in
      let Keeps : Life → Type 0 = λ l. keeps m l ≡ true in
      list_any_at (keeps m) (take n lives) s.place h.1 there
      (subst Keeps (sym is) (and_from _ _ h.3 (ap (is_before m) h.4 ∙ lasts))))

-- at the beginning none is noted
pub longest-none : (supports : Supports) → supports.noted ≡ 0 → supports.longest.entries ≡ [] → AreLongest [] supports
longest-none supports at_start empty =
    record {
      within = omega arith;
      longest = λ w.
          let P : Option Support → Type 0 = λ s. IsLongest [] supports.noted w s in
          let none : None ≡ get same_holding supports.longest w = sym (ap (lookup (same_holding w)) empty) in
          subst P none (ap (λ n. list_any (gives_option w) (take n [])) at_start);
    }
