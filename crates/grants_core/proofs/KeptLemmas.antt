-- Since when a privilege is held, after one more grant.
use Rattle.std.proofs.Common.{◌≡◌, ◌<◌, ◌≤◌, ℕ, Bool, true, false, not, ◌&&◌, ◌||◌, cond, [], Option, Some, None, refl, sym, ap, ◌∙◌, subst, ltb, arith, ⊎_elim}
use Rattle.std.specs.Option.{option_map_or}
use Rattle.std.specs.Map.{lookup}
use Rattle.std.proofs.Math.Bool.{and_comm, or-false}
use Rattle.std.proofs.lemmas.Bool.{cases_Bool, false≢true, ltb-true, ltb-false, lt-ltb, le-ltb, not-false}
use Rattle.indexmap.specs.IndexMap.{IndexMap, get, Updates}
use Rattle.base_core.specs.Users.{same_user}
use Rattle.base_core.specs.Privileges.{same_atom}
use Rattle.base_core.specs.declared.value.Moment.{Moment}
use Rattle.grants_core.specs.declared.grant.Grant.{Grant}
use Rattle.grants_core.specs.declared.key.Holding.{Holding}
use Rattle.grants_core.specs.Keys.{same_holding, given_by, needed_by}
use Rattle.grants_core.specs.KeyLaws.{same_holding-true}
use Rattle.grants_core.specs.Valid.{supports}
use Rattle.grants_core.specs.Kept.{held_before, has_support}

-- a grant without the option supports none
supports-without : (h g : Grant) → h.option ≡ false → supports h g ≡ false
unfolding supports
supports-without h g off =
    ap (λ (o : Bool). ((o && same_atom h.atom g.atom) && same_user h.grantee g.grantor) && ltb h.moment.0 g.moment.0) off

-- one with the option supports those that need what it gives, and come later
supports-with : (h g : Grant) → h.option ≡ true → supports h g ≡ (same_holding (given_by h) (needed_by g) && ltb h.moment.0 g.moment.0)
unfolding supports
supports-with h g on =
    ap (λ (o : Bool). ((o && same_atom h.atom g.atom) && same_user h.grantee g.grantor) && ltb h.moment.0 g.moment.0) on
    ∙ ap (λ b. b && ltb h.moment.0 g.moment.0) (and_comm (same_atom h.atom g.atom) (same_user h.grantee g.grantor))

-- whether what is noted is before a moment
abbrev is_before : ℕ → Option Moment → Bool
is_before at since = option_map_or (λ first. ltb first.0 at) since false

earlier : (new first at : ℕ) → new ≤ first → ltb new at ≡ (ltb first at || ltb new at)
earlier new first at le =
    ⊎_elim
    (λ (before : ltb first at ≡ true).
    let far : first < at = ltb-true first at before in
    let near : new < at = omega (arith, le, far) in
    lt-ltb new at near ∙ sym (ap (λ b. b || ltb new at) before))
    (λ (late : ltb first at ≡ false). sym (ap (λ b. b || ltb new at) late))
    (cases_Bool (ltb first at))

no_earlier : (new first at : ℕ) → first < new → ltb first at ≡ (ltb first at || ltb new at)
no_earlier new first at lt =
    ⊎_elim
    (λ (before : ltb first at ≡ true). before ∙ sym (ap (λ b. b || ltb new at) before))
    (λ (late : ltb first at ≡ false).
    let past : at ≤ first = ltb-false first at late in
    let far : at ≤ new = omega (arith, lt, past) in
    late ∙ sym (ap (λ b. b || ltb new at) late ∙ le-ltb new at far))
    (cases_Bool (ltb first at))

-- a moment that is noted in place of none, of itself or of a later one
noted : (here : Bool) (old : Option Moment) (new : Moment) (at : ℕ) → (here ≡ true → is_before new.0 old ≡ false) → is_before at (cond here (Some new) old) ≡ (is_before at old || (here && ltb new.0 at))
noted true None new at h = refl
noted true (Some first) new at h = earlier new.0 first.0 at (ltb-false first.0 new.0 (h refl))
noted false old new at h = sym (or-false (is_before at old))

-- one that is passed over, since an earlier one is noted
passed_over : (here : Bool) (old : Option Moment) (new : Moment) (at : ℕ) → (here ≡ true → is_before new.0 old ≡ true) → is_before at old ≡ (is_before at old || (here && ltb new.0 at))
passed_over true None new at h = absurd (false≢true (h refl))
passed_over true (Some first) new at h = no_earlier new.0 first.0 at (ltb-true first.0 new.0 (h refl))
passed_over false old new at h = sym (or-false (is_before at old))

module _ {S : Type 0} (m : IndexMap Holding Moment S) (h g : Grant) where
  -- where g needs what h gives, what is noted for h is noted for g
  noted_alike : (answer : Bool) → is_before h.moment.0 (get same_holding m (given_by h)) ≡ answer → same_holding (given_by h) (needed_by g) ≡ true → is_before h.moment.0 (get same_holding m (needed_by g)) ≡ answer
  noted_alike answer is same =
      subst (λ (k : Holding). is_before h.moment.0 (get same_holding m k) ≡ answer) (same_holding-true (given_by h) (needed_by g) same) is

  pub has_support-noted : (n : IndexMap Holding Moment S) → h.option ≡ true → held_before m (given_by h) h.moment ≡ false → Updates same_holding m n (given_by h) (Some h.moment) → has_support n g ≡ (has_support m g || supports h g)
  unfolding held_before
  has_support-noted n on late new =
      ap (is_before g.moment.0) (new.0 (needed_by g))
      ∙ noted (same_holding (given_by h) (needed_by g)) (get same_holding m (needed_by g)) h.moment g.moment.0 (noted_alike false late)
      ∙ ap (λ b. has_support m g || b) (sym (supports-with h g on))

  pub has_support-passed_over : (h.option && not (held_before m (given_by h) h.moment)) ≡ false → has_support m g ≡ (has_support m g || supports h g)
  unfolding held_before
  has_support-passed_over none =
      ⊎_elim
      (λ (on : h.option ≡ true).
      let before : is_before h.moment.0 (get same_holding m (given_by h)) ≡ true = not-false _ (ap (λ b. b && not (is_before h.moment.0 (get same_holding m (given_by h)))) (sym on) ∙ none) in
      passed_over (same_holding (given_by h) (needed_by g)) (get same_holding m (needed_by g)) h.moment g.moment.0 (noted_alike true before)
      ∙ ap (λ b. has_support m g || b) (sym (supports-with h g on)))
      (λ (off : h.option ≡ false).
      sym (ap (λ b. has_support m g || b) (supports-without h g off) ∙ or-false (has_support m g)))
      (cases_Bool h.option)

-- an empty map
pub has_support-none : {S : Type 0} (m : IndexMap Holding Moment S) (g : Grant) → m.entries ≡ [] → has_support m g ≡ false
unfolding held_before
has_support-none m g empty = ap (λ es. is_before g.moment.0 (lookup (same_holding (needed_by g)) es)) empty
