-- One more grant is read.
use Rattle.std.proofs.Common.{◌≡◌, ℕ, ◌+◌, ◌-◌, ◌<◌, ◌≤◌, Bool, true, false, not, ◌&&◌, ◌||◌, cond, leb, List, [], ◌∷◌, ◌++◌, length, get_or, map, take, drop, slice_get, Option, Some, None, refl, sym, ap, ◌∙◌, subst, arith, ⊎_elim}
use Rattle.std.specs.List.{All, list_any, filter}
use Rattle.std.proofs.lemmas.Bool.{cases_lt, both_ways, le-ltb, lt-leb, ltb-true}
use Rattle.std.proofs.lemmas.List.{append-nil, map-append, length-map, length_push, take-append-drop, take_more, length-take, get_or-map, get_or-take, get_or-drop, length-drop}
use Rattle.std.proofs.lemmas.List.Elements.{filter-append, recursion_from_All, All-push}
use Rattle.std.proofs.lemmas.Option.{same_Some, slice_get_within, get_or_from_slice_get, slice_get-get_or}
use Rattle.base_core.specs.declared.value.Moment.{Moment}
use Rattle.grants_core.specs.declared.grant.Grant.{Grant}
use Rattle.grants_core.specs.declared.grant.Ownership.{Ownership}
use Rattle.grants_core.specs.declared.grant.Change.{Change}
use Rattle.grants_core.specs.Keys.{needed_by}
use Rattle.grants_core.specs.Owners.{owns}
use Rattle.grants_core.specs.Valid.{valid, is_supported}
use Rattle.grants_core.specs.Content.{option_off}
use Rattle.grants_core.specs.History.{granted, is_struck, is_unoptioned, owners_after, in_force_after}
use Rattle.explain_core.specs.declared.coming.Ends.{Ends}
use Rattle.explain_core.specs.declared.life.Life.{Life}
use Rattle.explain_core.specs.declared.supports.Support.{Support}
use Rattle.grants_core.specs.Lawful.{AreLawful}
use Rattle.explain_core.specs.Ends.{is_before, earlier, next_ends, upheld_until, fall_by, life_until}
use Rattle.explain_core.specs.Supports.{IsLongest}
use Rattle.explain_core.specs.Reading.{left_at, standing_at, EndsRight, EndsWithin, AreLives}
use Rattle.explain_core.proofs.EndLemmas.{before-earlier, earlier-either, before-struck, before-unoptioned, within-struck, within-unoptioned}
use Rattle.explain_core.proofs.MadeLemmas.{in_order-granted, moment-granted, moment-positive, filter-none, in_force-left, WasGrantable, grantable-granted, supported-before}
use Rattle.explain_core.proofs.Standing.{grant_of, upholds, supported-standing, FallsRight, stand-push}
use Rattle.explain_core.proofs.ListLemmas.{all_at}
use Rattle.explain_core.proofs.LongestLemmas.{upholds-none, upholds-longest}

within-later : (low high before : ℕ) (end : Option Moment) → EndsWithin before high end → is_before (low - 1) end ≡ true → EndsWithin low high end
within-later low high before None h k = tt
within-later low high before (Some e) h k = let lt : low - 1 < e.0 = ltb-true (low - 1) e.0 k in (omega arith, h.1)

-- the grants from a place on are of no earlier moment
pub later-grants : (changes : List Change) (k : ℕ) (g : Grant) → slice_get (granted changes) k ≡ Some g → (j : ℕ) (h : Grant) → k ≤ j → slice_get (granted changes) j ≡ Some h → g.moment.0 ≤ h.moment.0
later-grants changes k g at j h le there =
    let gs : List Grant = granted changes in
    ⊎_elim
    (λ (before : k < j).
    let inside : j < length gs = slice_get_within gs j h there in
    let pair = in_order-granted changes k j g before inside in
    let is : get_or gs k g ≡ g = get_or_from_slice_get gs k g g at in
    let other : get_or gs j g ≡ h = get_or_from_slice_get gs j h g there in
    let P : Grant → Type 0 = λ x. x.moment.0 ≤ (get_or gs j g).moment.0 in
    let Q : Grant → Type 0 = λ y. g.moment.0 ≤ y.moment.0 in
    subst Q other (subst P is pair))
    (λ (past : j ≤ k).
    let same : k ≡ j = omega arith in
    let equal : g ≡ h = same_Some g h (sym at ∙ ap (slice_get gs) same ∙ there) in
    let Q : Grant → Type 0 = λ y. g.moment.0 ≤ y.moment.0 in
    subst Q equal (omega arith))
    (cases_lt k j)

module _ (changes : List Change) (lives : List Life) (read : AreLives changes lives) where
  -- a life of the first grants has its grant at its place
  pub life-place : (j : ℕ) (l : Life) → slice_get lives j ≡ Some l → slice_get (granted changes) j ≡ Some l.grant
  life-place j l e =
      let inside : j < length lives = slice_get_within lives j l e in
      let count : length (map grant_of lives) ≡ length (take (length lives) (granted changes)) = ap length read.made in
      let one = length-map lives grant_of in
      let short : length lives ≤ length (granted changes) = let two = length-take (length lives) (granted changes) in omega arith in
      let there : j < length (granted changes) = omega arith in
      slice_get-get_or (granted changes) j l.grant there
      ∙ ap Some (sym (get_or-take (length lives) (granted changes) j l.grant inside) ∙ ap (λ gs. get_or gs j l.grant) (sym read.made)
      ∙ get_or-map grant_of lives j l l.grant inside ∙ ap grant_of (get_or_from_slice_get lives j l l e))

module _ (changes : List Change) (lives : List Life) (g : Grant) (lawful : AreLawful changes) (read : AreLives changes lives)
    (at : slice_get (granted changes) (length lives) ≡ Some g) where
  abbrev o : List Ownership
  o = owners_after changes

  abbrev just_before : ℕ
  just_before = g.moment.0 - 1

  abbrev owned : Bool
  owned = owns o g.grantor g.atom

  early_enough : g.moment.0 ≤ length changes
  early_enough = all_at (λ (h : Grant). h.moment.0 ≤ length changes) (granted changes) (length lives) g at (moment-granted changes)

  positive : 0 < g.moment.0
  positive = all_at (λ (h : Grant). 0 < h.moment.0) (granted changes) (length lives) g at (moment-positive changes)

  -- those that are not read yet came later
  left-read : left_at changes just_before (granted changes) ≡ left_at changes just_before (map grant_of lives)
  left-read =
      let k : ℕ = length lives in
      let gs : List Grant = granted changes in
      let made : Grant → Bool = λ h. leb h.moment.0 just_before in
      let Late : Grant → Type 0 = λ h. made h ≡ false in
      let rest : filter made (drop k gs) ≡ [] =
      filter-none made (drop k gs) (recursion_from_All Late (drop k gs) (λ j d within.
      let there : k + j < length gs = let e = length-drop k gs in omega arith in
      let is : get_or (drop k gs) j d ≡ get_or gs (k + j) d = get_or-drop k gs j d in
      let later : g.moment.0 ≤ (get_or gs (k + j) d).moment.0 = later-grants changes k g at (k + j) (get_or gs (k + j) d) (omega arith) (slice_get-get_or gs (k + j) d there) in
      let p = positive in
      subst Late (sym is) (lt-leb (get_or gs (k + j) d).moment.0 just_before (omega arith)))) in
      ap (λ x. map (option_off (is_unoptioned (take just_before changes))) (filter (λ h. not (is_struck (take just_before changes) h)) x))
      (ap (filter made) (sym (take-append-drop k gs)) ∙ filter-append made (take k gs) (drop k gs)
      ∙ ap (λ x. filter made (take k gs) ++ x) rest ∙ append-nil (filter made (take k gs)) ∙ ap (filter made) (sym read.made))

  -- **it is by the owner, or a life upheld it when it was made**
  pub was_upheld : (owned || list_any (upholds just_before g) lives) ≡ true
  was_upheld =
      let p = positive in
      let q = early_enough in
      let is : in_force_after (take just_before changes) ≡ standing_at changes just_before lives =
      in_force-left changes just_before lawful (omega arith) ∙ ap (valid o) left-read ∙ read.stand just_before in
      sym (supported-standing changes o just_before g lives (omega arith) read.options)
      ∙ ap (λ k. is_supported o k g) (sym is)
      ∙ supported-before changes g p q (all_at (λ h. WasGrantable changes h) (granted changes) (length lives) g at (grantable-granted changes lawful))

  module _ (noted : ℕ) (within : noted ≤ length lives)
      (early : All (λ h. h.grant.moment.0 < g.moment.0) (take noted lives))
      (next : (h : Life) → slice_get lives noted ≡ Some h → g.moment.0 ≤ h.grant.moment.0) where
    pub late : All (λ h. g.moment.0 ≤ h.grant.moment.0) (drop noted lives)
    late j d inside =
        let there : noted + j < length lives = let e = length-drop noted lives in omega arith in
        let here : noted < length lives = omega arith in
        let first : Life = get_or lives noted d in
        let other : Life = get_or lives (noted + j) d in
        let one : slice_get lives noted ≡ Some first = slice_get-get_or lives noted d here in
        let two : slice_get lives (noted + j) ≡ Some other = slice_get-get_or lives (noted + j) d there in
        let low : g.moment.0 ≤ first.grant.moment.0 = next first one in
        let up : first.grant.moment.0 ≤ other.grant.moment.0 =
        later-grants changes noted first.grant (life-place changes lives read noted first one) (noted + j) other.grant (omega arith) (life-place changes lives read (noted + j) other two) in
        let P : Life → Type 0 = λ h. g.moment.0 ≤ h.grant.moment.0 in
        subst P (sym (get_or-drop noted lives j d)) (omega arith)

    by_found : (f : Option Support) → IsLongest lives noted (needed_by g) f → list_any (upholds just_before g) lives ≡ true → (m : ℕ) → is_before m (upheld_until g false f) ≡ list_any (upholds m g) lives
    by_found (Some s) h was m = sym (upholds-longest lives noted g early late m s within h)
    by_found None h was m = absurd (both_ways _ (upholds-none lives noted g early late just_before h) was)

    -- how long it is upheld
    upheld-right : (b : Bool) (f : Option Support) → IsLongest lives noted (needed_by g) f → (b || list_any (upholds just_before g) lives) ≡ true → (m : ℕ) → is_before m (upheld_until g b (cond b None f)) ≡ (b || list_any (upholds m g) lives)
    upheld-right true f h was m = refl
    upheld-right false f h was m = by_found f h was m

    within_found : (f : Option Support) → IsLongest lives noted (needed_by g) f → is_before just_before (upheld_until g false f) ≡ true → EndsWithin g.moment.0 (length changes) (upheld_until g false f)
    within_found (Some s) h lasts =
        let P : Option Moment → Type 0 = λ e. EndsWithin h.1.grant.moment.0 (length changes) e in
        within-later g.moment.0 (length changes) h.1.grant.moment.0 s.until
        (subst P h.4 (all_at (λ l. EndsWithin l.grant.moment.0 (length changes) l.option_end) lives s.place h.1 h.2 read.ends)) lasts
    within_found None h lasts = let q = early_enough in (omega arith, q)

    upheld-within : (b : Bool) (f : Option Support) → IsLongest lives noted (needed_by g) f → is_before just_before (upheld_until g b (cond b None f)) ≡ true → EndsWithin g.moment.0 (length changes) (upheld_until g b (cond b None f))
    upheld-within true f h lasts = tt
    upheld-within false f h lasts = within_found f h lasts

    module _ (found : Option Support) (longest : IsLongest lives noted (needed_by g) found) where
      abbrev until : Option Moment
      until = upheld_until g owned (cond owned None found)

      abbrev ends : Ends
      ends = next_ends changes g

      abbrev pub next_life : Life
      next_life = life_until g ends until

      falls-right : FallsRight changes o lives next_life
      falls-right m le =
          before-earlier m ends.struck until
          ∙ ap (λ b. b && is_before m until) (before-struck changes g m le)
          ∙ ap (λ b. not (is_struck (take m changes) g) && b) (upheld-right owned found longest was_upheld m)

      ends-right : EndsRight changes next_life
      ends-right m le =
          let fell : Option Moment = fall_by ends until in
          elim (g.option) as (λ b. is_before m (cond b (earlier ends.unoptioned fell) (Some g.moment)) ≡ (b && (not (is_unoptioned (take m changes) g) && is_before m fell))) [
            | true ↦ before-earlier m ends.unoptioned fell ∙ ap (λ b. b && is_before m fell) (before-unoptioned changes g m le)
            | false ↦ le-ltb m g.moment.0 le
          ]

      fell-within : EndsWithin g.moment.0 (length changes) next_life.fell
      fell-within =
          let P : Option Moment → Type 0 = λ e. EndsWithin g.moment.0 (length changes) e in
          earlier-either P ends.struck until (within-struck changes g early_enough)
          (upheld-within owned found longest (upheld-right owned found longest was_upheld just_before ∙ was_upheld))

      end-within : EndsWithin g.moment.0 (length changes) next_life.option_end
      end-within =
          let P : Option Moment → Type 0 = λ e. EndsWithin g.moment.0 (length changes) e in
          let q = early_enough in
          elim (g.option) as (λ b. P (cond b (earlier ends.unoptioned (fall_by ends until)) (Some g.moment))) [
            | true ↦ earlier-either P ends.unoptioned (fall_by ends until) (within-unoptioned changes g q) fell-within
            | false ↦ (omega arith, q)
          ]

      -- **the lives, with that of one more grant**
      pub lives-more : AreLives changes (lives ++ next_life ∷ [])
      lives-more =
          let k : ℕ = length lives in
          let gs : List Grant = granted changes in
          let there : k < length gs = slice_get_within gs k g at in
          let count : length (lives ++ next_life ∷ []) ≡ k + 1 = length_push lives next_life in
          let last : get_or gs k g ≡ g = get_or_from_slice_get gs k g g at in
          record {
            made = map-append grant_of lives (next_life ∷ []) ∙ ap (λ x. x ++ g ∷ []) read.made
                ∙ sym (ap (λ n. take n gs) count ∙ take_more gs k g there ∙ ap (λ h. take k gs ++ h ∷ []) last);
            stand = λ m. stand-push changes o m lives next_life (read.stand m) read.options falls-right;
            options = All-push (EndsRight changes) lives next_life read.options ends-right;
            falls = All-push (λ l. EndsWithin l.grant.moment.0 (length changes) l.fell) lives next_life read.falls fell-within;
            ends = All-push (λ l. EndsWithin l.grant.moment.0 (length changes) l.option_end) lives next_life read.ends end-within;
          }
