-- Each life that is read is by the owner, or has a support.
use Rattle.std.proofs.Common.{◌≡◌, ◌⊎◌, ℕ, ◌+◌, ◌-◌, ◌<◌, ◌≤◌, Bool, true, false, ◌||◌, cond, List, [], ◌∷◌, ◌++◌, length, get_or, take, drop, slice_get, suc, zero, Option, Some, None, inl, inr, refl, sym, ap, ◌∙◌, subst, arith, ⊎_elim}
use Rattle.std.specs.List.{All, list_any}
use Rattle.std.specs.Option.{option_map}
use Rattle.std.proofs.lemmas.Bool.{both_ways}
use Rattle.std.proofs.lemmas.List.{length_push, length-take-le, get_or-take, take-append-le}
use Rattle.std.proofs.lemmas.List.Elements.{All-same}
use Rattle.std.proofs.lemmas.Option.{none-some, same_Some, slice_get_within, get_or_from_slice_get}
use Rattle.indexmap.specs.IndexMap.{get}
use Rattle.base_core.specs.declared.value.Moment.{Moment}
use Rattle.grants_core.specs.declared.grant.Grant.{Grant}
use Rattle.grants_core.specs.declared.grant.Ownership.{Ownership}
use Rattle.grants_core.specs.declared.grant.Change.{Change}
use Rattle.grants_core.specs.Keys.{needed_by, same_holding}
use Rattle.grants_core.specs.Owners.{owns}
use Rattle.grants_core.specs.Valid.{supports}
use Rattle.grants_core.specs.History.{granted, owners_after}
use Rattle.explain_core.specs.declared.coming.Ends.{Ends}
use Rattle.explain_core.specs.declared.life.Life.{Life}
use Rattle.explain_core.specs.declared.made.Made.{Made}
use Rattle.explain_core.specs.declared.supports.Support.{Support}
use Rattle.explain_core.specs.declared.supports.Supports.{Supports}
use Rattle.explain_core.specs.Kept.{FallsUnstruck, EndsUntaken, IsSupported}
use Rattle.explain_core.specs.Ends.{earlier, next_ends, upheld_until, fall_by, life_until}
use Rattle.explain_core.specs.Supports.{IsLongest, AreLongest, AreEarly}
use Rattle.explain_core.specs.Reading.{IsRead, AreEarlier}
use Rattle.explain_core.proofs.EndLemmas.{earlier-is, earlier-never, struck-strikes, unoptioned-takes}
use Rattle.explain_core.proofs.Standing.{upholds}
use Rattle.explain_core.proofs.NumberedLemmas.{number-place}
use Rattle.explain_core.proofs.LongestLemmas.{upholds-none, supports-early, slice_get-push, longest-push}
use Rattle.explain_core.proofs.Adding.{later-grants, was_upheld, late, lives-more}

abbrev pub place_of : Option Support → Option ℕ
place_of s = option_map (λ (k : Support). k.place) s

module _ (changes : List Change) (g : Grant) (until : Option Moment) where
  abbrev ends : Ends
  ends = next_ends changes g

  abbrev own_life : Life
  own_life = life_until g ends until

  -- where it falls by a change that does not strike it, it is no longer upheld
  falls-until : (at : Moment) (c : Change) → FallsUnstruck changes own_life at c → until ≡ Some at
  falls-until at c h =
      ⊎_elim
      (λ (struck : ends.struck ≡ Some at). absurd (both_ways _ h.unstruck (struck-strikes changes g at c struck h.change)))
      (λ (e : until ≡ Some at). e)
      (earlier-is ends.struck until at h.fell)

  -- so too where its option ends by one that does not take it
  ends-until : (at : Moment) (c : Change) → EndsUntaken changes own_life at c → until ≡ Some at
  ends-until at c h =
      let on : g.option ≡ true = h.option in
      let ended : earlier ends.unoptioned (fall_by ends until) ≡ Some at =
      sym (ap (λ b. cond b (earlier ends.unoptioned (fall_by ends until)) (Some g.moment)) on) ∙ h.ended in
      ⊎_elim
      (λ (taken : ends.unoptioned ≡ Some at). absurd (both_ways _ h.untaken (unoptioned-takes changes g at c on taken h.change)))
      (λ (fell : fall_by ends until ≡ Some at).
      falls-until at c (record { fell = fell; change = h.change; unstruck = h.unstruck }))
      (earlier-is ends.unoptioned (fall_by ends until) at ended)

module _ (changes : List Change) (lives : List Life) (g : Grant) (noted : ℕ)
    (number : g.number ≡ length lives) (within : noted ≤ length lives)
    (early : All (λ h. h.grant.moment.0 < g.moment.0) (take noted lives)) where
  abbrev o : List Ownership
  o = owners_after changes

  -- a support that was found supports it
  found-supports : (s : Support) (l : Life) → IsLongest lives noted (needed_by g) (Some s) → IsSupported changes o (lives ++ l ∷ []) (life_until g (next_ends changes g) s.until) (Some s.place)
  found-supports s l h =
      let place : s.place < noted = h.0 in
      let above : Life = h.1 in
      let count : length (take noted lives) ≡ noted = length-take-le noted lives within in
      let is : get_or (take noted lives) s.place above ≡ above = get_or-take noted lives s.place above place ∙ get_or_from_slice_get lives s.place above above h.2 in
      let Early : Life → Type 0 = λ k. k.grant.moment.0 < g.moment.0 in
      let before : Early above = subst Early is (early s.place above (omega arith)) in
      let n = number in (
        omega arith,
        above,
        slice_get-push lives l s.place above h.2,
        record {
          supports = supports-early above g before ∙ h.3;
          stands = λ e. h.4 ∙ earlier-never (next_ends changes g).struck s.until e;
          falls = λ at c k. h.4 ∙ falls-until changes g s.until at c k;
          ends = λ at c k. h.4 ∙ ends-until changes g s.until at c k;
        },
      )

  abbrev just_before : ℕ
  just_before = g.moment.0 - 1

  module _ (late : All (λ h. g.moment.0 ≤ h.grant.moment.0) (drop noted lives)) (l : Life) where
    by_found : (f : Option Support) → IsLongest lives noted (needed_by g) f → list_any (upholds just_before g) lives ≡ true → IsSupported changes o (lives ++ l ∷ []) (life_until g (next_ends changes g) (upheld_until g false f)) (place_of f)
    by_found (Some s) h was = found-supports s l h
    by_found None h was = absurd (both_ways _ (upholds-none lives noted g early late just_before h) was)

    supported-by : (b : Bool) → owns o g.grantor g.atom ≡ b → (f : Option Support) → IsLongest lives noted (needed_by g) f → (b || list_any (upholds just_before g) lives) ≡ true → IsSupported changes o (lives ++ l ∷ []) (life_until g (next_ends changes g) (upheld_until g b (cond b None f))) (place_of (cond b None f))
    supported-by true own f h was = record {
      owns = own;
      falls = λ at c k. none-some at (falls-until changes g None at c k);
      ends = λ at c k. none-some at (ends-until changes g None at c k);
    }
    supported-by false own f h was = by_found f h was

-- the supports of the lives so far stay
supported-stays : (changes : List Change) (o : List Ownership) (lives : List Life) (l life : Life) (place : Option ℕ) → IsSupported changes o lives life place → IsSupported changes o (lives ++ l ∷ []) life place
supported-stays changes o lives l life None h = h
supported-stays changes o lives l life (Some place) h = (h.0, h.1, slice_get-push lives l place h.1 h.2, h.3)

-- what stands at a place after one more
slice_get-push_cases : {X : Type 0} (xs : List X) (y : X) (k : ℕ) (x : X) → slice_get (xs ++ y ∷ []) k ≡ Some x → (slice_get xs k ≡ Some x) ⊎ ((k ≡ length xs) × (y ≡ x))
slice_get-push_cases [] y zero x e = inr (refl, same_Some y x e)
slice_get-push_cases [] y (suc k) x e = absurd (none-some x e)
slice_get-push_cases (z ∷ zs) y zero x e = inl e
slice_get-push_cases (z ∷ zs) y (suc k) x e =
    ⊎_elim (λ (h : slice_get zs k ≡ Some x). inl h) (λ (h : (k ≡ length zs) × (y ≡ x)). inr (ap suc h.0, h.1)) (slice_get-push_cases zs y k x e)

module _ (changes : List Change) (made : Made) (lives : List Life) (places : List (Option ℕ)) (supports : Supports)
    (read : IsRead changes made lives places) (g : Grant) (at : slice_get made.grants.items (length lives) ≡ Some g)
    (longest : AreLongest lives supports) (early : AreEarly lives supports g.moment)
    (next : (h : Life) → slice_get lives supports.noted ≡ Some h → g.moment.0 ≤ h.grant.moment.0)
    (found : Option Support) (is_found : IsLongest lives supports.noted (needed_by g) found) where
  abbrev owned : Bool
  owned = owns (owners_after changes) g.grantor g.atom

  abbrev pub new_life : Life
  new_life = life_until g (next_ends changes g) (upheld_until g owned (cond owned None found))

  abbrev pub new_place : Option ℕ
  new_place = place_of (cond owned None found)

  at_granted : slice_get (granted changes) (length lives) ≡ Some g
  at_granted = ap (λ gs. slice_get gs (length lives)) (sym read.grants) ∙ at

  new_supported : IsSupported changes (owners_after changes) (lives ++ new_life ∷ []) new_life new_place
  new_supported =
      supported-by changes lives g supports.noted (number-place changes (length lives) g at_granted) longest.within early
      (late changes lives g read.lawful read.lives_are at_granted supports.noted longest.within early next) new_life
      owned refl found is_found (was_upheld changes lives g read.lawful read.lives_are at_granted)

  all_supported : (place : ℕ) (life : Life) (support : Option ℕ) → slice_get (lives ++ new_life ∷ []) place ≡ Some life → slice_get (places ++ new_place ∷ []) place ≡ Some support → IsSupported changes (owners_after changes) (lives ++ new_life ∷ []) life support
  all_supported place life support one two =
      let as_many : length places ≡ length lives = read.as_many in
      ⊎_elim
      (λ (old : slice_get lives place ≡ Some life).
      let inside : place < length lives = slice_get_within lives place life old in
      ⊎_elim
      (λ (there : slice_get places place ≡ Some support).
      supported-stays changes (owners_after changes) lives new_life life support (read.supported place life support old there))
      (λ (end : (place ≡ length places) × (new_place ≡ support)). let e = end.0 in absurd (omega arith))
      (slice_get-push_cases places new_place place support two))
      (λ (new : (place ≡ length lives) × (new_life ≡ life)).
      let here = new.0 in
      ⊎_elim
      (λ (there : slice_get places place ≡ Some support).
      let inside : place < length places = slice_get_within places place support there in
      absurd (omega arith))
      (λ (end : (place ≡ length places) × (new_place ≡ support)).
      let P : Life → Type 0 = λ l. IsSupported changes (owners_after changes) (lives ++ new_life ∷ []) l support in
      let Q : Option ℕ → Type 0 = λ s. IsSupported changes (owners_after changes) (lives ++ new_life ∷ []) new_life s in
      subst P new.1 (subst Q end.1 new_supported))
      (slice_get-push_cases places new_place place support two))
      (slice_get-push_cases lives new_life place life one)

  -- **one more grant is read**
  pub read-more : IsRead changes made (lives ++ new_life ∷ []) (places ++ new_place ∷ [])
  read-more =
      record {
        lawful = read.lawful;
        owners = read.owners;
        grants = read.grants;
        lives_are = lives-more changes lives g read.lawful read.lives_are at_granted supports.noted longest.within early next found is_found;
        as_many = length_push places new_place ∙ ap (λ n. n + 1) read.as_many ∙ sym (length_push lives new_life);
        supported = all_supported;
      }

-- the noted lives began before the grants that are still to come
pub earlier-more : (changes : List Change) (made : Made) (lives : List Life) (l : Life) (supports : Supports) (g : Grant) → made.grants.items ≡ granted changes → slice_get made.grants.items (length lives) ≡ Some g → supports.noted ≤ length lives → AreEarly lives supports g.moment → AreEarlier made (lives ++ l ∷ []) supports
earlier-more changes made lives l supports g grants at within early place h le there =
    let Here : Life → Type 0 = λ k. k.grant.moment.0 < h.moment.0 in
    let longer : length (lives ++ l ∷ []) ≡ length lives + 1 = length_push lives l in
    let In_granted : (k : ℕ) (x : Grant) → slice_get made.grants.items k ≡ Some x → slice_get (granted changes) k ≡ Some x = λ k x e. ap (λ gs. slice_get gs k) (sym grants) ∙ e in
    let up : g.moment.0 ≤ h.moment.0 = later-grants changes (length lives) g (In_granted (length lives) g at) place h (omega arith) (In_granted place h there) in
    All-same Here (take supports.noted (lives ++ l ∷ [])) (take supports.noted lives) (take-append-le supports.noted lives (l ∷ []) within)
    (λ k d inside. let lt = early k d inside in omega arith)

-- a life more leaves what is noted
pub longest-after : (lives : List Life) (l : Life) (supports : Supports) → AreLongest lives supports → AreLongest (lives ++ l ∷ []) supports
longest-after lives l supports h =
    let more : length (lives ++ l ∷ []) ≡ length lives + 1 = length_push lives l in
    let within = h.within in
    record {
      within = omega arith;
      longest = λ w. longest-push lives l supports.noted w (get same_holding supports.longest w) within (h.longest w);
    }

-- **so it is by whatever names the parts of the step have**
module _ (changes : List Change) (made : Made) (lives : List Life) (places : List (Option ℕ)) (supports : Supports)
    (read : IsRead changes made lives places) (g : Grant) (at : slice_get made.grants.items (length lives) ≡ Some g)
    (longest : AreLongest lives supports) (early : AreEarly lives supports g.moment)
    (next : (h : Life) → slice_get lives supports.noted ≡ Some h → g.moment.0 ≤ h.grant.moment.0)
    (is_owners : Bool) (owners : is_owners ≡ owns made.owners g.grantor g.atom)
    (support : Option Support) (chosen : support ≡ cond is_owners None (get same_holding supports.longest (needed_by g)))
    (ends : Ends) (right : ends ≡ next_ends changes g) where
  abbrev mine : Bool
  mine = owns (owners_after changes) g.grantor g.atom

  same_owners : is_owners ≡ mine
  same_owners = owners ∙ ap (λ os. owns os g.grantor g.atom) read.owners

  same_life : life_until g ends (upheld_until g is_owners support) ≡ life_until g (next_ends changes g) (upheld_until g mine (cond mine None (get same_holding supports.longest (needed_by g))))
  same_life =
      ap (λ e. life_until g e (upheld_until g is_owners support)) right
      ∙ ap (λ s. life_until g (next_ends changes g) (upheld_until g is_owners s)) chosen
      ∙ ap (λ b. life_until g (next_ends changes g) (upheld_until g b (cond b None (get same_holding supports.longest (needed_by g))))) same_owners

  same_place : place_of support ≡ place_of (cond mine None (get same_holding supports.longest (needed_by g)))
  same_place = ap place_of chosen ∙ ap (λ b. place_of (cond b None (get same_holding supports.longest (needed_by g)))) same_owners

  pub add-read : (lives' : List Life) (places' : List (Option ℕ)) → lives' ≡ lives ++ life_until g ends (upheld_until g is_owners support) ∷ [] → places' ≡ places ++ place_of support ∷ [] → IsRead changes made lives' places'
  add-read lives' places' e f =
      let best : Option Support = get same_holding supports.longest (needed_by g) in
      let new : List Life = lives ++ life_until g (next_ends changes g) (upheld_until g mine (cond mine None best)) ∷ [] in
      let is_lives : lives' ≡ new = e ∙ ap (λ l. lives ++ l ∷ []) same_life in
      let is_places : places' ≡ places ++ place_of (cond mine None best) ∷ [] = f ∙ ap (λ p. places ++ p ∷ []) same_place in
      let P : List Life → Type 0 = λ ls. IsRead changes made ls places' in
      let Q : List (Option ℕ) → Type 0 = λ ps. IsRead changes made new ps in
      subst P (sym is_lives) (subst Q (sym is_places) (read-more changes made lives places supports read g at longest early next best (longest.longest (needed_by g))))
