-- The lives of grants, and the grants in force.
use Rattle.std.proofs.Common.{◌≡◌, ℕ, ◌<◌, ◌≤◌, ◌+◌, ◌-◌, Bool, true, false, not, ◌&&◌, ◌||◌, List, [], ◌∷◌, ◌++◌, Option, Some, None, is_some, is_none, option_map, map, cond, length, take, drop, refl, subst, sym, ap, ◌∙◌, arith, ◌==◌}
use Rattle.std.specs.Prelude.{MatchOption}
use Rattle.std.specs.List.{All, AllByRecursion, Contains, list_any, filter, find, slice_get, range_with_len}
use Rattle.std.proofs.lemmas.Bool.{and_parts, and_from, or_parts, eqb-true, not-false}
use Rattle.std.proofs.lemmas.List.Elements.{All-filter, All-from_recursion, All-weaker}
use Rattle.std.proofs.lemmas.List.{take-append-drop, length-take-le, take_all}
use Rattle.std.proofs.lemmas.Option.{slice_get-map}
use Rattle.base_core.specs.declared.name.User.{User}
use Rattle.base_core.specs.declared.privilege.Atom.{Atom}
use Rattle.base_core.specs.declared.value.Moment.{Moment}
use Rattle.grants_core.specs.declared.grant.Grant.{Grant}
use Rattle.grants_core.specs.declared.grant.Change.{Change}
use Rattle.grants_core.specs.Content.{gives, option_off}
use Rattle.grants_core.specs.History.{made_by_all, granted, is_struck, is_unoptioned, left_after, owners_after, in_force_after}
use Rattle.grants_core.proofs.ValidLemmas.{valid-part}
use Rattle.explain_core.specs.declared.life.Life.{Life}
use Rattle.explain_core.specs.Life.{left}
use Rattle.grants_core.specs.Owners.{owns}
use Rattle.explain_core.specs.Chains.{holds_after}
use Rattle.explain_core.specs.Losses.{is_of_atom}
use Rattle.grants_core.specs.Lawful.{AreLawful}
use Rattle.explain_core.specs.Lives.{stands_at, first_failure, fall_of, given_to, option_end_of, life_of, lives_of}
use Rattle.explain_core.proofs.ListLemmas.{filter_alike, filter_both, map_alike, filter-map, map-map, list_any-map, list_any-weaker, list_any-both, list_any-at, at_place, from_places, Contains-at, filter-at, find_none, none_found, found, All-range, range-All}
use Rattle.explain_core.proofs.NumberedLemmas.{IsRising, rising-granted, rising-part, number-place, has_number_of, part-by_number, tested-by_number, part-filtered, All-part}
use Rattle.explain_core.proofs.LastingLemmas.{IsWithin, moments-granted, numbers-before, SeesOptions, earlier}

none_mapped : {A B : Type 0} (f : A → B) (o : Option A) → option_map f o ≡ None → o ≡ None
none_mapped f None h = refl
none_mapped f (Some x) h = absurd (let never : ⊥ = cc in never)

some_mapped : {A B : Type 0} (f : A → B) (o : Option A) (y : B) → option_map f o ≡ Some y → (x : A) × (o ≡ Some x) × (f x ≡ y)
some_mapped f None y h = absurd (let never : ⊥ = cc in never)
some_mapped f (Some x) y h = (x, refl, cc)

-- a test that never fails from a grant's moment on, or at a moment
module _ (test : ℕ → Bool) (cs : List Change) (g : Grant) where
  lasts : g.moment.0 ≤ length cs → first_failure test cs g ≡ None → test (length cs) ≡ true
  lasts early h =
      let none = find_none (λ m. not (test m)) (range_with_len g.moment.0 (length cs + 1 - g.moment.0)) (none_mapped _ _ h) in
      not-false (test (length cs)) (range-All (λ m. not (test m) ≡ false) g.moment.0 (length cs + 1 - g.moment.0) (length cs) none early (omega arith))

  never_fails : ((m : ℕ) → g.moment.0 ≤ m → m ≤ length cs → test m ≡ true) → first_failure test cs g ≡ None
  never_fails h =
      ap (option_map (λ m. record { 0 = m }))
      (none_found (λ m. not (test m)) (range_with_len g.moment.0 (length cs + 1 - g.moment.0))
      (All-range (λ m. not (test m) ≡ false) g.moment.0 (length cs + 1 - g.moment.0) (λ m low high. ap not (h m low (omega arith)))))

  fails_within : (at : Moment) → first_failure test cs g ≡ Some at → (g.moment.0 ≤ at.0) × (at.0 ≤ length cs)
  fails_within at h =
      let (m, first, is) = some_mapped (λ (m : ℕ). record { 0 = m }) (find (λ m. not (test m)) (range_with_len g.moment.0 (length cs + 1 - g.moment.0))) at h in
      let within = found (λ m. not (test m)) (λ m. (g.moment.0 ≤ m) × (m ≤ length cs)) (range_with_len g.moment.0 (length cs + 1 - g.moment.0)) m
      (All-range (λ m. (g.moment.0 ≤ m) × (m ≤ length cs)) g.moment.0 (length cs + 1 - g.moment.0) (λ m low high. (low, omega arith))) first in
      let same : m ≡ at.0 = ap (λ (t : Moment). t.0) is in
      (omega (arith, same, within.0), omega (arith, same, within.1))

-- What a grant that was made knows of the changes: it was made by one of them, and each that had
-- been made by a moment after it counts it.
record WasMade (cs : List Change) (g : Grant) : Type 0 where
  first : 1 ≤ g.moment.0
  early : g.moment.0 ≤ length cs
  counted : (m : ℕ) → g.moment.0 ≤ m → m ≤ length cs → g.number < made_by_all (take m cs)

was_made : (cs : List Change) (k : ℕ) (g : Grant) → slice_get (granted cs) k ≡ Some g → WasMade cs g
was_made cs k g at =
    let within = at_place (IsWithin 1 cs) (granted cs) k g (moments-granted cs) at in
    record {
      first = within.0;
      early = let less : g.moment.0 < 1 + length cs = within.1 in omega arith;
      counted = λ m low high.
          let split : take m cs ++ drop m cs ≡ cs = take-append-drop m cs in
          let count : length (take m cs) ≡ m = length-take-le m cs high in
          at_place (λ h. h.moment.0 ≤ length (take m cs) → h.number < made_by_all (take m cs)) (granted (take m cs ++ drop m cs)) k g
          (numbers-before (take m cs) (drop m cs)) (ap (λ (l : List Change). slice_get (granted l) k) split ∙ at) (omega (arith, count, low));
    }

none_exactly : {A : Type 0} (o : Option A) (b : Bool) → (o ≡ None → b ≡ true) → (b ≡ true → o ≡ None) → is_none o ≡ b
none_exactly None b f g = sym (f refl)
none_exactly (Some x) true f g = absurd (let e : Some x ≡ None = g refl in let never : ⊥ = cc in never)
none_exactly (Some x) false f g = refl

-- a test that means one grant alone, in force after the first changes
module _ (cs : List Change) (lawful : AreLawful cs) (g : Grant) (made : WasMade cs g) (test : Grant → Bool) (sees : SeesOptions test) (means : (h : Grant) → test h ≡ true → h.number ≡ g.number) where
  whole : list_any test (in_force_after (take (length cs) cs)) ≡ list_any test (in_force_after cs)
  whole = let le : length cs ≤ length cs = omega arith in ap (λ (l : List Change). list_any test (in_force_after l)) (take_all (length cs) cs le)

  never_fails-exactly : is_none (first_failure (λ m. list_any test (in_force_after (take m cs))) cs g) ≡ list_any test (in_force_after cs)
  never_fails-exactly =
      none_exactly _ (list_any test (in_force_after cs))
      (λ none. sym whole ∙ lasts (λ m. list_any test (in_force_after (take m cs))) cs g made.early none)
      (λ now. never_fails (λ m. list_any test (in_force_after (take m cs))) cs g
      (λ m low high. earlier test cs m lawful sees (λ h pass. let same = means h pass in let less = made.counted m low high in omega (arith, same, less)) now))

-- whether there is a grant in force of the same number, and with the option
module _ (cs : List Change) (lawful : AreLawful cs) (g : Grant) (made : WasMade cs g) where
  fell-exactly : is_none (fall_of cs g) ≡ has_number_of (in_force_after cs) g
  fell-exactly = never_fails-exactly cs lawful g made (λ h. h.number == g.number) (λ p h e. e) (λ h e. eqb-true h.number g.number e)

  option_end-exactly : is_none (option_end_of cs g) ≡ list_any (λ h. h.option && h.number == g.number) (in_force_after cs)
  option_end-exactly =
      never_fails-exactly cs lawful g made (λ h. h.option && h.number == g.number)
      (λ p h e. let parts = and_parts (h.option && not (p h)) (h.number == g.number) e in and_from h.option (h.number == g.number) (and_parts h.option (not (p h)) parts.0).0 parts.1)
      (λ h e. eqb-true h.number g.number (and_parts h.option (h.number == g.number) e).1)

-- **the grants in force are what is left of those that have not fallen**
pub in_force-left : (cs : List Change) → AreLawful cs → in_force_after cs ≡ map left (filter (λ life. is_none life.fell) (lives_of cs))
in_force-left cs lawful =
    let xs : List Grant = granted cs in
    let f : Grant → Grant = option_off (is_unoptioned cs) in
    let stands : Grant → Bool = λ g. is_none (fall_of cs g) in
    let (zs, zs_of, is) = part-filtered f (λ g. not (is_struck cs g)) xs (in_force_after cs) (valid-part (owners_after cs) (left_after cs)) in
    let rising : IsRising zs = rising-part zs xs zs_of (rising-granted cs) in
    let Made : Grant → Type 0 = λ g. WasMade cs g in
    let all_made : AllByRecursion Made xs = from_places Made xs (was_made cs) in
    let zs_made : AllByRecursion Made zs = All-part Made zs xs zs_of all_made in
    let chosen : filter stands xs ≡ zs =
    filter_alike stands (has_number_of zs) xs
    (from_places (λ g. stands g ≡ has_number_of zs g) xs
    (λ k g at. fell-exactly cs lawful g (was_made cs k g at) ∙ ap (λ (l : List Grant). has_number_of l g) is ∙ list_any-map (λ h. h.number == g.number) f zs))
    ∙ part-by_number zs xs zs_of (rising-granted cs) in
    let same : AllByRecursion (λ g. f g ≡ left (life_of cs g)) zs =
    from_places (λ g. f g ≡ left (life_of cs g)) zs
    (λ k g at.
    let one : is_none (option_end_of cs g) ≡ (f g).option =
    option_end-exactly cs lawful g (at_place Made zs k g zs_made at)
    ∙ ap (list_any (λ h. h.option && h.number == g.number)) is ∙ list_any-map (λ h. h.option && h.number == g.number) f zs
    ∙ at_place (λ e. list_any (λ h. (f h).option && h.number == e.number) zs ≡ (f e).option) zs k g (tested-by_number (λ h. (f h).option) zs rising) at in
    ap (λ b. record g { option = b }) (sym one)) in
    is ∙ map_alike f (λ g. left (life_of cs g)) zs same
    ∙ ap (map (λ g. left (life_of cs g))) (sym chosen)
    ∙ sym (map-map left (life_of cs) (filter stands xs))
    ∙ ap (map left) (sym (filter-map (λ life. is_none life.fell) (life_of cs) xs))

-- the grant of a life
grant_at : (cs : List Change) (k : ℕ) (life : Life) → slice_get (lives_of cs) k ≡ Some life → (g : Grant) × (slice_get (granted cs) k ≡ Some g) × (life_of cs g ≡ life)
grant_at cs k life at = some_mapped (life_of cs) (slice_get (granted cs) k) life (sym (slice_get-map (life_of cs) (granted cs) k) ∙ at)

-- its number is its place
pub life-number : (cs : List Change) (k : ℕ) (life : Life) → slice_get (lives_of cs) k ≡ Some life → life.grant.number ≡ k
life-number cs k life at =
    let (g, made, is) = grant_at cs k life at in
    ap (λ (l : Life). l.grant.number) (sym is) ∙ number-place cs k g made

none_is : {A : Type 0} (o : Option A) → o ≡ None → is_none o ≡ true
none_is None h = refl
none_is (Some x) h = absurd (let never : ⊥ = cc in never)

is_none_is : {A : Type 0} (o : Option A) → is_none o ≡ true → o ≡ None
is_none_is None h = refl
is_none_is (Some x) h = absurd (let never : ⊥ = cc in never)

-- the same by a test of the code
pub none_told : {A : Type 0} (o : Option A) (b : Bool) → is_some o ≡ not b → b ≡ true → o ≡ None
none_told o b is h = is_none_is o (ap not (is ∙ ap not h))

-- what is left of it is in force while it stands
pub life-in_force : (cs : List Change) (k : ℕ) (life : Life) → AreLawful cs → slice_get (lives_of cs) k ≡ Some life → life.fell ≡ None → Contains (in_force_after cs) (left life)
life-in_force cs k life lawful at stands =
    let kept : List Life = filter (λ l. is_none l.fell) (lives_of cs) in
    let (j, there) = filter-at (λ l. is_none l.fell) (lives_of cs) k life at (none_is life.fell stands) in
    Contains-at (in_force_after cs) j (left life)
    (ap (λ (l : List Grant). slice_get l j) (in_force-left cs lawful) ∙ slice_get-map left kept j ∙ ap (option_map left) there)

-- it stands while it has the option
pub life-standing : (cs : List Change) (k : ℕ) (life : Life) → AreLawful cs → slice_get (lives_of cs) k ≡ Some life → life.option_end ≡ None → life.fell ≡ None
life-standing cs k life lawful at with_option =
    let (g, made, is) = grant_at cs k life at in
    let was = was_made cs k g made in
    let end : is_none (option_end_of cs g) ≡ true = none_is (option_end_of cs g) (ap (λ (l : Life). l.option_end) is ∙ with_option) in
    let there : list_any (λ h. h.option && h.number == g.number) (in_force_after cs) ≡ true = sym (option_end-exactly cs lawful g was) ∙ end in
    let number : has_number_of (in_force_after cs) g ≡ true = list_any-weaker (λ h. h.option && h.number == g.number) (λ h. h.number == g.number) (in_force_after cs) (λ h e. (and_parts h.option (h.number == g.number) e).1) there in
    ap (λ (l : Life). l.fell) (sym is) ∙ is_none_is (fall_of cs g) (fell-exactly cs lawful g was ∙ number)

-- it falls at the moment of one of the changes
pub life-fall : (cs : List Change) (k : ℕ) (life : Life) (at : Moment) → slice_get (lives_of cs) k ≡ Some life → life.fell ≡ Some at → (1 ≤ at.0) × (at.0 ≤ length cs)
life-fall cs k life at there fell =
    let (g, made, is) = grant_at cs k life there in
    let was = was_made cs k g made in
    let within = fails_within (stands_at cs g) cs g at (ap (λ (l : Life). l.fell) is ∙ fell) in
    (let first = was.first in omega (arith, within.0, first), within.1)

-- **whether a grant in force gives the user the atom, told by the lives**
pub gives-lives : (cs : List Change) (user : User) (atom : Atom) → AreLawful cs → list_any (gives user atom) (in_force_after cs) ≡ list_any (λ life. is_none life.fell && gives user atom life.grant) (lives_of cs)
unfolding gives
gives-lives cs user atom lawful =
    ap (list_any (gives user atom)) (in_force-left cs lawful)
    ∙ list_any-map (gives user atom) left (filter (λ life. is_none life.fell) (lives_of cs))
    ∙ list_any-both (λ life. is_none life.fell) (λ life. gives user atom (left life)) (lives_of cs)

-- **and whether one does with the option**
pub option-lives : (cs : List Change) (user : User) (atom : Atom) → AreLawful cs
    → list_any (λ g. g.option && gives user atom g) (in_force_after cs) ≡ list_any (λ life. is_none life.fell && (not (is_some life.option_end) && gives user atom life.grant)) (lives_of cs)
unfolding gives
option-lives cs user atom lawful =
    ap (list_any (λ g. g.option && gives user atom g)) (in_force-left cs lawful)
    ∙ list_any-map (λ g. g.option && gives user atom g) left (filter (λ life. is_none life.fell) (lives_of cs))
    ∙ list_any-both (λ life. is_none life.fell) (λ life. (left life).option && gives user atom (left life)) (lives_of cs)

-- **the grants of an atom in force, told by the lives**
pub left-of : (cs : List Change) (atom : Atom) → AreLawful cs → map left (filter (λ life. is_none life.fell && is_of_atom atom life.grant) (lives_of cs)) ≡ filter (is_of_atom atom) (in_force_after cs)
left-of cs atom lawful =
    ap (map left) (filter_both (λ life. is_none life.fell) (λ life. is_of_atom atom life.grant) (lives_of cs))
    ∙ sym (filter-map (is_of_atom atom) left (filter (λ life. is_none life.fell) (lives_of cs)))
    ∙ ap (filter (is_of_atom atom)) (sym (in_force-left cs lawful))

-- who does not own the table holds the atom exactly if a life stands that gives it to him
pub standing-holds : (cs : List Change) (user : User) (atom : Atom) (first : Option ℕ) → AreLawful cs → owns (owners_after cs) user atom ≡ false
    → MatchOption first (list_any (gives user atom) (in_force_after cs) ≡ false) (λ number. (life : Life) × (slice_get (lives_of cs) number ≡ Some life) × (life.fell ≡ None) × (gives user atom life.grant ≡ true))
    → is_some first ≡ holds_after cs user atom
standing-holds cs user atom None lawful other none = sym (ap (λ b. owns (owners_after cs) user atom || b) none ∙ ap (λ b. b || false) other)
standing-holds cs user atom (Some number) lawful other (life, at, stands, gives_it) =
    let both : (is_none life.fell && gives user atom life.grant) ≡ true = and_from (is_none life.fell) (gives user atom life.grant) (none_is life.fell stands) gives_it in
    let there : list_any (gives user atom) (in_force_after cs) ≡ true = gives-lives cs user atom lawful ∙ list_any-at (λ l. is_none l.fell && gives user atom l.grant) (lives_of cs) number life at both in
    sym (ap (λ b. owns (owners_after cs) user atom || b) there ∙ ap (λ b. b || true) other)

-- where none passes both tests, each that passes the second fails the first
any-false : {A : Type 0} (p q : A → Bool) (xs : List A) → list_any (λ x. p x && q x) xs ≡ false → AllByRecursion (λ x. p x ≡ false) (filter q xs)
any-false p q [] none = tt
any-false {A} p q (x ∷ xs) none =
    let parts = or_parts (p x && q x) (list_any (λ y. p y && q y) xs) none in
    by (p x) (q x) (filter q xs) parts.0 (any-false p q xs parts.1) refl
  where
    by : (here there : Bool) (rest : List A) → (here && there) ≡ false → AllByRecursion (λ y. p y ≡ false) rest → p x ≡ here
        → AllByRecursion (λ y. p y ≡ false) (cond there (x ∷ rest) rest)
    by here false rest out h is = h
    by true true rest out h is = absurd (let never : ⊥ = cc in never)
    by false true rest out h is = (is, h)

not_none : {A : Type 0} (o : Option A) → is_none o ≡ false → is_some o ≡ true
not_none None h = absurd (let never : ⊥ = cc in never)
not_none (Some x) h = refl

-- each grant to a user who does not hold the atom has fallen
pub given-fallen : (cs : List Change) (user : User) (atom : Atom) → AreLawful cs → holds_after cs user atom ≡ false → All (λ life. is_some life.fell ≡ true) (given_to cs user atom)
given-fallen cs user atom lawful lacks =
    let none = (or_parts (owns (owners_after cs) user atom) (list_any (gives user atom) (in_force_after cs)) lacks).1 in
    let told = sym (gives-lives cs user atom lawful) ∙ none in
    All-weaker (λ (life : Life). is_none life.fell ≡ false) (λ life. is_some life.fell ≡ true) (λ life. not_none life.fell) (given_to cs user atom)
    (All-from_recursion (λ (life : Life). is_none life.fell ≡ false) (given_to cs user atom) (any-false (λ life. is_none life.fell) (λ life. gives user atom life.grant) (lives_of cs) told))

-- a life is at the place of its number
pub lives-at : (cs : List Change) → All (λ life. slice_get (lives_of cs) life.grant.number ≡ Some life) (lives_of cs)
lives-at cs =
    let At : Life → Type 0 = λ life. slice_get (lives_of cs) life.grant.number ≡ Some life in
    All-from_recursion At (lives_of cs)
    (from_places At (lives_of cs)
    (λ k life at.
    let Of : ℕ → Type 0 = λ n. slice_get (lives_of cs) n ≡ Some life in
    subst Of (sym (life-number cs k life at)) at))

pub given-at : (cs : List Change) (user : User) (atom : Atom) → All (λ life. slice_get (lives_of cs) life.grant.number ≡ Some life) (given_to cs user atom)
given-at cs user atom =
    All-filter (λ life. gives user atom life.grant) (λ (life : Life). slice_get (lives_of cs) life.grant.number ≡ Some life) (lives_of cs) (lives-at cs)
