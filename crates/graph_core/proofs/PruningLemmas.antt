-- What taking out one link leaves.
use Rattle.std.proofs.Common.{◌≡◌, ◌⊎◌, inl, inr, ℕ, ◌+◌, ◌<◌, ◌≤◌, Bool, true, false, not, ◌||◌, ◌&&◌, cond, subst, List, [], ◌∷◌, ◌++◌, Option, Some, None, refl, sym, ap, ◌∙◌, arith, ⊎_elim}
use Rattle.std.specs.List.{AllByRecursion, list_any, filter, find}
use Rattle.std.specs.Option.{is_some, unwrap_or}
use Rattle.std.proofs.lemmas.Bool.{and_parts, or_cases, or_left, or_right, and_from, cases_Bool, cond-true, cond-false, false≢true, true≢false, ltb-true, lt-ltb, eq-eqb, eqb-true}
use Rattle.links_core.specs.declared.link.Link.{Link}
use Rattle.links_core.specs.Links.{goes_to, comes_from, count_at}
use Rattle.links_core.specs.Lists.{HasItem, TakesOut}
use Rattle.links_core.proofs.EndsLemmas.{all_implied, all_two}
use Rattle.links_core.proofs.LinksLemmas.{count-append, count-cons}
use Rattle.graph_core.specs.Indices.{is_index}
use Rattle.graph_core.specs.Pruning.{link_supports, is_link_supported, SupportedBut, IsSettled, Falls, AreInOrder, is_of_another, is_between}

all-without_one : (P : Link → Type 0) (before : List Link) (e : Link) (after : List Link) → AllByRecursion P (before ++ e ∷ after) → AllByRecursion P (before ++ after)
all-without_one P [] e after h = h.1
all-without_one P (x ∷ xs) e after h = (h.0, all-without_one P xs e after h.1)

AreInOrder-without : (before : List Link) (e : Link) (after : List Link) → AreInOrder (before ++ e ∷ after) → AreInOrder (before ++ after)
AreInOrder-without [] e after h = h.1
AreInOrder-without (x ∷ xs) e after h = (all-without_one (λ k. x.moment.0 ≤ k.moment.0) xs e after h.0, AreInOrder-without xs e after h.1)

-- what one of the links passes, another does, or the one that is taken out
any_loses : (p : Link → Bool) (before : List Link) (e : Link) (after : List Link) → list_any p (before ++ e ∷ after) ≡ true → (list_any p (before ++ after) ≡ true) ⊎ (p e ≡ true)
any_loses p [] e after h = ⊎_elim (λ (here : p e ≡ true). inr here) (λ (there : list_any p after ≡ true). inl there) (or_cases _ _ h)
any_loses p (x ∷ xs) e after h =
    ⊎_elim (λ (here : p x ≡ true). inl (or_left _ _ here))
    (λ (there : list_any p (xs ++ e ∷ after) ≡ true).
    ⊎_elim (λ (left : list_any p (xs ++ after) ≡ true). inl (or_right (p x) _ left)) (λ (out : p e ≡ true). inr out) (any_loses p xs e after there))
    (or_cases _ _ h)

-- without a link, what lost its support was made by the link's grantee, of its privilege
loses_support : (o : Option ℕ) (before : List Link) (e : Link) (after : List Link) (l : Link) → is_link_supported o (before ++ e ∷ after) l ≡ true → (is_link_supported o (before ++ after) l ≡ true) ⊎ (link_supports e l ≡ true)
loses_support o before e after l h =
    ⊎_elim (λ (own : is_index o l.grantor ≡ true). inl (or_left _ _ own))
    (λ (by : list_any (λ k. link_supports k l) (before ++ e ∷ after) ≡ true).
    ⊎_elim (λ (left : list_any (λ k. link_supports k l) (before ++ after) ≡ true). inl (or_right (is_index o l.grantor) _ left)) (λ (out : link_supports e l ≡ true). inr out) (any_loses (λ k. link_supports k l) before e after by))
    (or_cases _ _ h)

-- the parts of what a user made, of a privilege
comes_from-parts : (user atom : ℕ) (l : Link) → comes_from user atom l ≡ true → (l.grantor ≡ user) × (l.atom ≡ atom)
unfolding comes_from
comes_from-parts user atom l h =
    let parts = and_parts _ _ h in
    (eqb-true l.grantor user parts.0, eqb-true l.atom atom parts.1)

-- the parts of a link's support
supports-parts : (e l : Link) → link_supports e l ≡ true → (e.option ≡ true) × (e.moment.0 < l.moment.0) × (e.atom ≡ l.atom) × (e.grantee ≡ l.grantor)
unfolding goes_to
supports-parts e l h =
    let rest = and_parts _ _ h in
    let early = and_parts _ _ rest.0 in
    let ends = and_parts _ _ rest.1 in
    (early.0, ltb-true e.moment.0 l.moment.0 early.1, eqb-true e.atom l.atom ends.0, eqb-true e.grantee l.grantor ends.1)

supports-from : (e l : Link) → e.option ≡ true → e.moment.0 < l.moment.0 → e.atom ≡ l.atom → e.grantee ≡ l.grantor → link_supports e l ≡ true
unfolding goes_to
supports-from e l option early atom user = and_from _ _ (and_from _ _ option (lt-ltb e.moment.0 l.moment.0 early)) (and_from _ _ (eq-eqb e.atom l.atom atom) (eq-eqb e.grantee l.grantor user))

pub supports-comes_from : (atom : ℕ) (e l : Link) → e.atom ≡ atom → link_supports e l ≡ true → comes_from e.grantee atom l ≡ true
unfolding comes_from
supports-comes_from atom e l same h =
    let parts = supports-parts e l h in
    and_from _ _ (eq-eqb l.grantor e.grantee (sym parts.3)) (eq-eqb l.atom atom (sym parts.2 ∙ same))

-- a link supports none of another privilege
pub supports-own : (e l : Link) → link_supports e l ≡ true → e.atom ≡ l.atom
supports-own e l h = (supports-parts e l h).2

SupportedBut-without : (o : Option ℕ) (atom : ℕ) (before : List Link) (e : Link) (after : List Link) (excused : Link → Bool) → e.atom ≡ atom → SupportedBut o (before ++ e ∷ after) excused → SupportedBut o (before ++ after) (λ l. excused l || comes_from e.grantee atom l)
SupportedBut-without o atom before e after excused same h =
    all_implied (λ l. (is_link_supported o (before ++ e ∷ after) l || excused l) ≡ true) (λ l. (is_link_supported o (before ++ after) l || (excused l || comes_from e.grantee atom l)) ≡ true) (before ++ after)
    (λ l k. ⊎_elim
    (λ (yes : is_link_supported o (before ++ e ∷ after) l ≡ true). ⊎_elim
    (λ (still : is_link_supported o (before ++ after) l ≡ true). or_left _ _ still)
    (λ (by : link_supports e l ≡ true). or_right (is_link_supported o (before ++ after) l) _ (or_right (excused l) _ (supports-comes_from atom e l same by)))
    (loses_support o before e after l yes))
    (λ (out : excused l ≡ true). or_right (is_link_supported o (before ++ after) l) _ (or_left _ _ out))
    (or_cases _ _ k))
    (all-without_one (λ l. (is_link_supported o (before ++ e ∷ after) l || excused l) ≡ true) before e after h)

-- what passed a test passes it among what is left, or went
filter_loses : (q p : Link → Bool) (r : Bool) → ((h : Link) → q h ≡ true → p h ≡ true → r ≡ true) → (xs : List Link) → list_any p xs ≡ true → (list_any p (filter (λ h. not (q h)) xs) ≡ true) ⊎ (r ≡ true)
filter_loses q p r f [] h = absurd (false≢true h)
filter_loses q p r f (x ∷ xs) h = step (q x) refl (λ k. filter_loses q p r f xs k)
  where
    left : List Link
    left = filter (λ h. not (q h)) xs

    step : (t : Bool) → q x ≡ t → (list_any p xs ≡ true → (list_any p left ≡ true) ⊎ (r ≡ true)) → (list_any p (cond (not t) (x ∷ left) left) ≡ true) ⊎ (r ≡ true)
    step true goes rest = ⊎_elim (λ (here : p x ≡ true). inr (f x goes here)) (λ (there : list_any p xs ≡ true). rest there) (or_cases _ _ h)
    step false stays rest =
        ⊎_elim (λ (here : p x ≡ true). inl (or_left _ _ here))
        (λ (there : list_any p xs ≡ true). ⊎_elim (λ (l : list_any p left ≡ true). inl (or_right (p x) _ l)) (λ (out : r ≡ true). inr out) (rest there))
        (or_cases _ _ h)

pub all_filtered : (P : Link → Type 0) (p : Link → Bool) (xs : List Link) → AllByRecursion P xs → AllByRecursion P (filter p xs)
all_filtered P p [] h = tt
all_filtered P p (x ∷ xs) h = elim (p x) as (λ b. AllByRecursion P (cond b (x ∷ filter p xs) (filter p xs))) [
  | true ↦ (h.0, all_filtered P p xs h.1)
  | false ↦ all_filtered P p xs h.1
]

pub AreInOrder-filter : (p : Link → Bool) (xs : List Link) → AreInOrder xs → AreInOrder (filter p xs)
AreInOrder-filter p [] h = tt
AreInOrder-filter p (x ∷ xs) h = elim (p x) as (λ b. AreInOrder (cond b (x ∷ filter p xs) (filter p xs))) [
  | true ↦ (all_filtered (λ k. x.moment.0 ≤ k.moment.0) p xs h.0, AreInOrder-filter p xs h.1)
  | false ↦ AreInOrder-filter p xs h.1
]

pub between-parts : (by user a : ℕ) (l : Link) → is_between by (Some user) a l ≡ true → (l.atom ≡ a) × (l.grantee ≡ user)
between-parts by user a l h =
    let rest = and_parts _ _ (and_parts _ _ h).1 in
    (eqb-true l.atom a rest.0, eqb-true l.grantee user rest.1)

-- without the links to a user, only his own may lack support
pub SupportedBut-removed : (o : Option ℕ) (by user a : ℕ) (links : List Link) → SupportedBut o links (is_of_another a) → SupportedBut o (filter (λ l. not (is_between by (Some user) a l)) links) (λ l. is_of_another a l || comes_from user a l)
SupportedBut-removed o by user a links h =
    let q : Link → Bool = is_between by (Some user) a in
    let left : List Link = filter (λ l. not (q l)) links in
    all_implied (λ l. (is_link_supported o links l || is_of_another a l) ≡ true) (λ l. (is_link_supported o left l || (is_of_another a l || comes_from user a l)) ≡ true) left
    (λ l k. ⊎_elim
    (λ (yes : is_link_supported o links l ≡ true). ⊎_elim
    (λ (own : is_index o l.grantor ≡ true). or_left _ _ (or_left _ _ own))
    (λ (some : list_any (λ e. link_supports e l) links ≡ true). ⊎_elim
    (λ (still : list_any (λ e. link_supports e l) left ≡ true). or_left _ _ (or_right (is_index o l.grantor) _ still))
    (λ (his : comes_from user a l ≡ true). or_right (is_link_supported o left l) _ (or_right (is_of_another a l) _ his))
    (filter_loses q (λ e. link_supports e l) (comes_from user a l) (λ e goes by_it. let parts = between-parts by user a e goes in subst (λ u. comes_from u a l ≡ true) parts.1 (supports-comes_from a e l parts.0 by_it)) links some))
    (or_cases _ _ yes))
    (λ (other : is_of_another a l ≡ true). or_right (is_link_supported o left l) _ (or_left _ _ other))
    (or_cases _ _ k))
    (all_filtered (λ l. (is_link_supported o links l || is_of_another a l) ≡ true) (λ l. not (q l)) links h)

-- where none that the user made has lost its support, the user's need no excuse
pub SupportedBut-settled : (o : Option ℕ) (links : List Link) (user atom : ℕ) (excused : Link → Bool) → IsSettled o links user atom → SupportedBut o links (λ l. excused l || comes_from user atom l) → SupportedBut o links excused
SupportedBut-settled o links user atom excused none h =
    all_two (λ l. (comes_from user atom l && not (is_link_supported o links l)) ≡ false) (λ l. (is_link_supported o links l || (excused l || comes_from user atom l)) ≡ true) (λ l. (is_link_supported o links l || excused l) ≡ true) links
    (λ l not_lost k.
    ⊎_elim (λ (yes : is_link_supported o links l ≡ true). or_left _ _ yes)
    (λ (other : (excused l || comes_from user atom l) ≡ true).
    ⊎_elim (λ (out : excused l ≡ true). or_right (is_link_supported o links l) _ out)
    (λ (made : comes_from user atom l ≡ true).
    ⊎_elim (λ (yes : is_link_supported o links l ≡ true). or_left _ _ yes)
    (λ (lost : is_link_supported o links l ≡ false). absurd (false≢true (sym not_lost ∙ and_from _ _ made (ap not lost))))
    (cases_Bool (is_link_supported o links l)))
    (or_cases _ _ other))
    (or_cases _ _ k))
    none h

-- what taking out a link that has lost its support leaves
pub record TakenOut (o : Option ℕ) (links left : List Link) (atom : ℕ) (e : Link) : Type 0 where
  pub in_order : AreInOrder left
  pub falls : Falls o atom links left
  pub fewer : count_at atom left + 1 ≡ count_at atom links
  pub settles : (excused : Link → Bool) → SupportedBut o links excused → SupportedBut o left (λ l. excused l || comes_from e.grantee atom l)

pub taken_out : (o : Option ℕ) (links left : List Link) (user atom : ℕ) (e : Link) → TakesOut e links left → comes_from user atom e ≡ true → is_link_supported o links e ≡ false → AreInOrder links → TakenOut o links left atom e
taken_out o links left user atom e out made lost ordered =
    let Ordered : List Link → Type 0 = λ k. AreInOrder k in
    let same = (comes_from-parts user atom e made).1 in
    let new = ap (count_at atom) out.is ∙ count-append out.before out.after atom in
    let old = ap (count_at atom) out.was ∙ count-append out.before (e ∷ out.after) atom in
    let one = count-cons e out.after atom ∙ ap (λ b. cond b 1 0 + count_at atom out.after) (eq-eqb e.atom atom same) in
    record {
      in_order = subst Ordered (sym out.is) (AreInOrder-without out.before e out.after (subst Ordered out.was ordered));
      falls = Falls.one out same lost Falls.none;
      fewer = omega (arith, new, old, one);
      settles = λ excused h.
          let But : List Link → Type 0 = λ k. SupportedBut o k excused in
          let Then : List Link → Type 0 = λ k. SupportedBut o k (λ l. excused l || comes_from e.grantee atom l) in
          subst Then (sym out.is) (SupportedBut-without o atom out.before e out.after excused same (subst But out.was h));
    }

-- what falls from what is left has fallen
pub falls_then : (o : Option ℕ) (atom : ℕ) (xs ys zs : List Link) → Falls o atom xs ys → Falls o atom ys zs → Falls o atom xs zs
falls_then o atom xs _ zs Falls.none rest = rest
falls_then o atom xs ys zs (Falls.one {rest = left} out same lost more) rest = Falls.one out same lost (falls_then o atom left ys zs more rest)

-- a link that was found is among the links, and passes
pub find-splits : (p : Link → Bool) (links : List Link) (e : Link) → find p links ≡ Some e → HasItem e links × (p e ≡ true)
find-splits p [] e h = absurd (true≢false (sym (ap is_some h)))
find-splits p (x ∷ xs) e h = by (p x) refl (find-splits p xs e)
  where
    by : (b : Bool) → p x ≡ b → (find p xs ≡ Some e → HasItem e xs × (p e ≡ true)) → HasItem e (x ∷ xs) × (p e ≡ true)
    by true t rest =
        let same : x ≡ e = ap (λ o. unwrap_or o e) (sym (cond-true (p x) (Some x) (find p xs) t) ∙ h) in
        (record { before = []; after = xs; is = ap (λ (l : Link). l ∷ xs) same }, subst (λ (l : Link). p l ≡ true) same t)
    by false f rest =
        let later = rest (sym (cond-false (p x) (Some x) (find p xs) f) ∙ h) in
        (record { before = x ∷ later.0.before; after = later.0.after; is = ap (λ k. x ∷ k) later.0.is }, later.1)

pub find-none : (p : Link → Bool) (links : List Link) → find p links ≡ None → AllByRecursion (λ l. p l ≡ false) links
find-none p [] h = tt
find-none p (x ∷ xs) h = by (p x) refl (find-none p xs)
  where
    by : (b : Bool) → p x ≡ b → (find p xs ≡ None → AllByRecursion (λ l. p l ≡ false) xs) → AllByRecursion (λ l. p l ≡ false) (x ∷ xs)
    by true t rest = absurd (true≢false (ap is_some (sym (cond-true (p x) (Some x) (find p xs) t) ∙ h)))
    by false f rest = (f, rest (sym (cond-false (p x) (Some x) (find p xs) f) ∙ h))

-- the first that passes is of no later moment than the others
find-earliest : (p : Link → Bool) (links : List Link) (e : Link) → AreInOrder links → find p links ≡ Some e → AllByRecursion (λ l. p l ≡ true → e.moment.0 ≤ l.moment.0) links
find-earliest p [] e ordered h = tt
find-earliest p (x ∷ xs) e ordered h = by (p x) refl (find-earliest p xs e ordered.1)
  where
    by : (b : Bool) → p x ≡ b → (find p xs ≡ Some e → AllByRecursion (λ l. p l ≡ true → e.moment.0 ≤ l.moment.0) xs) → AllByRecursion (λ l. p l ≡ true → e.moment.0 ≤ l.moment.0) (x ∷ xs)
    by true t rest =
        let same : x ≡ e = ap (λ o. unwrap_or o e) (sym (cond-true (p x) (Some x) (find p xs) t) ∙ h) in
        let m : x.moment.0 ≡ e.moment.0 = ap (λ (l : Link). l.moment.0) same in (
          λ _. omega (arith, m),
          all_implied (λ l. x.moment.0 ≤ l.moment.0) (λ l. p l ≡ true → e.moment.0 ≤ l.moment.0) xs (λ l le _. let k : x.moment.0 ≤ l.moment.0 = le in omega (arith, m, k)) ordered.0,
        )
    by false f rest =
        (λ t. absurd (true≢false (sym t ∙ f)), rest (sym (cond-false (p x) (Some x) (find p xs) f) ∙ h))

-- what supports a link supports one of no earlier moment, by the same user and of the same privilege
supports-as_late : (k l h : Link) → h.grantor ≡ l.grantor → h.atom ≡ l.atom → l.moment.0 ≤ h.moment.0 → link_supports k l ≡ true → link_supports k h ≡ true
supports-as_late k l h user atom late e =
    let parts = supports-parts k l e in
    let earlier : k.moment.0 < l.moment.0 = parts.1 in
    let le : l.moment.0 ≤ h.moment.0 = late in
    supports-from k h parts.0 (omega (arith, earlier, le)) (parts.2 ∙ sym atom) (parts.3 ∙ sym user)

any-as_late : (links : List Link) (l h : Link) → h.grantor ≡ l.grantor → h.atom ≡ l.atom → l.moment.0 ≤ h.moment.0 → list_any (λ k. link_supports k l) links ≡ true → list_any (λ k. link_supports k h) links ≡ true
any-as_late [] l h user atom late e = e
any-as_late (x ∷ xs) l h user atom late e =
    ⊎_elim (λ (here : link_supports x l ≡ true). or_left _ _ (supports-as_late x l h user atom late here))
    (λ (there : list_any (λ k. link_supports k l) xs ≡ true). or_right (link_supports x h) _ (any-as_late xs l h user atom late there))
    (or_cases _ _ e)

-- **of the links that a user made of a privilege, a later one is supported where an earlier one is**
supported-as_late : (o : Option ℕ) (links : List Link) (user atom : ℕ) (l h : Link) → comes_from user atom l ≡ true → comes_from user atom h ≡ true → l.moment.0 ≤ h.moment.0 → is_link_supported o links l ≡ true → is_link_supported o links h ≡ true
supported-as_late o links user atom l h made_l made_h late e =
    let l_is = comes_from-parts user atom l made_l in
    let h_is = comes_from-parts user atom h made_h in
    let same_grantor : h.grantor ≡ l.grantor = h_is.0 ∙ sym l_is.0 in
    let same_of : h.atom ≡ l.atom = h_is.1 ∙ sym l_is.1 in
    ⊎_elim (λ (own : is_index o l.grantor ≡ true). or_left _ _ (ap (is_index o) same_grantor ∙ own))
    (λ (some : list_any (λ k. link_supports k l) links ≡ true). or_right (is_index o h.grantor) _ (any-as_late links l h same_grantor same_of late some))
    (or_cases _ _ e)

-- where the first is supported, all are
pub settled-first : (o : Option ℕ) (links : List Link) (user atom : ℕ) (e : Link) → AreInOrder links → find (comes_from user atom) links ≡ Some e → is_link_supported o links e ≡ true → IsSettled o links user atom
settled-first o links user atom e ordered found h =
    all_implied (λ l. comes_from user atom l ≡ true → e.moment.0 ≤ l.moment.0) (λ l. (comes_from user atom l && not (is_link_supported o links l)) ≡ false) links
    (λ l late. ⊎_elim
    (λ (made : comes_from user atom l ≡ true).
    let yes = supported-as_late o links user atom e l (find-splits (comes_from user atom) links e found).1 made (late made) h in
    ap (λ b. comes_from user atom l && not b) yes ∙ ap (λ b. b && false) made)
    (λ (other : comes_from user atom l ≡ false). ap (λ b. b && not (is_link_supported o links l)) other)
    (cases_Bool (comes_from user atom l)))
    (find-earliest (comes_from user atom) links e ordered found)

-- where he made none, too
pub settled-none : (o : Option ℕ) (links : List Link) (user atom : ℕ) → find (comes_from user atom) links ≡ None → IsSettled o links user atom
settled-none o links user atom none =
    all_implied (λ l. comes_from user atom l ≡ false) (λ l. (comes_from user atom l && not (is_link_supported o links l)) ≡ false) links
    (λ l other. ap (λ b. b && not (is_link_supported o links l)) other)
    (find-none (comes_from user atom) links none)

-- something is found where something passes
pub is_some-find : (p : Link → Bool) (links : List Link) → is_some (find p links) ≡ list_any p links
is_some-find p [] = refl
is_some-find p (x ∷ xs) = step (p x) (is_some-find p xs)
  where
    step : (t : Bool) → is_some (find p xs) ≡ list_any p xs → is_some (cond t (Some x) (find p xs)) ≡ (t || list_any p xs)
    step true rest = refl
    step false rest = rest
