-- What falls at the links falls at the grants for which they stand.
use Rattle.std.proofs.Common.{◌≡◌, ◌∙◌, ℕ, ◌<◌, ◌≤◌, ◌==◌, Bool, true, false, not, ◌&&◌, ◌||◌, cond, List, [], ◌∷◌, ◌++◌, Option, Some, length, refl, sym, ap, subst, ltb, ⊎_elim}
use Rattle.std.specs.List.{AllByRecursion, list_any, filter}
use Rattle.std.proofs.lemmas.Bool.{or_cases, or_left, or_right, eq-eqb, eqb-true, false≢true, false_from_ne_true, both_ways}
use Rattle.base_core.specs.declared.privilege.Atom.{Atom}
use Rattle.base_core.proofs.SameLemmas.{same_atom-true}
use Rattle.grants_core.specs.Owners.{owns}
use Rattle.grants_core.specs.Valid.{supports, is_supported, valid, IsInOrder, AreSupported}
use Rattle.grants_core.specs.declared.grant.Grant.{Grant}
use Rattle.grants_core.specs.declared.grant.Ownership.{Ownership}
use Rattle.grants_core.proofs.ValidLemmas.{valid-remove_unsupported}
use Rattle.links_core.specs.declared.link.Link.{Link}
use Rattle.links_core.proofs.EndsLemmas.{all_two}
use Rattle.graph_core.specs.Indices.{Indexed, user_at, atom_at, grant_of, is_index, IsWithin, IsAtomIndex, AreApart}
use Rattle.graph_core.specs.Pruning.{link_supports, is_link_supported, SupportedBut, is_of_another, Falls, AreInOrder}
use Rattle.graph_core.specs.Revocation.{grants_of_links, AreUpheld}
use Rattle.graph_core.proofs.LinkLemmas.{any_grant}
use Rattle.graph_core.proofs.OverLemmas.{all_over, all_under}
use Rattle.graph_core.proofs.PlaceLemmas.{supports_is, gives_by, goes_to_both}
use Rattle.graph_core.proofs.PruningLemmas.{supports-own, all_filtered}
use Rattle.graph_core.proofs.SplitLemmas.{taken_has, all_without, taken_over}

-- the links that are left have what all had
pub falls_all : (P : Link → Type 0) (o : Option ℕ) (a : ℕ) (xs ys : List Link) → Falls o a xs ys → AllByRecursion P xs → AllByRecursion P ys
falls_all P o a xs _ Falls.none h = h
falls_all P o a xs ys (Falls.one {link = l} {rest = rest} out same lost more) h = falls_all P o a rest ys more (all_without P l xs rest h out)

-- and for each of another privilege the support that it had
any_without : (p : Link → Bool) (before : List Link) (e : Link) (after : List Link) → p e ≡ false → list_any p (before ++ after) ≡ list_any p (before ++ e ∷ after)
any_without p [] e after h = sym (ap (λ b. b || list_any p after) h)
any_without p (x ∷ xs) e after h = ap (λ b. p x || b) (any_without p xs e after h)

pub other_unsupported : (a : ℕ) (e l : Link) → e.atom ≡ a → (l.atom == a) ≡ false → link_supports e l ≡ false
other_unsupported a e l same other = false_from_ne_true _ (λ h. both_ways _ other (eq-eqb l.atom a (sym (supports-own e l h) ∙ same)))

pub falls_others : (o : Option ℕ) (a : ℕ) (xs ys : List Link) → Falls o a xs ys → (l : Link) → (l.atom == a) ≡ false → list_any (λ h. link_supports h l) ys ≡ list_any (λ h. link_supports h l) xs
falls_others o a xs _ Falls.none l other = refl
falls_others o a xs ys (Falls.one {link = e} {rest = rest} out same lost more) l other =
    let p : Link → Bool = λ h. link_supports h l in
    falls_others o a rest ys more l other ∙ ap (list_any p) out.is ∙ any_without p out.before e out.after (other_unsupported a e l same other) ∙ sym (ap (list_any p) out.was)

any_filtered : (p q : Link → Bool) (xs : List Link) → ((h : Link) → q h ≡ true → p h ≡ false) → list_any p (filter (λ h. not (q h)) xs) ≡ list_any p xs
any_filtered p q [] f = refl
any_filtered p q (x ∷ xs) f = step (q x) refl (any_filtered p q xs f)
  where
    step : (t : Bool) → q x ≡ t → list_any p (filter (λ h. not (q h)) xs) ≡ list_any p xs → list_any p (cond (not t) (x ∷ filter (λ h. not (q h)) xs) (filter (λ h. not (q h)) xs)) ≡ (p x || list_any p xs)
    step true is rest = rest ∙ sym (ap (λ b. b || list_any p xs) (f x is))
    step false is rest = ap (λ b. p x || b) rest

pub in_order_over : (indexed : Indexed) (xs : List Link) → AreInOrder xs → IsInOrder (grants_of_links indexed xs)
in_order_over indexed [] h = tt
in_order_over indexed (x ∷ xs) h = (all_over (grant_of indexed) (λ g. x.moment.0 ≤ g.moment.0) xs h.0, in_order_over indexed xs h.1)

pub in_order_under : (indexed : Indexed) (xs : List Link) → IsInOrder (grants_of_links indexed xs) → AreInOrder xs
in_order_under indexed [] h = tt
in_order_under indexed (x ∷ xs) h = (all_under (grant_of indexed) (λ g. x.moment.0 ≤ g.moment.0) xs h.0, in_order_under indexed xs h.1)

-- what was found is the index of the owner of the privilege's table
abbrev pub IsOwnerIndex : Indexed → List Ownership → Atom → Option ℕ → Type 0
IsOwnerIndex indexed owners atom found = (i : ℕ) → i < length indexed.users → owns owners (user_at indexed i) atom ≡ is_index found i

module _ (indexed : Indexed) (apart : AreApart indexed) where
  supports_carried : (h l : Link) → IsWithin indexed h → IsWithin indexed l → supports (grant_of indexed h) (grant_of indexed l) ≡ link_supports h l
  supports_carried h l wh wl =
      supports_is (grant_of indexed h) (grant_of indexed l)
      ∙ ap (λ b. (h.option && ltb h.moment.0 l.moment.0) && b)
      (gives_by indexed (user_at indexed l.grantor) (atom_at indexed l.atom) (Some l.grantor) (Some l.atom) h (apart.users l.grantor wl.grantor) (apart.atoms l.atom wl.atom) wh
      ∙ goes_to_both l.grantor l.atom h)

  any_carried : (xs : List Link) (l : Link) → AllByRecursion (IsWithin indexed) xs → IsWithin indexed l → list_any (λ h. supports h (grant_of indexed l)) (grants_of_links indexed xs) ≡ list_any (λ h. link_supports h l) xs
  any_carried xs l within w = any_grant indexed (λ h. supports h (grant_of indexed l)) xs within (λ h. link_supports h l) (λ h wh. supports_carried h l wh w)

  module _ (owners : List Ownership) (owner : Option ℕ) (atom : Atom) (a : ℕ) (owner_is : IsOwnerIndex indexed owners atom owner) (atom_is : IsAtomIndex indexed atom (Some a)) where
    -- **a link of the privilege has support where its grant has**
    pub supported_carried : (xs : List Link) (l : Link) → AllByRecursion (IsWithin indexed) xs → IsWithin indexed l → l.atom ≡ a → is_supported owners (grants_of_links indexed xs) (grant_of indexed l) ≡ is_link_supported owner xs l
    supported_carried xs l within w of =
        let named : atom_at indexed l.atom ≡ atom = same_atom-true (atom_at indexed l.atom) atom (atom_is l.atom w.atom ∙ eq-eqb l.atom a of) in
        ap (λ b. b || list_any (λ h. supports h (grant_of indexed l)) (grants_of_links indexed xs)) (ap (owns owners (user_at indexed l.grantor)) named ∙ owner_is l.grantor w.grantor)
        ∙ ap (λ b. is_index owner l.grantor || b) (any_carried xs l within w)

    -- **what falls leaves the valid grants**
    pub falls_valid : (xs ys : List Link) → Falls owner a xs ys → AllByRecursion (IsWithin indexed) xs → valid owners (grants_of_links indexed ys) ≡ valid owners (grants_of_links indexed xs)
    falls_valid xs _ Falls.none within = refl
    falls_valid xs ys (Falls.one {link = l} {rest = rest} out same lost more) within =
        let g : Grant = grant_of indexed l in
        let over = taken_over (grant_of indexed) l xs rest out in
        let Lost : List Grant → Type 0 = λ k. is_supported owners k g ≡ false in
        let unsupported : is_supported owners (grants_of_links indexed xs) g ≡ false = supported_carried xs l within (taken_has (IsWithin indexed) l xs rest within out) same ∙ lost in
        falls_valid rest ys more (all_without (IsWithin indexed) l xs rest within out)
        ∙ ap (valid owners) over.is ∙ valid-remove_unsupported owners over.before g over.after (subst Lost over.was unsupported) ∙ sym (ap (valid owners) over.was)

    -- where all grants have support, each link of the privilege has
    pub supported_under : (xs : List Link) → AreUpheld indexed owners xs → SupportedBut owner xs (is_of_another a)
    supported_under xs upheld =
        all_two (IsWithin indexed) (λ l. is_supported owners (grants_of_links indexed xs) (grant_of indexed l) ≡ true) (λ l. (is_link_supported owner xs l || is_of_another a l) ≡ true) xs
        (λ l w h. step l (l.atom == a) refl w h) upheld.within
        (all_under (grant_of indexed) (λ g. is_supported owners (grants_of_links indexed xs) g ≡ true) xs upheld.supported)
      where
        step : (l : Link) (t : Bool) → (l.atom == a) ≡ t → IsWithin indexed l → is_supported owners (grants_of_links indexed xs) (grant_of indexed l) ≡ true → (is_link_supported owner xs l || is_of_another a l) ≡ true
        step l true of w h = or_left _ _ (sym (supported_carried xs l upheld.within w (eqb-true l.atom a of)) ∙ h)
        step l false other w h = or_right (is_link_supported owner xs l) _ (ap not other)

    -- **where a privilege's links changed, and those fell that lost their support, all grants have
    -- support**
    pub supported_from : (old left new : List Link) → AreUpheld indexed owners old → AllByRecursion (IsWithin indexed) left
        → AllByRecursion (λ l. is_supported owners (grants_of_links indexed old) (grant_of indexed l) ≡ true) left
        → ((l : Link) → (l.atom == a) ≡ false → list_any (λ h. link_supports h l) left ≡ list_any (λ h. link_supports h l) old)
        → Falls owner a left new → SupportedBut owner new (is_of_another a) → AreSupported owners (grants_of_links indexed new) (grants_of_links indexed new)
    supported_from old left new upheld within_left had_left others falls supported =
        all_over (grant_of indexed) (λ g. is_supported owners (grants_of_links indexed new) g ≡ true) new
        (all_two (IsWithin indexed) Kept (λ l. is_supported owners (grants_of_links indexed new) (grant_of indexed l) ≡ true) new (λ l w k. step l (l.atom == a) refl w k) within
        (all_two Had (λ l. (is_link_supported owner new l || is_of_another a l) ≡ true) Kept new (λ l h s. (h, s)) had supported))
      where
        Had : Link → Type 0
        Had l = is_supported owners (grants_of_links indexed old) (grant_of indexed l) ≡ true

        Kept : Link → Type 0
        Kept l = Had l × ((is_link_supported owner new l || is_of_another a l) ≡ true)

        within : AllByRecursion (IsWithin indexed) new
        within = falls_all (IsWithin indexed) owner a left new falls within_left

        had : AllByRecursion Had new
        had = falls_all Had owner a left new falls had_left

        step : (l : Link) (t : Bool) → (l.atom == a) ≡ t → IsWithin indexed l → Kept l → is_supported owners (grants_of_links indexed new) (grant_of indexed l) ≡ true
        step l true of w k =
            supported_carried new l within w (eqb-true l.atom a of)
            ∙ ⊎_elim (λ (is : is_link_supported owner new l ≡ true). is) (λ (other : is_of_another a l ≡ true). absurd (false≢true (sym (ap not of) ∙ other))) (or_cases _ _ k.1)
        step l false other w k =
            ap (λ b. owns owners (user_at indexed l.grantor) (atom_at indexed l.atom) || b)
            (any_carried new l within w ∙ falls_others owner a left new falls l other ∙ others l other ∙ sym (any_carried old l upheld.within w))
            ∙ k.0

    pub supported_over : (old new : List Link) (q : Link → Bool) → ((l : Link) → q l ≡ true → l.atom ≡ a) → AreUpheld indexed owners old → Falls owner a (filter (λ l. not (q l)) old) new → SupportedBut owner new (is_of_another a) → AreSupported owners (grants_of_links indexed new) (grants_of_links indexed new)
    supported_over old new q of_it upheld falls supported =
        let Had : Link → Type 0 = λ l. is_supported owners (grants_of_links indexed old) (grant_of indexed l) ≡ true in
        let stays : Link → Bool = λ l. not (q l) in
        supported_from old (filter stays old) new upheld
        (all_filtered (IsWithin indexed) stays old upheld.within)
        (all_filtered Had stays old (all_under (grant_of indexed) (λ g. is_supported owners (grants_of_links indexed old) g ≡ true) old upheld.supported))
        (λ l other. any_filtered (λ h. link_supports h l) q old (λ h here. other_unsupported a h l (of_it h here) other))
        falls supported
