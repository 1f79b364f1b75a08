-- What a revocation of the option leaves in force.
use Rattle.std.proofs.Common.{◌≡◌, ◌⊎◌, inl, inr, ◌<◌, Bool, true, false, not, ◌&&◌, cond, List, [], ◌∷◌, ◌++◌, map, refl, sym, ap, ◌∙◌, subst, arith, ltb, ⊎_elim}
use Rattle.std.specs.List.{list_any, fold, filter}
use Rattle.std.proofs.lemmas.Bool.{cond-true, cond-false, and_parts, and_from, or_cases, or_left, or_right, cases_Bool, ltb-true, lt-ltb}
use Rattle.std.proofs.lemmas.List.{append-nil, map-append}
use Rattle.std.proofs.lemmas.List.Elements.{filter-append}
use Rattle.base_core.specs.Users.{same_user}
use Rattle.base_core.specs.Privileges.{same_atom}
use Rattle.base_core.specs.declared.name.User.{User}
use Rattle.base_core.specs.declared.privilege.Atom.{Atom}
use Rattle.base_core.specs.declared.sequence.Sequence.{Sequence}
use Rattle.base_core.proofs.SameLemmas.{same_user-true, same_atom-true}
use Rattle.grants_core.specs.declared.grant.Grant.{Grant}
use Rattle.grants_core.specs.declared.grant.Ownership.{Ownership}
use Rattle.grants_core.specs.declared.grant.Change.{Change}
use Rattle.grants_core.specs.declared.grant.Change.TheVariants as change
use Rattle.grants_core.specs.Owners.{owns}
use Rattle.grants_core.specs.Valid.{supports, is_supported, kept_with, valid, IsPart, nothing, with_first, without_first}
use Rattle.grants_core.specs.Content.{gives, holds, has_made, names, without, option_off, options_off}
use Rattle.grants_core.specs.History.{left_after, owners_after, in_force_after}
use Rattle.grants_core.proofs.ValidLemmas.{SupportsAll, supported-append, supported-append_right, supported-append_cases, supports-later, list_any-part, part-both, part-kept_more, valid-of_part}
use Rattle.grants_core.proofs.OptionLemmas.{option_kept, support_of-option_off, valid-options_off}
use Rattle.grants_core.proofs.HistoryLemmas.{in_force-revoke, in_force-revoke_option}

-- what supports a grant supports each later one of the same atom by the same user
supports-also : (e h k : Grant) → h.grantor ≡ k.grantor → h.atom ≡ k.atom → h.moment.0 < k.moment.0 → supports e h ≡ true → supports e k ≡ true
unfolding supports
supports-also e h k same_by same_of later s =
    let parts = and_parts (e.option && same_atom e.atom h.atom && same_user e.grantee h.grantor) (ltb e.moment.0 h.moment.0) s in
    let By : User → Type 0 = λ u. (e.option && same_atom e.atom h.atom && same_user e.grantee u) ≡ true in
    let Of : Atom → Type 0 = λ a. (e.option && same_atom e.atom a && same_user e.grantee k.grantor) ≡ true in
    let earlier : e.moment.0 < h.moment.0 = ltb-true _ _ parts.1 in
    let lt : e.moment.0 < k.moment.0 = omega (arith, earlier, later) in
    and_from (e.option && same_atom e.atom k.atom && same_user e.grantee k.grantor) (ltb e.moment.0 k.moment.0) (subst Of same_of (subst By same_by parts.0)) (lt-ltb _ _ lt)

any_supports-also : (xs : List Grant) (h k : Grant) → h.grantor ≡ k.grantor → h.atom ≡ k.atom → h.moment.0 < k.moment.0 → list_any (λ e. supports e h) xs ≡ true → list_any (λ e. supports e k) xs ≡ true
any_supports-also [] h k same_by same_of later s = s
any_supports-also (x ∷ xs) h k same_by same_of later s =
    ⊎_elim (λ (here : supports x h ≡ true). or_left _ _ (supports-also x h k same_by same_of later here))
    (λ (there : list_any (λ e. supports e h) xs ≡ true). or_right _ _ (any_supports-also xs h k same_by same_of later there))
    (or_cases _ _ s)

supported-also : (o : List Ownership) (xs : List Grant) (h k : Grant) → h.grantor ≡ k.grantor → h.atom ≡ k.atom → h.moment.0 < k.moment.0 → is_supported o xs h ≡ true → is_supported o xs k ≡ true
supported-also o xs h k same_by same_of later s =
    let By : User → Type 0 = λ u. owns o u h.atom ≡ true in
    let Of : Atom → Type 0 = λ a. owns o k.grantor a ≡ true in
    ⊎_elim (λ (own : owns o h.grantor h.atom ≡ true). or_left (owns o k.grantor k.atom) _ (subst Of same_of (subst By same_by own)))
    (λ (by : list_any (λ e. supports e h) xs ≡ true). or_right (owns o k.grantor k.atom) _ (any_supports-also xs h k same_by same_of later by))
    (or_cases _ _ s)

supports-atom : (h g : Grant) → supports h g ≡ true → h.atom ≡ g.atom
unfolding supports
supports-atom h g s =
    let three = and_parts (h.option && same_atom h.atom g.atom && same_user h.grantee g.grantor) (ltb h.moment.0 g.moment.0) s in
    let two = and_parts (h.option && same_atom h.atom g.atom) (same_user h.grantee g.grantor) three.0 in
    let one = and_parts h.option (same_atom h.atom g.atom) two.0 in
    same_atom-true h.atom g.atom one.1

kept_with-more : (o : List Ownership) (kept : List Grant) (g : Grant) → SupportsAll o (kept_with o kept g) kept
kept_with-more o kept g =
    elim (is_supported o kept g) as (λ b. SupportsAll o (cond b (kept ++ g ∷ []) kept) kept) [ true ↦ supported-append o kept (g ∷ []) | false ↦ λ k h. h ]

-- the grant, made by this user
abbrev pub made_by_him : User → Grant → Grant
made_by_him by g = record g { grantor = by }

-- what the one list supports the other supports too, or it would if this user had made it: the
-- option that is off was on a grant of his, which only later grants needed
abbrev pub Backs : List Ownership → User → List Grant → List Grant → Type 0
Backs o by left kept = (g : Grant) → is_supported o kept g ≡ true → (is_supported o left g ≡ true) ⊎ (is_supported o left (made_by_him by g) ≡ true)

Backs-lift : (o : List Ownership) (by : User) (more left kept : List Grant) → SupportsAll o more left → Backs o by left kept → Backs o by more kept
Backs-lift o by more left kept s h g e =
    ⊎_elim (λ (itself : is_supported o left g ≡ true). inl (s g itself))
    (λ (his : is_supported o left (made_by_him by g) ≡ true). inr (s (made_by_him by g) his))
    (h g e)

backs-new : (o : List Ownership) (by : User) (test : Grant → Bool) (left : List Grant) (g k : Grant) → ((h : Grant) → test h ≡ true → h.grantor ≡ by) → (is_supported o left g ≡ true) ⊎ (is_supported o left (made_by_him by g) ≡ true) → supports g k ≡ true → (is_supported o (kept_with o left (option_off test g)) k ≡ true) ⊎ (is_supported o (kept_with o left (option_off test g)) (made_by_him by k) ≡ true)
backs-new o by test left g k his backed s =
    let off : Grant = option_off test g in
    let later : g.moment.0 < k.moment.0 = supports-later g k s in
    let same_of : g.atom ≡ k.atom = supports-atom g k s in
    let by_him : (h : Grant) → h.grantor ≡ by → h.atom ≡ k.atom → h.moment.0 < k.moment.0 → is_supported o left h ≡ true → is_supported o (kept_with o left off) (made_by_him by k) ≡ true =
    λ h from of lt e. kept_with-more o left off (made_by_him by k) (supported-also o left h (made_by_him by k) from of lt e) in
    ⊎_elim
    (λ (itself : is_supported o left g ≡ true).
    ⊎_elim
    (λ (off_it : test g ≡ true). inr (by_him g (his g off_it) same_of later itself))
    (λ (on_it : test g ≡ false).
    let P : List Grant → Type 0 = λ xs. is_supported o xs k ≡ true in
    let Q : Grant → Type 0 = λ h. supports h k ≡ true in
    let kept_is : kept_with o left off ≡ left ++ off ∷ [] = cond-true _ _ _ (support_of-option_off o test left g ∙ itself) in
    let still : supports off k ≡ true = subst Q (sym (option_kept test g on_it)) s in
    inl (subst P (sym kept_is) (supported-append_right o left (off ∷ []) k (or_left (supports off k) false still))))
    (cases_Bool (test g)))
    (λ (of_him : is_supported o left (made_by_him by g) ≡ true). inr (by_him (made_by_him by g) refl same_of later of_him))
    backed

Backs-push : (o : List Ownership) (by : User) (test : Grant → Bool) (left kept : List Grant) (g : Grant) → ((h : Grant) → test h ≡ true → h.grantor ≡ by) → Backs o by left kept → is_supported o kept g ≡ true → Backs o by (kept_with o left (option_off test g)) (kept ++ g ∷ [])
Backs-push o by test left kept g his h here k e =
    ⊎_elim
    (λ (old : is_supported o kept k ≡ true). Backs-lift o by (kept_with o left (option_off test g)) left kept (kept_with-more o left (option_off test g)) h k old)
    (λ (new : list_any (λ e. supports e k) (g ∷ []) ≡ true).
    backs-new o by test left g k his (h g here)
    (⊎_elim (λ (it : supports g k ≡ true). it) (λ (none : false ≡ true). cc) (or_cases (supports g k) false new)))
    (supported-append_cases o kept (g ∷ []) k e)

-- the chosen grants without the options that are off
abbrev pub off_of : (Grant → Bool) → (Grant → Bool) → List Grant → List Grant
off_of test chosen gs = map (option_off test) (filter chosen gs)

off_of-push : (test chosen : Grant → Bool) (gs : List Grant) (g : Grant) → off_of test chosen (gs ++ g ∷ []) ≡ off_of test chosen gs ++ off_of test chosen (g ∷ [])
off_of-push test chosen gs g = ap (map (option_off test)) (filter-append chosen gs (g ∷ [])) ∙ map-append (option_off test) (filter chosen gs) (filter chosen (g ∷ []))

part-push : (o : List Ownership) (by : User) (test chosen : Grant → Bool) (left kept : List Grant) (g : Grant) → (chosen g ≡ true → g.grantor ≡ by) → (is_supported o left g ≡ true) ⊎ (is_supported o left (made_by_him by g) ≡ true) → IsPart (off_of test chosen kept) left → IsPart (off_of test chosen (kept ++ g ∷ [])) (kept_with o left (option_off test g))
part-push o by test chosen left kept g his backed part =
    let off : Grant = option_off test g in
    let old : List Grant = off_of test chosen kept in
    let P : List Grant → Type 0 = λ xs. IsPart xs (kept_with o left off) in
    subst P (sym (off_of-push test chosen kept g))
    (⊎_elim
    (λ (in_it : chosen g ≡ true).
    let Q : List Grant → Type 0 = λ ys. IsPart (old ++ off ∷ []) ys in
    let By : User → Type 0 = λ u. is_supported o left (record g { grantor = u }) ≡ true in
    let itself : is_supported o left g ≡ true =
    ⊎_elim (λ (e : is_supported o left g ≡ true). e) (λ (e : is_supported o left (made_by_him by g) ≡ true). subst By (sym (his in_it)) e) backed in
    let kept_is : kept_with o left off ≡ left ++ off ∷ [] = cond-true _ _ _ (support_of-option_off o test left g ∙ itself) in
    let one : off_of test chosen (g ∷ []) ≡ off ∷ [] = ap (map (option_off test)) (cond-true (chosen g) (g ∷ []) [] in_it) in
    subst P (sym (ap (λ k. old ++ k) one)) (subst Q (sym kept_is) (part-both old left off part)))
    (λ (out : chosen g ≡ false).
    let none : off_of test chosen (g ∷ []) ≡ [] = ap (map (option_off test)) (cond-false (chosen g) (g ∷ []) [] out) in
    subst P (sym (ap (λ k. old ++ k) none ∙ append-nil old)) (part-kept_more o old left off part))
    (cases_Bool (chosen g)))

fold-stay : (o : List Ownership) (by : User) (test chosen : Grant → Bool) (left kept grants : List Grant) → ((h : Grant) → test h ≡ true → h.grantor ≡ by) → ((h : Grant) → chosen h ≡ true → h.grantor ≡ by) → Backs o by left kept → IsPart (off_of test chosen kept) left → IsPart (off_of test chosen (fold (kept_with o) kept grants)) (fold (kept_with o) left (map (option_off test) grants))
fold-stay o by test chosen left kept [] his own backs part = part
fold-stay o by test chosen left kept (g ∷ gs) his own backs part =
    let off : Grant = option_off test g in
    let next : List Grant = kept_with o left off in
    let P : List Grant → Type 0 = λ k. IsPart (off_of test chosen (fold (kept_with o) k gs)) (fold (kept_with o) next (map (option_off test) gs)) in
    ⊎_elim
    (λ (in_it : is_supported o kept g ≡ true).
    let kept_is : kept_with o kept g ≡ kept ++ g ∷ [] = cond-true _ _ _ in_it in
    subst P (sym kept_is)
    (fold-stay o by test chosen next (kept ++ g ∷ []) gs his own (Backs-push o by test left kept g his backs in_it) (part-push o by test chosen left kept g (own g) (backs g in_it) part)))
    (λ (out : is_supported o kept g ≡ false).
    let kept_is : kept_with o kept g ≡ kept = cond-false _ _ _ out in
    subst P (sym kept_is)
    (fold-stay o by test chosen next kept gs his own (Backs-lift o by next left kept (kept_with-more o left off) backs) (part-kept_more o (off_of test chosen kept) left off part)))
    (cases_Bool (is_supported o kept g))

-- **where only options of a user's grants come off, none of his valid grants falls**
pub valid-stay : (o : List Ownership) (by : User) (test chosen : Grant → Bool) (grants : List Grant) → ((h : Grant) → test h ≡ true → h.grantor ≡ by) → ((h : Grant) → chosen h ≡ true → h.grantor ≡ by) → IsPart (off_of test chosen (valid o grants)) (valid o (map (option_off test) grants))
valid-stay o by test chosen grants his own = fold-stay o by test chosen [] [] grants his own (λ g e. inl e) nothing

names-by : (by : User) (atoms : List Atom) (whom : List User) (g : Grant) → names by atoms whom g ≡ true → g.grantor ≡ by
unfolding names
names-by by atoms whom g h =
    let two = and_parts (same_user by g.grantor && list_any (λ a. same_atom a g.atom) atoms) _ h in
    let one = and_parts (same_user by g.grantor) (list_any (λ a. same_atom a g.atom) atoms) two.0 in
    sym (same_user-true by g.grantor one.0)

-- **each grant of the user who revokes the option is still in force, without it where it is named**
stay-chosen : (cs : List Change) (by : User) (atoms : Sequence Atom) (whom : Sequence User) (chosen : Grant → Bool) → ((h : Grant) → chosen h ≡ true → h.grantor ≡ by) → IsPart (off_of (names by atoms whom) chosen (in_force_after cs)) (in_force_after (cs ++ change.RevokeOption by atoms whom ∷ []))
stay-chosen cs by atoms whom chosen own =
    let o : List Ownership = owners_after cs in
    let test : Grant → Bool = names by atoms whom in
    let P : List Grant → Type 0 = λ k. IsPart (off_of test chosen (in_force_after cs)) k in
    let now : in_force_after (cs ++ change.RevokeOption by atoms whom ∷ []) ≡ valid o (map (option_off test) (left_after cs)) =
    in_force-revoke_option cs by atoms whom ∙ valid-options_off o test (left_after cs) in
    subst P (sym now) (valid-stay o by test chosen (left_after cs) (names-by by atoms whom) own)

pub stay-by : (cs : List Change) (by : User) (atoms : Sequence Atom) (whom : Sequence User) → IsPart (options_off by atoms whom (filter (λ g. same_user g.grantor by) (in_force_after cs))) (in_force_after (cs ++ change.RevokeOption by atoms whom ∷ []))
stay-by cs by atoms whom = stay-chosen cs by atoms whom (λ g. same_user g.grantor by) (λ g. same_user-true g.grantor by)

no_option : (b : Bool) → (b && not true) ≡ false
no_option true = refl
no_option false = refl

-- the chosen have no option once it is off
off_chosen : (test : Grant → Bool) (gs : List Grant) → off_of test test gs ≡ map {A = Grant} (λ g. record g { option = false }) (filter test gs)
off_chosen test [] = refl
off_chosen test (g ∷ gs) =
    let bare : Grant → Grant = λ h. record h { option = false } in
    ⊎_elim
    (λ (in_it : test g ≡ true).
    let all : filter test (g ∷ gs) ≡ g ∷ filter test gs = cond-true (test g) _ _ in_it in
    let one : option_off test g ≡ bare g = ap (λ b. record g { option = g.option && not b }) in_it ∙ ap (λ b. record g { option = b }) (no_option g.option) in
    ap (map (option_off test)) all ∙ ap (λ h. h ∷ off_of test test gs) one ∙ ap (λ k. bare g ∷ k) (off_chosen test gs) ∙ sym (ap (map bare) all))
    (λ (out : test g ≡ false).
    let all : filter test (g ∷ gs) ≡ filter test gs = cond-false (test g) _ _ out in
    ap (map (option_off test)) all ∙ off_chosen test gs ∙ sym (ap (map bare) all))
    (cases_Bool (test g))

pub stay-named : (cs : List Change) (by : User) (atoms : Sequence Atom) (whom : Sequence User) → IsPart (map {A = Grant} (λ g. record g { option = false }) (filter (names by atoms whom) (in_force_after cs))) (in_force_after (cs ++ change.RevokeOption by atoms whom ∷ []))
stay-named cs by atoms whom =
    let P : List Grant → Type 0 = λ k. IsPart k (in_force_after (cs ++ change.RevokeOption by atoms whom ∷ [])) in
    subst P (off_chosen (names by atoms whom) (in_force_after cs)) (stay-chosen cs by atoms whom (names by atoms whom) (names-by by atoms whom))

-- what a chosen grant gives it gives without its option
gives-off : (test chosen : Grant → Bool) (user : User) (atom : Atom) (gs : List Grant) → list_any (λ g. chosen g && gives user atom g) gs ≡ true → list_any (gives user atom) (off_of test chosen gs) ≡ true
unfolding gives
gives-off test chosen user atom [] h = h
gives-off test chosen user atom (g ∷ gs) h =
    let P : List Grant → Type 0 = λ k. list_any (gives user atom) (map (option_off test) k) ≡ true in
    let rest : list_any (λ e. chosen e && gives user atom e) gs ≡ true → list_any (gives user atom) (off_of test chosen gs) ≡ true = gives-off test chosen user atom gs in
    ⊎_elim
    (λ (here : (chosen g && gives user atom g) ≡ true).
    let parts = and_parts (chosen g) (gives user atom g) here in
    subst P (sym (cond-true (chosen g) (g ∷ filter chosen gs) (filter chosen gs) parts.0)) (or_left (gives user atom g) _ parts.1))
    (λ (there : list_any (λ e. chosen e && gives user atom e) gs ≡ true).
    ⊎_elim
    (λ (in_it : chosen g ≡ true). subst P (sym (cond-true (chosen g) (g ∷ filter chosen gs) (filter chosen gs) in_it)) (or_right (gives user atom g) _ (rest there)))
    (λ (out : chosen g ≡ false). subst P (sym (cond-false (chosen g) (g ∷ filter chosen gs) (filter chosen gs) out)) (rest there))
    (cases_Bool (chosen g)))
    (or_cases (chosen g && gives user atom g) _ h)

-- **whomever he gave a right still holds it**
pub stay-holds : (cs : List Change) (by : User) (atoms : Sequence Atom) (whom : Sequence User) (user : User) (atom : Atom) → has_made (in_force_after cs) by user atom ≡ true → holds (owners_after (cs ++ change.RevokeOption by atoms whom ∷ [])) (in_force_after (cs ++ change.RevokeOption by atoms whom ∷ [])) user atom ≡ true
stay-holds cs by atoms whom user atom h =
    let old : List Grant = in_force_after cs in
    let new : List Grant = in_force_after (cs ++ change.RevokeOption by atoms whom ∷ []) in
    let his : Grant → Bool = λ g. same_user g.grantor by in
    or_right (owns (owners_after (cs ++ change.RevokeOption by atoms whom ∷ [])) user atom) (list_any (gives user atom) new)
    (list_any-part (gives user atom) (off_of (names by atoms whom) his old) new (stay-by cs by atoms whom) (gives-off (names by atoms whom) his user atom old h))

-- the grants that the test doesn't mean are a part of all without the options that are off
without-part : (test : Grant → Bool) (gs : List Grant) → IsPart (filter (λ g. not (test g)) gs) (map (option_off test) gs)
without-part test [] = nothing
without-part test (g ∷ gs) =
    let left : List Grant = filter (λ g. not (test g)) gs in
    let off : List Grant = map (option_off test) gs in
    let P : List Grant → Type 0 = λ k. IsPart k (option_off test g ∷ off) in
    ⊎_elim
    (λ (out : test g ≡ true).
    subst P (sym (cond-false (not (test g)) (g ∷ left) left (ap not out))) (without_first (without-part test gs)))
    (λ (in_it : test g ≡ false).
    let Q : Grant → Type 0 = λ h. IsPart (g ∷ left) (h ∷ off) in
    subst P (sym (cond-true (not (test g)) (g ∷ left) left (ap not in_it))) (subst Q (sym (option_kept test g in_it)) (with_first (without-part test gs))))
    (cases_Bool (test g))

-- **a revocation of the option takes no more than one of the grants**
pub option-no_more : (cs : List Change) (by : User) (atoms : Sequence Atom) (whom : Sequence User) → IsPart (in_force_after (cs ++ change.Revoke by atoms whom ∷ [])) (in_force_after (cs ++ change.RevokeOption by atoms whom ∷ []))
option-no_more cs by atoms whom =
    let o : List Ownership = owners_after cs in
    let old : List Grant = in_force_after cs in
    let P : List Grant → Type 0 = λ k. IsPart k (in_force_after (cs ++ change.RevokeOption by atoms whom ∷ [])) in
    let Q : List Grant → Type 0 = λ k. IsPart (valid o (without by atoms whom old)) k in
    subst P (sym (in_force-revoke cs by atoms whom))
    (subst Q (sym (in_force-revoke_option cs by atoms whom))
    (valid-of_part o (without by atoms whom old) (options_off by atoms whom old) (without-part (names by atoms whom) old)))
