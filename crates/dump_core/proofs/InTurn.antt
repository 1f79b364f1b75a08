-- Grants in the order in which they were made: which of them are valid follows from that order alone.
use Rattle.std.proofs.Common.{◌≡◌, ℕ, ◌<◌, ◌≤◌, Bool, true, false, ◌||◌, ◌&&◌, cond, ltb, subst, List, [], ◌∷◌, ◌++◌, map, refl, sym, ap, ◌∙◌, append_assoc, arith, ◌⊎◌, inl, inr, ⊎_elim}
use Rattle.std.specs.List.{AllByRecursion, list_any, fold, filter}
use Rattle.std.proofs.lemmas.Bool.{and_parts, or_cases, or_left, or_right, cases_lt, lt-ltb}
use Rattle.base_core.specs.Users.{same_user}
use Rattle.base_core.specs.Privileges.{same_atom}
use Rattle.base_core.specs.declared.name.User.{User}
use Rattle.base_core.specs.declared.privilege.Atom.{Atom}
use Rattle.base_core.proofs.SameLemmas.{same_atom-true}
use Rattle.grants_core.specs.declared.grant.Grant.{Grant}
use Rattle.grants_core.specs.declared.grant.Ownership.{Ownership}
use Rattle.grants_core.specs.Owners.{owns}
use Rattle.grants_core.specs.Valid.{supports, is_supported, kept_with, valid, AreSupported, IsPart, nothing, with_first, without_first}
use Rattle.grants_core.specs.Content.{gives, may_grant, option_off}
use Rattle.base_core.specs.declared.value.Moment.{Moment}
use Rattle.grants_core.proofs.ValidLemmas.{valid-push, valid-supported}
use Rattle.grants_core.proofs.OwnersLemmas.{AllByRecursion-append}
use Rattle.grants_core.proofs.GrantLemmas.{All-implied}
use Rattle.grants_core.proofs.OptionLemmas.{All-options_off}

-- the later grant is of a later moment, or of the same moment and by the same grantor
abbrev pub Follows : Grant → Grant → Type 0
Follows earlier later = (earlier.moment.0 ≤ later.moment.0) × (earlier.moment.0 ≡ later.moment.0 → earlier.grantor ≡ later.grantor)

-- each grant follows those before it
abbrev pub AreInTurn : List Grant → Type 0
AreInTurn [] = Unit {0}
AreInTurn (g ∷ gs) = AllByRecursion (Follows g) gs × AreInTurn gs

-- the valid grants by their order alone: each whose grantor may grant it by the kept ones before it
abbrev pub kept_in_turn : List Ownership → List Grant → Grant → List Grant
kept_in_turn owners kept g = cond (may_grant owners kept g.grantor g.atom) (kept ++ g ∷ []) kept

abbrev pub valid_in_turn : List Ownership → List Grant → List Grant
valid_in_turn owners grants = fold (kept_in_turn owners) [] grants

-- ---- parts
pub part-all : (P : Grant → Type 0) (part grants : List Grant) → IsPart part grants → AllByRecursion P grants → AllByRecursion P part
part-all P _ _ nothing h = tt
part-all P _ _ (with_first {xs = xs} {ys = ys} rest) h = (h.0, part-all P xs ys rest h.1)
part-all P part _ (without_first {ys = ys} rest) h = part-all P part ys rest h.1

pub part-in_turn : (part grants : List Grant) → IsPart part grants → AreInTurn grants → AreInTurn part
part-in_turn _ _ nothing h = tt
part-in_turn _ _ (with_first {g = g} {xs = xs} {ys = ys} rest) h = (part-all (Follows g) xs ys rest h.0, part-in_turn xs ys rest h.1)
part-in_turn part _ (without_first {ys = ys} rest) h = part-in_turn part ys rest h.1

pub part-itself : (grants : List Grant) → IsPart grants grants
part-itself [] = nothing
part-itself (g ∷ gs) = with_first (part-itself gs)

part-middle : (before : List Grant) (g : Grant) (after : List Grant) → IsPart (before ++ after) (before ++ g ∷ after)
part-middle [] g after = without_first (part-itself after)
part-middle (x ∷ before) g after = with_first (part-middle before g after)

pub part-filter : (p : Grant → Bool) (grants : List Grant) → IsPart (filter p grants) grants
part-filter p [] = nothing
part-filter p (g ∷ gs) = elim (p g) as (λ b. IsPart (cond b (g ∷ filter p gs) (filter p gs)) (g ∷ gs)) [ true ↦ with_first (part-filter p gs) | false ↦ without_first (part-filter p gs) ]

all-middle : (P : Grant → Type 0) (before : List Grant) (g : Grant) (after : List Grant) → AllByRecursion P (before ++ g ∷ after) → P g
all-middle P [] g after h = h.0
all-middle P (x ∷ before) g after h = all-middle P before g after h.1

pub turn-before : (before : List Grant) (g : Grant) (after : List Grant) → AreInTurn (before ++ g ∷ after) → AllByRecursion (λ h. Follows h g) before
turn-before [] g after h = tt
turn-before (x ∷ before) g after h = (all-middle (Follows x) before g after h.0, turn-before before g after h.1)

-- ---- who may grant by the kept ones is supported by them, and the reverse
regrouped : (o a u l : Bool) → (((o && a) && u) && l) ≡ true → (o && (a && u)) ≡ true
regrouped true true true l h = refl
regrouped true true false l h = h
regrouped true false u l h = h
regrouped false a u l h = h

joined : (o a u l : Bool) → (o && (a && u)) ≡ true → l ≡ true → (((o && a) && u) && l) ≡ true
joined true true true l h k = k
joined true true false l h k = h
joined true false u l h k = h
joined false a u l h k = h

may_from : (h g : Grant) → supports h g ≡ true → (h.option && gives g.grantor g.atom h) ≡ true
unfolding supports gives
may_from h g s = regrouped h.option (same_atom h.atom g.atom) (same_user h.grantee g.grantor) (ltb h.moment.0 g.moment.0) s

support_from : (h g : Grant) → (h.option && gives g.grantor g.atom h) ≡ true → h.moment.0 < g.moment.0 → supports h g ≡ true
unfolding supports gives
support_from h g m lt = joined h.option (same_atom h.atom g.atom) (same_user h.grantee g.grantor) (ltb h.moment.0 g.moment.0) m (lt-ltb _ _ lt)

any_may : (kept : List Grant) (g : Grant) → list_any (λ h. supports h g) kept ≡ true → list_any (λ h. h.option && gives g.grantor g.atom h) kept ≡ true
any_may [] g s = s
any_may (h ∷ hs) g s =
    ⊎_elim (λ (here : supports h g ≡ true). or_left _ _ (may_from h g here))
    (λ (there : list_any (λ k. supports k g) hs ≡ true). or_right _ _ (any_may hs g there))
    (or_cases _ _ s)

pub may-from_supported : (o : List Ownership) (kept : List Grant) (g : Grant) → is_supported o kept g ≡ true → may_grant o kept g.grantor g.atom ≡ true
may-from_supported o kept g s =
    ⊎_elim (λ (own : owns o g.grantor g.atom ≡ true). or_left _ _ own)
    (λ (by : list_any (λ h. supports h g) kept ≡ true). or_right _ _ (any_may kept g by))
    (or_cases _ _ s)

-- what supports a grant supports each other of its grantor, atom and moment
supports_of : List Ownership → List Grant → User → Atom → ℕ → Bool
supports_of o kept by atom m = owns o by atom || list_any (λ k. k.option && same_atom k.atom atom && same_user k.grantee by && ltb k.moment.0 m) kept

is_of : (o : List Ownership) (kept : List Grant) (g : Grant) → is_supported o kept g ≡ supports_of o kept g.grantor g.atom g.moment.0
unfolding supports supports_of
is_of o kept g = refl

same_support : (o : List Ownership) (kept : List Grant) (h g : Grant) → h.grantor ≡ g.grantor → h.atom ≡ g.atom → h.moment.0 ≡ g.moment.0 → is_supported o kept h ≡ is_supported o kept g
same_support o kept h g by atom at =
    is_of o kept h
    ∙ ap (λ (u : User). supports_of o kept u h.atom h.moment.0) by
    ∙ ap (λ (a : Atom). supports_of o kept g.grantor a h.moment.0) atom
    ∙ ap (supports_of o kept g.grantor g.atom) at
    ∙ sym (is_of o kept g)

given : (h g : Grant) → (h.option && gives g.grantor g.atom h) ≡ true → h.atom ≡ g.atom
unfolding gives
given h g m = same_atom-true h.atom g.atom (and_parts (same_atom h.atom g.atom) (same_user h.grantee g.grantor) (and_parts h.option _ m).1).0

-- where one of the same moment would let him, what let that one be made does
any_supported : (o : List Ownership) (kept hs : List Grant) (g : Grant) → AreSupported o kept hs → AllByRecursion (λ h. Follows h g) hs → list_any (λ h. h.option && gives g.grantor g.atom h) hs ≡ true
    → (list_any (λ h. supports h g) hs ≡ true) ⊎ (is_supported o kept g ≡ true)
any_supported o kept [] g s t m = inl m
any_supported o kept (h ∷ hs) g s t m =
    ⊎_elim
    (λ (here : (h.option && gives g.grantor g.atom h) ≡ true).
    ⊎_elim (λ (lt : h.moment.0 < g.moment.0). inl (or_left _ _ (support_from h g here lt)))
    (λ (le : g.moment.0 ≤ h.moment.0).
    let at : h.moment.0 ≡ g.moment.0 = omega (arith, t.0.0) in
    inr (sym (same_support o kept h g (t.0.1 at) (given h g here) at) ∙ s.0))
    (cases_lt h.moment.0 g.moment.0))
    (λ (there : list_any (λ k. k.option && gives g.grantor g.atom k) hs ≡ true).
    ⊎_elim (λ (left : list_any (λ k. supports k g) hs ≡ true). inl (or_right _ _ left)) (λ (right : is_supported o kept g ≡ true). inr right)
    (any_supported o kept hs g s.1 t.1 there))
    (or_cases _ _ m)

supported_from_may : (o : List Ownership) (kept : List Grant) (g : Grant) → AreSupported o kept kept → AllByRecursion (λ h. Follows h g) kept → may_grant o kept g.grantor g.atom ≡ true → is_supported o kept g ≡ true
supported_from_may o kept g s t m =
    ⊎_elim (λ (own : owns o g.grantor g.atom ≡ true). or_left _ _ own)
    (λ (by : list_any (λ h. h.option && gives g.grantor g.atom h) kept ≡ true).
    ⊎_elim (λ (some : list_any (λ h. supports h g) kept ≡ true). or_right _ _ some) (λ (yes : is_supported o kept g ≡ true). yes)
    (any_supported o kept kept g s t by))
    (or_cases _ _ m)

same_from_both : (a b : Bool) → (a ≡ true → b ≡ true) → (b ≡ true → a ≡ true) → a ≡ b
same_from_both true b f g = sym (f refl)
same_from_both false true f g = g refl
same_from_both false false f g = refl

-- ---- the fold
one_more : (o : List Ownership) (before : List Grant) (g : Grant) (after : List Grant) → AreInTurn (valid o before ++ g ∷ after) → AreInTurn (valid o (before ++ g ∷ []) ++ after)
one_more o before g after t =
    let v : List Grant = valid o before in
    let Turn : List Grant → Type 0 = λ k. AreInTurn (k ++ after) in
    let Whole : List Grant → Type 0 = AreInTurn in
    subst Turn (sym (valid-push o before g))
    (elim (is_supported o v g) as (λ b. AreInTurn (cond b (v ++ g ∷ []) v ++ after)) [
      | true ↦ subst Whole (sym (append_assoc v (g ∷ []) after)) t
      | false ↦ part-in_turn (v ++ after) (v ++ g ∷ after) (part-middle v g after) t
    ])

fold-in_turn : (o : List Ownership) (before grants : List Grant) → AreInTurn (valid o before ++ grants) → fold (kept_with o) (valid o before) grants ≡ fold (kept_in_turn o) (valid o before) grants
fold-in_turn o before [] t = refl
fold-in_turn o before (g ∷ gs) t =
    let v : List Grant = valid o before in
    let agree : is_supported o v g ≡ may_grant o v g.grantor g.atom =
    same_from_both _ _ (may-from_supported o v g) (supported_from_may o v g (valid-supported o before) (turn-before v g gs t)) in
    let next : valid o (before ++ g ∷ []) ≡ kept_in_turn o v g = valid-push o before g ∙ ap (λ b. cond b (v ++ g ∷ []) v) agree in
    ap (λ k. fold (kept_with o) k gs) (sym (valid-push o before g))
    ∙ fold-in_turn o (before ++ g ∷ []) gs (one_more o before g gs t)
    ∙ ap (λ k. fold (kept_in_turn o) k gs) next

-- **in turn, the order alone says which are valid**
pub valid-in_turn : (o : List Ownership) (grants : List Grant) → AreInTurn grants → valid o grants ≡ valid_in_turn o grants
valid-in_turn o grants t = fold-in_turn o [] grants t

-- ---- what keeps grants in turn
pub options-in_turn : (test : Grant → Bool) (gs : List Grant) → AreInTurn gs → AreInTurn (map (option_off test) gs)
options-in_turn test [] t = tt
options-in_turn test (g ∷ gs) t = (All-options_off (Follows g) test gs (λ h f. f) t.0, options-in_turn test gs t.1)

-- later ones of one moment and one grantor
pub added-in_turn : (gs more : List Grant) (at : Moment) (by : User) → AreInTurn gs → AllByRecursion (λ g. g.moment.0 < at.0) gs → AllByRecursion (λ g. (g.moment ≡ at) × (g.grantor ≡ by)) more → AreInTurn (gs ++ more)
added-in_turn [] [] at by t early new = tt
added-in_turn [] (g ∷ more) at by t early new = (
  All-implied (λ h. (h.moment ≡ at) × (h.grantor ≡ by)) (Follows g) more
      (λ h n. let same : g.moment.0 ≡ h.moment.0 = ap (λ (m : Moment). m.0) (new.0.0 ∙ sym n.0) in (omega (arith, same), λ e. new.0.1 ∙ sym n.1))
      new.1,
  added-in_turn [] more at by tt tt new.1,
)
added-in_turn (g ∷ gs) more at by t early new = (
  AllByRecursion-append (Follows g) gs more t.0
      (All-implied (λ h. (h.moment ≡ at) × (h.grantor ≡ by)) (Follows g) more
      (λ h n. let now : h.moment.0 ≡ at.0 = ap (λ (m : Moment). m.0) n.0 in let lt : g.moment.0 < at.0 = early.0 in (omega (arith, lt, now), λ e. absurd (omega (arith, lt, now, e))))
      new),
  added-in_turn gs more at by t.1 early.1 new,
)
