-- Grants without their numbers and moments: what is asked of them, and what a change leaves of them, where they are in turn.
use Rattle.std.proofs.Common.{◌≡◌, ℕ, ◌+◌, Bool, true, false, ◌||◌, ◌&&◌, not, cond, List, [], ◌∷◌, ◌++◌, length, refl, sym, ap, ◌∙◌}
use Rattle.std.specs.List.{list_any, fold, filter}
use Rattle.std.proofs.lemmas.List.{map-append}
use Rattle.std.proofs.lemmas.List.Folds.{fold-map}
use Rattle.base_core.specs.Users.{same_user}
use Rattle.base_core.specs.Privileges.{same_atom}
use Rattle.base_core.specs.declared.name.User.{User}
use Rattle.base_core.specs.declared.privilege.Atom.{Atom}
use Rattle.base_core.specs.declared.value.Moment.{Moment}
use Rattle.grants_core.specs.declared.grant.Grant.{Grant}
use Rattle.grants_core.specs.declared.grant.Ownership.{Ownership}
use Rattle.grants_core.specs.Owners.{owns}
use Rattle.grants_core.specs.Valid.{valid}
use Rattle.grants_core.specs.Content.{gives, holds, may_grant, has_made, has_optioned, count_of, to_each, singles, names, without, option_off, options_off}
use Rattle.dump_core.specs.Alike.{undated, plain_grants}
use Rattle.dump_core.proofs.InTurn.{AreInTurn, kept_in_turn, valid_in_turn, valid-in_turn, part-in_turn, part-filter, options-in_turn}

-- ---- questions
-- a test that asks for neither
abbrev IsTimeless : (Grant → Bool) → Type 0
IsTimeless p = (g : Grant) → p (undated g) ≡ p g

any-undated : (p : Grant → Bool) (gs : List Grant) → IsTimeless p → list_any p (plain_grants gs) ≡ list_any p gs
any-undated p [] same = refl
any-undated p (g ∷ gs) same = ap (λ b. b || list_any p (plain_grants gs)) (same g) ∙ ap (λ b. p g || b) (any-undated p gs same)

filter-undated : (p : Grant → Bool) (gs : List Grant) → IsTimeless p → plain_grants (filter p gs) ≡ filter p (plain_grants gs)
filter-undated p [] same = refl
filter-undated p (g ∷ gs) same =
    elim (p g) as (λ b. plain_grants (cond b (g ∷ filter p gs) (filter p gs)) ≡ cond b (undated g ∷ plain_grants (filter p gs)) (plain_grants (filter p gs))) [ true ↦ refl | false ↦ refl ]
    ∙ ap (λ b. cond b (undated g ∷ plain_grants (filter p gs)) (plain_grants (filter p gs))) (sym (same g))
    ∙ ap (λ k. cond (p (undated g)) (undated g ∷ k) k) (filter-undated p gs same)

pub may_grant-undated : (o : List Ownership) (gs : List Grant) (user : User) (atom : Atom) → may_grant o (plain_grants gs) user atom ≡ may_grant o gs user atom
unfolding gives
may_grant-undated o gs user atom = ap (λ b. owns o user atom || b) (any-undated (λ g. g.option && gives user atom g) gs (λ g. refl))

pub holds-undated : (o : List Ownership) (gs : List Grant) (user : User) (atom : Atom) → holds o (plain_grants gs) user atom ≡ holds o gs user atom
unfolding gives
holds-undated o gs user atom = ap (λ b. owns o user atom || b) (any-undated (gives user atom) gs (λ g. refl))

pub has_made-undated : (gs : List Grant) (by user : User) (atom : Atom) → has_made (plain_grants gs) by user atom ≡ has_made gs by user atom
unfolding gives
has_made-undated gs by user atom = any-undated (λ g. same_user g.grantor by && gives user atom g) gs (λ g. refl)

pub has_optioned-undated : (gs : List Grant) (by user : User) (atom : Atom) → has_optioned (plain_grants gs) by user atom ≡ has_optioned gs by user atom
unfolding gives
has_optioned-undated gs by user atom = any-undated (λ g. g.option && same_user g.grantor by && gives user atom g) gs (λ g. refl)

pub count_of-undated : (gs : List Grant) (atom : Atom) → count_of (plain_grants gs) atom ≡ count_of gs atom
count_of-undated gs atom = fold-map (λ (n : ℕ) (g : Grant). n + cond (same_atom g.atom atom) 1 0) undated 0 gs

-- ---- changes
each-undated : (n k : ℕ) (at then : Moment) (by : User) (atom : Atom) (whom : List User) (option : Bool) → plain_grants (to_each n at by atom whom option) ≡ plain_grants (to_each k then by atom whom option)
each-undated n k at then by atom [] option = refl
each-undated n k at then by atom (u ∷ us) option = ap (λ gs. undated (record { number = n; moment = at; atom = atom; grantor = by; grantee = u; option = option }) ∷ gs) (each-undated (n + 1) (k + 1) at then by atom us option)

-- the single grants of a statement
pub singles-undated : (n k : ℕ) (at then : Moment) (by : User) (atoms : List Atom) (whom : List User) (option : Bool) → plain_grants (singles n at by atoms whom option) ≡ plain_grants (singles k then by atoms whom option)
singles-undated n k at then by [] whom option = refl
singles-undated n k at then by (a ∷ more) whom option =
    map-append undated (to_each n at by a whom option) (singles (n + length whom) at by more whom option)
    ∙ ap (λ gs. gs ++ plain_grants (singles (n + length whom) at by more whom option)) (each-undated n k at then by a whom option)
    ∙ ap (λ gs. plain_grants (to_each k then by a whom option) ++ gs) (singles-undated (n + length whom) (k + length whom) at then by more whom option)
    ∙ sym (map-append undated (to_each k then by a whom option) (singles (k + length whom) then by more whom option))

kept-undated : (o : List Ownership) (kept : List Grant) (g : Grant) → plain_grants (kept_in_turn o kept g) ≡ kept_in_turn o (plain_grants kept) (undated g)
kept-undated o kept g =
    elim (may_grant o kept g.grantor g.atom) as (λ b. plain_grants (cond b (kept ++ g ∷ []) kept) ≡ cond b (plain_grants kept ++ undated g ∷ []) (plain_grants kept)) [ true ↦ map-append undated kept (g ∷ []) | false ↦ refl ]
    ∙ ap (λ b. cond b (plain_grants kept ++ undated g ∷ []) (plain_grants kept)) (sym (may_grant-undated o kept g.grantor g.atom))

fold-undated : (o : List Ownership) (kept gs : List Grant) → plain_grants (fold (kept_in_turn o) kept gs) ≡ fold (kept_in_turn o) (plain_grants kept) (plain_grants gs)
fold-undated o kept [] = refl
fold-undated o kept (g ∷ gs) = fold-undated o (kept_in_turn o kept g) gs ∙ ap (λ k. fold (kept_in_turn o) k (plain_grants gs)) (kept-undated o kept g)

-- owners of the same
abbrev pub OwnAlike : List Ownership → List Ownership → Type 0
OwnAlike os ps = (user : User) (atom : Atom) → owns os user atom ≡ owns ps user atom

fold-owners : (os ps : List Ownership) (kept gs : List Grant) → OwnAlike os ps → fold (kept_in_turn os) kept gs ≡ fold (kept_in_turn ps) kept gs
fold-owners os ps kept [] h = refl
fold-owners os ps kept (g ∷ gs) h =
    ap (λ b. fold (kept_in_turn os) (cond (b || list_any (λ k. k.option && gives g.grantor g.atom k) kept) (kept ++ g ∷ []) kept) gs) (h g.grantor g.atom)
    ∙ fold-owners os ps (kept_in_turn ps kept g) gs h

-- in turn, the same ones are valid
pub valid-undated : (os ps : List Ownership) (gs hs : List Grant) → OwnAlike os ps → AreInTurn gs → AreInTurn hs → plain_grants gs ≡ plain_grants hs → plain_grants (valid os gs) ≡ plain_grants (valid ps hs)
valid-undated os ps gs hs own t u same =
    ap plain_grants (valid-in_turn os gs t)
    ∙ fold-undated os [] gs
    ∙ ap (valid_in_turn os) same
    ∙ fold-owners os ps [] (plain_grants hs) own
    ∙ sym (fold-undated ps [] hs)
    ∙ ap plain_grants (sym (valid-in_turn ps hs u))

-- without those that a revocation names
pub without-undated : (by : User) (atoms : List Atom) (whom : List User) (gs : List Grant) → plain_grants (without by atoms whom gs) ≡ without by atoms whom (plain_grants gs)
unfolding names
without-undated by atoms whom gs = filter-undated (λ g. not (names by atoms whom g)) gs (λ g. refl)

-- those without their option
pub options-undated : (by : User) (atoms : List Atom) (whom : List User) (gs : List Grant) → plain_grants (options_off by atoms whom gs) ≡ options_off by atoms whom (plain_grants gs)
unfolding names
options-undated by atoms whom [] = refl
options-undated by atoms whom (g ∷ gs) = ap (λ k. undated (option_off (names by atoms whom) g) ∷ k) (options-undated by atoms whom gs)

-- what both revocations leave
pub revoked-undated : (os ps : List Ownership) (gs hs : List Grant) (by : User) (atoms : List Atom) (whom : List User) → OwnAlike os ps → AreInTurn gs → AreInTurn hs → plain_grants gs ≡ plain_grants hs
    → plain_grants (valid os (without by atoms whom gs)) ≡ plain_grants (valid ps (without by atoms whom hs))
revoked-undated os ps gs hs by atoms whom own t u same =
    valid-undated os ps (without by atoms whom gs) (without by atoms whom hs) own
    (part-in_turn _ gs (part-filter _ gs) t) (part-in_turn _ hs (part-filter _ hs) u)
    (without-undated by atoms whom gs ∙ ap (without by atoms whom) same ∙ sym (without-undated by atoms whom hs))

pub unoptioned-undated : (os ps : List Ownership) (gs hs : List Grant) (by : User) (atoms : List Atom) (whom : List User) → OwnAlike os ps → AreInTurn gs → AreInTurn hs → plain_grants gs ≡ plain_grants hs
    → plain_grants (valid os (options_off by atoms whom gs)) ≡ plain_grants (valid ps (options_off by atoms whom hs))
unoptioned-undated os ps gs hs by atoms whom own t u same =
    valid-undated os ps (options_off by atoms whom gs) (options_off by atoms whom hs) own
    (options-in_turn (names by atoms whom) gs t) (options-in_turn (names by atoms whom) hs u)
    (options-undated by atoms whom gs ∙ ap (options_off by atoms whom) same ∙ sym (options-undated by atoms whom hs))
