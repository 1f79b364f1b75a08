-- A revocation, privilege by privilege and user by user.
use Rattle.std.proofs.Common.{◌≡◌, ◌∙◌, ℕ, ◌==◌, Bool, true, false, not, ◌||◌, ◌&&◌, cond, List, [], ◌∷◌, ◌++◌, Option, Some, None, refl, sym, ap}
use Rattle.std.specs.List.{AllByRecursion, list_any, filter}
use Rattle.std.proofs.lemmas.Bool.{cond-true, cond-false, and_parts, eqb-true}
use Rattle.std.proofs.lemmas.Cmp.{nat_list_eq_equiv}
use Rattle.base_core.specs.declared.name.User.{User}
use Rattle.base_core.specs.declared.privilege.Atom.{Atom}
use Rattle.base_core.specs.Users.{same_user}
use Rattle.base_core.specs.Privileges.{same_atom}
use Rattle.grants_core.specs.Owners.{owner_of, owns}
use Rattle.grants_core.specs.Valid.{valid}
use Rattle.grants_core.specs.Content.{names, without}
use Rattle.grants_core.specs.declared.grant.Grant.{Grant}
use Rattle.grants_core.specs.declared.grant.Ownership.{Ownership}
use Rattle.grants_core.proofs.ValidLemmas.{valid-filter_valid, valid-of_supported}
use Rattle.links_core.specs.declared.link.Link.{Link}
use Rattle.links_core.specs.Lists.{TakesOut}
use Rattle.links_core.proofs.EndsLemmas.{all_implied}
use Rattle.graph_core.specs.Indices.{Indexed, user_at, atom_at, grant_of, IsWithin, IsUserIndex, IsAtomIndex, AreApart}
use Rattle.graph_core.specs.Pruning.{SupportedBut, is_of_another, is_between, Falls, AreInOrder}
use Rattle.graph_core.specs.Revocation.{grants_of_links, AreUpheld}
use Rattle.grants_core.specs.KeyLaws.{same_atom-flip}
use Rattle.graph_core.proofs.FallLemmas.{IsOwnerIndex, falls_all, falls_valid, in_order_over, supported_over}
use Rattle.graph_core.proofs.OverLemmas.{filter_over, all_over}
use Rattle.graph_core.proofs.PlaceLemmas.{and_false}
use Rattle.graph_core.proofs.PruningLemmas.{all_filtered}

-- a filter that doesn't pass the item is blind to it
filter_without : (p : Link → Bool) (before : List Link) (e : Link) (after : List Link) → p e ≡ false → filter p (before ++ e ∷ after) ≡ filter p (before ++ after)
filter_without p [] e after f = cond-false (p e) _ _ f
filter_without p (x ∷ xs) e after f = ap (λ k. cond (p x) (x ∷ k) k) (filter_without p xs e after f)

-- a link that goes anyway may be taken out before
pub filter-taken_out : (q : Link → Bool) (e : Link) (links left : List Link) → TakesOut e links left → q e ≡ true → filter (λ l. not (q l)) left ≡ filter (λ l. not (q l)) links
filter-taken_out q e links left out passes =
    let P : Link → Bool = λ l. not (q l) in
    ap (filter P) out.is ∙ sym (filter_without P out.before e out.after (ap not passes)) ∙ sym (ap (filter P) out.was)

-- where nothing goes, all stay
pub none_gone : {A : Type 0} (q : A → Bool) (xs : List A) → AllByRecursion (λ x. q x ≡ false) xs → filter (λ x. not (q x)) xs ≡ xs
none_gone q [] h = refl
none_gone q (x ∷ xs) h = cond-true (not (q x)) _ _ (ap not h.0) ∙ ap (λ k. x ∷ k) (none_gone q xs h.1)

pub between_none : (by a : ℕ) (xs : List Link) → filter (λ l. not (is_between by None a l)) xs ≡ xs
between_none by a [] = refl
between_none by a (x ∷ xs) =
    cond-true (not (is_between by None a x)) _ _ (ap not (ap (λ b. x.grantor == by && b) (and_false (x.atom == a)) ∙ and_false (x.grantor == by))) ∙ ap (λ k. x ∷ k) (between_none by a xs)

filter_twice : (p q r : Grant → Bool) → ((g : Grant) → r g ≡ (p g && q g)) → (xs : List Grant) → filter r xs ≡ filter q (filter p xs)
filter_twice p q r f [] = refl
filter_twice p q r f (x ∷ xs) =
    ap (λ b. cond b (x ∷ filter r xs) (filter r xs)) (f x) ∙ ap (λ k. cond (p x && q x) (x ∷ k) k) (filter_twice p q r f xs) ∙ step (p x) (q x) x (filter p xs) refl
  where
    step : (a b : Bool) (y : Grant) (ys : List Grant) → b ≡ q y → cond (a && b) (y ∷ filter q ys) (filter q ys) ≡ filter q (cond a (y ∷ ys) ys)
    step true b y ys e = ap (λ c. cond c (y ∷ filter q ys) (filter q ys)) e
    step false b y ys e = refl

-- what is valid of what was valid is what is valid of all
valid_then : (o : List Ownership) (p q r : Grant → Bool) → ((g : Grant) → r g ≡ (p g && q g)) → (now new : List Grant) → new ≡ valid o (filter p now) → valid o (filter q new) ≡ valid o (filter r now)
valid_then o p q r f now new is = ap (λ k. valid o (filter q k)) is ∙ valid-filter_valid o q (filter p now) ∙ ap (valid o) (sym (filter_twice p q r f now))

first_user : (u a w r : Bool) → not ((u && a) && (w || r)) ≡ (not ((u && a) && (w || false)) && not ((u && a) && r))
first_user true true true r = refl
first_user true true false r = refl
first_user true false w r = refl
first_user false a w r = refl

-- **a revocation from the first user, and then from the others**
pub revoked-user : (o : List Ownership) (by : User) (atoms : List Atom) (user : User) (rest : List User) (now new : List Grant) → new ≡ valid o (without by atoms (user ∷ []) now) → valid o (without by atoms rest new) ≡ valid o (without by atoms (user ∷ rest) now)
unfolding names
revoked-user o by atoms user rest now new is =
    valid_then o (λ g. not (names by atoms (user ∷ []) g)) (λ g. not (names by atoms rest g)) (λ g. not (names by atoms (user ∷ rest) g))
    (λ g. first_user (same_user by g.grantor) (list_any (λ a. same_atom a g.atom) atoms) (same_user user g.grantee) (list_any (λ u. same_user u g.grantee) rest)) now new is

first_atom : (u a r w : Bool) → not ((u && (a || r)) && w) ≡ (not ((u && (a || false)) && w) && not ((u && r) && w))
first_atom true true r true = refl
first_atom true true true false = refl
first_atom true true false false = refl
first_atom true false r w = refl
first_atom false a r w = refl

-- **and one of the first privilege, and then of the others**
pub revoked-atom : (o : List Ownership) (by : User) (atom : Atom) (rest : List Atom) (whom : List User) (now new : List Grant) → new ≡ valid o (without by (atom ∷ []) whom now) → valid o (without by rest whom new) ≡ valid o (without by (atom ∷ rest) whom now)
unfolding names
revoked-atom o by atom rest whom now new is =
    valid_then o (λ g. not (names by (atom ∷ []) whom g)) (λ g. not (names by rest whom g)) (λ g. not (names by (atom ∷ rest) whom g))
    (λ g. first_atom (same_user by g.grantor) (same_atom atom g.atom) (list_any (λ a. same_atom a g.atom) rest) (list_any (λ u. same_user u g.grantee) whom)) now new is

pub all_grants : (P : Grant → Type 0) (gs : List Grant) → ((g : Grant) → P g) → AllByRecursion P gs
all_grants P [] f = tt
all_grants P (g ∷ gs) f = (f g, all_grants P gs f)

-- one from nobody takes nothing out
pub without-nobody : (by : User) (atoms : List Atom) (gs : List Grant) → without by atoms [] gs ≡ gs
unfolding names
without-nobody by atoms gs = none_gone (names by atoms []) gs (all_grants (λ g. names by atoms [] g ≡ false) gs (λ g. and_false (same_user by g.grantor && list_any (λ a. same_atom a g.atom) atoms)))

pub no_atom : (u w : Bool) → ((u && false) && w) ≡ false
no_atom true w = refl
no_atom false w = refl

-- nor one of no privilege
pub without-nothing : (by : User) (whom : List User) (gs : List Grant) → without by [] whom gs ≡ gs
unfolding names
without-nothing by whom gs = none_gone (names by [] whom) gs (all_grants (λ g. names by [] whom g ≡ false) gs (λ g. no_atom (same_user by g.grantor) (list_any (λ u. same_user u g.grantee) whom)))

pub upheld_valid : (indexed : Indexed) (owners : List Ownership) (links : List Link) → AreUpheld indexed owners links → valid owners (grants_of_links indexed links) ≡ grants_of_links indexed links
upheld_valid indexed owners links upheld = valid-of_supported owners (grants_of_links indexed links) upheld.in_order upheld.supported

-- where no grant is named, all stay
unnamed : (indexed : Indexed) (owners : List Ownership) (by : User) (atoms : List Atom) (whom : List User) (links : List Link) → AreUpheld indexed owners links → ((l : Link) → IsWithin indexed l → names by atoms whom (grant_of indexed l) ≡ false) → grants_of_links indexed links ≡ valid owners (without by atoms whom (grants_of_links indexed links))
unnamed indexed owners by atoms whom links upheld never =
    sym (ap (valid owners) (none_gone (names by atoms whom) (grants_of_links indexed links) (all_over (grant_of indexed) (λ g. names by atoms whom g ≡ false) links (all_implied (IsWithin indexed) (λ l. names by atoms whom (grant_of indexed l) ≡ false) links never upheld.within)))
    ∙ upheld_valid indexed owners links upheld)

turned_user : (a b : User) → same_user a b ≡ same_user b a
turned_user a b = nat_list_eq_equiv.symm a.0 b.0

-- who owns a table is its owner
abbrev pub is_his : Option User → User → Bool
is_his None user = false
is_his (Some owner) user = same_user user owner

pub owns_by : (owners : List Ownership) (user : User) (atom : Atom) (found : Option User) → owner_of owners atom.table ≡ found → owns owners user atom ≡ is_his found user
unfolding owns
owns_by owners user atom found is = ap (λ (k : Option User). elim k as (λ _. Bool) [ Some o ↦ same_user o user | None ↦ false ]) is ∙ by found
  where
    by : (k : Option User) → (elim k as (λ _. Bool) [ Some o ↦ same_user o user | None ↦ false ]) ≡ is_his k user
    by None = refl
    by (Some owner) = turned_user owner user

-- where the grantor has no index, or the privilege has none, no grant is named
pub never_by : (indexed : Indexed) (by : User) (atoms : List Atom) (whom : List User) → IsUserIndex indexed by None → (l : Link) → IsWithin indexed l → names by atoms whom (grant_of indexed l) ≡ false
unfolding names
never_by indexed by atoms whom missing l w =
    ap (λ b. (b && list_any (λ a. same_atom a (atom_at indexed l.atom)) atoms) && list_any (λ u. same_user u (user_at indexed l.grantee)) whom) (turned_user by (user_at indexed l.grantor) ∙ missing l.grantor w.grantor)

pub never_atom : (indexed : Indexed) (by : User) (atom : Atom) (whom : List User) → IsAtomIndex indexed atom None → (l : Link) → IsWithin indexed l → names by (atom ∷ []) whom (grant_of indexed l) ≡ false
unfolding names
never_atom indexed by atom whom missing l w =
    ap (λ b. (same_user by (user_at indexed l.grantor) && (b || false)) && list_any (λ u. same_user u (user_at indexed l.grantee)) whom) (same_atom-flip atom (atom_at indexed l.atom) ∙ missing l.atom w.atom)
    ∙ no_atom (same_user by (user_at indexed l.grantor)) (list_any (λ u. same_user u (user_at indexed l.grantee)) whom)

pub unnamed_by : (indexed : Indexed) (owners : List Ownership) (by : User) (atoms : List Atom) (whom : List User) (links : List Link) → AreUpheld indexed owners links → IsUserIndex indexed by None → grants_of_links indexed links ≡ valid owners (without by atoms whom (grants_of_links indexed links))
unnamed_by indexed owners by atoms whom links upheld missing = unnamed indexed owners by atoms whom links upheld (never_by indexed by atoms whom missing)

pub unnamed_atom : (indexed : Indexed) (owners : List Ownership) (by : User) (atom : Atom) (whom : List User) (links : List Link) → AreUpheld indexed owners links → IsAtomIndex indexed atom None → grants_of_links indexed links ≡ valid owners (without by (atom ∷ []) whom (grants_of_links indexed links))
unnamed_atom indexed owners by atom whom links upheld missing = unnamed indexed owners by (atom ∷ []) whom links upheld (never_atom indexed by atom whom missing)

single : (u a w : Bool) → ((u && (a || false)) && (w || false)) ≡ (u && (a && w))
single true true true = refl
single true true false = refl
single true false w = refl
single false a w = refl

-- what a revocation of one privilege from one user names, by their indices
pub named_between : (indexed : Indexed) (by user : User) (atom : Atom) (b : ℕ) (u : Option ℕ) (a : ℕ) → IsUserIndex indexed by (Some b) → IsUserIndex indexed user u → IsAtomIndex indexed atom (Some a) → (l : Link) → IsWithin indexed l → names by (atom ∷ []) (user ∷ []) (grant_of indexed l) ≡ is_between b u a l
unfolding names
named_between indexed by user atom b u a by_is user_is atom_is l w =
    single (same_user by (user_at indexed l.grantor)) (same_atom atom (atom_at indexed l.atom)) (same_user user (user_at indexed l.grantee))
    ∙ ap (λ t. t && (same_atom atom (atom_at indexed l.atom) && same_user user (user_at indexed l.grantee))) (turned_user by (user_at indexed l.grantor) ∙ by_is l.grantor w.grantor)
    ∙ ap (λ t. (l.grantor == b) && (t && same_user user (user_at indexed l.grantee))) (same_atom-flip atom (atom_at indexed l.atom) ∙ atom_is l.atom w.atom)
    ∙ ap (λ t. (l.grantor == b) && ((l.atom == a) && t)) (turned_user user (user_at indexed l.grantee) ∙ user_is l.grantee w.grantee)

pub between-atom : (b : ℕ) (u : Option ℕ) (a : ℕ) (l : Link) → is_between b u a l ≡ true → l.atom ≡ a
between-atom b u a l h = eqb-true l.atom a (and_parts _ _ (and_parts _ _ h).1).0

-- **a revocation of one privilege from one user**
pub record IsRevoked (indexed : Indexed) (owners : List Ownership) (old new : List Link) (by user : User) (atom : Atom) : Type 0 where
  pub upheld : AreUpheld indexed owners new
  pub valid_is : grants_of_links indexed new ≡ valid owners (without by (atom ∷ []) (user ∷ []) (grants_of_links indexed old))

pub revoked_between : (indexed : Indexed) → AreApart indexed → (owners : List Ownership) (by user : User) (atom : Atom) (owner : Option ℕ) (b : ℕ) (u : Option ℕ) (a : ℕ)
    → IsOwnerIndex indexed owners atom owner → IsUserIndex indexed by (Some b) → IsUserIndex indexed user u → IsAtomIndex indexed atom (Some a)
    → (old new : List Link) → AreUpheld indexed owners old → AreInOrder new
    → Falls owner a (filter (λ l. not (is_between b u a l)) old) new → SupportedBut owner new (is_of_another a) → IsRevoked indexed owners old new by user atom
revoked_between indexed apart owners by user atom owner b u a owner_is by_is user_is atom_is old new upheld ordered falls supported =
    let goes : Link → Bool = is_between b u a in
    let left : List Link = filter (λ l. not (goes l)) old in
    let within_left = all_filtered (IsWithin indexed) (λ l. not (goes l)) old upheld.within in
    let kept : AreUpheld indexed owners new = record {
      within = falls_all (IsWithin indexed) owner a left new falls within_left;
      in_order = in_order_over indexed new ordered;
      supported = supported_over indexed apart owners owner atom a owner_is atom_is old new goes (between-atom b u a) upheld falls supported;
    } in
    let named : AllByRecursion (λ l. not (names by (atom ∷ []) (user ∷ []) (grant_of indexed l)) ≡ not (goes l)) old = all_implied (IsWithin indexed) (λ l. not (names by (atom ∷ []) (user ∷ []) (grant_of indexed l)) ≡ not (goes l)) old (λ l w. ap not (named_between indexed by user atom b u a by_is user_is atom_is l w)) upheld.within in
    record {
      upheld = kept;
      valid_is = sym (upheld_valid indexed owners new kept)
          ∙ falls_valid indexed apart owners owner atom a owner_is atom_is left new falls within_left
          ∙ ap (valid owners) (sym (filter_over (grant_of indexed) (λ g. not (names by (atom ∷ []) (user ∷ []) g)) (λ l. not (goes l)) old named));
    }
