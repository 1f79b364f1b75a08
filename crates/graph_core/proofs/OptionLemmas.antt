-- A revocation of the option, link by link, user by user and privilege by privilege.
use Rattle.std.proofs.Common.{◌≡◌, ◌∙◌, ◌⊎◌, inl, inr, ℕ, ◌≤◌, ◌==◌, Bool, true, false, not, ◌||◌, ◌&&◌, List, [], ◌∷◌, Option, Some, None, map, refl, sym, ap, subst, ⊎_elim}
use Rattle.std.specs.List.{AllByRecursion, list_any}
use Rattle.std.proofs.lemmas.Bool.{or_cases, or_left, or_right, cases_Bool}
use Rattle.base_core.specs.declared.name.User.{User}
use Rattle.base_core.specs.declared.privilege.Atom.{Atom}
use Rattle.base_core.specs.Users.{same_user}
use Rattle.base_core.specs.Privileges.{same_atom}
use Rattle.grants_core.specs.Valid.{supports, is_supported, valid}
use Rattle.grants_core.specs.Content.{names, option_off, options_off}
use Rattle.grants_core.specs.declared.grant.Grant.{Grant}
use Rattle.grants_core.specs.declared.grant.Ownership.{Ownership}
use Rattle.grants_core.proofs.OptionLemmas.{options_kept, options_twice, valid-options_off}
use Rattle.links_core.specs.declared.link.Link.{Link}
use Rattle.links_core.specs.Links.{goes_to, comes_from, link_off}
use Rattle.links_core.proofs.EndsLemmas.{all_implied}
use Rattle.links_core.proofs.ChangeLemmas.{link_kept}
use Rattle.graph_core.specs.Indices.{Indexed, grant_of, is_index, IsWithin, IsUserIndex, IsAtomIndex, AreApart}
use Rattle.graph_core.specs.Pruning.{link_supports, is_link_supported, SupportedBut, is_of_another, is_between, Falls, AreInOrder}
use Rattle.graph_core.specs.Revocation.{grants_of_links, AreUpheld}
use Rattle.graph_core.proofs.OverLemmas.{all_over, all_under}
use Rattle.graph_core.proofs.PruningLemmas.{between-parts, supports-comes_from}
use Rattle.graph_core.proofs.FallLemmas.{IsOwnerIndex, falls_all, falls_valid, in_order_over, supported_from, other_unsupported}
use Rattle.graph_core.proofs.PlaceLemmas.{and_false}
use Rattle.graph_core.proofs.NamedLemmas.{all_grants, no_atom, never_by, never_atom, named_between, between-atom, upheld_valid}

-- the links by the one user to the other are those between the two
pub off_between : (by user atom : ℕ) (old new : List Link) → new ≡ map (link_off (λ l. (l.grantor == by) && goes_to user atom l)) old → new ≡ map (link_off (is_between by (Some user) atom)) old
unfolding goes_to
off_between by user atom old new is = is

pub AreInOrder-off : (test : Link → Bool) (xs : List Link) → AreInOrder xs → AreInOrder (map (link_off test) xs)
AreInOrder-off test [] h = tt
AreInOrder-off test (x ∷ xs) h = (all_over (link_off test) (λ k. x.moment.0 ≤ k.moment.0) xs h.0, AreInOrder-off test xs h.1)

supports-kept : (test : Link → Bool) (e l : Link) → test e ≡ false → link_supports e l ≡ true → link_supports (link_off test e) l ≡ true
supports-kept test e l stays h = ap (λ k. link_supports k l) (link_kept test e stays) ∙ h

-- what supported a link supports it without options, or lost its own
options_lose : (test : Link → Bool) (l : Link) (r : Bool) → ((h : Link) → test h ≡ true → link_supports h l ≡ true → r ≡ true) → (xs : List Link) → list_any (λ h. link_supports h l) xs ≡ true → (list_any (λ h. link_supports h l) (map (link_off test) xs) ≡ true) ⊎ (r ≡ true)
options_lose test l r f [] h = inl h
options_lose test l r f (x ∷ xs) h =
    ⊎_elim
    (λ (here : link_supports x l ≡ true).
    ⊎_elim (λ (goes : test x ≡ true). inr (f x goes here))
    (λ (stays : test x ≡ false). inl (or_left _ _ (supports-kept test x l stays here)))
    (cases_Bool (test x)))
    (λ (there : list_any (λ k. link_supports k l) xs ≡ true).
    ⊎_elim (λ (left : list_any (λ k. link_supports k l) (map (link_off test) xs) ≡ true). inl (or_right (link_supports (link_off test x) l) _ left))
    (λ (out : r ≡ true). inr out)
    (options_lose test l r f xs there))
    (or_cases _ _ h)

-- without the options to a user, only his own may lack support
pub SupportedBut-off : (o : Option ℕ) (by user a : ℕ) (links : List Link) → SupportedBut o links (is_of_another a) → SupportedBut o (map (link_off (is_between by (Some user) a)) links) (λ l. is_of_another a l || comes_from user a l)
unfolding goes_to comes_from
SupportedBut-off o by user a links h =
    let test : Link → Bool = is_between by (Some user) a in
    let left : List Link = map (link_off test) links in
    all_over (link_off test) (λ l. (is_link_supported o left l || (is_of_another a l || comes_from user a l)) ≡ true) links
    (all_implied (λ l. (is_link_supported o links l || is_of_another a l) ≡ true) (λ l. (is_link_supported o left l || (is_of_another a l || comes_from user a l)) ≡ true) links
    (λ l k. ⊎_elim
    (λ (yes : is_link_supported o links l ≡ true). ⊎_elim
    (λ (own : is_index o l.grantor ≡ true). or_left _ _ (or_left _ _ own))
    (λ (some : list_any (λ e. link_supports e l) links ≡ true). ⊎_elim
    (λ (still : list_any (λ e. link_supports e l) left ≡ true). or_left _ _ (or_right (is_index o l.grantor) _ still))
    (λ (his : comes_from user a l ≡ true). or_right (is_link_supported o left l) _ (or_right (is_of_another a l) _ his))
    (options_lose test l (comes_from user a l) (λ e goes by_it. let parts = between-parts by user a e goes in subst (λ u. comes_from u a l ≡ true) parts.1 (supports-comes_from a e l parts.0 by_it)) links some))
    (or_cases _ _ yes))
    (λ (other : is_of_another a l ≡ true). or_right (is_link_supported o left l) _ (or_left _ _ other))
    (or_cases _ _ k))
    h)

pub between_none-off : (by a : ℕ) (xs : List Link) → map (link_off (is_between by None a)) xs ≡ xs
between_none-off by a [] = refl
between_none-off by a (x ∷ xs) =
    ap (λ k. k ∷ map (link_off (is_between by None a)) xs) (link_kept (is_between by None a) x (ap (λ b. x.grantor == by && b) (and_false (x.atom == a)) ∙ and_false (x.grantor == by)))
    ∙ ap (λ k. x ∷ k) (between_none-off by a xs)

-- **a revocation of the option from the first, and then from the others**
options_then : (o : List Ownership) (p q r : Grant → Bool) → ((g : Grant) → r g ≡ (p g || q g)) → ((g : Grant) → q (option_off p g) ≡ q g) → (now new : List Grant) → new ≡ valid o (map (option_off p) now) → valid o (map (option_off q) new) ≡ valid o (map (option_off r) now)
options_then o p q r split same now new is =
    ap (λ k. valid o (map (option_off q) k)) is ∙ valid-options_off o q (map (option_off p) now) ∙ ap (valid o) (sym (options_twice p q r now split same))

first_user : (u a w r : Bool) → ((u && a) && (w || r)) ≡ (((u && a) && (w || false)) || ((u && a) && r))
first_user true true true r = refl
first_user true true false r = refl
first_user true false w r = refl
first_user false a w r = refl

pub unoptioned-user : (o : List Ownership) (by : User) (atoms : List Atom) (user : User) (rest : List User) (now new : List Grant) → new ≡ valid o (options_off by atoms (user ∷ []) now) → valid o (options_off by atoms rest new) ≡ valid o (options_off by atoms (user ∷ rest) now)
unfolding names
unoptioned-user o by atoms user rest now new is =
    options_then o (names by atoms (user ∷ [])) (names by atoms rest) (names by atoms (user ∷ rest))
    (λ g. first_user (same_user by g.grantor) (list_any (λ a. same_atom a g.atom) atoms) (same_user user g.grantee) (list_any (λ u. same_user u g.grantee) rest)) (λ g. refl) now new is

first_atom : (u a r w : Bool) → ((u && (a || r)) && w) ≡ (((u && (a || false)) && w) || ((u && r) && w))
first_atom true true r true = refl
first_atom true true true false = refl
first_atom true true false false = refl
first_atom true false r w = refl
first_atom false a r w = refl

pub unoptioned-atom : (o : List Ownership) (by : User) (atom : Atom) (rest : List Atom) (whom : List User) (now new : List Grant) → new ≡ valid o (options_off by (atom ∷ []) whom now) → valid o (options_off by rest whom new) ≡ valid o (options_off by (atom ∷ rest) whom now)
unfolding names
unoptioned-atom o by atom rest whom now new is =
    options_then o (names by (atom ∷ []) whom) (names by rest whom) (names by (atom ∷ rest) whom)
    (λ g. first_atom (same_user by g.grantor) (same_atom atom g.atom) (list_any (λ a. same_atom a g.atom) rest) (list_any (λ u. same_user u g.grantee) whom)) (λ g. refl) now new is

-- one from nobody takes no option
pub options_off-nobody : (by : User) (atoms : List Atom) (gs : List Grant) → options_off by atoms [] gs ≡ gs
unfolding names
options_off-nobody by atoms gs = options_kept (names by atoms []) gs (all_grants (λ g. names by atoms [] g ≡ false) gs (λ g. and_false (same_user by g.grantor && list_any (λ a. same_atom a g.atom) atoms)))

-- nor one of no privilege
pub options_off-nothing : (by : User) (whom : List User) (gs : List Grant) → options_off by [] whom gs ≡ gs
unfolding names
options_off-nothing by whom gs = options_kept (names by [] whom) gs (all_grants (λ g. names by [] whom g ≡ false) gs (λ g. no_atom (same_user by g.grantor) (list_any (λ u. same_user u g.grantee) whom)))

-- where no grant is named, all stay
unnamed : (indexed : Indexed) (owners : List Ownership) (by : User) (atoms : List Atom) (whom : List User) (links : List Link) → AreUpheld indexed owners links → ((l : Link) → IsWithin indexed l → names by atoms whom (grant_of indexed l) ≡ false) → grants_of_links indexed links ≡ valid owners (options_off by atoms whom (grants_of_links indexed links))
unnamed indexed owners by atoms whom links upheld never =
    sym (ap (valid owners) (options_kept (names by atoms whom) (grants_of_links indexed links) (all_over (grant_of indexed) (λ g. names by atoms whom g ≡ false) links (all_implied (IsWithin indexed) (λ l. names by atoms whom (grant_of indexed l) ≡ false) links never upheld.within)))
    ∙ upheld_valid indexed owners links upheld)

pub unoptioned_by : (indexed : Indexed) (owners : List Ownership) (by : User) (atoms : List Atom) (whom : List User) (links : List Link) → AreUpheld indexed owners links → IsUserIndex indexed by None → grants_of_links indexed links ≡ valid owners (options_off by atoms whom (grants_of_links indexed links))
unoptioned_by indexed owners by atoms whom links upheld missing = unnamed indexed owners by atoms whom links upheld (never_by indexed by atoms whom missing)

pub unoptioned_atom : (indexed : Indexed) (owners : List Ownership) (by : User) (atom : Atom) (whom : List User) (links : List Link) → AreUpheld indexed owners links → IsAtomIndex indexed atom None → grants_of_links indexed links ≡ valid owners (options_off by (atom ∷ []) whom (grants_of_links indexed links))
unoptioned_atom indexed owners by atom whom links upheld missing = unnamed indexed owners by (atom ∷ []) whom links upheld (never_atom indexed by atom whom missing)

-- a link stays within, and needs the same support
within_off : (indexed : Indexed) (test : Link → Bool) (l : Link) → IsWithin indexed l → IsWithin indexed (link_off test l)
within_off indexed test l w = record { atom = w.atom; grantor = w.grantor; grantee = w.grantee }

support_off : (indexed : Indexed) (owners : List Ownership) (gs : List Grant) (test : Link → Bool) (l : Link) → is_supported owners gs (grant_of indexed (link_off test l)) ≡ is_supported owners gs (grant_of indexed l)
unfolding supports
support_off indexed owners gs test l = refl

-- options of a privilege support none of another
others_off : (a : ℕ) (test : Link → Bool) → ((l : Link) → test l ≡ true → l.atom ≡ a) → (xs : List Link) (l : Link) → (l.atom == a) ≡ false → list_any (λ h. link_supports h l) (map (link_off test) xs) ≡ list_any (λ h. link_supports h l) xs
others_off a test of_it [] l other = refl
others_off a test of_it (x ∷ xs) l other =
    let rest = others_off a test of_it xs l other in
    let here : link_supports (link_off test x) l ≡ link_supports x l =
    ⊎_elim (λ (goes : test x ≡ true). other_unsupported a (link_off test x) l (of_it x goes) other ∙ sym (other_unsupported a x l (of_it x goes) other))
    (λ (stays : test x ≡ false). ap (λ k. link_supports k l) (link_kept test x stays))
    (cases_Bool (test x)) in
    ap (λ b. b || list_any (λ h. link_supports h l) (map (link_off test) xs)) here ∙ ap (λ b. link_supports x l || b) rest

-- the grants for which the links stand lose the same options
grants_off : (indexed : Indexed) (test : Link → Bool) (p : Grant → Bool) (xs : List Link) → AllByRecursion (λ l. p (grant_of indexed l) ≡ test l) xs → grants_of_links indexed (map (link_off test) xs) ≡ map (option_off p) (grants_of_links indexed xs)
grants_off indexed test p [] h = refl
grants_off indexed test p (x ∷ xs) h =
    ap (λ b. record (grant_of indexed x) { option = x.option && not b } ∷ grants_of_links indexed (map (link_off test) xs)) (sym h.0)
    ∙ ap (λ k. option_off p (grant_of indexed x) ∷ k) (grants_off indexed test p xs h.1)

-- **a revocation of the option of one privilege from one user**
pub record IsUnoptioned (indexed : Indexed) (owners : List Ownership) (old new : List Link) (by user : User) (atom : Atom) : Type 0 where
  pub upheld : AreUpheld indexed owners new
  pub valid_is : grants_of_links indexed new ≡ valid owners (options_off by (atom ∷ []) (user ∷ []) (grants_of_links indexed old))

pub unoptioned_between : (indexed : Indexed) → AreApart indexed → (owners : List Ownership) (by user : User) (atom : Atom) (owner : Option ℕ) (b : ℕ) (u : Option ℕ) (a : ℕ)
    → IsOwnerIndex indexed owners atom owner → IsUserIndex indexed by (Some b) → IsUserIndex indexed user u → IsAtomIndex indexed atom (Some a)
    → (old new : List Link) → AreUpheld indexed owners old → AreInOrder new
    → Falls owner a (map (link_off (is_between b u a)) old) new → SupportedBut owner new (is_of_another a) → IsUnoptioned indexed owners old new by user atom
unoptioned_between indexed apart owners by user atom owner b u a owner_is by_is user_is atom_is old new upheld ordered falls supported =
    let goes : Link → Bool = is_between b u a in
    let left : List Link = map (link_off goes) old in
    let Had : Link → Type 0 = λ l. is_supported owners (grants_of_links indexed old) (grant_of indexed l) ≡ true in
    let within_left : AllByRecursion (IsWithin indexed) left =
    all_over (link_off goes) (IsWithin indexed) old (all_implied (IsWithin indexed) (λ l. IsWithin indexed (link_off goes l)) old (within_off indexed goes) upheld.within) in
    let had_left : AllByRecursion Had left =
    all_over (link_off goes) Had old (all_implied Had (λ l. Had (link_off goes l)) old (λ l h. support_off indexed owners (grants_of_links indexed old) goes l ∙ h)
    (all_under (grant_of indexed) (λ g. is_supported owners (grants_of_links indexed old) g ≡ true) old upheld.supported)) in
    let kept : AreUpheld indexed owners new = record {
      within = falls_all (IsWithin indexed) owner a left new falls within_left;
      in_order = in_order_over indexed new ordered;
      supported = supported_from indexed apart owners owner atom a owner_is atom_is old left new upheld within_left had_left (others_off a goes (between-atom b u a) old) falls supported;
    } in
    let Named : Link → Type 0 = λ l. names by (atom ∷ []) (user ∷ []) (grant_of indexed l) ≡ goes l in
    let named : AllByRecursion Named old = all_implied (IsWithin indexed) Named old (λ l w. named_between indexed by user atom b u a by_is user_is atom_is l w) upheld.within in
    record {
      upheld = kept;
      valid_is = sym (upheld_valid indexed owners new kept)
          ∙ falls_valid indexed apart owners owner atom a owner_is atom_is left new falls within_left
          ∙ ap (valid owners) (grants_off indexed goes (names by (atom ∷ []) (user ∷ [])) old named);
    }
