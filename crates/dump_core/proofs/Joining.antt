-- One grant more: whether it goes on with a group.
use Rattle.std.proofs.Common.{◌≡◌, ℕ, ◌<◌, Bool, true, false, not, ◌&&◌, ◌||◌, ltb, List, [], ◌∷◌, ◌++◌, map, length, take, get_or, refl, sym, ap, ◌∙◌}
use Rattle.std.specs.List.{list_any, list_all}
use Rattle.std.proofs.lemmas.Bool.{and_parts}
use Rattle.std.proofs.lemmas.List.{map-append, length-map, get_or-take}
use Rattle.std.proofs.lemmas.List.Folds.{list_all-append}
use Rattle.base_core.specs.Words.{same_name}
use Rattle.base_core.specs.Users.{same_user}
use Rattle.base_core.specs.Privileges.{same_kind}
use Rattle.base_core.specs.declared.name.Name.{Name}
use Rattle.base_core.specs.declared.name.User.{User}
use Rattle.grants_core.specs.declared.grant.Grant.{Grant}
use Rattle.dump_core.specs.Grouped.{Group, members, with_member}
use Rattle.dump_core.specs.Dump.{are_few_names, are_made_alike, grantees, are_of_one_atom}
use Rattle.dump_core.proofs.Grouping.{Grows}
use Rattle.dump_core.proofs.Lengthened.{few-more, unit-right}

-- the name of whom a grant is to
abbrev grantee_name : Grant → Name
grantee_name g = g.grantee.0

names_of : (gs : List Grant) → map (λ (u : User). u.0) (map (λ (g : Grant). g.grantee) gs) ≡ map grantee_name gs
names_of [] = refl
names_of (g ∷ gs) = ap (λ k. g.grantee.0 ∷ k) (names_of gs)

any_name : (name : Name) (gs : List Grant) → list_any (λ n. same_name n name) (map grantee_name gs) ≡ list_any (λ (g : Grant). same_name g.grantee.0 name) gs
any_name name [] = refl
any_name name (g ∷ gs) = ap (λ b. same_name g.grantee.0 name || b) (any_name name gs)

pub together : (a t x : Bool) → a ≡ true → ((a && (t && true)) && x) ≡ (t && x)
together true t x h = ap (λ b. b && x) (unit-right t)
together false t x h = cc

-- **a grant goes on with those of one atom where it is made as the first, of the same atom, to one more user**
pub joins-atom : (group : Group Grant) (next : Grant) → are_of_one_atom group ≡ true → are_of_one_atom (with_member group next)
    ≡ ((are_made_alike group.first next && same_kind group.first.atom.kind next.atom.kind)
    && (ltb (length (members group)) 16 && not (list_any (λ g. same_user g.grantee next.grantee) (members group))))
joins-atom group next h =
    let f : Grant = group.first in
    let test : Grant → Bool = λ g. are_made_alike f g && same_kind f.atom.kind g.atom.kind in
    let gs : List Grant = members group in
    let names : List Name = map grantee_name gs in
    let name : Name = next.grantee.0 in
    let parts = and_parts (list_all test group.others) (are_few_names 16 (map (λ u. u.0) (grantees group))) h in
    let few : are_few_names 16 names ≡ true = ap (are_few_names 16) (sym (names_of gs)) ∙ parts.1 in
    let made : list_all test (group.others ++ next ∷ []) ≡ (list_all test group.others && (test next && true)) = list_all-append test group.others (next ∷ []) in
    let all_names : map (λ (u : User). u.0) (grantees (with_member group next)) ≡ names ++ name ∷ [] = names_of (gs ++ next ∷ []) ∙ map-append grantee_name gs (next ∷ []) in
    let fewer : are_few_names 16 (map (λ (u : User). u.0) (grantees (with_member group next))) ≡ (ltb (length gs) 16 && not (list_any (λ g. same_user g.grantee next.grantee) gs)) =
    ap (are_few_names 16) all_names
    ∙ few-more 16 names name few
    ∙ ap (λ (n : ℕ). ltb n 16 && not (list_any (λ n. same_name n name) names)) (length-map gs grantee_name)
    ∙ ap (λ b. ltb (length gs) 16 && not b) (any_name name gs) in
    ap (λ b. b && are_few_names 16 (map (λ u. u.0) (grantees (with_member group next)))) made
    ∙ together (list_all test group.others) (test next) (are_few_names 16 (map (λ u. u.0) (grantees (with_member group next)))) parts.0
    ∙ ap (λ b. test next && b) fewer

-- the first of the first n
pub first-of_these : (group : Group Grant) (grants : List Grant) (n : ℕ) (f : Grant) → members group ≡ take n grants → 0 < n → f ≡ get_or grants 0 f → group.first ≡ f
first-of_these group grants n f of_these some at =
    ap (λ k. get_or k 0 f) of_these ∙ get_or-take n grants 0 f some ∙ sym at

-- what is tested of the first n, where they are a group
pub tested : (grants : List Grant) (n : ℕ) (g : Grows are_of_one_atom grants n) (f next : Grant) → f ≡ get_or grants 0 f → are_of_one_atom (with_member g.group next)
    ≡ ((are_made_alike f next && same_kind f.atom.kind next.atom.kind)
    && (ltb (length (take n grants)) 16 && not (list_any (λ g. same_user g.grantee next.grantee) (take n grants))))
tested grants n g f next at =
    joins-atom g.group next g.passes
    ∙ ap (λ (k : Grant). (are_made_alike k next && same_kind k.atom.kind next.atom.kind) && (ltb (length (members g.group)) 16 && not (list_any (λ g. same_user g.grantee next.grantee) (members g.group)))) (first-of_these g.group grants n f g.of_these g.some at)
    ∙ ap (λ (k : List Grant). (are_made_alike f next && same_kind f.atom.kind next.atom.kind) && (ltb (length k) 16 && not (list_any (λ g. same_user g.grantee next.grantee) k))) g.of_these
