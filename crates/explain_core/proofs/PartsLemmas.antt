-- A revocation from many users, in parts.
use Rattle.std.proofs.Common.{◌≡◌, Bool, true, false, not, ◌||◌, ◌&&◌, List, [], ◌∷◌, ◌++◌, refl, sym, ap, ◌∙◌, append_assoc}
use Rattle.std.specs.List.{list_any}
use Rattle.std.proofs.lemmas.List.Folds.{list_any-append}
use Rattle.std.proofs.lemmas.List.Elements.{filter_agree}
use Rattle.base_core.specs.Users.{same_user}
use Rattle.base_core.specs.Privileges.{same_atom}
use Rattle.base_core.specs.declared.name.User.{User}
use Rattle.base_core.specs.declared.privilege.Atom.{Atom}
use Rattle.grants_core.specs.declared.grant.Grant.{Grant}
use Rattle.grants_core.specs.declared.grant.Ownership.{Ownership}
use Rattle.grants_core.specs.declared.grant.Change.{Change}
use Rattle.grants_core.specs.declared.grant.Change.TheVariants as change
use Rattle.grants_core.specs.Valid.{valid}
use Rattle.grants_core.specs.Content.{names, without}
use Rattle.grants_core.specs.History.{owners_after, in_force_after}
use Rattle.explain_core.proofs.ListLemmas.{filter_both}
use Rattle.grants_core.proofs.ValidLemmas.{valid-filter_valid}
use Rattle.grants_core.proofs.HistoryLemmas.{owners-more, in_force-revoke}

either_part : (b p q : Bool) → not (b && (p || q)) ≡ (not (b && p) && not (b && q))
either_part true true q = refl
either_part true false q = refl
either_part false p q = refl

-- a revocation from the ones or the others names what one of the two does
not_named : (by : User) (atoms : List Atom) (some others : List User) (g : Grant) → not (names by atoms (some ++ others) g) ≡ (not (names by atoms some g) && not (names by atoms others g))
unfolding names
not_named by atoms some others g =
    let by_him : Bool = same_user by g.grantor && list_any (λ a. same_atom a g.atom) atoms in
    ap (λ b. not (by_him && b)) (list_any-append (λ u. same_user u g.grantee) some others)
    ∙ either_part by_him (list_any (λ u. same_user u g.grantee) some) (list_any (λ u. same_user u g.grantee) others)

pub without-parts : (by : User) (atoms : List Atom) (some others : List User) (gs : List Grant) → without by atoms (some ++ others) gs ≡ without by atoms others (without by atoms some gs)
without-parts by atoms some others gs =
    filter_agree (λ g. not (names by atoms (some ++ others) g)) (λ g. not (names by atoms some g) && not (names by atoms others g)) (not_named by atoms some others) gs
    ∙ filter_both (λ g. not (names by atoms some g)) (λ g. not (names by atoms others g)) gs

-- **revoking from the ones and then from the others leaves what one revocation from all does**
pub revoked_in_parts : (cs : List Change) (by : User) (atoms : List Atom) (some others : List User) → in_force_after (cs ++ change.Revoke by atoms some ∷ change.Revoke by atoms others ∷ []) ≡ in_force_after (cs ++ change.Revoke by atoms (some ++ others) ∷ [])
revoked_in_parts cs by atoms some others =
    let o : List Ownership = owners_after cs in
    let one : Change = change.Revoke by atoms some in
    let two : Change = change.Revoke by atoms others in
    let kept : List Grant = without by atoms some (in_force_after cs) in
    ap in_force_after (sym (append_assoc cs (one ∷ []) (two ∷ [])))
    ∙ in_force-revoke (cs ++ one ∷ []) by atoms others
    ∙ ap (λ k. valid k (without by atoms others (in_force_after (cs ++ one ∷ [])))) (owners-more cs one)
    ∙ ap (λ k. valid o (without by atoms others k)) (in_force-revoke cs by atoms some)
    ∙ valid-filter_valid o (λ g. not (names by atoms others g)) kept
    ∙ ap (valid o) (sym (without-parts by atoms some others (in_force_after cs)))
    ∙ sym (in_force-revoke cs by atoms (some ++ others))
