-- More users and privileges leave the grants as they are for which links stand.
use Rattle.std.proofs.Common.{◌≡◌, ◌∙◌, ℕ, ◌<◌, ◌≤◌, ◌+◌, List, [], ◌∷◌, ◌++◌, length, get_or, map, refl, sym, ap, arith, append_assoc, length-append}
use Rattle.std.specs.List.{AllByRecursion}
use Rattle.std.proofs.lemmas.List.{append-nil, get_or_append_left}
use Rattle.base_core.specs.declared.name.Name.{Name}
use Rattle.base_core.specs.declared.privilege.Atom.{Atom}
use Rattle.grants_core.specs.declared.grant.Grant.{Grant}
use Rattle.links_core.specs.declared.link.Link.{Link}
use Rattle.links_core.proofs.EndsLemmas.{all_implied}
use Rattle.grants_core.specs.declared.key.Key.{Key}
use Rattle.graph_core.specs.Indices.{Indexed, user_at, atom_at, grant_of, IsWithin, Extends}

pub extends_same : (a : Indexed) → Extends a a
extends_same a = record { users = []; atoms = []; users_are = sym (append-nil a.users); atoms_are = sym (append-nil a.atoms) }

pub extends_then : (a b c : Indexed) → Extends a b → Extends b c → Extends a c
extends_then a b c h k = record {
  users = h.users ++ k.users;
  atoms = h.atoms ++ k.atoms;
  users_are = k.users_are ∙ ap (λ l. l ++ k.users) h.users_are ∙ append_assoc a.users h.users k.users;
  atoms_are = k.atoms_are ∙ ap (λ l. l ++ k.atoms) h.atoms_are ∙ append_assoc a.atoms h.atoms k.atoms;
}

longer : {A : Type 0} (xs more ys : List A) → ys ≡ xs ++ more → length xs ≤ length ys
longer xs more ys h = let e : length ys ≡ length xs + length more = ap length h ∙ length-append xs more in omega (arith, e)

kept_at : {A : Type 0} (xs more ys : List A) (i : ℕ) (d : A) → ys ≡ xs ++ more → i < length xs → get_or ys i d ≡ get_or xs i d
kept_at xs more ys i d h lt = ap (λ l. get_or l i d) h ∙ get_or_append_left xs more d i lt

pub user_kept : (old new : Indexed) (i : ℕ) → Extends old new → i < length old.users → user_at new i ≡ user_at old i
user_kept old new i h lt = ap (λ (n : Name). record { 0 = n }) (kept_at old.users h.users new.users i [] h.users_are lt)

pub atom_kept : (old new : Indexed) (i : ℕ) → Extends old new → i < length old.atoms → atom_at new i ≡ atom_at old i
atom_kept old new i h lt = ap (λ (k : Key). k.0) (kept_at old.atoms h.atoms new.atoms i _ h.atoms_are lt)

pub within_kept : (old new : Indexed) (l : Link) → Extends old new → IsWithin old l → IsWithin new l
within_kept old new l h w =
    let users = longer old.users h.users new.users h.users_are in
    let atoms = longer old.atoms h.atoms new.atoms h.atoms_are in
    let a = w.atom in
    let r = w.grantor in
    let e = w.grantee in
    record { atom = omega (arith, atoms, a); grantor = omega (arith, users, r); grantee = omega (arith, users, e) }

-- grants are the same whose parts are
pub same_grant : (l : Link) (a b : Indexed) → atom_at a l.atom ≡ atom_at b l.atom → user_at a l.grantor ≡ user_at b l.grantor → user_at a l.grantee ≡ user_at b l.grantee → grant_of a l ≡ grant_of b l
same_grant l a b atom grantor grantee =
    let from : (x : Atom) → Grant = λ x. record { number = l.number; moment = l.moment; atom = x; grantor = user_at a l.grantor; grantee = user_at a l.grantee; option = l.option } in
    ap from atom
    ∙ ap (λ u. record { number = l.number; moment = l.moment; atom = atom_at b l.atom; grantor = u; grantee = user_at a l.grantee; option = l.option }) grantor
    ∙ ap (λ u. record { number = l.number; moment = l.moment; atom = atom_at b l.atom; grantor = user_at b l.grantor; grantee = u; option = l.option }) grantee

pub grant_kept : (old new : Indexed) (l : Link) → Extends old new → IsWithin old l → grant_of new l ≡ grant_of old l
grant_kept old new l h w = same_grant l new old (atom_kept old new l.atom h w.atom) (user_kept old new l.grantor h w.grantor) (user_kept old new l.grantee h w.grantee)

pub all_within_kept : (old new : Indexed) (links : List Link) → Extends old new → AllByRecursion (IsWithin old) links → AllByRecursion (IsWithin new) links
all_within_kept old new links h = all_implied (IsWithin old) (IsWithin new) links (λ l w. within_kept old new l h w)

-- **the same grants**
pub grants_kept : (old new : Indexed) (links : List Link) → Extends old new → AllByRecursion (IsWithin old) links → map (grant_of new) links ≡ map (grant_of old) links
grants_kept old new [] h w = refl
grants_kept old new (l ∷ ls) h w =
    ap (λ g. g ∷ map (grant_of new) ls) (grant_kept old new l h w.0) ∙ ap (λ k. grant_of old l ∷ k) (grants_kept old new ls h w.1)
