-- What holds of a revocation, whether grants go or lose their option.
use Rattle.std.proofs.Common.{◌≡◌, ◌||◌, ℕ, Bool, List, [], ◌∷◌, Option, Some, None, sym}
use Rattle.base_core.specs.declared.name.User.{User}
use Rattle.base_core.specs.declared.privilege.Atom.{Atom}
use Rattle.grants_core.specs.Valid.{valid}
use Rattle.grants_core.specs.declared.grant.Grant.{Grant}
use Rattle.grants_core.specs.declared.grant.Ownership.{Ownership}
use Rattle.links_core.specs.declared.link.Link.{Link}
use Rattle.links_core.specs.Links.{comes_from}
use Rattle.graph_core.specs.Indices.{Indexed, IsUserIndex, IsAtomIndex, AreApart}
use Rattle.graph_core.specs.Pruning.{SupportedBut, is_of_another, is_between, Falls, AreInOrder}
use Rattle.graph_core.specs.Revocation.{grants_of_links, links_after, grants_after, AreUpheld}
use Rattle.graph_core.specs.declared.revocation.Loss.{Loss}
use Rattle.graph_core.specs.declared.revocation.Loss.TheVariants as losses
use Rattle.graph_core.proofs.FallLemmas.{IsOwnerIndex}
use Rattle.graph_core.proofs.PruningLemmas.{AreInOrder-filter, SupportedBut-removed}
use Rattle.graph_core.proofs.NamedLemmas.{between_none, revoked-user, revoked-atom, without-nobody, without-nothing, unnamed_by, unnamed_atom, revoked_between}
use Rattle.graph_core.proofs.OptionLemmas.{AreInOrder-off, SupportedBut-off, between_none-off, unoptioned-user, unoptioned-atom, options_off-nobody, options_off-nothing, unoptioned_by, unoptioned_atom, unoptioned_between}

pub AreInOrder-after : (loss : Loss) (named : Link → Bool) (links : List Link) → AreInOrder links → AreInOrder (links_after loss named links)
AreInOrder-after losses.Grant named links h = AreInOrder-filter _ links h
AreInOrder-after losses.Option named links h = AreInOrder-off named links h

pub SupportedBut-after : (loss : Loss) (o : Option ℕ) (by user a : ℕ) (links : List Link) → SupportedBut o links (is_of_another a) → SupportedBut o (links_after loss (is_between by (Some user) a) links) (λ l. is_of_another a l || comes_from user a l)
SupportedBut-after losses.Grant o by user a links h = SupportedBut-removed o by user a links h
SupportedBut-after losses.Option o by user a links h = SupportedBut-off o by user a links h

-- links to nobody are none
pub between_none-after : (loss : Loss) (by a : ℕ) (links : List Link) → links_after loss (is_between by None a) links ≡ links
between_none-after losses.Grant by a links = between_none by a links
between_none-after losses.Option by a links = between_none-off by a links

-- from the first user, and then from the others
pub after-user : (loss : Loss) (o : List Ownership) (by : User) (atoms : List Atom) (user : User) (rest : List User) (now new : List Grant) → new ≡ valid o (grants_after loss by atoms (user ∷ []) now) → valid o (grants_after loss by atoms rest new) ≡ valid o (grants_after loss by atoms (user ∷ rest) now)
after-user losses.Grant o by atoms user rest now new is = revoked-user o by atoms user rest now new is
after-user losses.Option o by atoms user rest now new is = unoptioned-user o by atoms user rest now new is

-- of the first privilege, and then of the others
pub after-atom : (loss : Loss) (o : List Ownership) (by : User) (atom : Atom) (rest : List Atom) (whom : List User) (now new : List Grant) → new ≡ valid o (grants_after loss by (atom ∷ []) whom now) → valid o (grants_after loss by rest whom new) ≡ valid o (grants_after loss by (atom ∷ rest) whom now)
after-atom losses.Grant o by atom rest whom now new is = revoked-atom o by atom rest whom now new is
after-atom losses.Option o by atom rest whom now new is = unoptioned-atom o by atom rest whom now new is

pub after-nobody : (loss : Loss) (by : User) (atoms : List Atom) (gs : List Grant) → grants_after loss by atoms [] gs ≡ gs
after-nobody losses.Grant by atoms gs = without-nobody by atoms gs
after-nobody losses.Option by atoms gs = options_off-nobody by atoms gs

pub after-nothing : (loss : Loss) (by : User) (whom : List User) (gs : List Grant) → grants_after loss by [] whom gs ≡ gs
after-nothing losses.Grant by whom gs = without-nothing by whom gs
after-nothing losses.Option by whom gs = options_off-nothing by whom gs

-- where the grantor has no index, or the privilege has none, all stay
pub after-by : (loss : Loss) (indexed : Indexed) (owners : List Ownership) (by : User) (atoms : List Atom) (whom : List User) (links : List Link) → AreUpheld indexed owners links → IsUserIndex indexed by None → grants_of_links indexed links ≡ valid owners (grants_after loss by atoms whom (grants_of_links indexed links))
after-by losses.Grant indexed owners by atoms whom links upheld missing = unnamed_by indexed owners by atoms whom links upheld missing
after-by losses.Option indexed owners by atoms whom links upheld missing = unoptioned_by indexed owners by atoms whom links upheld missing

pub after-missing : (loss : Loss) (indexed : Indexed) (owners : List Ownership) (by : User) (atom : Atom) (whom : List User) (links : List Link) → AreUpheld indexed owners links → IsAtomIndex indexed atom None → grants_of_links indexed links ≡ valid owners (grants_after loss by (atom ∷ []) whom (grants_of_links indexed links))
after-missing losses.Grant indexed owners by atom whom links upheld missing = unnamed_atom indexed owners by atom whom links upheld missing
after-missing losses.Option indexed owners by atom whom links upheld missing = unoptioned_atom indexed owners by atom whom links upheld missing

-- **a revocation of one privilege from one user**
pub record IsLost (loss : Loss) (indexed : Indexed) (owners : List Ownership) (old new : List Link) (by user : User) (atom : Atom) : Type 0 where
  pub upheld : AreUpheld indexed owners new
  pub valid_is : grants_of_links indexed new ≡ valid owners (grants_after loss by (atom ∷ []) (user ∷ []) (grants_of_links indexed old))

pub lost_between : (loss : Loss) (indexed : Indexed) → AreApart indexed → (owners : List Ownership) (by user : User) (atom : Atom) (owner : Option ℕ) (b : ℕ) (u : Option ℕ) (a : ℕ)
    → IsOwnerIndex indexed owners atom owner → IsUserIndex indexed by (Some b) → IsUserIndex indexed user u → IsAtomIndex indexed atom (Some a)
    → (old new : List Link) → AreUpheld indexed owners old → AreInOrder new
    → Falls owner a (links_after loss (is_between b u a) old) new → SupportedBut owner new (is_of_another a) → IsLost loss indexed owners old new by user atom
lost_between losses.Grant indexed apart owners by user atom owner b u a owner_is by_is user_is atom_is old new upheld ordered falls supported =
    let h = revoked_between indexed apart owners by user atom owner b u a owner_is by_is user_is atom_is old new upheld ordered falls supported in
    record { upheld = h.upheld; valid_is = h.valid_is }
lost_between losses.Option indexed apart owners by user atom owner b u a owner_is by_is user_is atom_is old new upheld ordered falls supported =
    let h = unoptioned_between indexed apart owners by user atom owner b u a owner_is by_is user_is atom_is old new upheld ordered falls supported in
    record { upheld = h.upheld; valid_is = h.valid_is }
