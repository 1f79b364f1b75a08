-- Which links have lost their support, and what pruning leaves.
use Rattle.std.specs.Prelude.{◌≡◌, ◌≤◌, ℕ, Bool, true, false, not, ◌&&◌, ◌||◌, ◌==◌, nat_lt, List, [], ◌∷◌, Option}
use Rattle.std.specs.List.{AllByRecursion, list_any}
use Rattle.links_core.specs.Links.{goes_to, comes_from}
use Rattle.links_core.specs.Lists.{TakesOut}
use Rattle.links_core.specs.declared.link.Link.{Link}
use Rattle.graph_core.specs.Indices.{is_index}

-- whether the first link lets the grantor of the other make that: it gives him the same privilege
-- with the option, at an earlier moment
abbrev pub link_supports : Link → Link → Bool
link_supports h l = h.option && nat_lt h.moment.0 l.moment.0 && goes_to l.grantor l.atom h

-- whether the owner made the link, or one of the links supports it
abbrev pub is_link_supported : Option ℕ → List Link → Link → Bool
is_link_supported owner links l =
    is_index owner l.grantor || list_any (λ h. link_supports h l) links

-- each link has support among the links, but for those that are excused. The owner is that of one
-- privilege's table, so links of others are excused.
abbrev pub SupportedBut : Option ℕ → List Link → (Link → Bool) → Type 0
SupportedBut owner links excused =
    AllByRecursion (λ l. (is_link_supported owner links l || excused l) ≡ true) links

-- whether the link is of another privilege
abbrev pub is_of_another : ℕ → Link → Bool
is_of_another atom l = not (l.atom == atom)

-- none that the user made of the privilege lacks support
abbrev pub IsSettled : Option ℕ → List Link → ℕ → ℕ → Type 0
IsSettled owner links user atom =
    AllByRecursion
    (λ l. (comes_from user atom l && not (is_link_supported owner links l)) ≡ false)
    links

-- whether the one user made the link, of the privilege, to the other, if he was found
abbrev pub is_between : ℕ → Option ℕ → ℕ → Link → Bool
is_between by user atom l = l.grantor == by && (l.atom == atom && is_index user l.grantee)

-- links of the privilege were taken out, one after the other, none of which had support any more
pub data Falls (owner : Option ℕ) (atom : ℕ) : List Link → List Link → Type 0 where
  none : {links : List Link} → Falls owner atom links links
  one : {link : Link} {links rest left : List Link} → TakesOut link links rest
      → link.atom ≡ atom → is_link_supported owner links link ≡ false
      → Falls owner atom rest left → Falls owner atom links left

-- no link is followed by one of an earlier moment
abbrev pub AreInOrder : List Link → Type 0
AreInOrder [] = Unit {0}
AreInOrder (l ∷ ls) = AllByRecursion (λ m. l.moment.0 ≤ m.moment.0) ls × AreInOrder ls
