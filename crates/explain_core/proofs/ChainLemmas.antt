-- Chains of grants in force, from below.
use Rattle.std.proofs.Common.{◌≡◌, ℕ, true, not, ◌&&◌, List, [], ◌∷◌, ◌++◌, Option, Some, None, is_some, refl, sym, ap, subst}
use Rattle.std.specs.List.{All, Contains, slice_get}
use Rattle.std.proofs.lemmas.Bool.{and_parts, and_from}
use Rattle.std.proofs.lemmas.List.Elements.{All-nil, All-cons}
use Rattle.base_core.specs.Users.{same_user}
use Rattle.base_core.specs.Privileges.{same_atom}
use Rattle.grants_core.specs.declared.grant.Grant.{Grant}
use Rattle.grants_core.specs.declared.grant.Change.{Change}
use Rattle.grants_core.specs.Valid.{supports}
use Rattle.grants_core.specs.History.{in_force_after, owners_after}
use Rattle.explain_core.specs.declared.life.Life.{Life}
use Rattle.explain_core.specs.Life.{left}
use Rattle.grants_core.specs.Lawful.{AreLawful}
use Rattle.explain_core.specs.Lives.{lives_of}
use Rattle.explain_core.specs.Chains.{EachSupportsNext, IsChain}
use Rattle.explain_core.specs.Kept.{SupportsLife, IsByOwner}
use Rattle.explain_core.proofs.LifeLemmas.{life-in_force, life-standing}

-- A line of grants in force, from what is left of the life at this place down to that of the last.
pub record StandsFrom (changes : List Change) (place : ℕ) (last : Life) (line : List Grant) : Type 0 where
  pub top : Life
  pub at : slice_get (lives_of changes) place ≡ Some top
  pub stands : top.fell ≡ None
  pub first : (more : List Grant) × (line ≡ left top ∷ more)
  pub in_force : All (λ g. Contains (in_force_after changes) g) line
  pub linked : EachSupportsNext line
  pub ends : (front : List Grant) × (line ≡ front ++ left last ∷ [])

pub supports-option : (h g : Grant) → supports h g ≡ true → h.option ≡ true
unfolding supports
supports-option h g s = (and_parts h.option (same_atom h.atom g.atom) (and_parts (h.option && same_atom h.atom g.atom) (same_user h.grantee g.grantor) (and_parts _ _ s).0).0).0

-- where its option has not ended, a support is one as it is left
supports-left : (above life : Life) → supports above.grant life.grant ≡ true → above.option_end ≡ None → supports (left above) (left life) ≡ true
unfolding supports
supports-left above life s kept =
    let h : Grant = above.grant in
    let g : Grant = life.grant in
    let three = and_parts (h.option && same_atom h.atom g.atom && same_user h.grantee g.grantor) _ s in
    let two = and_parts (h.option && same_atom h.atom g.atom) (same_user h.grantee g.grantor) three.0 in
    let one = and_parts h.option (same_atom h.atom g.atom) two.0 in
    let option : not (is_some above.option_end) ≡ true = ap (λ (o : Option _). not (is_some o)) kept in
    and_from _ _ (and_from _ _ (and_from _ _ option one.1) two.1) three.1

module _ (changes : List Change) (lawful : AreLawful changes) where
  pub stands_alone : (place : ℕ) (life : Life) → slice_get (lives_of changes) place ≡ Some life → life.fell ≡ None → StandsFrom changes place life (left life ∷ [])
  stands_alone place life at stands = record {
    top = life;
    at = at;
    stands = stands;
    first = ([], refl);
    in_force = All-cons (λ g. Contains (in_force_after changes) g) (left life) [] (life-in_force changes place life lawful at stands) (All-nil (λ g. Contains (in_force_after changes) g));
    linked = tt;
    ends = ([], refl);
  }

  -- the line with the support of its first
  pub stands_above : (place support : ℕ) (last above : Life) (line : List Grant) (from : StandsFrom changes place last line) → slice_get (lives_of changes) support ≡ Some above → SupportsLife changes above from.top → StandsFrom changes support last (left above ∷ line)
  stands_above place support last above line from at is =
      let kept : above.option_end ≡ None = is.stands from.stands in
      let stands : above.fell ≡ None = life-standing changes support above lawful at kept in
      let Linked : List Grant → Type 0 = λ k. EachSupportsNext k → EachSupportsNext (left above ∷ k) in
      record {
        top = above;
        at = at;
        stands = stands;
        first = (line, refl);
        in_force = All-cons (λ g. Contains (in_force_after changes) g) (left above) line (life-in_force changes support above lawful at stands) from.in_force;
        linked = subst Linked (sym from.first.1) (λ rest. (supports-left above from.top is.supports kept, rest)) from.linked;
        ends = (left above ∷ from.ends.0, ap (λ k. left above ∷ k) from.ends.1);
      }

  -- it is a chain once its first is by the owner
  pub chain_from : (place : ℕ) (last : Life) (line : List Grant) (from : StandsFrom changes place last line) → IsByOwner changes (owners_after changes) from.top → IsChain changes line (left last)
  chain_from place last line from is = record {
    in_force = from.in_force;
    linked = from.linked;
    begins = (left from.top, from.first.0, from.first.1, is.owns);
    ends = from.ends;
  }
