-- Which grants of a list are valid: those that their grantor could make.
use Rattle.std.specs.Prelude.{◌≡◌, ◌≤◌, Bool, true, ◌&&◌, ◌||◌, nat_lt, if◌then◌else◌, List, [], ◌∷◌, ◌++◌, fold}
use Rattle.std.specs.List.{AllByRecursion, list_any}
use Rattle.base_core.specs.Users.{same_user}
use Rattle.base_core.specs.Privileges.{same_atom}
use Rattle.grants_core.specs.Owners.{owns}
use Rattle.grants_core.specs.declared.grant.Grant.{Grant}
use Rattle.grants_core.specs.declared.grant.Ownership.{Ownership}

-- Griffiths and Wade 1976: whoever was granted a privilege with the option may from then on grant
-- it. Whether h is such a grant for g: of the same atom, to g's grantor, with the option, at an
-- earlier moment.
unfoldable pub supports : Grant → Grant → Bool
supports h g =
    h.option
    && same_atom h.atom g.atom
    && same_user h.grantee g.grantor
    && nat_lt h.moment.0 g.moment.0

-- whether g's grantor owns the table, or one of the grants supports g
abbrev pub is_supported : List Ownership → List Grant → Grant → Bool
is_supported owners grants g = owns owners g.grantor g.atom || list_any (λ h. supports h g) grants

-- the valid grants so far, and g if they support it
abbrev pub kept_with : List Ownership → List Grant → Grant → List Grant
kept_with owners kept g = if is_supported owners kept g then kept ++ g ∷ [] else kept

-- Griffiths and Wade 1976: a grant is valid where its grantor could make it; Fagin 1978: each of
-- several grants from one user to another is judged, by its own time. The last grant of a list is
-- valid where the valid ones before it support it.
abbrev pub valid : List Ownership → List Grant → List Grant
valid owners grants = fold (kept_with owners) [] grants

-- each of the grants is supported by all of them
abbrev pub AreSupported : List Ownership → List Grant → List Grant → Type 0
AreSupported owners all grants = AllByRecursion (λ g. is_supported owners all g ≡ true) grants

-- no grant is followed by one of an earlier moment
abbrev pub IsInOrder : List Grant → Type 0
IsInOrder [] = Unit {0}
IsInOrder (g ∷ gs) = AllByRecursion (λ h. g.moment.0 ≤ h.moment.0) gs × IsInOrder gs

-- the first list is the second, or the second without some of its grants
pub data IsPart : List Grant → List Grant → Type 0 where
  nothing : IsPart [] []
  with_first : {g : Grant} {xs ys : List Grant} → IsPart xs ys → IsPart (g ∷ xs) (g ∷ ys)
  without_first : {g : Grant} {xs ys : List Grant} → IsPart xs ys → IsPart xs (g ∷ ys)
