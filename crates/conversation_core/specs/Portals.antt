-- Where the portals of a session stand, and which are kept.
use Rattle.std.specs.Prelude.{◌≡◌, ℕ, Bool, true, false, List, [], ◌∷◌, ◌++◌, slice_get, slice_set, Option, Some, None, position}
use Rattle.conversation_core.specs.State.{ConversationState, portal_place, put_portal}
use Rattle.conversation_core.specs.declared.portals.Bound.{Bound}

-- the portal of this name
pub record IsPortalNamed (name : List ℕ) (portals : List (Option Bound)) (portal : Bound)
    : Type 0 where
  pub place : ℕ
  pub found : portal_place name portals ≡ Some place
  pub here : slice_get portals place ≡ Some (Some portal)

-- this stands at the place; the rows that it has left stay
abbrev pub with_portal : ℕ → Option Bound → ConversationState → ConversationState
with_portal place portal old = record old { portals = slice_set old.portals place portal }

abbrev pub is_free : Option Bound → Bool
is_free None = true
is_free (Some portal) = false

-- the first place without a portal
abbrev pub free_place : List (Option Bound) → Option ℕ
free_place portals = position is_free portals

-- where a portal of this name is to stand: in place of the one of its name, or in the first free place
pub data StandsIn (name : List ℕ) (portals : List (Option Bound)) (place : ℕ) : Type 0 where
  replaced : portal_place name portals ≡ Some place → StandsIn name portals place
  placed : portal_place name portals ≡ None → free_place portals ≡ Some place
      → StandsIn name portals place

-- A portal is kept: there, or in a new place where none is free.
pub data KeepsPortal (portal : Bound) (old : ConversationState) : ConversationState → Type 0 where
  put : {place : ℕ} → StandsIn portal.name old.portals place
      → KeepsPortal portal old (put_portal place (Some portal) old)
  added : portal_place portal.name old.portals ≡ None → free_place old.portals ≡ None
      → KeepsPortal portal old
      (record old { portals = old.portals ++ Some portal ∷ []; lefts = old.lefts ++ None ∷ [] })
