-- Slots in three lists: entries and states, one for each slot, and what a capture keeps, which may
-- end before them.
use Rattle.std.specs.Prelude.{◌≡◌, ℕ, ◌≤◌, Bool, true, false, List, [], ◌∷◌, Option, Some, None, length, get_or, refl}
use Rattle.std.specs.Option.{option_or}
use Rattle.std.specs.Coded.{Coded, code_by, coded×, coded_ℕ, coded_list, coded_option}
use Rattle.copyup_core.specs.declared.state.State.{State}
use Rattle.copyup_core.specs.declared.state.State.TheVariants.{Live, Dead, Gone}
use Rattle.copyup_core.specs.Slot.{Slot}

-- what three lists hold: the slots, and how many more have their room
pub record SlotList (V : Type 0) : Type 0 where
  pub items : List (Slot V)
  pub spare : ℕ

-- a slot is stored as its number and its two values
abbrev pub slot_code : {V : Type 0} → Coded V → Coded (Slot V)
slot_code {V} c =
    code_by
    (ℕ × (Option V × Option V))
    (coded× coded_ℕ (coded× (coded_option c) (coded_option c)))
    (λ s. (s.number, (s.live, s.kept)))
    (λ p. record { number = p.0; live = p.1.0; kept = p.1.1 })
    (λ _. refl)

abbrev pub slot_list_code : {V : Type 0} → Coded V → Coded (SlotList V)
slot_list_code {V} c =
    code_by
    (List (Slot V) × ℕ)
    (coded× (coded_list (slot_code c)) coded_ℕ)
    (λ r. (r.items, r.spare))
    (λ p. record { items = p.0; spare = p.1 })
    (λ _. refl)

-- a live slot's value is its item; a dead one's is nothing any more; one that is gone is dead, and
-- its value is what a capture keeps
abbrev pub slot_of : {V : Type 0} → ℕ × V → State → Option V → Slot V
slot_of e Live kept = record { number = e.0; live = Some e.1; kept = kept }
slot_of e Dead kept = record { number = e.0; live = None; kept = kept }
slot_of e Gone kept = record { number = e.0; live = None; kept = option_or kept (Some e.1) }

-- what is kept for the slot at a place
abbrev pub kept_at : {V : Type 0} → ℕ → List (Option V) → Option V
kept_at place kept = get_or kept place None

-- the slots
abbrev pub slots_of : {V : Type 0} → List (ℕ × V) → List State → List (Option V) → List (Slot V)
slots_of [] ss ks = []
slots_of (e ∷ es) [] ks = []
slots_of (e ∷ es) (s ∷ ss) [] = slot_of e s None ∷ slots_of es ss []
slots_of (e ∷ es) (s ∷ ss) (k ∷ ks) = slot_of e s k ∷ slots_of es ss ks

-- whether it is the state of a slot with an item
abbrev pub is_live_state : State → Bool
is_live_state Live = true
is_live_state Dead = false
is_live_state Gone = false

-- the state of a slot once no capture wants anything of it
abbrev pub forgotten : State → State
forgotten Live = Live
forgotten Dead = Dead
forgotten Gone = Dead

-- there is a state for each entry, nothing is kept behind them, and where there is room for an
-- entry there is room in the other two
pub record AreParallel {V : Type 0} (entries : List (ℕ × V)) (states : List State) (kept : List (Option V)) (room states_room kept_room : ℕ) : Type 0 where
  pub states_long : length states ≡ length entries
  pub kept_short : length kept ≤ length entries
  pub states_roomy : room ≤ states_room
  pub kept_roomy : room ≤ kept_room
