-- What contracts see of a queue.
use Rattle.std.specs.Prelude.{ℕ, ◌+◌, List, length}
use Rattle.sending_core.specs.declared.item.Item.{Item}

-- the items, the first one first, and for how many more there is room
pub record Queue : Type 0 where
  pub items : List Item
  pub room : ℕ

-- how many items there is room for, with those that wait
abbrev pub capacity : Queue → ℕ
capacity queue = length queue.items + queue.room
