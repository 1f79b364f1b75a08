-- The limits of a whole core.
use Rattle.std.specs.Prelude.{◌≡◌, ℕ}
use Rattle.base_core.specs.declared.limits.Limits.{Limits}

-- so many changes, and each other limit is the full number
pub record IsFullBut (changes : ℕ) (limits : Limits) : Type 0 where
  pub changes_are : limits.changes ≡ changes
  pub tables : limits.tables ≡ 1024
  pub grants : limits.grants ≡ 1024
  pub checkpoints : limits.checkpoints ≡ 1000000

-- each limit is the full number
abbrev pub IsFull : Limits → Type 0
IsFull limits = IsFullBut 1000000 limits
