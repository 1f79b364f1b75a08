-- How a text is held.
use Rattle.std.specs.Prelude.{ℕ, ◌≤◌, List, take}
use Rattle.base_core.specs.declared.text.Held.{Held}
use Rattle.base_core.specs.declared.text.Held.TheVariants as held

-- the bytes of the text
abbrev pub held_bytes : Held → List ℕ
held_bytes (held.Short len bytes) = take len bytes
held_bytes (held.Long bytes) = bytes.value.items

-- a short text has at most as many bytes as its place
abbrev pub FitsInPlace : Held → Type 0
FitsInPlace (held.Short len bytes) = len ≤ 14
FitsInPlace (held.Long bytes) = Unit {0}
