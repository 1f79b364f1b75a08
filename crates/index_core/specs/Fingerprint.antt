-- The keys by which single values are looked up.
use Rattle.std.specs.Prelude.{ℕ, ◌+◌, ◌*◌, ◌%◌, ◌^◌}
use Rattle.std.specs.List.{fold}
use Rattle.base_core.specs.declared.value.Value.{Value}
use Rattle.base_core.specs.declared.value.Value.TheVariants as values
use Rattle.index_core.specs.Rank.{above_lowest}

-- a fingerprint with one more byte
abbrev pub stirred : ℕ → ℕ → ℕ
stirred so_far byte = (so_far * 1099511628211 % 2 ^ 64 + byte) % 2 ^ 64

-- a number of its own for each number, or what the bytes of a text come to
abbrev pub fingerprint : Value → ℕ
fingerprint (values.Int number) = above_lowest number
fingerprint (values.Text bytes) = fold stirred 0 bytes
