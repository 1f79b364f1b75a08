-- The keys under which an index keeps values.
use Rattle.std.specs.Prelude.{ℕ}
use Rattle.base_core.specs.declared.value.Value.{Value}
use Rattle.index_core.specs.Fingerprint.{fingerprint}
use Rattle.index_core.specs.Rank.{rank}
use Rattle.index_core.specs.declared.key.Key.{Key}
use Rattle.index_core.specs.declared.key.Key.TheVariants as keys

-- the key of a value
unfoldable pub key_of : Key → Value → ℕ
key_of keys.Fingerprint value = fingerprint value
key_of keys.Rank value = rank value
