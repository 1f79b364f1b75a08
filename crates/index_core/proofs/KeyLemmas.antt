-- No key takes more than 64 bits.
use Rattle.std.proofs.Common.{ℕ, ◌-◌, ◌^◌, ◌<◌, ◌≤◌, List, [], ◌∷◌, arith}
use Rattle.std.specs.List.{fold}
use Rattle.base_core.specs.declared.value.Value.{Value}
use Rattle.base_core.specs.declared.value.Value.TheVariants as values
use Rattle.index_core.specs.Fingerprint.{stirred}
use Rattle.index_core.specs.Keys.{key_of}
use Rattle.index_core.specs.Rank.{rank}
use Rattle.index_core.specs.declared.key.Key.{Key}
use Rattle.index_core.specs.declared.key.Key.TheVariants as keys
use Rattle.index_core.proofs.RankLemmas.{rank-below}

folded-below : (so_far : ℕ) (bytes : List ℕ) → so_far < 2 ^ 64 → fold stirred so_far bytes < 2 ^ 64
folded-below so_far [] h = h
folded-below so_far (b ∷ bs) h = folded-below (stirred so_far b) bs (omega arith)

pub key-below : (k : Key) (v : Value) → key_of k v ≤ 2 ^ 64 - 1
unfolding key_of rank
key-below keys.Rank v = rank-below v
key-below keys.Fingerprint (values.Int z) = rank-below (values.Int z)
key-below keys.Fingerprint (values.Text t) = let below = folded-below 0 t (omega arith) in omega (arith, below)
