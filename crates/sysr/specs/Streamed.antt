-- What `sysr stream` has written.
use Rattle.std.specs.Prelude.{ℕ, List, Option, Ok}
use Rattle.std.proofs.Common.{Vec, Global}
use Rattle.base_core.specs.declared.limits.Limits.{Limits}
use Rattle.stream_core.specs.Streaming.{EndsStream}

-- all was read, and what each change did was told, but for the moments up to this one
abbrev pub IsStreamed : Limits → ℕ → (left left' taken taken' : Option (List ℕ)) → Type 0
IsStreamed limits from left left' taken taken' =
    (cut : Option (Vec ℕ Global)) × EndsStream 16 limits from (Ok cut) left left' taken taken'
