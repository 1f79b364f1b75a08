use Rattle.std.proofs.Common.{◌≡◌, ℕ, ◌*◌, List, [], ◌∷◌, length, flat_map, refl, arith}
use Rattle.std.proofs.lemmas.List.{length-append}
use Rattle.messages_core.specs.Fields.{int32}
use Rattle.messages_core.proofs.rows.write_parameter_description.Goals as goal

int32s_length : (ns : List ℕ) → length (flat_map int32 ns) ≡ 4 * length ns
int32s_length [] = refl
int32s_length (n ∷ ns) = omega (arith, int32s_length ns, length-append (int32 n) (flat_map int32 ns))

pub write_counted-requires-clause-short : goal.write_counted-requires-clause-short
write_counted-requires-clause-short g c = omega (arith, int32s_length c.args.types.now, c.requires.few)
