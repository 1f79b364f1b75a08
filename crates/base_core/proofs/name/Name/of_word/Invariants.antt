use Rattle.std.proofs.Common.{◌≡◌, length, map, take, drop}
use Rattle.std.specs.Char.{to_ascii_lowercase}
use Rattle.base_core.proofs.Filled.{zeros}
use Rattle.base_core.proofs.name.Name.of_word.Given as goal

abbrev pub invariant-loop-at : goal.invariant-loop-at
invariant-loop-at l = record {
  size : length l.bytes ≡ 30;
  front : take l.at l.bytes ≡ map to_ascii_lowercase (take l.at l.word);
  rest : drop l.at l.bytes ≡ drop l.at (zeros 30);
}
