use Rattle.std.proofs.Common.{length, subst, arith}
use Rattle.std.proofs.lemmas.List.{take_all}
use Rattle.system_core.proofs.Sound.{rows-at, names-at}
use Rattle.system_core.proofs.Owning.{OwnersStand, owners-at}
use Rattle.system_core.proofs.laws.tables_are_sound.Goals as goal

pub returns : goal.returns
returns c = record {
  rows = rows-at;
  names = names-at;
  owners = λ limits journal name lawful. subst OwnersStand (take_all (length journal) journal (omega arith)) (owners-at limits journal (record { 0 = length journal }) lawful) name;
}
