use Rattle.std.proofs.Common.{◌∙◌, sym}
use Rattle.std.proofs.lemmas.Bool.{both_ways}
use Rattle.dump_core.proofs.Steps.{judged, in_room}
use Rattle.dump_core.proofs.OneDump.{same-answer}
use Rattle.dump_core.proofs.laws.alike_judge_alike.Goals as goal

pub returns : goal.returns
returns c = record {
  changes = λ limits a b user asked h room_a room_b. judged limits a b h user asked (λ _. in_room limits a room_a ∙ sym (in_room limits b room_b));
  queries = λ limits a b user asked h none. judged limits a b h user asked (λ change. absurd (both_ways _ none change));
  rows = same-answer;
}
