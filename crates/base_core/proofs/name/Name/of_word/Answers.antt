use Rattle.std.proofs.Common.{◌≡◌, ◌≤◌, true, length, arith, subst, sym}
use Rattle.std.proofs.lemmas.Bool.Decides.{nat_tests}
use Rattle.base_core.specs.Words.{IsName, is_name}
use Rattle.base_core.proofs.Filled.{all_laid, filled, less_rest, more_front, read_back, same_size}
use Rattle.base_core.proofs.Folded.{IsName-folded}
use Rattle.base_core.proofs.name.Name.of_word.Goals as goal

pub loop-at-preserved : goal.loop-at-preserved
loop-at-preserved c =
    let word = c.args.word.now in
    let named : is_name word ≡ true = c.requires in
    let short : length word ≤ 30 = grind (arith, nat_tests) in
    let l = c.loop-at in
    let small = c.to_ascii_lowercase.ensures.value in
    record {
      size = same_size word l.bytes l.at c.to_ascii_lowercase.result l.invariant.size c.loop-at-test.true short small;
      front = more_front word l.bytes l.at c.to_ascii_lowercase.result l.invariant.size c.loop-at-test.true short small l.invariant.front;
      rest = less_rest word l.bytes l.at c.to_ascii_lowercase.result l.invariant.size c.loop-at-test.true short small l.invariant.rest;
    }

pub invariant_of-result : goal.invariant_of-result
invariant_of-result c =
    let word = c.args.word.now in
    let named : is_name word ≡ true = c.requires in
    let short : length word ≤ 30 = grind (arith, nat_tests) in
    let l = c.loop-at in
    let laid = all_laid word l.bytes l.at (omega (arith, c.loop-at-test.false)) (omega (arith, l.auto.at-end)) l.invariant.front l.invariant.rest in
    record {
      padded = filled word l.bytes laid short;
      name = subst IsName (sym (read_back word l.bytes laid short)) (IsName-folded word named);
    }
