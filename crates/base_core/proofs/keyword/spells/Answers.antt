use Rattle.std.proofs.Common.{arith, sym}
use Rattle.std.proofs.lemmas.Bool.{false_from_ne_true}
use Rattle.std.proofs.lemmas.Slice.Eq.{bytes_eq-Decides}
use Rattle.base_core.specs.Words.{folded}
use Rattle.base_core.proofs.Capitals.{all_agree, each_agrees, one_length}
use Rattle.base_core.proofs.keyword.spells.Goals as goal

pub returns-then-word-capitals : goal.returns-then-word-capitals
returns-then-word-capitals c =
    let decides = bytes_eq-Decides (folded c.args.capitals.now) (folded c.args.word.now) in
    sym (false_from_ne_true _ (λ e. c.if-word-capitals.true (one_length c.args.capitals.now c.args.word.now c.requires (λ i. omega (arith, c.type_inv.word i)) (decides.0 e))))

pub returns-then-word-i : goal.returns-then-word-i
returns-then-word-i c =
    let decides = bytes_eq-Decides (folded c.args.capitals.now) (folded c.args.word.now) in
    sym (false_from_ne_true _
    (λ e. c.if-word-i.true (each_agrees c.args.capitals.now c.args.word.now c.requires (λ i. omega (arith, c.type_inv.word i)) c.loop-i.i c.loop-i-test.true (decides.0 e))))

pub returns : goal.returns
returns c =
    let decides = bytes_eq-Decides (folded c.args.capitals.now) (folded c.args.word.now) in
    sym (decides.1 (all_agree c.args.capitals.now c.args.word.now c.requires (λ i. omega (arith, c.type_inv.word i)) c.loop-i.i (omega (arith, c.loop-i-test.false)) c.loop-i.invariant))
