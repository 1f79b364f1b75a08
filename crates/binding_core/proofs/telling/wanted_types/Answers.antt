use Rattle.std.proofs.Common.{◌≡◌, ◌∙◌, ℕ, Some, length, get_or, ap, sym, arith}
use Rattle.std.specs.Prelude.{unwrap_or}
use Rattle.std.proofs.lemmas.List.{get_or_default}
use Rattle.base_core.specs.declared.value.ColType.TheVariants as types_of
use Rattle.binding_core.specs.Telling.{told_type}
use Rattle.binding_core.proofs.Told.{all_wanted, one_more}
use Rattle.binding_core.proofs.telling.wanted_types.Goals as goal

pub loop-guess-preserved : goal.loop-guess-preserved
loop-guess-preserved c =
    let k = c.loop-guess.guess-index in
    let guessed = c.args.guessed.now in
    let guess = get_or guessed k types_of.Integer in
    let known : told_type (unwrap_or c.next.result 0) guess ≡ Some c.in-Some.ty = ap (λ (oid : ℕ). told_type oid guess) (sym c.unwrap_or-oid.ensures) ∙ sym c.in-Some.ensures in
    rw c.in_ok-push.ensures.items
    (one_more c.args.told.now c.loop-guess.left c.next.new.self guessed k c.loop-guess.types.items c.loop-guess.invariant c.next.result c.next.ensures.steps
    guess c.loop-guess-test.true (λ d. get_or_default guessed k types_of.Integer d c.loop-guess-test.true) c.in-Some.ty known)

pub returns-clause-types : goal.returns-clause-types
returns-clause-types c =
    let all : c.loop-guess.guess-index ≡ length c.args.guessed.now = omega (arith, c.loop-guess-test.false) in
    all_wanted c.args.told.now c.loop-guess.left c.next-2.new.self c.args.guessed.now c.loop-guess.guess-index c.loop-guess.types.items c.loop-guess.invariant
    c.next-2.result c.next-2.ensures.steps all (sym c.is_some.ensures ∙ c.if-is_some.false)
