use Rattle.std.proofs.Common.{◌≡◌, ◌≤◌, length, refl, rules, arith, pos}
use Rattle.std.proofs.lemmas.List.{ext_get_or}
use Rattle.base_core.specs.declared.value.Value.{Value}
use Rattle.base_core.specs.declared.value.Value.TheVariants as values
use Rattle.stream_core.proofs.rows.have_same_values.Goals as goal

pub returns : goal.returns
returns c =
    let long : length c.args.one.now ≡ length c.args.other.now = search rules in
    let past : length c.args.one.now ≤ c.loop-at.at = search rules in
    let none : Value = values.Int (pos 0) in (
      (λ same. ext_get_or none c.args.one.now c.args.other.now long (λ i within. c.loop-at.invariant i none (omega (arith, within, past)))),
      (λ same. refl),
    )
