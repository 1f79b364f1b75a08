use Rattle.std.proofs.Common.{List, sym, ap, ◌∙◌, arith, subst}
use Rattle.std.proofs.lemmas.List.{with_items_is}
use Rattle.grants_core.specs.declared.grant.Grant.{Grant}
use Rattle.grants_core.specs.Valid.{valid}
use Rattle.grants_core.specs.Numbers.{IsNumbered}
use Rattle.grants_core.specs.Content.{names, options_off}
use Rattle.grants_core.proofs.NumberLemmas.{IsNumbered-options_off, IsNumbered-valid}
use Rattle.grants_core.proofs.replay.ReplayAuthority.revoke_option.Goals as goal

pub invariant_of-self : goal.invariant_of-self
invariant_of-self c =
    let off : List Grant = options_off c.args.by c.args.atoms.now c.args.whom.now c.self.inside.in_force.items in
    let P : List Grant → Type 0 = λ k. IsNumbered c.self.inside.made (valid c.self.inside.owners k) in
    rw c.keep_valid.ensures (subst P
    (sym (with_items_is c.self.inside.in_force c.take_named_options.new.grants (omega arith) ∙ c.take_named_options.ensures ∙ ap (options_off c.args.by c.args.atoms.now c.args.whom.now) c.deref_mut.ensures.value))
    (IsNumbered-valid c.self.inside.made c.self.inside.owners off (IsNumbered-options_off c.self.inside.made (names c.args.by c.args.atoms.now c.args.whom.now) c.self.inside.in_force.items c.self.invariant)))
