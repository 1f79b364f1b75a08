use Rattle.std.proofs.Common.{◌+◌, List, ℕ, length, ap, subst, ◌∙◌, IfErr}
use Rattle.std.specs.Prelude.{OnOk}
use Rattle.std.specs.Fmt.{signed_decimal}
use Rattle.std.proofs.lemmas.Int.{to_z-of_z}
use mir.Syntax.{w64}
use Rattle.parameters_core.specs.Putting.{IsPut, IsPutFault}
use Rattle.parameters_core.proofs.putting.put_number.Goals as goal

pub returns : goal.returns
returns c =
    let e = c.as_bytes.ensures.value ∙ c.format.ensures.text ∙ ap signed_decimal (to_z-of_z w64 c.args.number c.ranges.number) in
    record {
      put = subst (λ (x : List ℕ). OnOk c.put_all.result (IsPut x c.args.line.now.items c.put_all.new.line.items)) e c.put_all.ensures.put;
      faulty = subst (λ (x : List ℕ). IfErr c.put_all.result (IsPutFault (length c.args.line.now.items + length x))) e c.put_all.ensures.faulty;
    }
