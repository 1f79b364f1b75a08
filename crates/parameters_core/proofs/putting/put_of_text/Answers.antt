use Rattle.std.proofs.Common.{◌+◌, List, ℕ, length, subst, IfErr}
use Rattle.std.specs.Prelude.{OnOk}
use Rattle.parameters_core.specs.Putting.{IsPut, IsPutFault}
use Rattle.parameters_core.proofs.Puts.{quote_doubled, other_doubled}
use Rattle.parameters_core.proofs.putting.put_of_text.Goals as goal

pub returns-then-byte-eq39 : goal.returns-then-byte-eq39
returns-then-byte-eq39 c =
    let e = quote_doubled c.args.byte c.if-byte-eq39.true in
    record {
      put = subst (λ (x : List ℕ). OnOk c.put_all.result (IsPut x c.args.line.now.items c.put_all.new.line.items)) e c.put_all.ensures.put;
      faulty = subst (λ (x : List ℕ). IfErr c.put_all.result (IsPutFault (length c.args.line.now.items + length x))) e c.put_all.ensures.faulty;
    }

pub returns-else-byte-eq39 : goal.returns-else-byte-eq39
returns-else-byte-eq39 c =
    let e = other_doubled c.args.byte c.if-byte-eq39.false in
    record {
      put = subst (λ (x : List ℕ). OnOk c.put.result (IsPut x c.args.line.now.items c.put.new.line.items)) e c.put.ensures.put;
      faulty = subst (λ (x : List ℕ). IfErr c.put.result (IsPutFault (length c.args.line.now.items + length x))) e c.put.ensures.faulty;
    }
