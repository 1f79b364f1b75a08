use Rattle.std.proofs.Common.{◌≡◌, ℕ, ◌≤◌, ◌+◌, ◌∙◌, sym, drop, arith, Fits, w64, Ok}
use Rattle.std.proofs.lemmas.List.{take_rest}
use Rattle.reader_core.specs.Language.{IsReadFault}
use Rattle.script_core.specs.Addressed.{addressed_up_to, address, statement}
use Rattle.script_core.proofs.Offsets.{offset-small}
use Rattle.script_core.proofs.scripts.address.read_addressed.Goals as goal

pub returns-in-Err-clause-unread : goal.returns-in-Err-clause-unread
returns-in-Err-clause-unread c = address (sym c.addressed_up_to.ensures.exact ∙ c.in-Err.is)

fits : (n by : ℕ) → n ≤ 31 → by ≤ 8192 → Fits w64 (n + by)
fits n by h k = omega (arith, h, k)

pub overflow_add-offset : goal.overflow_add-offset
overflow_add-offset c =
    let fault : IsReadFault (drop c.in-Ok.address.1 c.args.line.now) c.in-Err-At.code c.in-Err-At.offset = rw (c.in-Err-At.field-0-is, take_rest c.args.line.now c.in-Ok.address.1) at c.in-Err-At.ensures.faulty in
    rw c.in-Err-At.field-0-is (fits c.in-Ok.address.1 c.in-Err-At.offset c.in-Ok.ensures.within.1 (offset-small _ _ _ fault))

pub returns-in-Err-At-clause-unread : goal.returns-in-Err-At-clause-unread
returns-in-Err-At-clause-unread c =
    let speaker : addressed_up_to c.args.most c.args.line.now ≡ Ok c.in-Ok.address = sym c.addressed_up_to.ensures.exact ∙ c.in-Ok.is in
    let fault : IsReadFault (drop c.in-Ok.address.1 c.args.line.now) c.in-Err-At.code c.in-Err-At.offset = rw (c.in-Err-At.field-0-is, take_rest c.args.line.now c.in-Ok.address.1) at c.in-Err-At.ensures.faulty in
    rw c.in-Err-At.field-0-is (statement c.in-Ok.address.0 c.in-Ok.address.1 c.in-Err-At.offset speaker fault)

pub returns-in-Err-NoMemory-clause-unread : goal.returns-in-Err-NoMemory-clause-unread
returns-in-Err-NoMemory-clause-unread c =
    (c.in-Ok.address.0, c.in-Ok.address.1, sym c.addressed_up_to.ensures.exact ∙ c.in-Ok.is)

pub returns-in-Ok-read_with-clause-asks : goal.returns-in-Ok-read_with-clause-asks
returns-in-Ok-read_with-clause-asks c = record {
  start = c.in-Ok.address.1;
  speaker = sym c.addressed_up_to.ensures.exact ∙ c.in-Ok.is;
  spelled = rw (take_rest c.args.line.now c.in-Ok.address.1) at c.in-Ok-read_with.ensures.spelled;
}
