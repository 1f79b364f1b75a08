use Rattle.std.proofs.Common.{refl}
use Rattle.script_core.specs.Addressed.{IsFaulty, IsAddressed}
use Rattle.system_core.specs.World.{entry}
use Rattle.load_core.specs.Loading.{SaysEntry}
use Rattle.load_core.proofs.Entering.{line_enters}
use Rattle.load_core.proofs.loader.enter_line.Goals as goal

pub returns-in-Ok : goal.returns-in-Ok
returns-in-Ok c =
    let e = entry 0 c.in-Ok.user c.in-Ok.statement in
    let says : SaysEntry c.args.most c.args.line.now e = record { asks = c.in-Ok.ensures.asks; pass = refl } in
    line_enters c.args.most c.args.system.now c.enter.new.system c.args.line.now e says c.enter.result c.enter.ensures

pub returns-in-Err-At : goal.returns-in-Err-At
returns-in-Err-At c =
    let fault : IsFaulty c.args.most c.args.line.now c.in-Err-At.code c.in-Err-At.offset = rw c.in-Err-At.field-0-is at c.in-Err-At.ensures.unread in
    (fault, refl)

pub returns-in-Err-NoMemory : goal.returns-in-Err-NoMemory
returns-in-Err-NoMemory c =
    let addressed : IsAddressed c.args.most c.args.line.now = rw c.in-Err-NoMemory.field-0-is at c.in-Err-NoMemory.ensures.unread in
    (addressed, refl)
