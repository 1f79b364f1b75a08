use Rattle.std.proofs.Common.{List, ap, sym, subst}
use Rattle.system_core.specs.declared.machine.event.Entry.{Entry}
use Rattle.desk_core.specs.Guarded.{DeskPass, origin_of}
use Rattle.serving_core.proofs.PassLemmas.{tender_of}
use Rattle.serving_core.proofs.threads.tend.Goals as goal

pub tend-requires-clause-begins : goal.tend-requires-clause-begins
tend-requires-clause-begins g c =
    let seen = ap (λ (p : DeskPass g.row.K.Denot). p.seen) c.requires.new in
    subst (λ (seen : List Entry). g.T.Tender.may_begin c.args.tender.now seen (origin_of c.args.desk.now)) (sym seen) c.requires.begins

pub returns : goal.returns
returns g c = tender_of c.args.begun.now.value.journal c.args.desk.now c.args.pass c.tend.new.pass c.requires.new c.tend.ensures
