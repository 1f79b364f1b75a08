use Rattle.std.proofs.Common.{subst}
use Rattle.server_core.proofs.Owed.{owed_behind}
use Rattle.server_core.proofs.owing.Owing.go_on.Goals as goal

pub returns-clause-ok : goal.returns-clause-ok
returns-clause-ok g c =
    let law = g.met.I.Session.SessionMachine in
    let owes = g.I.Session.SessionMachine.owes in
    let ended = c.go_on.new.self in
    let last = law.payable ended in
    let w = c.in_ok-go_on.ensures.wrote in
    record {
      text = w.text;
      is = λ rest told. w.is rest (owed_behind (λ owing. owing.ended) owes ended c.of.result c.of.ensures (λ none. subst (owes ended) (law.settled ended last.0 none last.1) last.1) rest told);
      wrote = w.wrote;
    }
