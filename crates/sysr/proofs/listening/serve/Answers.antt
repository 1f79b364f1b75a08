use Rattle.std.proofs.lemmas.Result.{IfOk-weaker}
use Rattle.sysr.proofs.listening.serve.Goals as goal

pub returns-in-Ok : goal.returns-in-Ok
returns-in-Ok g c = record {
  count = c.listen_and_serve.ensures.count;
  served = IfOk-weaker c.listen_and_serve.result _ _ (λ ended served. (c.in_ok-begun.begun, c.in_ok-begun.ensures.named, served)) c.listen_and_serve.ensures.served;
}
