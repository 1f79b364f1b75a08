use Rattle.std.proofs.Common.{refl}
use Rattle.std.proofs.lemmas.Result.{IfOk-weaker}
use Rattle.sysr.specs.Kept.{in_folder}
use Rattle.sysr.proofs.serving_in_folder.serve_in_folder.Goals as goal

pub returns-in-Ok-opened-clause-served : goal.returns-in-Ok-opened-clause-served
returns-in-Ok-opened-clause-served g c =
    let begun = c.in_ok-begun.begun.beginning in
    IfOk-weaker c.listen_and_serve_in_folder.result _ _
    (λ ended served. (in_folder begun.system begun.sink, refl, served))
    c.listen_and_serve_in_folder.ensures.served
