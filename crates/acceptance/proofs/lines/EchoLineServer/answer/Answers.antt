use Rattle.std.proofs.Common.{◌++◌, codes}
use Rattle.base_core.proofs.Fronts.{front-second, write-broken}
use Rattle.std.specs.Prelude.{⊤}
use Rattle.std.proofs.KnownBytes.{Appends-trans}
use Rattle.acceptance.proofs.lines.EchoLineServer.answer.Goals as goal

pub returns : goal.returns
returns g c = (
  c.in_ok-write_all-2.ensures.0,
  record {
    text = c.args.line.now ++ codes "\n";
    is = tt;
    wrote = Appends-trans _ _ _ _ _ c.in_ok-write_all.ensures.1 c.in_ok-write_all-2.ensures.1;
  },
)

pub returns-in_err-write_all-2 : goal.returns-in_err-write_all-2
returns-in_err-write_all-2 g c =
    let r = c.in_err-write_all-2.ensures in
    write-broken g.W.Sink.failed g.W.Sink.taken _ _ (λ _. ⊤) c.from_residual-in_err-write_all-2.result c.from_residual-in_err-write_all-2.ensures.0
    (r.0, record { text = c.args.line.now ++ codes "\n"; is = tt; wrote = front-second _ _ _ _ _ c.in_ok-write_all.ensures.1 r.1 })
