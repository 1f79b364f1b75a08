use Rattle.std.proofs.Common.{◌++◌, subst}
use Rattle.std.specs.Prelude.{codes}
use Rattle.std.specs.Io.KnownBytes.{Appends}
use Rattle.base_core.specs.Streams.{WritesFront}
use Rattle.base_core.proofs.Fronts.{front-first, front-second, text-broken, text-then}
use Rattle.session_core.specs.Admission.{welcome_text}
use Rattle.session_core.proofs.session.write_welcome.Goals as goal

pub returns-in_err-write_all : goal.returns-in_err-write_all
returns-in_err-write_all g c =
    let r = c.in_err-write_all.ensures in
    text-broken g.W.Sink.failed g.W.Sink.taken _ _ (welcome_text c.args.user.now) c.from_residual.result c.from_residual.ensures.0
    (r.0, front-first _ _ (codes "welcome ") (c.args.user.now.0 ++ codes "\n") r.1)

pub returns-in_err-write_all-2 : goal.returns-in_err-write_all-2
returns-in_err-write_all-2 g c =
    let r = c.in_err-write_all-2.ensures in
    let name = subst (λ t. WritesFront (g.W.Sink.taken c.write_all.new.writer) (g.W.Sink.taken c.write_all-2.new.writer) t) c.as_bytes.ensures.value r.1 in
    text-broken g.W.Sink.failed g.W.Sink.taken _ _ (welcome_text c.args.user.now) c.from_residual-in_err-write_all-2.result c.from_residual-in_err-write_all-2.ensures.0
    (r.0, front-second _ _ _ (codes "welcome ") (c.args.user.now.0 ++ codes "\n") c.in_ok-write_all.ensures.1 (front-first _ _ c.args.user.now.0 (codes "\n") name))

pub returns : goal.returns
returns g c =
    let name = subst (λ t. Appends (g.W.Sink.taken c.write_all.new.writer) (g.W.Sink.taken c.write_all-2.new.writer) t) c.as_bytes.ensures.value c.in_ok-write_all-2.ensures.1 in
    text-then g.W.Sink.failed g.W.Sink.taken _ _ _ (codes "welcome ") (c.args.user.now.0 ++ codes "\n") c.write_all-3.result c.in_ok-write_all.ensures.1
    (text-then g.W.Sink.failed g.W.Sink.taken _ _ _ c.args.user.now.0 (codes "\n") c.write_all-3.result name c.write_all-3.ensures)
