use Rattle.std.proofs.Common.{◌+◌, [], ◌∷◌, ◌++◌, take, drop, flat_map, refl, sym, subst, ap, ◌∙◌, append_assoc}
use Rattle.std.proofs.lemmas.List.{take_rest}
use Rattle.std.proofs.KnownBytes.{Appends-trans}
use Rattle.base_core.specs.Streams.{WritesFront}
use Rattle.base_core.proofs.Fronts.{front-first, front-second, text-broken, text-same, text-then}
use Rattle.export_core.specs.Record.{doubled_byte, quote}
use Rattle.reply_core.proofs.Fields.{next_run, doubled_nowhere}
use Rattle.reply_core.proofs.records.write_doubled.Goals as goal

pub loop-n-preserved : goal.loop-n-preserved
loop-n-preserved g c =
    let before = c.loop-n.invariant.1 in
    let rest = c.loop-n.rest.now in
    let run = take (c.in-Some.n + 1) rest in (
      c.in_ok-write_run.ensures.0,
      (
        before.0 ++ (run ++ quote ∷ []),
        Appends-trans _ _ _ _ _ before.1 c.in_ok-write_run.ensures.1,
        next_run before.0 rest (flat_map doubled_byte c.args.text.now) run _ c.in-Some.n (sym c.in-Some.ensures.at) refl (take_rest rest (c.in-Some.n + 1)) before.2,
      ),
    )

pub returns-in_err-write_run : goal.returns-in_err-write_run
returns-in_err-write_run g c =
    let start = g.W.Sink.taken c.args.writer.now in
    let between = g.W.Sink.taken c.loop-n.writer in
    let after = g.W.Sink.taken c.write_run.new.writer in
    let before = c.loop-n.invariant.1 in
    let rest = c.loop-n.rest.now in
    let run = take (c.in-Some.n + 1) rest in
    let left = flat_map doubled_byte (drop (c.in-Some.n + 1) rest) in
    let all = flat_map doubled_byte c.args.text.now in
    let whole = next_run before.0 rest all run (drop (c.in-Some.n + 1) rest) c.in-Some.n (sym c.in-Some.ensures.at) refl refl before.2 in
    let r = c.in_err-write_run.ensures in
    text-broken g.W.Sink.failed g.W.Sink.taken _ _ all c.from_residual.result c.from_residual.ensures.0 (
      r.0,
      subst (λ t. WritesFront start after t) (sym (append_assoc before.0 (run ++ quote ∷ []) left) ∙ whole)
          (front-second start between after before.0 ((run ++ quote ∷ []) ++ left) before.1 (front-first between after (run ++ quote ∷ []) left r.1)),
    )

pub returns : goal.returns
returns g c =
    let before = c.loop-n.invariant.1 in
    let rest = c.loop-n.rest.now in
    let whole = ap (λ t. before.0 ++ t) (sym (doubled_nowhere rest (sym c.in_default.ensures.at))) ∙ before.2 in
    text-same g.W.Sink.failed g.W.Sink.taken _ _ (before.0 ++ rest) (flat_map doubled_byte c.args.text.now) c.write_all.result whole
    (text-then g.W.Sink.failed g.W.Sink.taken _ c.loop-n.writer _ before.0 rest c.write_all.result before.1 c.write_all.ensures)
