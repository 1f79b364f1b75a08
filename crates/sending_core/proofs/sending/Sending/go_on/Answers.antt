use Rattle.std.proofs.Common.{◌≡◌, ℕ, [], List, sym, subst}
use Rattle.std.proofs.KnownBytes.{Appends-nil}
use Rattle.base_core.proofs.Fronts.{on_err}
use Rattle.sending_core.specs.Owing.{Lefts, Owes}
use Rattle.sending_core.specs.declared.item.Item.{Item}
use Rattle.sending_core.proofs.Owings.{breaks_first, fewer_calls, writes_first}
use Rattle.sending_core.proofs.sending.Sending.go_on.Goals as goal

pub returns-in_default-clause-ok : goal.returns-in_default-clause-ok
returns-in_default-clause-ok g c =
    let same : c.args.self.now.items ≡ c.pop.new.self.items = c.in_default.ensures.items in
    record {
      text = [];
      is = λ (rest : List ℕ) (behind : Lefts) (o : Owes c.pop.new.self.items c.args.lefts.now rest behind).
          subst (λ (q : List Item). Owes q c.args.lefts.now rest behind) (sym same) o;
      wrote = Appends-nil (g.W.Sink.taken c.args.writer.now);
    }

pub returns-in_err-progress-clause-err : goal.returns-in_err-progress-clause-err
returns-in_err-progress-clause-err g c =
    on_err c.from_residual.result
    (breaks_first c.args.self.now.items c.in-Some.item c.pop.new.self.items c.args.lefts.now c.in-Some.ensures.items
    (g.W.Sink.taken c.args.writer.now) (g.W.Sink.taken c.write_item.new.writer) c.in_err-progress.ensures.err)

pub returns-clause-ok : goal.returns-clause-ok
returns-clause-ok g c =
    writes_first c.args.self.now.items c.in-Some.item c.pop.new.self.items c.args.lefts.now c.in-Some.ensures.items
    c.place-place.result c.place-place.ensures c.in_ok-progress.progress
    c.settle.new.self.items c.settle.new.lefts c.settle.ensures.items c.settle.ensures.lefts
    (g.W.Sink.taken c.args.writer.now) (g.W.Sink.taken c.write_item.new.writer) c.in_ok-progress.ensures.ok

pub returns-clause-progress : goal.returns-clause-progress
returns-clause-progress g c = λ some.
    fewer_calls c.args.self.now.items c.in-Some.item c.pop.new.self.items c.args.lefts.now c.in-Some.ensures.items
    c.place-place.result c.place-place.ensures c.in_ok-progress.progress
    c.settle.new.self.items c.settle.ensures.items c.in_ok-progress.ensures.progress
