use Rattle.std.proofs.Common.{◌≡◌, ◌∙◌, Option, None, [], ap, sym, subst}
use Rattle.std.proofs.KnownBytes.{Appends-nil}
use Rattle.load_core.specs.declared.fault.Undone.{Undone}
use Rattle.load_core.proofs.ReplayEnds.{none_where}
use Rattle.stream_core.specs.Streamer.{StreamerState, TellsOrPasses}
use Rattle.stream_core.proofs.streamer.StreamerLineServer.answer.Goals as goal

pub returns-in-None : goal.returns-in-None
returns-in-None g c =
    let old = c.args.self.now in
    let going : old.stop ≡ None = ap (λ (s : StreamerState). s.stop) (sym c.self.view_is) ∙ none_where c.self.inside.stop (sym c.if-is_some.ensures) in (
      c.requires,
      record {
        text = [];
        is = subst (λ (o : Option Undone). TellsOrPasses o old c.args.line.now [] c.take.new.self) (sym going) c.in-None.ensures.stopped;
        wrote = Appends-nil _;
      },
    )
