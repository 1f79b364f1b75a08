use Rattle.std.proofs.Common.{◌≡◌, Option, None, [], refl, ap, sym, subst, ◌∙◌}
use Rattle.std.proofs.KnownBytes.{Appends-nil}
use Rattle.load_core.specs.declared.fault.Undone.{Undone}
use Rattle.load_core.specs.Replayer.{ReplayerState, TakesUnless}
use Rattle.load_core.proofs.ReplayEnds.{none_where}
use Rattle.load_core.proofs.replayer.ReplayerLineServer.answer.Goals as goal

pub returns-then-self-lt18446744073709551615 : goal.returns-then-self-lt18446744073709551615
returns-then-self-lt18446744073709551615 g c =
    let old = c.args.self.now in
    let open_then : old.stop ≡ None = ap (λ (p : ReplayerState). p.stop) (sym c.self.view_is) ∙ none_where c.self.inside.stop c.if-is_none.ensures in (
      c.requires,
      record {
        text = [];
        is = (refl, λ few. subst (λ (s : Option Undone). TakesUnless s old c.args.line.now c.take.new.self) (sym open_then) c.take.ensures);
        wrote = Appends-nil _;
      },
    )
