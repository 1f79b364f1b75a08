use Rattle.std.proofs.Common.{flat_map, get_or, refl}
use Rattle.base_core.proofs.Fronts.{text-broken}
use Rattle.messages_core.proofs.Pieces.{broken_at}
use Rattle.utility_core.specs.declared.command.Setting.TheVariants as settings
use Rattle.sending_core.specs.Welcome.{setting_status}
use Rattle.sending_core.proofs.welcome.write_settings.Goals as goal

pub returns-in_err-write_setting : goal.returns-in_err-write_setting
returns-in_err-write_setting g c =
    let this = get_or c.args.settings.now c.loop-setting.setting-index settings.ServerVersion in
    text-broken g.W.Sink.failed g.W.Sink.taken _ _ (flat_map setting_status c.args.settings.now) c.from_residual.result c.from_residual.ensures.0 (
      c.in_err-write_setting.ensures.0,
      broken_at setting_status c.args.settings.now c.loop-setting.setting-index settings.ServerVersion this c.loop-setting-test.true refl
          (g.W.Sink.taken c.args.writer.now) (g.W.Sink.taken c.loop-setting.writer) (g.W.Sink.taken c.write_setting.new.writer)
          c.loop-setting.invariant.written c.in_err-write_setting.ensures.1,
    )
