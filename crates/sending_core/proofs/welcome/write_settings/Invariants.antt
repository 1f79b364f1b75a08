use Rattle.std.proofs.Common.{◌≡◌, false, take, flat_map}
use Rattle.std.specs.Io.KnownBytes.{Appends}
use Rattle.sending_core.specs.Welcome.{setting_status}
use Rattle.sending_core.proofs.welcome.write_settings.Given as goal

abbrev pub invariant-loop-setting : goal.invariant-loop-setting
invariant-loop-setting g l = record {
  works : g.W.Sink.failed l.writer ≡ false;
  written : Appends (g.W.Sink.taken l.initial.writer) (g.W.Sink.taken l.writer) (flat_map setting_status (take l.setting-index l.settings));
}
