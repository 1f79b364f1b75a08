use Rattle.std.proofs.Common.{◌≡◌, length, take}
use Rattle.binding_core.specs.Formats.{AreFormats}
use Rattle.binding_core.proofs.formats.result_formats.Given as goal

abbrev pub invariant-loop-column : goal.invariant-loop-column
invariant-loop-column l = record {
  whole : length l.formats ≡ 32;
  each : AreFormats l.codes (take l.column l.formats);
}
