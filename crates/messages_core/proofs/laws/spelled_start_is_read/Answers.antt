use Rattle.std.proofs.Common.{◌++◌, refl}
use Rattle.messages_core.specs.Start.{start_spelling}
use Rattle.messages_core.specs.declared.reading.Reading.TheVariants as readings
use Rattle.messages_core.proofs.StartDecoding.{one_start}
use Rattle.messages_core.proofs.laws.spelled_start_is_read.Goals as goal

pub returns : goal.returns
returns c = λ most start rest reading small is within h.
    one_start most small (start_spelling start ++ rest) reading (readings.Whole start rest) h (is, record { said = refl; within = within })
