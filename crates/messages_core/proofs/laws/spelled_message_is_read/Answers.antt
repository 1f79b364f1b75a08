use Rattle.std.proofs.Common.{◌++◌, refl}
use Rattle.messages_core.specs.Client.{spelling}
use Rattle.messages_core.specs.declared.reading.Reading.TheVariants as readings
use Rattle.messages_core.proofs.Decoding.{one_reading}
use Rattle.messages_core.proofs.laws.spelled_message_is_read.Goals as goal

pub returns : goal.returns
returns c = λ most message rest reading small is are h.
    one_reading most small (spelling message ++ rest) reading (readings.Whole message rest) are h (record { said = refl; is = is })
