-- What sessions of a server speak.
use Rattle.session_core.specs.Machines.{Protocol}
use Rattle.session_core.specs.Parking.{SpeaksLines}
use Rattle.wire_core.specs.Coming.{SpeaksMessages}
use Rattle.either_core.specs.Either.{SpeaksEither}

-- each speaks the protocol of lines, or PostgreSQL's messages, as its client's first byte says
abbrev pub SpeaksServed : {K : Type 0} → Protocol K
SpeaksServed {K} = SpeaksEither {K = K} SpeaksLines SpeaksMessages
