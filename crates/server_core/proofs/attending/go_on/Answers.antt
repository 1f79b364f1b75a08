use Rattle.server_core.specs.Sessions.{no_piece}
use Rattle.server_core.proofs.attending.go_on.Goals as goal

pub returns-then-not-send : goal.returns-then-not-send
returns-then-not-send g c = no_piece

pub returns-then-not-is_empty : goal.returns-then-not-is_empty
returns-then-not-is_empty g c = no_piece
