use Rattle.lexer_core.proofs.Put.{put}
use Rattle.lexer_core.proofs.text.text.Goals as goal

pub returns-in-Ok : goal.returns-in-Ok
returns-in-Ok c = put c.args.bytes.now c.args.start _ _ _ _ c.push.result c.in-Ok.ensures c.push.ensures
