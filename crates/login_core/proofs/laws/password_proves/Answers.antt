use Rattle.std.proofs.Common.{refl}
use Rattle.sha2.proofs.Facts256.{length-sha256}
use Rattle.login_core.specs.Scram.{salted_password, client_key}
use Rattle.login_core.proofs.laws.password_proves.Goals as goal

pub returns : goal.returns
returns c = λ password salt iterations message.
    (client_key (salted_password password salt iterations), (length-sha256 _, refl), refl)
