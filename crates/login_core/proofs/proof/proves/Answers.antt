use Rattle.std.proofs.Common.{◌≡◌, ◌∙◌, sym, ap, length, List, ℕ}
use Rattle.std.proofs.lemmas.Slice.Eq.{bytes_eq-Decides}
use Rattle.sha2.proofs.Facts256.{length-sha256}
use Rattle.login_core.specs.Hmac.{hmac}
use Rattle.login_core.specs.Pbkdf2.{exclusive_or}
use Rattle.login_core.proofs.ExclusiveOr.{shows, shown}
use Rattle.sha2.specs.Sha256.{sha256}
use Rattle.login_core.proofs.proof.proves.Goals as goal

pub returns : goal.returns
returns c =
    let stored : List ℕ = c.args.stored.now
    in let message : List ℕ = c.args.message.now
    in let proof : List ℕ = c.args.proof.now
    in let long : length (hmac stored message) ≡ 32 = length-sha256 _
    in let keyed : c.exclusive_or-key.result ≡ exclusive_or proof (hmac stored message)
    = c.exclusive_or-key.ensures ∙ ap (exclusive_or proof) c.hmac_sha_256.ensures
    in let hashed : c.digest.result ≡ sha256 (exclusive_or proof (hmac stored message))
    = c.digest.ensures ∙ ap sha256 keyed
    in let decides = bytes_eq-Decides c.digest.result stored
    in (
      λ yes. shows stored message proof c.told-proof long (sym hashed ∙ decides.0 (sym c.eq.ensures ∙ yes)),
      λ proved. c.eq.ensures ∙ decides.1 (hashed ∙ shown stored message proof long proved),
    )
