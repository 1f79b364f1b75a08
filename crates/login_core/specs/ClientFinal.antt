-- The client's last message (RFC 5802, section 7, client-final-message).
use Rattle.std.specs.Prelude.{◌≡◌, ℕ, List, ◌++◌, codes}
use Rattle.base64.specs.Engines.{standard}
use Rattle.base64.specs.GeneralPurpose.{encode_of, IsBytes}
use Rattle.login_core.specs.Scram.{Proves}

-- client-final-message-without-proof = channel-binding "," nonce, with no extension
abbrev pub without_proof : List ℕ → List ℕ → List ℕ
without_proof channel_binding nonce = codes "c=" ++ channel_binding ++ codes ",r=" ++ nonce

-- client-final-message = client-final-message-without-proof "," proof
abbrev pub client_final_message : List ℕ → List ℕ → List ℕ
client_final_message front proof = front ++ codes ",p=" ++ encode_of standard proof

-- The message is a last one that begins with this client-final-message-without-proof. Its proof, for
-- this AuthMessage, is by the holder of a ClientKey of which this is the StoredKey.
abbrev pub ProvesToBe : List ℕ → List ℕ → List ℕ → List ℕ → Type 0
ProvesToBe stored front said message =
    (proof : List ℕ) × IsBytes proof × (message ≡ client_final_message front proof)
    × Proves stored said proof
