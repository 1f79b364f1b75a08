-- SCRAM-SHA-256: the keys, the signatures and the proof of RFC 5802, section 3, with SHA-256 as the
-- hash function H (RFC 7677).
use Rattle.std.specs.Prelude.{◌≡◌, ℕ, List, ◌++◌, length, codes}
use Rattle.sha2.specs.Sha256.{sha256}
use Rattle.login_core.specs.Hmac.{hmac}
use Rattle.login_core.specs.Pbkdf2.{exclusive_or, derived_key}

-- SaltedPassword := Hi (Normalize (password), salt, i), of a password that is normalized already
abbrev pub salted_password : List ℕ → List ℕ → ℕ → List ℕ
salted_password password salt iterations = derived_key password salt iterations

-- ClientKey := HMAC (SaltedPassword, "Client Key")
abbrev pub client_key : List ℕ → List ℕ
client_key salted = hmac salted (codes "Client Key")

-- StoredKey := H (ClientKey)
abbrev pub stored_key : List ℕ → List ℕ
stored_key client_key = sha256 client_key

-- ServerKey := HMAC (SaltedPassword, "Server Key")
abbrev pub server_key : List ℕ → List ℕ
server_key salted = hmac salted (codes "Server Key")

-- AuthMessage := client-first-message-bare + "," + server-first-message + "," +
-- client-final-message-without-proof
abbrev pub auth_message : List ℕ → List ℕ → List ℕ → List ℕ
auth_message bare server_first without_proof =
    bare ++ codes "," ++ server_first ++ codes "," ++ without_proof

-- ClientSignature := HMAC (StoredKey, AuthMessage)
abbrev pub client_signature : List ℕ → List ℕ → List ℕ
client_signature stored message = hmac stored message

-- ClientProof := ClientKey XOR ClientSignature
abbrev pub client_proof : List ℕ → List ℕ → List ℕ → List ℕ
client_proof key stored message = exclusive_or key (client_signature stored message)

-- ServerSignature := HMAC (ServerKey, AuthMessage)
abbrev pub server_signature : List ℕ → List ℕ → List ℕ
server_signature server message = hmac server message

-- a ClientKey of which this is the StoredKey
abbrev pub StandsFor : List ℕ → List ℕ → Type 0
StandsFor stored key = (length key ≡ 32) × (stored_key key ≡ stored)

-- The proof is the ClientProof, for this AuthMessage, of the holder of a ClientKey of which this is
-- the StoredKey.
abbrev pub Proves : List ℕ → List ℕ → List ℕ → Type 0
Proves stored message proof =
    (key : List ℕ) × StandsFor stored key × (proof ≡ client_proof key stored message)
