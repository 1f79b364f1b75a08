-- The messages of the server (RFC 5802, section 7).
use Rattle.std.specs.Prelude.{ℕ, List, ◌++◌, codes, decimal}
use Rattle.base64.specs.Engines.{standard}
use Rattle.base64.specs.GeneralPurpose.{encode_of}

-- server-first-message = nonce "," salt "," iteration-count: the nonce is the client's and the
-- server's behind it, the salt is in base64, and the count is in decimal
abbrev pub server_first_message : List ℕ → List ℕ → ℕ → List ℕ
server_first_message nonce salt iterations =
    codes "r=" ++ nonce ++ codes ",s=" ++ encode_of standard salt
    ++ codes ",i=" ++ decimal iterations

-- server-final-message = verifier: v= and the ServerSignature in base64
abbrev pub server_final_message : List ℕ → List ℕ
server_final_message signature = codes "v=" ++ encode_of standard signature
