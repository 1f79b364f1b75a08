-- What a server keeps of a user, as a text: what RFC 5803 stores, in PostgreSQL's form.
use Rattle.std.specs.Prelude.{◌≢◌, ◌<◌, ◌^◌, ℕ, List, ◌++◌, codes, decimal}
use Rattle.base64.specs.Engines.{standard}
use Rattle.base64.specs.GeneralPurpose.{encode_of, IsBytes}
use Rattle.login_core.specs.Decoding.{IsDigest, LacksByte}

-- the StoredKey and the ServerKey
abbrev pub keys_text : List ℕ → List ℕ → List ℕ
keys_text stored server = encode_of standard stored ++ (codes ":" ++ encode_of standard server)

-- the salt, and behind it the keys
abbrev pub salted_text : List ℕ → List ℕ → List ℕ → List ℕ
salted_text salt stored server = encode_of standard salt ++ (codes "$" ++ keys_text stored server)

-- the mechanism, the count of iterations, the salt and the keys
abbrev pub verifier_text : List ℕ → ℕ → List ℕ → List ℕ → List ℕ
verifier_text salt iterations stored server =
    codes "SCRAM-SHA-256$" ++ (decimal iterations ++ (codes ":" ++ salted_text salt stored server))

-- the text is of no two keys
abbrev pub IsNoKeys : List ℕ → Type 0
IsNoKeys text =
    (stored server : List ℕ) → IsDigest stored → IsDigest server → text ≢ keys_text stored server

-- the text is of no salt and keys
abbrev pub IsNoSalted : List ℕ → Type 0
IsNoSalted text = (salt stored server : List ℕ) → IsBytes salt → IsDigest stored → IsDigest server
    → text ≢ salted_text salt stored server

-- the text is of no verifier
abbrev pub IsNoVerifier : List ℕ → Type 0
IsNoVerifier text = (salt : List ℕ) (iterations : ℕ) (stored server : List ℕ) → IsBytes salt
    → 0 < iterations → iterations < 2 ^ 32 → IsDigest stored → IsDigest server
    → text ≢ verifier_text salt iterations stored server

-- a user's line: the name, and the verifier
abbrev pub user_line : List ℕ → List ℕ → List ℕ
user_line name text = name ++ (codes ":" ++ text)

-- the line is not a name without a colon, a colon and a verifier
abbrev pub IsNoUser : List ℕ → Type 0
IsNoUser line = (name salt : List ℕ) (iterations : ℕ) (stored server : List ℕ) → LacksByte 58 name
    → IsBytes salt → 0 < iterations → iterations < 2 ^ 32 → IsDigest stored → IsDigest server
    → line ≢ user_line name (verifier_text salt iterations stored server)
