-- A login, message by message (RFC 5802, section 5).
use Rattle.std.specs.Prelude.{◌≡◌, ℕ, List, ◌∷◌, ◌++◌, take, Some, codes}
use Rattle.std.specs.Option.{option_map_or}
use Rattle.base_core.specs.Words.{name_of}
use Rattle.base_core.specs.declared.name.Name.{Name}
use Rattle.login_core.specs.declared.verifier.Verifier.{Verifier}
use Rattle.login_core.specs.Hmac.{hmac}
use Rattle.login_core.specs.Scram.{auth_message, server_signature}
use Rattle.login_core.specs.ServerMessages.{server_first_message, server_final_message}
use Rattle.login_core.specs.ClientFinal.{without_proof, ProvesToBe}
use Rattle.login_core.specs.ClientFirst.{SaysFirst}
use Rattle.login_core.specs.Users.{Users, verifier_of}

-- the salt that a user is told: his own. Who is no user is told 16 bytes that are made of a secret
-- and the name, so that they are the same each time.
abbrev pub told_salt : Users → List ℕ → Name → List ℕ
told_salt users secret name =
    option_map_or (λ v. v.salt.items) (verifier_of users name) (take 16 (hmac secret name))

-- the count of iterations that a user is told
abbrev pub told_iterations : Users → Name → ℕ
told_iterations users name = option_map_or (λ v. v.iterations) (verifier_of users name) 4096

-- what was said before the last message: who the client is to be, client-first-message-bare,
-- server-first-message, and what the last message has to repeat behind c= and r=
pub record Beginning : Type 0 where
  pub user : Name
  pub bare : List ℕ
  pub server_first : List ℕ
  pub channel_binding : List ℕ
  pub nonce : List ℕ

-- client-final-message-without-proof, with which the last message has to begin
abbrev pub front_of : Beginning → List ℕ
front_of begun = without_proof begun.channel_binding begun.nonce

-- AuthMessage, which the proof and the ServerSignature are of
abbrev pub signed_of : Beginning → List ℕ
signed_of begun = auth_message begun.bare begun.server_first (front_of begun)

-- the line is LOGIN, a word that spells this user's name, in any case, and a client's first message
pub record Opening (line : List ℕ) (user : Name) (channel_binding bare nonce : List ℕ)
    : Type 0 where
  pub word : List ℕ
  pub first : List ℕ
  pub said : line ≡ codes "LOGIN " ++ (word ++ 32 ∷ first)
  pub named : name_of word ≡ Some user
  pub says : SaysFirst first channel_binding bare nonce

-- the line begins no login
abbrev pub IsNoOpening : List ℕ → Type 0
IsNoOpening line = (user : Name) (channel_binding bare nonce : List ℕ)
    → Opening line user channel_binding bare nonce → ⊥

-- The line begins this login: the nonce is the client's and behind it the server's own, and
-- server-first-message tells the salt and the count.
pub record Opens (users : Users) (secret own line : List ℕ) (begun : Beginning) : Type 0 where
  pub client_nonce : List ℕ
  pub opening : Opening line begun.user begun.channel_binding begun.bare client_nonce
  pub nonce_is : begun.nonce ≡ client_nonce ++ own
  pub server_first_is : begun.server_first
      ≡ server_first_message begun.nonce (told_salt users secret begun.user)
      (told_iterations users begun.user)

-- The message is the last one of the login, and its proof is by the holder of a ClientKey of which
-- this is the StoredKey.
abbrev pub ProvesKey : List ℕ → Beginning → List ℕ → Type 0
ProvesKey stored begun message =
    ProvesToBe stored (front_of begun) (signed_of begun) message

-- the message is no such one
abbrev pub Disproves : List ℕ → Beginning → List ℕ → Type 0
Disproves stored begun message = ProvesKey stored begun message → ⊥

-- the message is such a one, and the answer to it is signed by the ServerKey
pub record Signs (stored server : List ℕ) (begun : Beginning) (message answer : List ℕ)
    : Type 0 where
  pub proves : ProvesKey stored begun message
  pub answer_is : answer ≡ server_final_message (server_signature server (signed_of begun))

-- The message proves the client to be the user of the login, by what is kept of that user, and this
-- is the answer to it.
pub record LogsIn (users : Users) (begun : Beginning) (message answer : List ℕ) : Type 0 where
  pub kept : Verifier
  pub kept_is : verifier_of users begun.user ≡ Some kept
  pub signs : Signs kept.stored_key kept.server_key begun message answer

-- the message does not prove it
abbrev pub Refuses : Users → Beginning → List ℕ → Type 0
Refuses users begun message = (answer : List ℕ) → LogsIn users begun message answer → ⊥
