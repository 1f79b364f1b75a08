-- What the messages of a session show (RFC 5802, section 5).
use Rattle.std.specs.Prelude.{◌≡◌, ℕ, List, [], ◌∷◌, ◌++◌}
use Rattle.base_core.specs.declared.name.Name.{Name}
use Rattle.login_core.specs.Users.{Users}
use Rattle.login_core.specs.Login.{Beginning, Opens, LogsIn}

-- how far a session is: nothing was said, a login has begun, a user is named, or it has ended
pub data Standing : Type 0 where
  Fresh : Standing
  Asked : Beginning → Standing
  Named : Name → Standing
  Over : Standing

-- where a message leads: nobody is named but by one that proves the client to be that user
pub data MovesOn (users : Users) (secret own : List ℕ)
    : Standing → List ℕ → Standing → Type 0 where
  asked : {message : List ℕ} (begun : Beginning) → Opens users secret own message begun
      → MovesOn users secret own Fresh message (Asked begun)
  logged_in : {message answer : List ℕ} (begun : Beginning) → LogsIn users begun message answer
      → MovesOn users secret own (Asked begun) message (Named begun.user)
  said : {message : List ℕ} (user : Name)
      → MovesOn users secret own (Named user) message (Named user)
  ended : {message : List ℕ} (old : Standing) → MovesOn users secret own old message Over

-- messages, one after another, and where they lead
pub data Exchange (users : Users) (secret own : List ℕ) : List (List ℕ) → Standing → Type 0 where
  nothing : Exchange users secret own [] Fresh
  more : {messages : List (List ℕ)} {old new : Standing} (message : List ℕ)
      → Exchange users secret own messages old
      → MovesOn users secret own old message new
      → Exchange users secret own (messages ++ message ∷ []) new

-- the last of the messages began this login
pub record HasBegun (users : Users) (secret own : List ℕ) (messages : List (List ℕ))
    (begun : Beginning) : Type 0 where
  pub before : List (List ℕ)
  pub opening : List ℕ
  pub among : messages ≡ before ++ opening ∷ []
  pub opens : Opens users secret own opening begun

-- One of the messages proves the client to be the user, and the one before it began that very
-- login: it names the user, and the nonce ends with the server's own.
pub record HasShown (users : Users) (secret own : List ℕ) (messages : List (List ℕ)) (user : Name)
    : Type 0 where
  pub begun : Beginning
  pub user_is : begun.user ≡ user
  pub before : List (List ℕ)
  pub message : List ℕ
  pub answer : List ℕ
  pub behind : List (List ℕ)
  pub among : messages ≡ before ++ message ∷ behind
  pub begins : HasBegun users secret own before begun
  pub logs_in : LogsIn users begun message answer
