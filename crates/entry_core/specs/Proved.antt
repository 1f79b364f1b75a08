-- What a client has sent that has logged in by messages, one stage after another.
use Rattle.std.specs.Prelude.{◌≡◌, ℕ, List, ◌++◌, Some}
use Rattle.std.specs.Io.KnownBytes.{Consumes}
use Rattle.base_core.specs.declared.name.Name.{Name}
use Rattle.base_core.specs.declared.name.User.{User}
use Rattle.login_core.specs.Users.{Users}
use Rattle.login_core.specs.Login.{Beginning, LogsIn}
use Rattle.lines_core.specs.Serving.{Traffic}
use Rattle.messages_core.specs.Client.{spelling}
use Rattle.messages_core.specs.Start.{start_spelling}
use Rattle.messages_core.specs.declared.client.ClientMessage.TheVariants as clients
use Rattle.messages_core.specs.declared.start.StartMessage.TheVariants as starts
use Rattle.entry_core.specs.Naming.{user_named}
use Rattle.entry_core.specs.Steps.{BeginsLogin}

-- the bytes of a start with these parameters
abbrev pub startup_message : List (List ℕ × List ℕ) → List ℕ
startup_message parameters = start_spelling (starts.Startup parameters)

-- the bytes of a client's message in a login
abbrev pub login_message : List ℕ → List ℕ
login_message body = spelling (clients.Password body)

-- the last that was sent is a start that names this user
pub record HasClaimed (sent : List ℕ) (user : Name) : Type 0 where
  pub before : List ℕ
  pub parameters : List (List ℕ × List ℕ)
  pub said : sent ≡ before ++ startup_message parameters
  pub names : user_named parameters ≡ Some user

-- the last that was sent is a message that begins this login, with the server's own nonce, right behind a
-- start that names its user
pub record HasAsked (users : Users) (secret own sent : List ℕ) (begun : Beginning) : Type 0 where
  pub before : List ℕ
  pub body : List ℕ
  pub said : sent ≡ before ++ login_message body
  pub claimed : HasClaimed before begun.user
  pub begins : BeginsLogin users secret own begun.user body begun

-- among what was sent is a message that proves the client to be this user, right behind the one that begins
-- that very login
pub record ProvesUser (users : Users) (secret own sent : List ℕ) (user : Name) : Type 0 where
  pub begun : Beginning
  pub user_is : begun.user ≡ user
  pub before : List ℕ
  pub body : List ℕ
  pub behind : List ℕ
  pub said : sent ≡ before ++ login_message body ++ behind
  pub asked : HasAsked users secret own before begun
  pub answer : List ℕ
  pub proves : LogsIn users begun body answer

-- The client has sent, one behind the other, a start that names this user, a message that begins a login of
-- his with the server's own nonce, and one that proves the client to be that user.
pub record HasProved (users : Users) (secret own : List ℕ) (traffic : Traffic) (user : User)
    : Type 0 where
  pub sent : List ℕ
  pub read : Consumes traffic.left traffic.left' sent
  pub proves : ProvesUser users secret own sent user.0
