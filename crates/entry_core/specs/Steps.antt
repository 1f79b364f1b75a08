-- A login by SCRAM-SHA-256 in PostgreSQL's messages: what the client's two messages come to. A session of
-- lines has the same two: the first of these stands behind LOGIN and the user's name there, and the last
-- one is the whole line.
use Rattle.std.specs.Prelude.{◌≡◌, ℕ, List, ◌∷◌, ◌++◌, Some, codes}
use Rattle.base_core.specs.declared.name.Name.{Name}
use Rattle.login_core.specs.Users.{Users}
use Rattle.login_core.specs.Login.{Beginning, Opens, LogsIn, Refuses}
use Rattle.messages_core.specs.Sasl.{SaysInitialResponse}
use Rattle.messages_core.specs.declared.sasl.InitialResponse.{InitialResponse}
use Rattle.entry_core.specs.declared.first_step.FirstStep.{FirstStep}
use Rattle.entry_core.specs.declared.first_step.FirstStep.TheVariants as first_steps
use Rattle.entry_core.specs.declared.last_step.LastStep.{LastStep}
use Rattle.entry_core.specs.declared.last_step.LastStep.TheVariants as last_steps

-- what a client begins a login with: the mechanism, and client-first-message
abbrev pub scram_response : List ℕ → InitialResponse
scram_response first = record { mechanism = codes "SCRAM-SHA-256"; response = Some first }

-- the body has this client-first-message
abbrev pub SaysScram : List ℕ → List ℕ → Type 0
SaysScram body first = SaysInitialResponse body (scram_response first)

-- the body has none
abbrev pub IsNoScram : List ℕ → Type 0
IsNoScram body = (first : List ℕ) → SaysScram body first → ⊥

-- the line by which a session of lines begins the login of this user by that message
abbrev pub login_line : Name → List ℕ → List ℕ
login_line user first = codes "LOGIN " ++ (user ++ 32 ∷ first)

-- the message begins this login of this user, as that line does
abbrev pub OpensLogin : Users → List ℕ → List ℕ → Name → List ℕ → Beginning → Type 0
OpensLogin users secret own user first begun =
    Opens users secret own (login_line user first) begun

-- the message begins none
abbrev pub OpensNoLogin : Users → List ℕ → List ℕ → Name → List ℕ → Type 0
OpensNoLogin users secret own user first =
    (begun : Beginning) → OpensLogin users secret own user first begun → ⊥

-- the body has a client-first-message that begins this login of this user
pub record BeginsLogin (users : Users) (secret own : List ℕ) (user : Name) (body : List ℕ)
    (begun : Beginning) : Type 0 where
  pub first : List ℕ
  pub says : SaysScram body first
  pub opens : OpensLogin users secret own user first begun

-- the body has none that does
abbrev pub BeginsNoLogin : Users → List ℕ → List ℕ → Name → List ℕ → Type 0
BeginsNoLogin users secret own user body =
    (begun : Beginning) → BeginsLogin users secret own user body begun → ⊥

-- What a client's first message comes to in the login of this user. Only where the body has one, there
-- may be no memory for the login.
abbrev pub IsFirstStep : Users → List ℕ → List ℕ → Name → List ℕ → FirstStep → Type 0
IsFirstStep users secret own user body (first_steps.Challenged begun) =
    BeginsLogin users secret own user body begun × (begun.user ≡ user)
IsFirstStep users secret own user body first_steps.Refused =
    BeginsNoLogin users secret own user body
IsFirstStep users secret own user body first_steps.Unread =
    (first : List ℕ) × SaysScram body first

-- What a client's last message comes to in this login: it proves him to be its user, or it does not, or
-- there was no memory to look at it.
abbrev pub IsLastStep : Users → Beginning → List ℕ → LastStep → Type 0
IsLastStep users begun body (last_steps.LoggedIn user answer) =
    (user.0 ≡ begun.user) × LogsIn users begun body answer.items
IsLastStep users begun body last_steps.Refused = Refuses users begun body
IsLastStep users begun body last_steps.Unread = Unit {0}
