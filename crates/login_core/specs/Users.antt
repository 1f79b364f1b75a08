-- A file of users: a line for each, with his name and what is kept of him.
use Rattle.std.specs.Prelude.{◌≡◌, ℕ, ◌+◌, ◌≤◌, ◌<◌, true, List, [], ◌∷◌, ◌++◌, length, Option, Some, None}
use Rattle.std.specs.Map.{lookup}
use Rattle.std.specs.Option.{is_some}
use Rattle.base_core.specs.Words.{name_of, same_name}
use Rattle.base_core.specs.declared.name.Name.{Name}
use Rattle.login_core.specs.declared.verifier.Verifier.{Verifier}
use Rattle.login_core.specs.declared.users_fault.UsersFault.{UsersFault}
use Rattle.login_core.specs.declared.users_fault.UsersFault.TheVariants as faults
use Rattle.login_core.specs.declared.users_fault.WrongLine.{WrongLine}
use Rattle.login_core.specs.declared.users_fault.WrongLine.TheVariants as wrongs
use Rattle.login_core.specs.Decoding.{LacksByte}
use Rattle.login_core.specs.Verifiers.{user_line, verifier_text}

-- users, by name, each with what is kept of him
abbrev pub Users : Type 0
Users = List (Name × Verifier)

-- what is kept of the user of this name
abbrev pub verifier_of : Users → Name → Option Verifier
verifier_of users name = lookup (same_name name) users

-- what is kept of a user, as a text
abbrev pub kept_text : Verifier → List ℕ
kept_text v = verifier_text v.salt.items v.iterations v.stored_key v.server_key

-- the line is this user's: a word that spells his name, in any case, and what is kept of him
pub record SaysUser (line : List ℕ) (user : Name × Verifier) : Type 0 where
  pub word : List ℕ
  pub said : line ≡ user_line word (kept_text user.1)
  pub named : name_of word ≡ Some user.0

-- the greatest number of users
abbrev pub most_users : ℕ
most_users = 10000

-- a line behind those of these users adds this one: it is his, no line before it is, and there is
-- room
pub record AddsUser (users : Users) (line : List ℕ) (user : Name × Verifier) : Type 0 where
  pub says : SaysUser line user
  pub new : verifier_of users user.0 ≡ None
  pub room : length users < most_users

-- whole lines, one for each of these users, in order
pub data WholeLines : List ℕ → Users → Type 0 where
  no_line : WholeLines [] []
  line_more : {front line : List ℕ} {users : Users} {user : Name × Verifier}
      → WholeLines front users
      → LacksByte 10 line
      → AddsUser users line user
      → WholeLines (front ++ (line ++ 10 ∷ [])) (users ++ user ∷ [])

-- a file of these users: whole lines, and perhaps one more without its line feed
pub data SayUsers : List ℕ → Users → Type 0 where
  whole : {text : List ℕ} {users : Users} → WholeLines text users → SayUsers text users
  unended : {front line : List ℕ} {users : Users} {user : Name × Verifier}
      → WholeLines front users
      → LacksByte 10 line
      → AddsUser users line user
      → SayUsers (front ++ line) (users ++ user ∷ [])

-- what is wrong with a line behind the lines of these users: it is no user's, or that of one of
-- them, or one too many
abbrev pub IsWrong : Users → List ℕ → WrongLine → Type 0
IsWrong users line wrongs.NoUser = (user : Name × Verifier) → SaysUser line user → ⊥
IsWrong users line wrongs.Twice =
    (user : Name × Verifier) × SaysUser line user × (is_some (verifier_of users user.0) ≡ true)
IsWrong users line wrongs.TooMany = most_users ≤ length users

-- why a line behind the lines of these users is refused: what is wrong with it, and its number
abbrev pub IsRefusedBehind : Users → List ℕ → UsersFault → Type 0
IsRefusedBehind users line (faults.Line number why) =
    (number ≡ length users + 1) × IsWrong users line why
IsRefusedBehind users line faults.NoMemory = Unit {0}

-- what may stand behind a line: a line feed, or nothing where the line has a byte
abbrev pub EndsLine : List ℕ → List ℕ → Type 0
EndsLine line [] = 0 < length line
EndsLine line (byte ∷ behind) = byte ≡ 10

-- why a file is refused: its first lines are those of some users, and the next is refused
pub record IsRefused (text : List ℕ) (fault : UsersFault) : Type 0 where
  pub front : List ℕ
  pub line : List ℕ
  pub behind : List ℕ
  pub users : Users
  pub said : text ≡ front ++ (line ++ behind)
  pub before : WholeLines front users
  pub free : LacksByte 10 line
  pub ends : EndsLine line behind
  pub refused : IsRefusedBehind users line fault
