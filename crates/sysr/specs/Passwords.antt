-- What `verifier` does between its streams. Of a reader, `left` is what it has to come; of a writer,
-- `taken` is what was given to it.
use Rattle.std.specs.Prelude.{◌≡◌, ◌<◌, ◌≤◌, ◌⊎◌, ◌&&◌, ℕ, Bool, true, nat_le, List, [], ◌∷◌, ◌++◌, length, Option}
use Rattle.std.specs.List.{list_all}
use Rattle.std.specs.Io.KnownBytes.{Appends, Consumes, IsAtEnd}
use Rattle.base_core.specs.declared.name.User.{User}
use Rattle.login_core.specs.Scram.{client_key, stored_key, server_key, salted_password}
use Rattle.login_core.specs.Users.{kept_text}
use Rattle.login_core.specs.Verifiers.{user_line}
use Rattle.login_core.specs.declared.verifier.Verifier.{Verifier}

-- a character of ASCII that is seen, or a blank
abbrev pub is_password_byte : ℕ → Bool
is_password_byte byte = nat_le 32 byte && nat_le byte 126

-- what may be a password
pub record IsPassword (password : List ℕ) : Type 0 where
  pub some : 0 < length password
  pub short : length password ≤ 1024
  pub printable : list_all is_password_byte password ≡ true

-- the text is this one line, with a line feed behind it or without
abbrev pub IsLineOf : List ℕ → List ℕ → Type 0
IsLineOf text line = (text ≡ line) ⊎ (text ≡ line ++ 10 ∷ [])

-- this is kept of a user of this password, with some salt, where it was hashed so often
pub record IsOfPassword (password : List ℕ) (iterations : ℕ) (kept : Verifier) : Type 0 where
  pub salted : length kept.salt.items ≡ 16
  pub iterated : kept.iterations ≡ iterations
  pub stored : kept.stored_key
      ≡ stored_key (client_key (salted_password password kept.salt.items iterations))
  pub served : kept.server_key
      ≡ server_key (salted_password password kept.salt.items iterations)

-- the line of a user of whom this is kept, with its line feed
abbrev pub ended_user_line : User → Verifier → List ℕ
ended_user_line user kept = user_line user.0 (kept_text kept) ++ 10 ∷ []

-- all that came was one line, a password, and the line of a user of it was written
pub record WritesVerifier (user : User) (left left' taken taken' : Option (List ℕ)) : Type 0 where
  pub text : List ℕ
  pub password : List ℕ
  pub kept : Verifier
  pub read : Consumes left left' text
  pub whole : IsAtEnd left'
  pub is_line : IsLineOf text password
  pub is_password : IsPassword password
  pub of_password : IsOfPassword password 4096 kept
  pub wrote : Appends taken taken' (ended_user_line user kept)
