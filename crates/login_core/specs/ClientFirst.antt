-- The client's first message (RFC 5802, section 7, client-first-message).
use Rattle.std.specs.Prelude.{◌≡◌, ℕ, ◌<◌, Bool, true, ◌&&◌, ◌⊎◌, not, nat_lt, ◌==◌, List, ◌++◌, length, codes}
use Rattle.std.specs.List.{list_all}
use Rattle.login_core.specs.Decoding.{LacksByte}

-- a byte of a nonce: printable = %x21-2B / %x2D-7E, which is ASCII but for controls, the blank and
-- the comma
abbrev pub is_nonce_byte : ℕ → Bool
is_nonce_byte b = nat_lt 32 b && nat_lt b 127 && not (b == 44)

-- client-first-message-bare = username "," nonce: n= and a name, and r= and a nonce of one byte or
-- more. There is no extension, neither a mandatory one before the name nor others behind the nonce.
-- The name is any bytes but the comma and is not looked at, since the line has named the user.
pub record SaysBare (bare nonce : List ℕ) : Type 0 where
  pub name : List ℕ
  pub said : bare ≡ codes "n=" ++ name ++ codes ",r=" ++ nonce
  pub name_bytes : LacksByte 44 name
  pub nonce_bytes : list_all is_nonce_byte nonce ≡ true
  pub some : 0 < length nonce

-- the bytes are no client-first-message-bare
abbrev pub IsNoBare : List ℕ → Type 0
IsNoBare bare = (nonce : List ℕ) → SaysBare bare nonce → ⊥

-- gs2-header without an authorization identity, and its base64, which client-final-message has
-- behind c= (RFC 5802, sections 6 and 7). The flag is n or y: the channel is not bound.
abbrev pub IsHeader : List ℕ → List ℕ → Type 0
IsHeader header channel_binding =
    ((header ≡ codes "n,,") × (channel_binding ≡ codes "biws"))
    ⊎ ((header ≡ codes "y,,") × (channel_binding ≡ codes "eSws"))

-- client-first-message = gs2-header client-first-message-bare
pub record SaysFirst (message channel_binding bare nonce : List ℕ) : Type 0 where
  pub header : List ℕ
  pub header_is : IsHeader header channel_binding
  pub said : message ≡ header ++ bare
  pub nonce_is : SaysBare bare nonce

-- the bytes are no client-first-message
abbrev pub IsNoFirst : List ℕ → Type 0
IsNoFirst message =
    (channel_binding bare nonce : List ℕ) → SaysFirst message channel_binding bare nonce → ⊥
