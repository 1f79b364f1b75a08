-- How a body stands behind its length in bytes that came, as far as they have come.
use Rattle.std.specs.Prelude.{◌≡◌, ◌+◌, ◌<◌, ◌≤◌, ◌⊎◌, ℕ, List, ◌++◌, length}
use Rattle.messages_core.specs.Fields.{int32, sized, IsNumber32}

-- the body has at least and at most so many bytes
abbrev pub IsBodyWithin : ℕ → ℕ → List ℕ → Type 0
IsBodyWithin least most body = (least ≤ length body) × (length body ≤ most)

-- the bytes are a body behind its length, and a rest
pub record HasBody (least most : ℕ) (bytes body rest : List ℕ) : Type 0 where
  pub said : bytes ≡ sized body ++ rest
  pub within : IsBodyWithin least most body

-- the length and some of such a body have come
pub record HasPartOfBody (least most : ℕ) (bytes : List ℕ) : Type 0 where
  pub body : List ℕ
  pub more : List ℕ
  pub said : bytes ++ more ≡ sized body
  pub within : IsBodyWithin least most body
  pub some : 0 < length more

-- more has to come: for the length, or for the body whose length it is
abbrev pub WantsMore : ℕ → ℕ → List ℕ → Type 0
WantsMore least most bytes = (length bytes < 4) ⊎ HasPartOfBody least most bytes

-- the length is that of no body of at least and at most so many bytes
pub record HasWrongLength (least most : ℕ) (bytes : List ℕ) : Type 0 where
  pub told : ℕ
  pub rest : List ℕ
  pub said : bytes ≡ int32 told ++ rest
  pub number : IsNumber32 told
  pub wrong : (told < 4 + least) ⊎ (4 + most < told)
