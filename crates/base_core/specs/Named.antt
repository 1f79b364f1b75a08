-- The fields of a name.
use Rattle.std.specs.Prelude.{◌≡◌, ℕ, ◌-◌, ◌≤◌, ◌++◌, List, length, take, drop}
use Rattle.std.proofs.Common.{sym, ◌∙◌, ap, arith, replicate, length-take-le, take-append-drop}
use Rattle.base_core.specs.Words.{IsName}
use Rattle.base_core.specs.declared.name.Name.TheInside.{Inside}

-- the bytes, and after them zeros
pub record IsPadded (a : Inside) : Type 0 where
  pub fits : a.len ≤ 30
  pub size : length a.bytes ≡ 30
  pub rest : drop a.len a.bytes ≡ replicate (30 - a.len) 0

-- a name as thirty bytes, with zeros behind it
abbrev pub padded : List ℕ → List ℕ
padded name = name ++ replicate (30 - length name) 0

-- the bytes of the name
abbrev pub name_bytes : Inside → List ℕ
name_bytes a = take a.len a.bytes

-- Two lemmas: the fields come back from the bytes. They stand here since the block of a type imports
-- from specs alone.
pub length-name_bytes : (a : Inside) → IsPadded a → length (name_bytes a) ≡ a.len
length-name_bytes a h = length-take-le a.len a.bytes (omega (arith, h.fits, h.size))

pub padded-name_bytes : (a : Inside) → IsPadded a → padded (name_bytes a) ≡ a.bytes
padded-name_bytes a h =
    ap (λ (n : ℕ). take a.len a.bytes ++ replicate (30 - n) 0) (length-name_bytes a h)
    ∙ (ap (λ (r : List ℕ). take a.len a.bytes ++ r) (sym h.rest) ∙ take-append-drop a.len a.bytes)

-- the bytes are a name's
pub record HoldsName (a : Inside) : Type 0 where
  pub padded : IsPadded a
  pub name : IsName (name_bytes a)
