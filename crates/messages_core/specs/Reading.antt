-- Fields read from the front of bytes, each with the bytes behind it. None: they don't begin with such
-- a field.
use Rattle.std.specs.Prelude.{ℕ, zero, suc, List, [], ◌∷◌, length, take, drop, Option, Some, None, nat_lt, ◌==◌, if◌then◌else◌}
use Rattle.std.specs.Option.{option_map_or}
use Rattle.std.specs.Int.{Width, w16, w32, byte_len, from_be_bytes}
use Rattle.messages_core.specs.Fields.{minus_one}

infixl 10 ◌>>=◌
abbrev pub ◌>>=◌ : {A B : Type 0} → Option A → (A → Option B) → Option B
None >>= f = None
(Some x) >>= f = f x

-- a field and the bytes behind it, where bytes begin with one
abbrev pub FieldReader : Type 0 → Type 0
FieldReader A = List ℕ → Option (A × List ℕ)

-- an Int16 or an Int32
abbrev pub number_at : Width → FieldReader ℕ
number_at w bytes = if nat_lt (length bytes) (byte_len w) then None
    else Some (from_be_bytes w (take (byte_len w) bytes), drop (byte_len w) bytes)

-- a text, up to the first zero byte
abbrev pub text_at : FieldReader (List ℕ)
text_at [] = None
text_at (zero ∷ rest) = Some ([], rest)
text_at (suc byte ∷ rest) = text_at rest >>= λ x. Some (suc byte ∷ x.0, x.1)

-- so many bytes
abbrev pub bytes_at : ℕ → FieldReader (List ℕ)
bytes_at n bytes = if nat_lt (length bytes) n then None else Some (take n bytes, drop n bytes)

-- a value, or NULL
unfoldable pub value_or_null_at : FieldReader (Option (List ℕ))
value_or_null_at bytes = number_at w32 bytes >>= λ n.
    if n.0 == minus_one then Some (None, n.1)
    else (bytes_at n.0 n.1 >>= λ x. Some (Some x.0, x.1))

-- one field, and another behind it
abbrev pub both_at : {A B : Type 0} → FieldReader A → FieldReader B → FieldReader (A × B)
both_at first second bytes = first bytes >>= λ x. second x.1 >>= λ y. Some ((x.0, y.0), y.1)

-- the items that stand first, at most so many
abbrev pub items_in : {A : Type 0} → FieldReader A → ℕ → List ℕ → List A
items_in at zero bytes = []
items_in at (suc n) bytes = option_map_or (λ x. x.0 ∷ items_in at n x.1) (at bytes) []

-- what stands behind so many items
abbrev pub past_items : {A : Type 0} → FieldReader A → ℕ → List ℕ → Option (List ℕ)
past_items at zero bytes = Some bytes
past_items at (suc n) bytes = at bytes >>= λ x. past_items at n x.1

-- so many items
abbrev pub items_at : {A : Type 0} → FieldReader A → ℕ → FieldReader (List A)
items_at at n bytes = past_items at n bytes >>= λ rest. Some (items_in at n bytes, rest)

-- a list: how many items, and these
abbrev pub counted_at : {A : Type 0} → FieldReader A → FieldReader (List A)
counted_at at bytes = number_at w16 bytes >>= λ n. items_at at n.0 n.1

-- a field that is all of the bytes
abbrev pub whole : {A : Type 0} → Option (A × List ℕ) → Option A
whole read = read >>= λ x. if length x.1 == 0 then Some x.0 else None

-- a name that is not empty, and a value
unfoldable pub parameter_at : FieldReader (List ℕ × List ℕ)
parameter_at bytes = text_at bytes >>= λ name.
    if length name.0 == 0 then None
    else (text_at name.1 >>= λ x. Some ((name.0, x.0), x.1))
