-- How fields stand in a message (PostgreSQL's protocol 3.0, "Message Data Types").
use Rattle.std.specs.Prelude.{◌≡◌, ◌+◌, ◌<◌, ◌^◌, ℕ, zero, suc, Bool, true, false, List, [], ◌∷◌, ◌++◌, length, slice_index, Option, Some, None}
use Rattle.std.specs.List.{flat_map, list_all, AllByRecursion}
use Rattle.std.specs.Int.{w16, w32, to_be_bytes}

-- Int16: a number in two bytes, the most significant first
abbrev pub int16 : ℕ → List ℕ
int16 n = to_be_bytes w16 n

-- Int32: a number in four bytes, the most significant first
abbrev pub int32 : ℕ → List ℕ
int32 n = to_be_bytes w32 n

-- String: the bytes of a text, and a zero byte
abbrev pub string : List ℕ → List ℕ
string text = text ++ 0 ∷ []

-- the four bytes of -1, the length that NULL is told with
abbrev pub minus_one : ℕ
minus_one = 4294967295

-- a value: how many bytes it has, and these bytes; of NULL -1, and no bytes
abbrev pub value : Option (List ℕ) → List ℕ
value None = int32 minus_one
value (Some bytes) = int32 (length bytes) ++ bytes

-- a list: how many items it has, and the items
abbrev pub counted_items : {A : Type 0} → (A → List ℕ) → List A → List ℕ
counted_items item items = int16 (length items) ++ flat_map item items

-- a byte that may stand in a text: any but zero
abbrev pub is_text_byte : ℕ → Bool
is_text_byte zero = false
is_text_byte (suc byte) = true

-- a text that a String may have: no byte of it is zero
abbrev pub HasNoZero : List ℕ → Type 0
HasNoZero text = list_all is_text_byte text ≡ true

-- a value whose length can be told
abbrev pub IsValue : Option (List ℕ) → Type 0
IsValue None = Unit {0}
IsValue (Some bytes) = length bytes < minus_one

-- a list that can be counted, of such items
abbrev pub IsCounted : {A : Type 0} → (A → Type 0) → List A → Type 0
IsCounted IsItem items = (length items < 2 ^ 16) × AllByRecursion IsItem items

-- a number that has room in two bytes
abbrev pub IsNumber16 : ℕ → Type 0
IsNumber16 n = n < 2 ^ 16

-- a number that has room in four bytes
abbrev pub IsNumber32 : ℕ → Type 0
IsNumber32 n = n < 2 ^ 32

-- a body behind its length, which counts its own four bytes and the body
abbrev pub sized : List ℕ → List ℕ
sized body = int32 (4 + length body) ++ body

-- numbers that are bytes
abbrev pub AreBytes : List ℕ → Type 0
AreBytes bytes = (i : ℕ) → slice_index bytes i < 256
