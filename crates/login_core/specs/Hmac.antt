-- HMAC (RFC 2104, section 2), with SHA-256 as its hash function H. B is 64, the bytes of a block of
-- SHA-256. Keys and texts may have any length.
use Rattle.std.specs.Prelude.{ℕ, ◌-◌, List, ◌++◌, length, map, replicate, bit_xor, nat_lt, if◌then◌else◌}
use Rattle.sha2.specs.Sha256.{sha256}

-- a key of at most B bytes: the key itself, or H of one that is longer
abbrev pub short_key : List ℕ → List ℕ
short_key key = if nat_lt 64 (length key) then sha256 key else key

-- step (1): zeros at the end of the key, up to B bytes
abbrev pub filled_up : List ℕ → List ℕ
filled_up key = key ++ replicate (64 - length key) 0

-- each byte of a block, exclusive-or one byte
abbrev pub exclusive_or_each : ℕ → List ℕ → List ℕ
exclusive_or_each byte block = map (λ b. bit_xor b byte) block

-- step (2): the key with ipad, the byte 0x36 repeated B times
abbrev pub inner_pad : List ℕ → List ℕ
inner_pad key = exclusive_or_each 0x36 (filled_up (short_key key))

-- step (5): the key with opad, the byte 0x5c repeated B times
abbrev pub outer_pad : List ℕ → List ℕ
outer_pad key = exclusive_or_each 0x5c (filled_up (short_key key))

-- H (K XOR opad, H (K XOR ipad, text))
abbrev pub hmac : List ℕ → List ℕ → List ℕ
hmac key text = sha256 (outer_pad key ++ sha256 (inner_pad key ++ text))
