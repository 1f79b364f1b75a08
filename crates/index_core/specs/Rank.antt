-- Numbers in whose order the values of a column are.
use Rattle.std.specs.Prelude.{ℕ, zero, suc, ◌+◌, ◌-◌, ◌*◌, ◌^◌, min, ℤ, pos, negsuc, List, [], ◌∷◌}
use Rattle.base_core.specs.declared.value.Value.{Value}
use Rattle.base_core.specs.declared.value.Value.TheVariants as values

-- how many texts of bytes have this length
unfoldable pub texts_of_length : ℕ → ℕ
texts_of_length zero = 1
texts_of_length (suc length) = 256 * texts_of_length length

-- the first bytes of a text, so many, as digits to the base 256; behind the text they count 0. A
-- byte is below 256, so that the `min` leaves it as it is
unfoldable pub leading : ℕ → List ℕ → ℕ
leading zero bytes = 0
leading (suc count) [] = 0
leading (suc count) (byte ∷ bytes) =
    min (byte * texts_of_length count + leading count bytes) (texts_of_length (suc count) - 1)

-- how far a number is above the lowest of 64 bits; one that these do not hold counts as the nearest
-- that they do
unfoldable pub above_lowest : ℤ → ℕ
above_lowest (pos n) = min (2 ^ 63 + n) (2 ^ 64 - 1)
above_lowest (negsuc n) = 2 ^ 63 - suc n

-- the rank of a value. Of two values in order the first has no higher one
unfoldable pub rank : Value → ℕ
rank (values.Int number) = above_lowest number
rank (values.Text bytes) = leading 8 bytes
