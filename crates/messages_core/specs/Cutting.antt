-- A body cut off by the length before it.
use Rattle.std.specs.Prelude.{ℕ, ◌+◌, ◌-◌, ◌||◌, List, Option, Some, None, nat_lt, if◌then◌else◌}
use Rattle.std.specs.Int.{w32}
use Rattle.messages_core.specs.Reading.{number_at, bytes_at}
use Rattle.messages_core.specs.declared.frames.Cut.{Cut}
use Rattle.messages_core.specs.declared.frames.Cut.TheVariants as cuts

abbrev pub body_at : Option (List ℕ × List ℕ) → Cut
body_at None = cuts.Part
body_at (Some x) = cuts.Whole x.0 x.1

abbrev pub behind_length : ℕ → ℕ → Option (ℕ × List ℕ) → Cut
behind_length least most None = cuts.Part
behind_length least most (Some x) =
    if nat_lt x.0 (4 + least) || nat_lt (4 + most) x.0 then cuts.Faulty
    else body_at (bytes_at (x.0 - 4) x.1)

-- a body of at least and at most so many bytes
abbrev pub cut_of : ℕ → ℕ → List ℕ → Cut
cut_of least most bytes = behind_length least most (number_at w32 bytes)
