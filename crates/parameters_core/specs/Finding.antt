-- The first place of some bytes, as the code has it.
use Rattle.std.specs.Prelude.{◌≡◌, ◌<◌, ◌≤◌, ◌-◌, ℕ, false, List, length, take, drop, slice_index}
use Rattle.base_core.specs.Words.{is_word_byte}
use Rattle.parameters_core.specs.declared.places.Place.{Place}
use Rattle.parameters_core.specs.Places.{IsPlace, Part, BeginsPart, place_number}

-- the first len bytes are a place of this number
pub record IsFrontPlace (bytes : List ℕ) (len number : ℕ) : Type 0 where
  pub within : len ≤ length bytes
  pub is_place : IsPlace (take len bytes)
  pub number_is : number ≡ place_number (take len bytes)
  pub ends : is_word_byte (slice_index bytes len) ≡ false

-- the part that ends with a place from start to before end
abbrev pub part_between : List ℕ → ℕ → ℕ → Part
part_between text start end =
    record { segment = take start text; place = take (end - start) (drop start text) }

-- it is the first place of the text outside texts
pub record IsFirstPlace (text : List ℕ) (found : Place) : Type 0 where
  pub within : found.end ≤ length text
  pub some : found.start < found.end
  pub begins : BeginsPart text (part_between text found.start found.end) (drop found.end text)
  pub number_is :
      found.number ≡ place_number (take (found.end - found.start) (drop found.start text))
