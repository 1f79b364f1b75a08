-- Which images are kept, and which of them is meant.
use Rattle.std.specs.Prelude.{ℕ, Bool, ◌-◌, ◌==◌, List, length, drop, reverse, find, slice_get, Option, None, nat_lt, if◌then◌else◌}
use Rattle.base_core.specs.declared.value.Moment.{Moment}
use Rattle.capture_core.specs.declared.image.Image.{Image}

-- the last eight
abbrev pub last_eight : {X : Type 0} → List X → List X
last_eight xs = drop (length xs - 8) xs

-- the oldest of eight
abbrev pub pushed_out : List Image → Option Image
pushed_out images = if nat_lt (length images) 8 then None else slice_get images 0

-- whether an image has this number
abbrev pub bears : ℕ → Image → Bool
bears number image = image.number == number

-- the newest image of this number
abbrev pub newest : List Image → ℕ → Option Image
newest images number = find (bears number) (reverse images)

-- the number and the point of an image
abbrev pub number_and_point : Image → ℕ × Moment
number_and_point image = (image.number, image.point)
