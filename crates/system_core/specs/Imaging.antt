-- What is found of the images that are kept.
use Rattle.std.specs.Prelude.{◌≡◌, ℕ, Option, option_map, IfSome}
use Rattle.capture_core.specs.declared.image.Image.{Image}
use Rattle.system_core.specs.World.{World}
use Rattle.system_core.specs.Judging.{point_of}
use Rattle.system_core.specs.Standing.{IsImageOf}

-- the image of the checkpoint of this number, exactly if it is kept
pub record IsKeptImage (w : World) (number : ℕ) (found : Option Image) : Type 0 where
  pub of : IfSome found (IsImageOf w.journal)
  pub number_is : IfSome found (λ image. image.number ≡ number)
  pub kept : option_map (λ image. image.point) found ≡ point_of w number
