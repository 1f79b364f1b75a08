-- How the reading of a file's whole lines ends, for any server of lines.
use Rattle.std.specs.Prelude.{◌⊎◌, Bool, List, ℕ, Option, None, Some, Result, Ok, Err}
use Rattle.std.proofs.Common.{Vec, Global}
use Rattle.lines_core.specs.Serving.{EndsWhole, traffic_of}
use Rattle.lines_core.specs.declared.serving.SessionFault.{SessionFault}
use Rattle.lines_core.specs.declared.serving.WholeEnding.TheVariants as whole_endings

module _ {X : Type 0} (answers : X → List ℕ → List ℕ → X → Type 0) (over : X → Bool) where
  -- with the front of a last line that was cut off, if it was
  abbrev pub ReadsWhole : Result (Option (Vec ℕ Global)) SessionFault → (old new : X)
      → (left left' : Option (List ℕ)) → Type 0
  ReadsWhole (Ok None) old new left left' =
      EndsWhole answers over (Ok whole_endings.Whole) old new (traffic_of left left' None None)
      ⊎ EndsWhole answers over (Ok whole_endings.Over) old new (traffic_of left left' None None)
  ReadsWhole (Ok (Some front)) old new left left' =
      EndsWhole answers over (Ok (whole_endings.CutOff front)) old new
      (traffic_of left left' None None)
  ReadsWhole (Err fault) old new left left' =
      EndsWhole answers over (Err fault) old new (traffic_of left left' None None)
