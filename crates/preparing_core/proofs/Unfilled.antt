-- Why a text is not read with numbers in its places.
use Rattle.std.proofs.Common.{◌≡◌, ℕ, List, length, arith}
use Rattle.base_core.specs.declared.value.Value.{Value}
use Rattle.parameters_core.specs.declared.fault.FillFault.{FillFault}
use Rattle.parameters_core.specs.declared.fault.FillFault.TheVariants as fill_faults
use Rattle.parameters_core.specs.Places.{IsGreatestNumber}
use Rattle.parameters_core.specs.Filling.{IsFillFault}
use Rattle.parameters_core.proofs.FilledLines.{greatest_once}
use Rattle.binding_core.specs.Standing.{AreNumbersFrom}
use Rattle.preparing_core.specs.declared.fault.PrepareFault.TheVariants as faults
use Rattle.preparing_core.specs.FaultProblems.{fill_problem}
use Rattle.preparing_core.specs.Guessing.{IsUnnumbered, refused, too_long}

-- with as many numbers as the text has places, only its length or memory stands in the way
pub not_filled : (text : List ℕ) (first count : ℕ) (values : List Value) (fault : FillFault) → IsGreatestNumber text count → length values ≡ count → AreNumbersFrom first values → IsFillFault text values fault → IsUnnumbered text first count (faults.Problem (fill_problem fault))
not_filled text first count values fill_faults.NoMemory g e n f = refused
not_filled text first count values fill_faults.TooLong g e n f = too_long (record { values = values; count_is = e; numbers = n; long = f })
not_filled text first count values (fill_faults.NoValue number) g e n f = absurd (omega (arith, f.1, e, g.greatest, greatest_once text number g.parts g.last f.0 g.cut))
