-- What a client is told of the faults of a statement with places.
use Rattle.parameters_core.specs.declared.fault.FillFault.{FillFault}
use Rattle.parameters_core.specs.declared.fault.FillFault.TheVariants as fill_faults
use Rattle.parameters_core.specs.declared.fault.ValueFault.{ValueFault}
use Rattle.parameters_core.specs.declared.fault.ValueFault.TheVariants as value_faults
use Rattle.binding_core.specs.declared.fault.BindFault.{BindFault}
use Rattle.binding_core.specs.declared.fault.BindFault.TheVariants as bind_faults
use Rattle.binding_core.specs.declared.fault.TypeFault.{TypeFault}
use Rattle.binding_core.specs.declared.fault.TypeFault.TheVariants as type_faults
use Rattle.sending_core.specs.declared.problem.Problem.{Problem}
use Rattle.sending_core.specs.declared.problem.Problem.TheVariants as problems

-- where a text is not filled
abbrev pub fill_problem : FillFault → Problem
fill_problem fill_faults.NoMemory = problems.NoMemory
fill_problem fill_faults.TooLong = problems.LongLine
fill_problem (fill_faults.NoValue number) = problems.PlaceInQuery

-- where a place has no type
abbrev pub type_problem : TypeFault → Problem
type_problem type_faults.NoMemory = problems.NoMemory
type_problem type_faults.WrongCount = problems.WrongCount
type_problem (type_faults.UnknownType number) = problems.UnknownType

-- where bytes are no value
abbrev pub value_problem : ValueFault → Problem
value_problem value_faults.NoMemory = problems.NoMemory
value_problem value_faults.BadNumber = problems.BadNumber
value_problem value_faults.BadLength = problems.BadLength
value_problem value_faults.BadText = problems.BadText
value_problem value_faults.TooLong = problems.LongText

-- where values are not bound
abbrev pub bind_problem : BindFault → Problem
bind_problem bind_faults.NoMemory = problems.NoMemory
bind_problem bind_faults.WrongCount = problems.WrongCount
bind_problem (bind_faults.NullValue number) = problems.NullValue
bind_problem (bind_faults.UnknownFormat code) = problems.UnknownFormat
bind_problem (bind_faults.BadValue number fault) = value_problem fault
bind_problem bind_faults.TooLong = problems.LongLine
