-- The codes of SQLSTATE (PostgreSQL's appendix "Error Codes"), and what is told by which.
use Rattle.std.specs.Prelude.{ℕ, List, Option, Some, None, codes}
use Rattle.base_core.specs.declared.lack.Lack.{Lack}
use Rattle.base_core.specs.declared.lack.Lack.TheVariants as lacks
use Rattle.lexer_core.specs.declared.fault.Code.{Code}
use Rattle.lexer_core.specs.declared.fault.Code.TheVariants as faults
use Rattle.answer_core.specs.declared.sql_state.SqlState.{SqlState}
use Rattle.answer_core.specs.declared.sql_state.SqlState.TheVariants as states

-- the five letters and digits of a code
abbrev pub state_text : SqlState → List ℕ
state_text states.SuccessfulCompletion = codes "00000"
state_text states.ProtocolViolation = codes "08P01"
state_text states.FeatureNotSupported = codes "0A000"
state_text states.NumericValueOutOfRange = codes "22003"
state_text states.NullValueNotAllowed = codes "22004"
state_text states.CharacterNotInRepertoire = codes "22021"
state_text states.InvalidTextRepresentation = codes "22P02"
state_text states.InvalidBinaryRepresentation = codes "22P03"
state_text states.ActiveSqlTransaction = codes "25001"
state_text states.InFailedSqlTransaction = codes "25P02"
state_text states.InvalidStatementName = codes "26000"
state_text states.InvalidAuthorization = codes "28000"
state_text states.InvalidPassword = codes "28P01"
state_text states.InvalidCursorName = codes "34000"
state_text states.InsufficientPrivilege = codes "42501"
state_text states.SyntaxError = codes "42601"
state_text states.NameTooLong = codes "42622"
state_text states.DuplicateColumn = codes "42701"
state_text states.UndefinedColumn = codes "42703"
state_text states.UndefinedObject = codes "42704"
state_text states.DatatypeMismatch = codes "42804"
state_text states.UndefinedTable = codes "42P01"
state_text states.UndefinedParameter = codes "42P02"
state_text states.DuplicateCursor = codes "42P03"
state_text states.DuplicatePreparedStatement = codes "42P05"
state_text states.DuplicateTable = codes "42P07"
state_text states.OutOfMemory = codes "53200"
state_text states.ProgramLimitExceeded = codes "54000"
state_text states.TooManyArguments = codes "54023"
state_text states.NotInPrerequisiteState = codes "55000"
state_text states.ObjectInUse = codes "55006"
state_text states.IoError = codes "58030"

-- the code of what is missing
abbrev pub lack_state : Lack → SqlState
lack_state (lacks.NoTable table) = states.UndefinedTable
lack_state (lacks.TableExists table) = states.DuplicateTable
lack_state (lacks.NoColumn table column) = states.UndefinedColumn
lack_state (lacks.NoPrivilege user atom) = states.InsufficientPrivilege
lack_state (lacks.NoGrantOption user atom) = states.InsufficientPrivilege
lack_state (lacks.NoGrant by to atom) = states.InsufficientPrivilege
lack_state (lacks.NoCheckpoint number) = states.UndefinedObject
lack_state (lacks.NoTableThen table number) = states.UndefinedTable
lack_state (lacks.NoSelectThen user table) = states.InsufficientPrivilege
lack_state (lacks.NoSelectNow user table) = states.InsufficientPrivilege
lack_state (lacks.WrongCount given wanted) = states.SyntaxError
lack_state (lacks.WrongType column wanted) = states.DatatypeMismatch
lack_state (lacks.Full what) = states.ProgramLimitExceeded
lack_state lacks.Busy = states.ObjectInUse
lack_state lacks.NoMemory = states.OutOfMemory
lack_state lacks.Worn = states.ProgramLimitExceeded
lack_state (lacks.NoOptionGiven by to atom) = states.InsufficientPrivilege

-- the code of a fault of a statement; one without a token is no error, and has none
abbrev pub fault_state : Code → Option SqlState
fault_state faults.Empty = None
fault_state faults.TooLong = Some states.ProgramLimitExceeded
fault_state faults.BadByte = Some states.SyntaxError
fault_state faults.Expected = Some states.SyntaxError
fault_state faults.BadNumber = Some states.NumericValueOutOfRange
fault_state faults.OpenText = Some states.SyntaxError
fault_state faults.Duplicate = Some states.DuplicateColumn
fault_state faults.TooMany = Some states.TooManyArguments
fault_state faults.LongName = Some states.NameTooLong
fault_state faults.Trailing = Some states.SyntaxError
