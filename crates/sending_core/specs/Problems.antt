-- The errors of a session: the code of each (PostgreSQL's appendix "Error Codes"), and its sentence.
use Rattle.std.specs.Prelude.{ℕ, List, codes}
use Rattle.answer_core.specs.declared.sql_state.SqlState.{SqlState}
use Rattle.answer_core.specs.declared.sql_state.SqlState.TheVariants as states
use Rattle.sending_core.specs.declared.problem.Problem.{Problem}
use Rattle.sending_core.specs.declared.problem.Problem.TheVariants as problems

abbrev pub problem_state : Problem → SqlState
problem_state problems.BadMessage = states.ProtocolViolation
problem_state problems.NotExpected = states.ProtocolViolation
problem_state problems.RefusedLogin = states.InvalidPassword
problem_state problems.NoUser = states.InvalidAuthorization
problem_state problems.ChangeInBlock = states.ActiveSqlTransaction
problem_state problems.FailedBlock = states.InFailedSqlTransaction
problem_state problems.ChangeAmongSeveral = states.FeatureNotSupported
problem_state problems.TooManyInQuery = states.ProgramLimitExceeded
problem_state problems.Unserved = states.FeatureNotSupported
problem_state problems.UnknownSetting = states.UndefinedObject
problem_state problems.PlaceInQuery = states.UndefinedParameter
problem_state problems.NoStatement = states.InvalidStatementName
problem_state problems.StatementExists = states.DuplicatePreparedStatement
problem_state problems.TooManyStatements = states.ProgramLimitExceeded
problem_state problems.NoPortal = states.InvalidCursorName
problem_state problems.PortalExists = states.DuplicateCursor
problem_state problems.TooManyPortals = states.ProgramLimitExceeded
problem_state problems.PortalDone = states.NotInPrerequisiteState
problem_state problems.WrongCount = states.ProtocolViolation
problem_state problems.NullValue = states.NullValueNotAllowed
problem_state problems.BadNumber = states.InvalidTextRepresentation
problem_state problems.BadLength = states.InvalidBinaryRepresentation
problem_state problems.BadText = states.CharacterNotInRepertoire
problem_state problems.LongText = states.ProgramLimitExceeded
problem_state problems.UnknownType = states.UndefinedObject
problem_state problems.UnknownFormat = states.ProtocolViolation
problem_state problems.LongLine = states.ProgramLimitExceeded
problem_state problems.NoMemory = states.OutOfMemory
problem_state problems.Journal = states.IoError

abbrev pub problem_text : Problem → List ℕ
problem_text problems.BadMessage = codes "a message does not have the form of its type"
problem_text problems.NotExpected = codes "this message may not come here"
problem_text problems.RefusedLogin = codes "refused: login"
problem_text problems.NoUser = codes "the startup message names no user who may come in here"
problem_text problems.ChangeInBlock =
    codes "a change is done at once and cannot be rolled back: send it outside BEGIN .. COMMIT (autocommit)"
problem_text problems.FailedBlock = codes "the block has failed: send ROLLBACK"
problem_text problems.ChangeAmongSeveral =
    codes "a change is sent alone, not among several statements"
problem_text problems.TooManyInQuery = codes "a query has too many statements"
problem_text problems.Unserved = codes "the server does not do this"
problem_text problems.UnknownSetting = codes "there is no such setting, or it cannot be set so"
problem_text problems.PlaceInQuery = codes "a place such as $1 stands only in a prepared statement"
problem_text problems.NoStatement = codes "there is no prepared statement of this name"
problem_text problems.StatementExists = codes "there is a prepared statement of this name already"
problem_text problems.TooManyStatements = codes "too many statements are prepared: close one"
problem_text problems.NoPortal = codes "there is no portal of this name"
problem_text problems.PortalExists = codes "there is a portal of this name already"
problem_text problems.TooManyPortals = codes "too many portals are open: close one"
problem_text problems.PortalDone = codes "the portal was carried out already, and cannot be again"
problem_text problems.WrongCount = codes "there are not as many values as the statement has places"
problem_text problems.NullValue = codes "a value is NULL, and the language has no NULL"
problem_text problems.BadNumber = codes "a value is no whole number from -2^63 to 2^63 - 1"
problem_text problems.BadLength = codes "a binary number has 2, 4 or 8 bytes"
problem_text problems.BadText = codes "a text is not UTF-8, or has a control character"
problem_text problems.LongText = codes "a text has more than 1024 bytes"
problem_text problems.UnknownType = codes "a parameter has a type that the server has not"
problem_text problems.UnknownFormat = codes "a format is neither 0, for text, nor 1, for binary"
problem_text problems.LongLine = codes "the statement has more than 4096 bytes"
problem_text problems.NoMemory = codes "refused: no memory"
problem_text problems.Journal = codes "it is not known whether the change was kept"
