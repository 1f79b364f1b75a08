-- The number and the text of a fault's code.
use Rattle.std.specs.Prelude.{ℕ, List, codes}
use Rattle.lexer_core.specs.declared.fault.Code.{Code}
use Rattle.lexer_core.specs.declared.fault.Code.TheVariants.{Empty, TooLong, BadByte, Expected, BadNumber, OpenText, Duplicate, TooMany, LongName, Trailing}

-- the number of a code
abbrev pub code_number : Code → ℕ
code_number Empty = 1
code_number TooLong = 2
code_number BadByte = 3
code_number Expected = 4
code_number BadNumber = 5
code_number OpenText = 6
code_number Duplicate = 7
code_number TooMany = 8
code_number LongName = 9
code_number Trailing = 10

-- and its words
abbrev pub code_text : Code → List ℕ
code_text Empty = codes "empty"
code_text TooLong = codes "too long"
code_text BadByte = codes "bad byte"
code_text Expected = codes "not expected"
code_text BadNumber = codes "bad number"
code_text OpenText = codes "open text"
code_text Duplicate = codes "duplicate"
code_text TooMany = codes "too many"
code_text LongName = codes "long name"
code_text Trailing = codes "trailing"
