-- Who speaks in a line, `user: statement`, and what he asks. A line may have so many bytes.
use Rattle.std.specs.Prelude.{◌≡◌, ◌+◌, ℕ, not, ◌==◌, nat_lt, List, length, take, drop, slice_index, if◌then◌else◌, Option, None, Some, Result, Ok, Err}
use Rattle.std.specs.List.{list_all, prefix_len}
use Rattle.std.specs.Char.{is_ascii_alphabetic}
use Rattle.base_core.specs.Words.{is_word_byte, name_of}
use Rattle.base_core.specs.declared.name.Name.{Name}
use Rattle.base_core.specs.declared.name.User.{User}
use Rattle.base_core.specs.declared.word.TheConstants.{MAX_NAME}
use Rattle.lexer_core.specs.Lexing.{is_blank}
use Rattle.lexer_core.specs.declared.fault.Code.{Code}
use Rattle.lexer_core.specs.declared.fault.Code.TheVariants as codes
use Rattle.lexer_core.specs.declared.fault.ReadFault.{ReadFault}
use Rattle.lexer_core.specs.declared.fault.ReadFault.TheVariants as faults
use Rattle.reader_core.specs.Language.{Spells, IsReadFault}
use Rattle.reader_core.specs.declared.statement.Statement.{Statement}

abbrev pub colon : ℕ
colon = 58

-- who speaks and where the statement begins, or what is wrong and where
abbrev pub Address : Type 0
Address = Result (User × ℕ) (Code × ℕ)

-- a user whose colon stands behind so many bytes, where the word is a name
abbrev pub spoken_by : Option Name → ℕ → Address
spoken_by (Some name) n = Ok (record { 0 = name }, n + 1)
spoken_by None n = Err (codes.Expected, 0)

-- the line begins with a letter, its word has so many bytes, and a colon stands directly behind it
abbrev pub addressed_by : ℕ → List ℕ → Address
addressed_by n line =
    if not (is_ascii_alphabetic (slice_index line 0)) then Err (codes.Expected, 0)
    else if nat_lt MAX_NAME n then Err (codes.LongName, 0)
    else if slice_index line n == colon then spoken_by (name_of (take n line)) n
    else Err (codes.Expected, 0)

-- how a line begins that may have so many bytes: its length and whether it is blank are judged first
abbrev pub addressed_up_to : ℕ → List ℕ → Address
addressed_up_to most line =
    if nat_lt most (length line) then Err (codes.TooLong, most)
    else if list_all is_blank line then Err (codes.Empty, 0)
    else addressed_by (prefix_len is_word_byte line) line

-- the line says who speaks
abbrev pub IsAddressed : ℕ → List ℕ → Type 0
IsAddressed most line = (user : User) × (start : ℕ) × (addressed_up_to most line ≡ Ok (user, start))

-- the user asks this
pub record Asks (most : ℕ) (line : List ℕ) (user : User) (asked : Statement) : Type 0 where
  pub start : ℕ
  pub speaker : addressed_up_to most line ≡ Ok (user, start)
  pub spelled : Spells (drop start line) asked

-- the line's one fault, at this byte of it
pub data IsFaulty (most : ℕ) (line : List ℕ) : Code → ℕ → Type 0 where
  address : {code : Code} {offset : ℕ}
      → addressed_up_to most line ≡ Err (code, offset)
      → IsFaulty most line code offset
  statement : {code : Code} (user : User) (start offset : ℕ)
      → addressed_up_to most line ≡ Ok (user, start)
      → IsReadFault (drop start line) code offset
      → IsFaulty most line code (start + offset)

-- why a line is not read: its one fault; or memory ran out, where it says who speaks, so that what he
-- asks had to be read
abbrev pub IsUnreadFor : ℕ → List ℕ → ReadFault → Type 0
IsUnreadFor most line (faults.At code offset) = IsFaulty most line code offset
IsUnreadFor most line faults.NoMemory = IsAddressed most line
