-- Whom the first line of a session names.
use Rattle.std.specs.Prelude.{◌==◌, ℕ, Bool, nat_lt, List, length, take, drop, codes, if◌then◌else◌, Option, None, Some, Result, Ok, Err}
use Rattle.std.specs.List.{list_all, prefix_len}
use Rattle.std.specs.Str.{bytes_eq}
use Rattle.base_core.specs.Words.{folded, is_word_byte, name_of}
use Rattle.base_core.specs.declared.name.Name.{Name}
use Rattle.base_core.specs.declared.name.User.{User}
use Rattle.lexer_core.specs.declared.fault.Code.{Code}
use Rattle.lexer_core.specs.declared.fault.Code.TheVariants as faults
use Rattle.lexer_core.specs.declared.lexer.TheConstants.{MAX_LINE}

abbrev pub is_space : ℕ → Bool
is_space b = b == 32

-- the letters, digits and `_` that bytes begin with
abbrev pub first_word : List ℕ → List ℕ
first_word bytes = take (prefix_len is_word_byte bytes) bytes

-- what stands behind them
abbrev pub behind_first_word : List ℕ → List ℕ
behind_first_word bytes = drop (prefix_len is_word_byte bytes) bytes

-- what stands behind the spaces that bytes begin with
abbrev pub behind_spaces : List ℕ → List ℕ
behind_spaces bytes = drop (prefix_len is_space bytes) bytes

-- the name that bytes begin with, where nothing but spaces stands behind it
abbrev pub name_alone : List ℕ → Option Name
name_alone bytes =
    if list_all is_space (behind_first_word bytes) then name_of (first_word bytes) else None

-- the word is USER, in any case
abbrev pub is_user_word : List ℕ → Bool
is_user_word word = bytes_eq (folded word) (codes "user")

-- the name that a line gives: the word USER, spaces, the name, and nothing but spaces
abbrev pub given_name : List ℕ → Option Name
given_name line =
    if is_user_word (first_word line) then name_alone (behind_spaces (behind_first_word line))
    else None

abbrev pub user_or_fault : Option Name → Result User (Code × ℕ)
user_or_fault (Some name) = Ok (record { 0 = name })
user_or_fault None = Err (faults.Expected, 0)

-- whom a line names, or what is wrong and where
abbrev pub greeting : List ℕ → Result User (Code × ℕ)
greeting line =
    if nat_lt MAX_LINE (length line) then Err (faults.TooLong, MAX_LINE)
    else user_or_fault (given_name line)
