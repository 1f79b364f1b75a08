-- What a word is.
use Rattle.std.specs.Prelude.{◌≡◌, ℕ, List, Some}
use Rattle.base_core.specs.Words.{keyword_of, name_of}
use Rattle.base_core.specs.declared.word.Word.{Word}
use Rattle.base_core.specs.declared.word.Word.TheVariants as words

-- the bytes spell this word
abbrev pub IsWordOf : List ℕ → Word → Type 0
IsWordOf bytes (words.Keyword k) = keyword_of bytes ≡ Some k
IsWordOf bytes (words.Name n) = name_of bytes ≡ Some n
