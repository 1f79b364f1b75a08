-- The words of a line.
use Rattle.std.specs.Prelude.{ℕ, Bool, false, ◌-◌, ◌==◌, List, [], ◌∷◌, map, take, drop, slice_index, codes}
use Prim.Native.String.{String}
use Rattle.std.specs.List.{list_any, slice_split}
use Rattle.std.specs.Str.{bytes_eq}
use Rattle.std.specs.Char.{is_ascii_alphabetic}
use lib.Pointwise.{pointwise}
use Rattle.base_core.specs.Words.{folded}
use Rattle.lexer_core.specs.declared.token.Token.{Token}

-- what a token is in the line, in small letters
abbrev pub token_text : List ℕ → Token → List ℕ
token_text line t = folded (take (t.end - t.start) (drop t.start line))

-- the same of each token
abbrev pub words_of : List ℕ → List Token → List (List ℕ)
words_of line tokens = map (token_text line) tokens

-- the words of a text that has one blank between two words
abbrev pub words : String → List (List ℕ)
words text = slice_split (λ b. b == 32) (codes text)

-- whether two lists of words are the same
abbrev pub same_words : List (List ℕ) → List (List ℕ) → Bool
same_words = pointwise bytes_eq

-- whether the word is one of these
abbrev pub is_among : List (List ℕ) → List ℕ → Bool
is_among words word = list_any (λ w. bytes_eq w word) words

-- whether this is one word, which begins with a letter
abbrev pub is_one_word : List (List ℕ) → Bool
is_one_word (word ∷ []) = is_ascii_alphabetic (slice_index word 0)
is_one_word _ = false
