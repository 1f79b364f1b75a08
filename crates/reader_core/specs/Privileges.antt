-- The words of privileges.
use Rattle.std.specs.Prelude.{Bool, true, nat_eq, ◌&&◌, not, List, [], ◌∷◌, map}
use Rattle.std.specs.List.{list_any}
use Rattle.base_core.specs.declared.keyword.Keyword.{Keyword}
use Rattle.base_core.specs.declared.keyword.Keyword.TheVariants as keywords
use Rattle.lexer_core.specs.declared.token.TokenKind.{TokenKind}
use Rattle.lexer_core.specs.declared.token.TokenKind.TheVariants as kinds
use Rattle.reader_core.specs.Grammar.{keyword_number}
use Rattle.reader_core.specs.declared.privilege.Privilege.{Privilege}
use Rattle.reader_core.specs.declared.privilege.Privilege.TheVariants as privileges
use Rattle.reader_core.specs.declared.privilege.PrivilegeWord.{PrivilegeWord}
use Rattle.reader_core.specs.declared.privilege.PrivilegeWord.TheVariants as words

-- the word that names a privilege
abbrev pub word_of : Privilege → PrivilegeWord
word_of (privileges.Select columns) = words.Select
word_of privileges.Insert = words.Insert
word_of privileges.Delete = words.Delete
word_of (privileges.Update columns) = words.Update

-- the keyword of such a word
abbrev pub word_keyword : PrivilegeWord → Keyword
word_keyword words.Select = keywords.Select
word_keyword words.Insert = keywords.Insert
word_keyword words.Delete = keywords.Delete
word_keyword words.Update = keywords.Update

-- the first tokens of privileges
abbrev pub first_words : List Privilege → List TokenKind
first_words ps = map (λ p. kinds.Keyword (word_keyword (word_of p))) ps

-- whether two privileges have the same word, whatever their columns
abbrev pub same_word : Privilege → Privilege → Bool
same_word p q =
    nat_eq (keyword_number (word_keyword (word_of p))) (keyword_number (word_keyword (word_of q)))

-- no word stands twice
abbrev pub are_different : List Privilege → Bool
are_different [] = true
are_different (p ∷ ps) = not (list_any (same_word p) ps) && are_different ps
