-- Marks are compared by their tags, which are their numbers.
use Rattle.std.proofs.Common.{rules, ◌≡◌, ℕ, refl, ap, ◌∙◌}
use Rattle.std.specs.Prelude.{nat_eq}
use denote.Enum.Bare.{sameb}
use denote.Enum.Declared.{tag_of}
use Rattle.lexer_core.specs.declared.token.Mark.{Mark}
use Rattle.lexer_core.specs.declared.token.Mark.TheVariants as marks
use Rattle.lexer_core.specs.contracts.token.Mark.{the_type}
use Rattle.reader_core.specs.Grammar.{mark_number}
use Rattle.reader_core.proofs.parsing.reader.Reader.at_mark.Goals as goal

tag_is_number : (m : Mark) → tag_of the_type m ≡ mark_number m
tag_is_number marks.Open = refl
tag_is_number marks.Close = refl
tag_is_number marks.Comma = refl
tag_is_number marks.Star = refl
tag_is_number marks.Semicolon = refl
tag_is_number marks.Equal = refl
tag_is_number marks.NotEqual = refl
tag_is_number marks.Less = refl
tag_is_number marks.LessEqual = refl
tag_is_number marks.Greater = refl
tag_is_number marks.GreaterEqual = refl

same_number : (m n : Mark) → sameb the_type m n ≡ nat_eq (mark_number m) (mark_number n)
same_number m n = ap (λ (k : ℕ). nat_eq k (tag_of the_type n)) (tag_is_number m) ∙ ap (λ (k : ℕ). nat_eq (mark_number m) k) (tag_is_number n)

pub returns-in-Mark-clause-next : goal.returns-in-Mark-clause-next
returns-in-Mark-clause-next c = search (rules, same_number)
