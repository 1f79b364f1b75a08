-- Keywords are compared by their tags, which are their numbers.
use Rattle.std.proofs.Common.{rules, ◌≡◌, ℕ, Bool, refl, ap, sym, ◌∙◌}
use Rattle.std.specs.Prelude.{nat_eq}
use denote.Enum.Bare.{sameb}
use denote.Enum.Declared.{tag_of}
use Rattle.base_core.specs.declared.keyword.Keyword.{Keyword}
use Rattle.base_core.specs.declared.keyword.Keyword.TheVariants as keywords
use Rattle.base_core.specs.contracts.keyword.Keyword.{the_type}
use Rattle.reader_core.specs.Grammar.{keyword_number}
use Rattle.reader_core.proofs.parsing.reader.Reader.at_keyword.Goals as goal

tag_is_number : (k : Keyword) → tag_of the_type k ≡ keyword_number k
tag_is_number keywords.And = refl
tag_is_number keywords.Checkpoint = refl
tag_is_number keywords.Checkpoints = refl
tag_is_number keywords.Create = refl
tag_is_number keywords.Delete = refl
tag_is_number keywords.Export = refl
tag_is_number keywords.For = refl
tag_is_number keywords.From = refl
tag_is_number keywords.Grant = refl
tag_is_number keywords.Insert = refl
tag_is_number keywords.Integer = refl
tag_is_number keywords.Into = refl
tag_is_number keywords.On = refl
tag_is_number keywords.Only = refl
tag_is_number keywords.Option = refl
tag_is_number keywords.Revoke = refl
tag_is_number keywords.Select = refl
tag_is_number keywords.Set = refl
tag_is_number keywords.Table = refl
tag_is_number keywords.Text = refl
tag_is_number keywords.To = refl
tag_is_number keywords.Update = refl
tag_is_number keywords.Values = refl
tag_is_number keywords.Where = refl
tag_is_number keywords.With = refl

same_number : (a b : Keyword) → sameb the_type a b ≡ nat_eq (keyword_number a) (keyword_number b)
same_number a b = ap (λ (m : ℕ). nat_eq m (tag_of the_type b)) (tag_is_number a) ∙ ap (λ (n : ℕ). nat_eq (keyword_number a) n) (tag_is_number b)

pub returns-in-Keyword-clause-next : goal.returns-in-Keyword-clause-next
returns-in-Keyword-clause-next c = search (rules, same_number)
