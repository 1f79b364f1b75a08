use Rattle.std.proofs.Common.{Bool, true, ◌&&◌, rules, tests, ◌≡◌, ◌∙◌, sym, ap, slice_index}
use Rattle.std.specs.List.{list_all}
use Rattle.std.specs.Char.{is_ascii_alphabetic}
use Rattle.std.proofs.lemmas.Iterator.{YieldsList-from_slice}
use Rattle.std.proofs.lemmas.Iterator.Search.{all_from_yields_List}
use Rattle.base_core.specs.Words.{is_word_byte}
use Rattle.base_core.proofs.word.is_word.Goals as goal

pub returns-then-starts_with_letter : goal.returns-then-starts_with_letter
returns-then-starts_with_letter c =
    let all : c.all.result ≡ list_all is_word_byte c.args.word.now = all_from_yields_List is_word_byte _ _ c.all.result c.all.ensures.ran (YieldsList-from_slice c.args.word.now cc) (λ x b q k. search (rules, tests)) in
    let letter : is_ascii_alphabetic (slice_index c.args.word.now 0) ≡ true = sym c.starts_with_letter.ensures ∙ c.if-starts_with_letter.true in
    all ∙ ap (λ (b : Bool). b && list_all is_word_byte c.args.word.now) (sym letter)
