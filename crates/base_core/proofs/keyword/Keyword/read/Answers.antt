use Rattle.std.proofs.Common.{ℕ, [], length, sym, ◌∙◌, ap}
use Rattle.std.specs.List.{filter}
use Rattle.base_core.specs.Words.{all_keywords, is_alike}
use Rattle.base_core.proofs.Initials.{found_alike, initial_of, no_initial, not_spelled, spelled}
use Rattle.base_core.proofs.keyword.Keyword.read.Goals as goal

pub returns-in_err-first : goal.returns-in_err-first
returns-in_err-first c = c.from_residual.ensures ∙ no_initial c.args.word.now c.in_err-first.ensures.value

pub returns-in_err-keyword : goal.returns-in_err-keyword
returns-in_err-keyword c =
    let word = c.args.word.now in
    let initial = c.to_ascii_lowercase-initial.ensures.value ∙ initial_of word _ c.in_ok-first.ensures.value in
    c.from_residual-in_err-keyword.ensures
    ∙ found_alike word [] (c.in_err-keyword.ensures ∙ ap (λ (letter : ℕ). filter (is_alike letter (length word)) all_keywords) initial)

pub returns-then-is_spelled : goal.returns-then-is_spelled
returns-then-is_spelled c =
    let word = c.args.word.now in
    let initial = c.to_ascii_lowercase-initial.ensures.value ∙ initial_of word _ c.in_ok-first.ensures.value in
    spelled word c.in_ok-keyword.keyword (c.in_ok-keyword.ensures ∙ ap (λ (letter : ℕ). filter (is_alike letter (length word)) all_keywords) initial) (sym c.is_spelled.ensures ∙ c.if-is_spelled.true)

pub returns-else-is_spelled : goal.returns-else-is_spelled
returns-else-is_spelled c =
    let word = c.args.word.now in
    let initial = c.to_ascii_lowercase-initial.ensures.value ∙ initial_of word _ c.in_ok-first.ensures.value in
    not_spelled word c.in_ok-keyword.keyword (c.in_ok-keyword.ensures ∙ ap (λ (letter : ℕ). filter (is_alike letter (length word)) all_keywords) initial) (sym c.is_spelled.ensures ∙ c.if-is_spelled.false)
