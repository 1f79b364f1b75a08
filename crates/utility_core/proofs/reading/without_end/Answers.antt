use Rattle.std.proofs.Common.{◌≡◌, ℕ, ◌-◌, Bool, List, take, drop, length, sym, ap, ◌∙◌, if◌then◌else◌}
use Rattle.std.proofs.lemmas.List.{length-map}
use Rattle.utility_core.specs.Words.{token_text, words, words_of, same_words}
use Rattle.utility_core.proofs.Parts.{words_before, words_behind}
use Rattle.utility_core.proofs.reading.without_end.Goals as goal

pub returns-then-are_words : goal.returns-then-are_words
returns-then-are_words c =
    let line = c.args.line.now in
    let said = words_of line c.args.tokens.now in
    let size = c.saturating_sub.ensures ∙ ap (λ (n : ℕ). n - 1) (sym (length-map c.args.tokens.now (token_text line))) in
    let ends : c.are_words.result ≡ same_words (words ";") (drop (length said - 1) said) = c.are_words.ensures ∙ ap (λ (ws : List (List ℕ)). same_words (words ";") ws) (words_behind line _ c.args.tokens.now _ c.parts_at.ensures.behind ∙ ap (λ (n : ℕ). drop n said) size) in
    words_before line _ c.args.tokens.now _ c.parts_at.ensures.front
    ∙ (ap (λ (n : ℕ). take n said) size
    ∙ ap (λ (b : Bool). if b then take (length said - 1) said else said) (sym c.if-are_words.true ∙ ends))

pub returns-else-are_words : goal.returns-else-are_words
returns-else-are_words c =
    let line = c.args.line.now in
    let said = words_of line c.args.tokens.now in
    let size = c.saturating_sub.ensures ∙ ap (λ (n : ℕ). n - 1) (sym (length-map c.args.tokens.now (token_text line))) in
    let ends : c.are_words.result ≡ same_words (words ";") (drop (length said - 1) said) = c.are_words.ensures ∙ ap (λ (ws : List (List ℕ)). same_words (words ";") ws) (words_behind line _ c.args.tokens.now _ c.parts_at.ensures.behind ∙ ap (λ (n : ℕ). drop n said) size) in
    ap (λ (b : Bool). if b then take (length said - 1) said else said) (sym c.if-are_words.false ∙ ends)
