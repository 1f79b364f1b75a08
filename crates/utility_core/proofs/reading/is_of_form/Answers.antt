use Rattle.std.proofs.Common.{◌≡◌, ℕ, Bool, ◌&&◌, List, map, take, drop, length, sym, ap, ◌∙◌}
use Rattle.std.proofs.lemmas.List.{length-map}
use Rattle.std.specs.List.{starts_with}
use Rattle.std.specs.Str.{bytes_eq}
use Rattle.utility_core.specs.Words.{words_of, same_words}
use Rattle.utility_core.specs.Commands.{is_rest}
use Rattle.utility_core.proofs.Parts.{words_before, words_behind}
use Rattle.utility_core.proofs.reading.is_of_form.Goals as goal

pub returns-then-are_words : goal.returns-then-are_words
returns-then-are_words c =
    let line = c.args.line.now in
    let front = map (λ w. w.now) c.args.form.now.0.now in
    let said = words_of line c.args.tokens.now in
    let size = sym (length-map c.args.form.now.0.now (λ w. w.now)) in
    let head : c.are_words.result ≡ starts_with bytes_eq said front = c.are_words.ensures ∙ ap (λ (ws : List (List ℕ)). same_words front ws) (words_before line _ c.args.tokens.now _ c.parts_at.ensures.front ∙ ap (λ (n : ℕ). take n said) size) in
    let tail : c.is_rest.result ≡ is_rest c.args.form.now.1 (drop (length front) said) = c.is_rest.ensures ∙ ap (λ (ws : List (List ℕ)). is_rest c.args.form.now.1 ws) (words_behind line _ c.args.tokens.now _ c.parts_at.ensures.behind ∙ ap (λ (n : ℕ). drop n said) size) in
    tail ∙ ap (λ (b : Bool). b && is_rest c.args.form.now.1 (drop (length front) said)) (sym c.if-are_words.true ∙ head)

pub returns-else-are_words : goal.returns-else-are_words
returns-else-are_words c =
    let line = c.args.line.now in
    let front = map (λ w. w.now) c.args.form.now.0.now in
    let said = words_of line c.args.tokens.now in
    let size = sym (length-map c.args.form.now.0.now (λ w. w.now)) in
    let head : c.are_words.result ≡ starts_with bytes_eq said front = c.are_words.ensures ∙ ap (λ (ws : List (List ℕ)). same_words front ws) (words_before line _ c.args.tokens.now _ c.parts_at.ensures.front ∙ ap (λ (n : ℕ). take n said) size) in
    c.if-are_words.false ∙ ap (λ (b : Bool). b && is_rest c.args.form.now.1 (drop (length front) said)) (sym c.if-are_words.false ∙ head)
