use Rattle.std.proofs.Common.{◌≡◌, ℕ, Bool, List, drop, None, sym, ap, ◌∙◌, if◌then◌else◌}
use Rattle.std.specs.List.{starts_with}
use Rattle.std.specs.Str.{bytes_eq}
use Rattle.utility_core.specs.Words.{words, words_of, same_words}
use Rattle.utility_core.specs.Forms.{Form, setting_forms}
use Rattle.utility_core.specs.Commands.{found, behind_scope}
use Rattle.utility_core.proofs.Parts.{words_before, words_behind}
use Rattle.utility_core.proofs.Tables.{settings}
use Rattle.utility_core.proofs.reading.set_command.Goals as goal

pub returns-then-are_words : goal.returns-then-are_words
returns-then-are_words c =
    let line = c.args.line.now in
    let said = words_of line c.args.tokens.now in
    let begins : c.are_words.result ≡ starts_with bytes_eq said (words "set") = c.are_words.ensures ∙ ap (λ (ws : List (List ℕ)). same_words (words "set") ws) (words_before line 1 c.args.tokens.now _ c.parts_at.ensures.front) in
    let behind = c.behind_scope.ensures ∙ ap (λ (ws : List (List ℕ)). behind_scope ws) (words_behind line 1 c.args.tokens.now _ c.parts_at.ensures.behind) in
    c.found.ensures
    ∙ (ap (λ (forms : List Form). found forms (words_of line c.behind_scope.result.now)) settings
    ∙ (ap (λ (ws : List (List ℕ)). found setting_forms ws) behind
    ∙ ap (λ (b : Bool). if b then found setting_forms (behind_scope (drop 1 said)) else None) (sym c.if-are_words.true ∙ begins)))
