use Rattle.std.proofs.Common.{◌≡◌, ℕ, List, Option, sym, ap, ◌∙◌}
use Rattle.std.specs.Option.{option_or}
use Rattle.utility_core.specs.Words.{words_of}
use Rattle.utility_core.specs.Forms.{Form, command_forms}
use Rattle.utility_core.specs.Commands.{found, without_end, set_command, command_in}
use Rattle.utility_core.specs.declared.command.Command.{Command}
use Rattle.utility_core.proofs.Tables.{commands}
use Rattle.utility_core.proofs.reading.command_of.Goals as goal

pub returns-in-Some : goal.returns-in-Some
unfolding command_in
returns-in-Some c =
    let line = c.args.line.now in
    let said = without_end (words_of line c.args.tokens.now) in
    let first : c.found.result ≡ found command_forms said = c.found.ensures ∙ (ap (λ (forms : List Form). found forms (words_of line c.without_end-said.result.now)) commands ∙ ap (λ (ws : List (List ℕ)). found command_forms ws) c.without_end-said.ensures) in
    ap (λ (o : Option Command). option_or o (set_command said)) (sym c.in-Some.is ∙ first)

pub returns-in-None : goal.returns-in-None
unfolding command_in
returns-in-None c =
    let line = c.args.line.now in
    let said = without_end (words_of line c.args.tokens.now) in
    let first : c.found.result ≡ found command_forms said = c.found.ensures ∙ (ap (λ (forms : List Form). found forms (words_of line c.without_end-said.result.now)) commands ∙ ap (λ (ws : List (List ℕ)). found command_forms ws) c.without_end-said.ensures) in
    c.set_command.ensures
    ∙ (ap (λ (ws : List (List ℕ)). set_command ws) c.without_end-said.ensures
    ∙ ap (λ (o : Option Command). option_or o (set_command said)) (sym c.in-None.is ∙ first))
