-- Which lines are commands, and which are none.
use Rattle.std.proofs.Common.{◌≡◌, ℕ, List, false, Some, None, Option, MatchOption, sym, ap, ◌∙◌, subst}
use Rattle.std.proofs.lemmas.Bool.{false≢true}
use Rattle.std.specs.Option.{is_some}
use Rattle.lexer_core.specs.Lexing.{AreTokens, IsLineFault}
use Rattle.lexer_core.specs.declared.fault.Code.{Code}
use Rattle.lexer_core.specs.declared.token.Token.{Token}
use Rattle.lexer_core.proofs.Lines.{tokens_once, says_no_fault}
use Rattle.utility_core.specs.Words.{words_of}
use Rattle.utility_core.specs.Commands.{command_in, is_version_question, underscored_name}
use Rattle.utility_core.specs.declared.command.Command.{Command}
use Rattle.asking_core.specs.Asking.{IsCommand, IsNoCommand, worded, asks_version, underscored}

module _ (line : List ℕ) (unasked : is_version_question line ≡ false) (unnamed : underscored_name line ≡ None) where
  -- whose tokens are no command
  pub no_command : (tokens : List Token) → AreTokens line tokens → command_in (words_of line tokens) ≡ None → IsNoCommand line
  no_command tokens are none command (worded {tokens = others} lexed is) =
      let same = tokens_once line others tokens lexed are in
      false≢true (sym (ap is_some none) ∙ ap is_some (subst (λ ts. command_in (words_of line ts) ≡ Some command) same is))
  no_command tokens are none command (asks_version asked) = false≢true (sym unasked ∙ asked)
  no_command tokens are none command (underscored is) = false≢true (sym (ap is_some unnamed) ∙ ap is_some is)

  -- that have a fault before they have tokens
  pub no_command_at : (code : Code) (offset : ℕ) → IsLineFault line code offset → IsNoCommand line
  no_command_at code offset fault command (worded {tokens} lexed is) =
      says_no_fault line lexed.lexemes code offset (record { short = lexed.short; tokens_of = tokens; lexed = lexed.lexed }) fault
  no_command_at code offset fault command (asks_version asked) = false≢true (sym unasked ∙ asked)
  no_command_at code offset fault command (underscored is) = false≢true (sym (ap is_some unnamed) ∙ ap is_some is)

  -- whose tokens are a command, or none
  pub command_or_none : (tokens : List Token) → AreTokens line tokens → (told : Option Command) → told ≡ command_in (words_of line tokens) → MatchOption told (IsNoCommand line) (IsCommand line)
  command_or_none tokens are None is = no_command tokens are (sym is)
  command_or_none tokens are (Some command) is = worded are (sym is)
