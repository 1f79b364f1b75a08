-- Commands by their words.
use Rattle.std.specs.Prelude.{ℕ, ◌-◌, ◌==◌, Bool, true, not, ◌&&◌, List, [], ◌∷◌, length, take, drop, codes, Option, Some, None, option_map, if◌then◌else◌}
use Rattle.std.specs.Option.{option_or}
use Rattle.std.specs.List.{find, list_all, list_any, prefix_len, starts_with}
use Rattle.std.specs.Str.{bytes_eq}
use Rattle.base_core.specs.Words.{folded}
use Rattle.utility_core.specs.Words.{words, same_words, is_among, is_one_word}
use Rattle.utility_core.specs.Forms.{Form, mode_words, utf8_words, yes_words, scopes, command_forms, setting_forms}
use Rattle.utility_core.specs.declared.command.Command.{Command}
use Rattle.utility_core.specs.declared.forms.Rest.{Rest}
use Rattle.utility_core.specs.declared.forms.Rest.TheVariants as rests

-- whether these words may stand behind the first words of a command
abbrev pub is_rest : Rest → List (List ℕ) → Bool
is_rest rests.Nothing said = length said == 0
is_rest rests.Anything said = true
is_rest rests.Word said = is_one_word said
is_rest rests.Modes said = list_all (is_among mode_words) said
is_rest rests.SomeModes said = not (length said == 0) && list_all (is_among mode_words) said
is_rest rests.Values said = not (length said == 0)
is_rest rests.Utf8 said = (length said == 1) && list_all (is_among utf8_words) said
is_rest rests.Yes said = (length said == 1) && list_all (is_among yes_words) said

-- whether they are of this form
abbrev pub is_of_form : List (List ℕ) → Form → Bool
is_of_form said form = starts_with bytes_eq said form.0 && is_rest form.1 (drop (length form.0) said)

-- the command of the first form that fits
abbrev pub found : List Form → List (List ℕ) → Option Command
found forms said = option_map (λ form. form.2) (find (is_of_form said) forms)

-- the words without a ";" at their end
abbrev pub without_end : List (List ℕ) → List (List ℕ)
without_end said =
    if same_words (words ";") (drop (length said - 1) said)
    then take (length said - 1) said
    else said

-- the words behind SESSION or LOCAL, if the first is one of these
abbrev pub behind_scope : List (List ℕ) → List (List ℕ)
behind_scope [] = []
behind_scope (word ∷ said) = if is_among scopes word then said else word ∷ said

-- SET
abbrev pub set_command : List (List ℕ) → Option Command
set_command said =
    if starts_with bytes_eq said (words "set")
    then found setting_forms (behind_scope (drop 1 said))
    else None

-- the command that these words are, but for a ";" at their end
unfoldable pub command_in : List (List ℕ) → Option Command
command_in said =
    option_or (found command_forms (without_end said)) (set_command (without_end said))

-- the words that begin a statement of the language, but for SELECT
abbrev pub statement_words : List (List ℕ)
statement_words = words "create insert delete update grant revoke checkpoint checkpoints export"

-- a blank, a tab, a part of a line end, or ";"
abbrev pub is_padding : ℕ → Bool
is_padding b = list_any (λ c. c == b) (9 ∷ 10 ∷ 13 ∷ 32 ∷ 59 ∷ [])

-- `select pg_catalog.version()`
abbrev pub version_question : List ℕ
version_question = codes "select pg_catalog.version()"

-- whether the text is this question in any case, with nothing but padding around it
abbrev pub is_version_question : List ℕ → Bool
is_version_question text =
    let said = drop (prefix_len is_padding text) text in
    let len = length version_question in
    bytes_eq version_question (folded (take len said)) && list_all is_padding (drop len said)

-- how a text begins by which a driver drops a statement that it has named itself
abbrev pub underscored_words : List ℕ
underscored_words = codes "deallocate _"

-- the name that stands there, which begins with "_"
abbrev pub underscored_name : List ℕ → Option (List ℕ)
underscored_name text =
    let len = length underscored_words in
    if bytes_eq underscored_words (folded (take len text)) then Some (drop (len - 1) text) else None
