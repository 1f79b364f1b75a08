-- The code's tables have the rows of the definitions.
use Rattle.std.proofs.Common.{◌≡◌, map, refl}
use Rattle.utility_core.specs.Forms.{command_forms, setting_forms, mode_words, utf8_words, yes_words, scopes}
use Rattle.utility_core.specs.declared.forms.TheConstants.{COMMANDS, SETTINGS, MODES, UTF8, YES, SCOPES}

pub commands : map (λ r. (map (λ w. w.now) r.0.now, r.1, r.2)) COMMANDS ≡ command_forms
unfolding command_forms
commands = refl

pub settings : map (λ r. (map (λ w. w.now) r.0.now, r.1, r.2)) SETTINGS ≡ setting_forms
unfolding setting_forms
settings = refl

pub modes : map (λ w. w.now) MODES ≡ mode_words
modes = refl

pub utf8 : map (λ w. w.now) UTF8 ≡ utf8_words
utf8 = refl

pub yes_list : map (λ w. w.now) YES ≡ yes_words
yes_list = refl

pub scope_list : map (λ w. w.now) SCOPES ≡ scopes
scope_list = refl
