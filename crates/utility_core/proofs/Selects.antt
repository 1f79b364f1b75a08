-- SELECT with a comma or FROM behind its first item is no command.
use Rattle.std.proofs.Common.{◌≡◌, ℕ, suc, ◌-◌, ◌==◌, Bool, true, false, ◌&&◌, List, ◌∷◌, take, drop, length, codes, Option, Some, None, refl, ap, ◌∙◌, subst, arith, if◌then◌else◌}
use Rattle.std.proofs.lemmas.Bool.Decides.{nat_tests}
use Rattle.std.specs.Option.{option_or, option_map}
use Rattle.std.specs.List.{find}
use Rattle.std.specs.Str.{bytes_eq}
use Rattle.utility_core.specs.Words.{words, same_words, is_among}
use Rattle.utility_core.specs.Forms.{Form, command_forms}
use Rattle.utility_core.specs.Commands.{is_of_form, set_command, command_in}
use Rattle.utility_core.specs.declared.command.Command.TheVariants as commands
use Rattle.utility_core.specs.declared.forms.Rest.TheVariants as rests
use Rattle.utility_core.proofs.Statements.{IsNone, none, more, among}

find_behind : (test : Form → Bool) (form : Form) (forms : List Form) → test form ≡ false → find test (form ∷ forms) ≡ find test forms
find_behind test form forms e = by (test form) e
  where
    by : (b : Bool) → b ≡ false → (if b then Some form else find test forms) ≡ find test forms
    by true e = cc
    by false e = refl

off : (a b : Bool) → ((a && false) && b) ≡ false
off true b = refl
off false b = refl

more_behind : (a : Bool) (n : ℕ) → ((a && true) && (suc n == 0)) ≡ false
more_behind true n = grind (arith, nat_tests)
more_behind false n = refl

version : Form
version = (words "select version ( )", rests.Nothing, commands.Version)

schema : Form
schema = (words "select current_schema ( )", rests.Nothing, commands.CurrentSchema)

unlock : Form
unlock = (words "select pg_advisory_unlock_all ( )", rests.Nothing, commands.UnlockAll)

one : Form
one = (words "select 1", rests.Nothing, commands.One)

from : (item : List ℕ) (said : List (List ℕ)) → IsNone (codes "select" ∷ item ∷ codes "from" ∷ said)
unfolding command_forms version schema unlock one
from item said =
    let test = is_of_form (codes "select" ∷ item ∷ codes "from" ∷ said) in
    ap (λ (o : Option Form). option_or (option_map (λ form. form.2) o) (set_command (codes "select" ∷ item ∷ codes "from" ∷ said)))
    (find_behind test version (drop 38 command_forms) (off (bytes_eq (codes "version") item) _)
    ∙ (find_behind test schema (drop 39 command_forms) (off (bytes_eq (codes "current_schema") item) _)
    ∙ (find_behind test unlock (drop 40 command_forms) (off (bytes_eq (codes "pg_advisory_unlock_all") item) _)
    ∙ find_behind test one (drop 41 command_forms) (more_behind (bytes_eq (codes "1") item) (length said)))))

comma : (item : List ℕ) (said : List (List ℕ)) → IsNone (codes "select" ∷ item ∷ codes "," ∷ said)
unfolding command_forms version schema unlock one
comma item said =
    let test = is_of_form (codes "select" ∷ item ∷ codes "," ∷ said) in
    ap (λ (o : Option Form). option_or (option_map (λ form. form.2) o) (set_command (codes "select" ∷ item ∷ codes "," ∷ said)))
    (find_behind test version (drop 38 command_forms) (off (bytes_eq (codes "version") item) _)
    ∙ (find_behind test schema (drop 39 command_forms) (off (bytes_eq (codes "current_schema") item) _)
    ∙ (find_behind test unlock (drop 40 command_forms) (off (bytes_eq (codes "pg_advisory_unlock_all") item) _)
    ∙ find_behind test one (drop 41 command_forms) (more_behind (bytes_eq (codes "1") item) (length said)))))

-- no command with this word behind the first item
abbrev Follows : List ℕ → Type 0
Follows mark = (item : List ℕ) (said : List (List ℕ)) → IsNone (codes "select" ∷ item ∷ mark ∷ said)

follows : (mark : List ℕ) → is_among (words "from ,") mark ≡ true → Follows mark
follows mark h = among Follows (words "from ,") mark (more from (more comma none)) h

module _ (item mark next : List ℕ) (said : List (List ℕ)) (h : is_among (words "from ,") mark ≡ true) where
  abbrev all : List (List ℕ)
  all = codes "select" ∷ item ∷ mark ∷ next ∷ said

  size : suc (suc (suc (length said))) ≡ length all - 1
  size = omega arith

  front : IsNone (take (length all - 1) all)
  front = subst (λ (n : ℕ). IsNone (take n all)) size (follows mark h item (take (length said) (next ∷ said)))

  either : (ends : Bool) → IsNone (if ends then take (length all - 1) all else all)
  either true = front
  either false = follows mark h item (next ∷ said)

  pub no_select : command_in all ≡ None
  unfolding command_in
  no_select = either (same_words (words ";") (drop (length all - 1) all))
