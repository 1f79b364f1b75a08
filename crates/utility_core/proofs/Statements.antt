-- What begins as a statement does is no command.
use Rattle.std.proofs.Common.{◌≡◌, ℕ, zero, suc, ◌-◌, Bool, true, false, ◌||◌, List, [], ◌∷◌, take, drop, length, codes, None, refl, sym, ap, ◌∙◌, subst, if◌then◌else◌}
use Rattle.std.proofs.lemmas.Slice.Eq.{bytes_eq-Decides}
use Rattle.std.specs.Option.{option_or}
use Rattle.std.specs.Str.{bytes_eq}
use Rattle.utility_core.specs.Words.{words, same_words, is_among}
use Rattle.utility_core.specs.Forms.{command_forms}
use Rattle.utility_core.specs.Commands.{found, set_command, command_in, statement_words}

-- these words are no command, whatever stands behind them
abbrev pub IsNone : List (List ℕ) → Type 0
IsNone said = option_or (found command_forms said) (set_command said) ≡ None

nothing : IsNone []
unfolding command_forms
nothing = refl

module _ (word : List ℕ) (none : (rest : List (List ℕ)) → IsNone (word ∷ rest)) where
  front : (n : ℕ) (said : List (List ℕ)) → IsNone (take n (word ∷ said))
  front zero said = nothing
  front (suc n) said = none (take n said)

  either : (ends : Bool) (n : ℕ) (said : List (List ℕ)) → IsNone (if ends then take n (word ∷ said) else word ∷ said)
  either true n said = front n said
  either false n said = none said

  begun : (said : List (List ℕ)) → command_in (word ∷ said) ≡ None
  unfolding command_in
  begun said = either (same_words (words ";") (drop (length (word ∷ said) - 1) (word ∷ said))) (length (word ∷ said) - 1) said

create : (rest : List (List ℕ)) → IsNone (codes "create" ∷ rest)
unfolding command_forms
create rest = refl

insert : (rest : List (List ℕ)) → IsNone (codes "insert" ∷ rest)
unfolding command_forms
insert rest = refl

delete : (rest : List (List ℕ)) → IsNone (codes "delete" ∷ rest)
unfolding command_forms
delete rest = refl

update : (rest : List (List ℕ)) → IsNone (codes "update" ∷ rest)
unfolding command_forms
update rest = refl

grant : (rest : List (List ℕ)) → IsNone (codes "grant" ∷ rest)
unfolding command_forms
grant rest = refl

revoke : (rest : List (List ℕ)) → IsNone (codes "revoke" ∷ rest)
unfolding command_forms
revoke rest = refl

checkpoint : (rest : List (List ℕ)) → IsNone (codes "checkpoint" ∷ rest)
unfolding command_forms
checkpoint rest = refl

checkpoints : (rest : List (List ℕ)) → IsNone (codes "checkpoints" ∷ rest)
unfolding command_forms
checkpoints rest = refl

export : (rest : List (List ℕ)) → IsNone (codes "export" ∷ rest)
unfolding command_forms
export rest = refl

-- what holds of each of these words, holds of a word that is among them
pub data Each (P : List ℕ → Type 0) : List (List ℕ) → Type 0 where
  none : Each P []
  more : {w : List ℕ} {ws : List (List ℕ)} → P w → Each P ws → Each P (w ∷ ws)

pub among : (P : List ℕ → Type 0) (ws : List (List ℕ)) (word : List ℕ) → Each P ws → is_among ws word ≡ true → P word
among P [] word each h = cc
among P (w ∷ ws) word (more p each) h = by (bytes_eq w word) refl (among P ws word each)
  where
    by : (b : Bool) → bytes_eq w word ≡ b → (is_among ws word ≡ true → P word) → P word
    by true e behind = subst P ((bytes_eq-Decides w word).0 e) p
    by false e behind = behind (sym (ap (λ (b : Bool). b || is_among ws word) e) ∙ h)

abbrev Holds : List ℕ → Type 0
Holds word = (said : List (List ℕ)) → command_in (word ∷ said) ≡ None

pub no_command : (word : List ℕ) (said : List (List ℕ)) → is_among statement_words word ≡ true → command_in (word ∷ said) ≡ None
no_command word said h =
    among Holds statement_words word
    (more (begun _ create) (more (begun _ insert) (more (begun _ delete) (more (begun _ update) (more (begun _ grant) (more (begun _ revoke) (more (begun _ checkpoint) (more (begun _ checkpoints) (more (begun _ export) none)))))))))
    h said
