-- What is left to a user, told by what is noted.
use Rattle.std.proofs.Common.{◌≡◌, Bool, true, false, not, ◌||◌, ◌&&◌, cond, List, [], ◌∷◌, Option, Some, None, is_none, is_some, option_map, codes, refl, sym, ap, ◌∙◌}
use Rattle.std.specs.List.{Contains, find, list_any}
use Rattle.std.proofs.lemmas.Bool.{and_from}
use Rattle.std.proofs.lemmas.List.Folds.{list_any_at}
use Rattle.base_core.specs.Privileges.{same_atom}
use Rattle.base_core.specs.Users.{same_user}
use Rattle.base_core.specs.declared.name.User.{User}
use Rattle.base_core.specs.declared.privilege.Atom.{Atom}
use Rattle.base_core.specs.declared.value.Moment.{Moment}
use Rattle.base_core.proofs.SameLemmas.{same_atom-refl, same_user-refl}
use Rattle.grants_core.specs.declared.grant.Change.{Change}
use Rattle.grants_core.specs.declared.key.Holding.{Holding}
use Rattle.grants_core.specs.Content.{gives}
use Rattle.grants_core.specs.History.{in_force_after, owners_after}
use Rattle.grants_core.specs.Keys.{given_by}
use Rattle.grants_core.specs.Lawful.{AreLawful}
use Rattle.grants_core.specs.Owners.{owns}
use Rattle.explain_core.specs.declared.life.Life.{Life}
use Rattle.explain_core.specs.Falls.{is_taken_at, loses_option_at}
use Rattle.explain_core.specs.Lives.{lives_of}
use Rattle.explain_core.proofs.LifeLemmas.{gives-lives, option-lives}
use Rattle.explain_records.specs.Consequences.{lost_option_at, outcome_text}
use Rattle.explain_records.specs.Outcomes.{is_to, left_text, outcome_at, outcome_of, stands_to}
use Rattle.explain_records.proofs.OutcomeLemmas.{and-false}

-- tests that agree find the same
pub any-same : {A : Type 0} (p q : A → Bool) → ((x : A) → p x ≡ q x) → (xs : List A) → list_any p xs ≡ list_any q xs
any-same p q same [] = refl
any-same p q same (x ∷ xs) = ap (λ b. b || list_any p xs) (same x) ∙ ap (λ b. q x || b) (any-same p q same xs)

none-found : {A B : Type 0} (f : A → B) (p : A → Bool) (xs : List A) → is_none (option_map f (find p xs)) ≡ not (list_any p xs)
none-found f p [] = refl
none-found {A} f p (x ∷ xs) = by (p x) (none-found f p xs)
  where
    by : (b : Bool) → is_none (option_map f (find p xs)) ≡ not (list_any p xs) → is_none (option_map f (cond b (Some x) (find p xs))) ≡ not (b || list_any p xs)
    by true later = refl
    by false later = later

and-both : (a b : Bool) → (a && b) ≡ (b && a)
and-both true true = refl
and-both true false = refl
and-both false true = refl
and-both false false = refl

module _ (changes : List Change) (user : User) (atom : Atom) (lawful : AreLawful changes) where
  abbrev mine : Holding
  mine = record { user = user; privilege = record { 0 = atom } }

  to-gives : (life : Life) → is_to mine life ≡ gives user atom life.grant
  unfolding gives
  to-gives life = and-both (same_user life.grant.grantee user) (same_atom life.grant.atom atom)

  pub stands-gives : (life : Life) → stands_to mine life ≡ (is_none life.fell && gives user atom life.grant)
  stands-gives life = ap (λ b. is_none life.fell && b) (to-gives life)

  pub optioned-gives : (life : Life) → (is_none life.option_end && stands_to mine life) ≡ (is_none life.fell && (not (is_some life.option_end) && gives user atom life.grant))
  optioned-gives life = ap (λ b. is_none life.option_end && b) (stands-gives life) ∙ by life.option_end (is_none life.fell) (gives user atom life.grant)
    where
      by : (end : Option Moment) (stands gives_it : Bool) → (is_none end && (stands && gives_it)) ≡ (stands && (not (is_some end) && gives_it))
      by None stands gives_it = refl
      by (Some m) true gives_it = refl
      by (Some m) false gives_it = refl

  kept-holds : (at : Moment) → is_none (outcome_of (lives_of changes) at mine).kept ≡ not (list_any (gives user atom) (in_force_after changes))
  kept-holds at =
      none-found (λ life. life.grant.number) (stands_to mine) (lives_of changes)
      ∙ ap not (any-same (stands_to mine) (λ life. is_none life.fell && gives user atom life.grant) stands-gives (lives_of changes) ∙ sym (gives-lives changes user atom lawful))

  lost-lost : (at : Moment) → (outcome_of (lives_of changes) at mine).lost_option ≡ lost_option_at changes at user atom
  lost-lost at =
      any-same (λ life. loses_option_at at life && is_to mine life) (λ life. loses_option_at at life && gives user atom life.grant)
      (λ life. ap (λ b. loses_option_at at life && b) (to-gives life)) (lives_of changes)

  has-may_grant : (at : Moment) → (outcome_of (lives_of changes) at mine).has_option ≡ list_any (λ g. g.option && gives user atom g) (in_force_after changes)
  has-may_grant at =
      any-same (λ life. is_none life.option_end && stands_to mine life) (λ life. is_none life.fell && (not (is_some life.option_end) && gives user atom life.grant)) optioned-gives (lives_of changes)
      ∙ sym (option-lives changes user atom lawful)

  -- what is left in words, by what is noted and by what he holds
  by_tests : (owner none lost has holds_it grants_it lost_it : Bool) → none ≡ not holds_it → lost ≡ lost_it → has ≡ grants_it
      → cond owner (codes "keeps") (cond none (codes "loses") (cond (lost && not has) (codes "keeps without option") (codes "keeps")))
      ≡ cond (not (owner || holds_it)) (codes "loses") (cond (lost_it && not (owner || grants_it)) (codes "keeps without option") (codes "keeps"))
  by_tests true none lost has holds_it grants_it lost_it a b c = sym (ap (λ k. cond k (codes "keeps without option") (codes "keeps")) (and-false lost_it))
  by_tests false none lost has holds_it grants_it lost_it a b c =
      ap (λ k. cond k (codes "loses") (cond (lost && not has) (codes "keeps without option") (codes "keeps"))) a
      ∙ ap (λ k. cond (not holds_it) (codes "loses") (cond (k && not has) (codes "keeps without option") (codes "keeps"))) b
      ∙ ap (λ k. cond (not holds_it) (codes "loses") (cond (lost_it && not k) (codes "keeps without option") (codes "keeps"))) c

  pub left-told : (at : Moment) → left_text (owns (owners_after changes) user atom) (outcome_of (lives_of changes) at mine) ≡ outcome_text changes at user atom
  left-told at =
      by_tests (owns (owners_after changes) user atom) (is_none (outcome_of (lives_of changes) at mine).kept) (outcome_of (lives_of changes) at mine).lost_option (outcome_of (lives_of changes) at mine).has_option
      (list_any (gives user atom) (in_force_after changes)) (list_any (λ g. g.option && gives user atom g) (in_force_after changes)) (lost_option_at changes at user atom)
      (kept-holds at) (lost-lost at) (has-may_grant at)

-- of whom a grant was taken, something is noted
pub taken-noted : (lives : List Life) (at : Moment) (life : Life) → Contains lives life → is_taken_at at life ≡ true → outcome_at lives at (given_by life.grant) ≡ Some (outcome_of lives at (given_by life.grant))
taken-noted lives at life (k, within, is) taken =
    let w : Holding = given_by life.grant in
    let mine : is_to w life ≡ true = and_from (same_user life.grant.grantee life.grant.grantee) (same_atom life.grant.atom life.grant.atom) (same_user-refl life.grant.grantee) (same_atom-refl life.grant.atom) in
    let passes : (is_taken_at at life && is_to w life) ≡ true = and_from (is_taken_at at life) (is_to w life) taken mine in
    let there : list_any (λ l. is_taken_at at l && is_to w l) lives ≡ true = list_any_at (λ l. is_taken_at at l && is_to w l) lives k life within (ap (λ l. is_taken_at at l && is_to w l) is ∙ passes) in
    ap (λ b. cond b (Some (outcome_of lives at w)) None) there
