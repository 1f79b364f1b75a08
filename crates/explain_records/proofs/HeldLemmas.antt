-- What is noted life by life is what is held.
use Rattle.std.proofs.Common.{◌≡◌, ℕ, ◌+◌, ◌<◌, Bool, true, false, not, ◌||◌, ◌&&◌, cond, List, [], ◌∷◌, ◌++◌, length, take, get_or, Option, Some, None, is_none, is_some, refl, sym, ap, ◌∙◌}
use Rattle.std.specs.List.{list_any}
use Rattle.std.proofs.lemmas.List.{take_more}
use Rattle.std.proofs.lemmas.List.Folds.{list_any-append}
use Rattle.base_core.specs.declared.name.User.{User}
use Rattle.base_core.specs.declared.privilege.Atom.{Atom}
use Rattle.grants_core.specs.declared.grant.Change.{Change}
use Rattle.grants_core.specs.declared.key.Holding.{Holding}
use Rattle.grants_core.specs.Content.{gives}
use Rattle.grants_core.specs.History.{in_force_after}
use Rattle.grants_core.specs.Lawful.{AreLawful}
use Rattle.explain_core.specs.declared.life.Life.{Life}
use Rattle.explain_core.specs.Lives.{lives_of}
use Rattle.explain_core.proofs.LifeLemmas.{gives-lives, option-lives}
use Rattle.explain_records.specs.Held.{has_option_noted, held_as, held_with}
use Rattle.explain_records.specs.Outcomes.{is_to, stands_to}
use Rattle.explain_records.proofs.Left.{any-same, optioned-gives, stands-gives}
use Rattle.explain_records.proofs.OutcomeLemmas.{and-false, and-true, or-false}

module _ (w : Holding) where
  abbrev optioned : Life → Bool
  optioned life = is_none life.option_end && stands_to w life

  held-step : (anyS anyO s o : Bool) → (anyS ≡ false → anyO ≡ false)
      → cond (anyS || (s || false)) (Some (anyO || ((o && s) || false))) None ≡ cond s (Some (has_option_noted (cond anyS (Some anyO) None) || o)) (cond anyS (Some anyO) None)
  held-step true anyO true o f = ap (λ b. Some (anyO || b)) (or-false (o && true) ∙ and-true o)
  held-step false anyO true o f = ap Some (ap (λ a. a || ((o && true) || false)) (f refl) ∙ or-false (o && true) ∙ and-true o)
  held-step true anyO false o f = ap Some (ap (λ b. anyO || b) (or-false (o && false) ∙ and-false o) ∙ or-false anyO)
  held-step false anyO false o f = refl

  none-optioned : (lives : List Life) → list_any (stands_to w) lives ≡ false → list_any optioned lives ≡ false
  none-optioned [] h = refl
  none-optioned (x ∷ xs) h = by (stands_to w x) (is_none x.option_end) (list_any (stands_to w) xs) (none-optioned xs) h
    where
      by : (s o rest : Bool) → (rest ≡ false → list_any optioned xs ≡ false) → (s || rest) ≡ false → ((o && s) || list_any optioned xs) ≡ false
      by true o rest f h = absurd (let never : ⊥ = cc in never)
      by false o rest f h = ap (λ b. b || list_any optioned xs) (and-false o) ∙ f h

  held-last : (xs : List Life) (x : Life) → held_as (xs ++ x ∷ []) w ≡ held_with x w (held_as xs w)
  held-last xs x =
      ap (λ b. cond b (Some (list_any optioned (xs ++ x ∷ []))) None) (list_any-append (stands_to w) xs (x ∷ []))
      ∙ ap (λ b. cond (list_any (stands_to w) xs || (stands_to w x || false)) (Some b) None) (list_any-append optioned xs (x ∷ []))
      ∙ held-step (list_any (stands_to w) xs) (list_any optioned xs) (stands_to w x) (is_none x.option_end) (none-optioned xs)

  pub held-more : (lives : List Life) (i : ℕ) (d : Life) → i < length lives → held_as (take (i + 1) lives) w ≡ held_with (get_or lives i d) w (held_as (take i lives) w)
  held-more lives i d lt = ap (λ l. held_as l w) (take_more lives i d lt) ∙ held-last (take i lives) (get_or lives i d)

  -- what is noted says whether one gives it
  pub held-some : (lives : List Life) → is_some (held_as lives w) ≡ list_any (stands_to w) lives
  held-some lives = by (list_any (stands_to w) lives)
    where
      by : (b : Bool) → is_some (cond b (Some (list_any optioned lives)) None) ≡ b
      by true = refl
      by false = refl

  -- and with the option
  pub held-option : (lives : List Life) → has_option_noted (held_as lives w) ≡ list_any optioned lives
  held-option lives = by (list_any (stands_to w) lives) (none-optioned lives)
    where
      by : (b : Bool) → (b ≡ false → list_any optioned lives ≡ false) → has_option_noted (cond b (Some (list_any optioned lives)) None) ≡ list_any optioned lives
      by true f = refl
      by false f = sym (f refl)

pub not_held : (life : Life) (w : Holding) (old : Option Bool) → is_none life.fell ≡ false → old ≡ held_with life w old
not_held life w old fell = sym (ap (λ b. cond (b && is_to w life) (Some (has_option_noted old || is_none life.option_end)) old) fell)

pub held-where_given : (life : Life) (w : Holding) (old mine : Option Bool) → is_none life.fell ≡ true → (is_to w life ≡ true → mine ≡ old)
    → cond (is_to w life) (Some (has_option_noted mine || is_none life.option_end)) old ≡ held_with life w old
held-where_given life w old mine stands same = by (is_to w life) same ∙ sym (ap (λ b. cond (b && is_to w life) (Some (has_option_noted old || is_none life.option_end)) old) stands)
  where
    by : (i : Bool) → (i ≡ true → mine ≡ old) → cond i (Some (has_option_noted mine || is_none life.option_end)) old ≡ cond i (Some (has_option_noted old || is_none life.option_end)) old
    by true same = ap (λ o. Some (has_option_noted o || is_none life.option_end)) (same refl)
    by false same = refl

-- what a user holds, and may grant, by what is noted
module _ (changes : List Change) (user : User) (atom : Atom) (lawful : AreLawful changes) where
  abbrev mine : Holding
  mine = record { user = user; privilege = record { 0 = atom } }

  pub held-gives : list_any (stands_to mine) (lives_of changes) ≡ list_any (gives user atom) (in_force_after changes)
  held-gives = any-same (stands_to mine) (λ life. is_none life.fell && gives user atom life.grant) (stands-gives changes user atom lawful) (lives_of changes) ∙ sym (gives-lives changes user atom lawful)

  pub held-optioned : list_any (λ life. is_none life.option_end && stands_to mine life) (lives_of changes) ≡ list_any (λ g. g.option && gives user atom g) (in_force_after changes)
  held-optioned =
      any-same (λ life. is_none life.option_end && stands_to mine life) (λ life. is_none life.fell && (not (is_some life.option_end) && gives user atom life.grant)) (optioned-gives changes user atom lawful) (lives_of changes)
      ∙ sym (option-lives changes user atom lawful)
