-- What is noted life by life is what a change leaves.
use Rattle.std.proofs.Common.{◌≡◌, ℕ, ◌+◌, ◌<◌, Bool, true, false, ◌||◌, ◌&&◌, cond, List, [], ◌∷◌, ◌++◌, length, take, get_or, Option, Some, None, is_none, is_some, option_map, refl, sym, ap, ◌∙◌}
use Rattle.std.specs.List.{find, list_any}
use Rattle.std.proofs.lemmas.List.{take_more}
use Rattle.std.proofs.lemmas.List.Folds.{list_any-append}
use Rattle.base_core.specs.declared.value.Moment.{Moment}
use Rattle.grants_core.specs.declared.key.Holding.{Holding}
use Rattle.explain_core.specs.declared.life.Life.{Life}
use Rattle.explain_core.specs.Falls.{is_end, is_taken_at, loses_option_at}
use Rattle.explain_records.specs.declared.outcomes.Outcome.{Outcome}
use Rattle.explain_records.specs.Outcomes.{is_to, stands_to, outcome_at, outcome_of}
use Rattle.explain_records.specs.Noted.{first_some, was_lost, taken_with, taken_among, standing_with, standing_among}

pub or-false : (b : Bool) → (b || false) ≡ b
or-false true = refl
or-false false = refl

or-assoc : (a b c : Bool) → (a || (b || c)) ≡ ((a || b) || c)
or-assoc true b c = refl
or-assoc false b c = refl

pub and-true : (b : Bool) → (b && true) ≡ b
and-true true = refl
and-true false = refl

pub and-false : (b : Bool) → (b && false) ≡ false
and-false true = refl
and-false false = refl

-- an outcome of what is taken alone
abbrev lost : Bool → Option Outcome
lost b = Some (record { kept = None; lost_option = b; has_option = false })

-- one life more of those that are taken, by what is known of each
taken-step : (anyT anyL t i l : Bool) → (anyT ≡ false → anyL ≡ false) → (t ≡ false → l ≡ false)
    → cond (anyT || ((t && i) || false)) (lost (anyL || ((l && i) || false))) None
    ≡ cond (t && i) (lost (was_lost (cond anyT (lost anyL) None) || l)) (cond anyT (lost anyL) None)
taken-step true anyL true true l f g = ap (λ b. lost (anyL || b)) (or-false (l && true) ∙ and-true l)
taken-step false anyL true true l f g = ap lost (ap (λ a. a || ((l && true) || false)) (f refl) ∙ or-false (l && true) ∙ and-true l)
taken-step true anyL true false l f g = ap lost (ap (λ b. anyL || b) (or-false (l && false) ∙ and-false l) ∙ or-false anyL)
taken-step false anyL true false l f g = refl
taken-step true anyL false i l f g = ap lost (ap (λ k. anyL || ((k && i) || false)) (g refl) ∙ or-false anyL)
taken-step false anyL false i l f g = refl

-- what loses its option is taken
loses-taken : (at : Moment) (life : Life) → is_taken_at at life ≡ false → loses_option_at at life ≡ false
loses-taken at life = by (is_end at life.fell) (loses_option_at at life)
  where
    by : (fell loses : Bool) → (fell || loses) ≡ false → loses ≡ false
    by true loses h = absurd (let never : ⊥ = cc in never)
    by false loses h = h

none-lost : (at : Moment) (w : Holding) (lives : List Life) → list_any (λ life. is_taken_at at life && is_to w life) lives ≡ false → list_any (λ life. loses_option_at at life && is_to w life) lives ≡ false
none-lost at w [] h = refl
none-lost at w (x ∷ xs) h = by (is_taken_at at x) (loses_option_at at x) (is_to w x) (list_any (λ life. is_taken_at at life && is_to w life) xs) (loses-taken at x) (none-lost at w xs) h
  where
    by : (t l i rest : Bool) → (t ≡ false → l ≡ false) → (rest ≡ false → list_any (λ life. loses_option_at at life && is_to w life) xs ≡ false)
        → ((t && i) || rest) ≡ false → ((l && i) || list_any (λ life. loses_option_at at life && is_to w life) xs) ≡ false
    by true l true rest g f h = absurd (let never : ⊥ = cc in never)
    by true l false rest g f h = ap (λ b. b || list_any (λ life. loses_option_at at life && is_to w life) xs) (and-false l) ∙ f h
    by false l i rest g f h = ap (λ b. (b && i) || list_any (λ life. loses_option_at at life && is_to w life) xs) (g refl) ∙ f h

module _ (at : Moment) (w : Holding) where
  taken-last : (xs : List Life) (x : Life) → taken_among at w (xs ++ x ∷ []) ≡ taken_with at x w (taken_among at w xs)
  taken-last xs x =
      let T : Life → Bool = λ life. is_taken_at at life && is_to w life in
      let L : Life → Bool = λ life. loses_option_at at life && is_to w life in
      ap (λ b. cond b (lost (list_any L (xs ++ x ∷ []))) None) (list_any-append T xs (x ∷ []))
      ∙ ap (λ b. cond (list_any T xs || ((is_taken_at at x && is_to w x) || false)) (lost b) None) (list_any-append L xs (x ∷ []))
      ∙ taken-step (list_any T xs) (list_any L xs) (is_taken_at at x) (is_to w x) (loses_option_at at x) (none-lost at w xs) (loses-taken at x)

  pub taken-more : (lives : List Life) (i : ℕ) (d : Life) → i < length lives → taken_among at w (take (i + 1) lives) ≡ taken_with at (get_or lives i d) w (taken_among at w (take i lives))
  taken-more lives i d lt = ap (taken_among at w) (take_more lives i d lt) ∙ taken-last (take i lives) (get_or lives i d)

-- what is noted at the place of the holding itself
pub taken-where_given : (at : Moment) (life : Life) (w : Holding) (old mine : Option Outcome) → is_taken_at at life ≡ true → (is_to w life ≡ true → mine ≡ old)
    → cond (is_to w life) (lost (was_lost mine || loses_option_at at life)) old ≡ taken_with at life w old
taken-where_given at life w old mine taken same = by (is_to w life) same ∙ sym (ap (λ t. cond (t && is_to w life) (lost (was_lost old || loses_option_at at life)) old) taken)
  where
    by : (i : Bool) → (i ≡ true → mine ≡ old) → cond i (lost (was_lost mine || loses_option_at at life)) old ≡ cond i (lost (was_lost old || loses_option_at at life)) old
    by true same = ap (λ o. lost (was_lost o || loses_option_at at life)) (same refl)
    by false same = refl

pub not_taken : (at : Moment) (life : Life) (w : Holding) (old : Option Outcome) → is_taken_at at life ≡ false → old ≡ taken_with at life w old
not_taken at life w old fail = sym (ap (λ t. cond (t && is_to w life) (lost (was_lost old || loses_option_at at life)) old) fail)

-- a life that is not in force changes nothing
pub not_standing : (life : Life) (w : Holding) (old : Option Outcome) → stands_to w life ≡ false → old ≡ option_map (standing_with life w) old
not_standing life w None fail = refl
not_standing life w (Some o) fail =
    ap Some (sym (ap (λ b. cond b (record { kept = first_some o.kept (Some life.grant.number); lost_option = o.lost_option; has_option = o.has_option || is_none life.option_end }) o) fail))

pub standing-where_given : (life : Life) (w : Holding) (old : Option Outcome) (mine : Outcome) → is_none life.fell ≡ true → (is_to w life ≡ true → Some mine ≡ old)
    → cond (is_to w life) (Some (record { kept = first_some mine.kept (Some life.grant.number); lost_option = mine.lost_option; has_option = mine.has_option || is_none life.option_end })) old
    ≡ option_map (standing_with life w) old
standing-where_given life w old mine stands same = by (is_to w life) refl
  where
    new : Outcome → Outcome
    new o = record { kept = first_some o.kept (Some life.grant.number); lost_option = o.lost_option; has_option = o.has_option || is_none life.option_end }

    both : (i : Bool) → is_to w life ≡ i → stands_to w life ≡ i
    both i is = ap (λ s. s && is_to w life) stands ∙ is

    by : (i : Bool) → is_to w life ≡ i
        → cond i (Some (record { kept = first_some mine.kept (Some life.grant.number); lost_option = mine.lost_option; has_option = mine.has_option || is_none life.option_end })) old
        ≡ option_map (standing_with life w) old
    by true is =
        let here : stands_to w life ≡ true = both true is in
        ap Some (sym (ap (λ b. cond b (record { kept = first_some mine.kept (Some life.grant.number); lost_option = mine.lost_option; has_option = mine.has_option || is_none life.option_end }) mine) here))
        ∙ ap (option_map (standing_with life w)) (same is)
    by false is = not_standing life w old (both false is)

-- the first that passes, with one more at the end
find-last : (p : Life → Bool) (xs : List Life) (x : Life) (first : Option ℕ)
    → first_some first (option_map (λ life. life.grant.number) (find p (xs ++ x ∷ [])))
    ≡ cond (p x) (first_some (first_some first (option_map (λ life. life.grant.number) (find p xs))) (Some x.grant.number)) (first_some first (option_map (λ life. life.grant.number) (find p xs)))
find-last p xs x (Some n) = by (p x)
  where
    by : (b : Bool) → Some n ≡ cond b (Some n) (Some n)
    by true = refl
    by false = refl
find-last p [] x None = by (p x)
  where
    by : (b : Bool) → option_map (λ life. life.grant.number) (cond b (Some x) None) ≡ cond b (Some x.grant.number) None
    by true = refl
    by false = refl
find-last p (y ∷ ys) x None = by (p y) (find-last p ys x None)
  where
    same : (b : Bool) → Some y.grant.number ≡ cond b (Some y.grant.number) (Some y.grant.number)
    same true = refl
    same false = refl

    by : (b : Bool)
        → option_map (λ life. life.grant.number) (find p (ys ++ x ∷ [])) ≡ cond (p x) (first_some (option_map (λ life. life.grant.number) (find p ys)) (Some x.grant.number)) (option_map (λ life. life.grant.number) (find p ys))
        → option_map (λ life. life.grant.number) (cond b (Some y) (find p (ys ++ x ∷ [])))
        ≡ cond (p x) (first_some (option_map (λ life. life.grant.number) (cond b (Some y) (find p ys))) (Some x.grant.number)) (option_map (λ life. life.grant.number) (cond b (Some y) (find p ys)))
    by true later = same (p x)
    by false later = later

module _ (w : Holding) where
  abbrev optioned : Life → Bool
  optioned life = is_none life.option_end && stands_to w life

  has-last : (b : Bool) (xs : List Life) (x : Life) → (b || list_any optioned (xs ++ x ∷ [])) ≡ cond (stands_to w x) ((b || list_any optioned xs) || is_none x.option_end) (b || list_any optioned xs)
  has-last b xs x =
      ap (λ k. b || k) (list_any-append optioned xs (x ∷ [])) ∙ or-assoc b (list_any optioned xs) ((is_none x.option_end && stands_to w x) || false)
      ∙ ap (λ k. (b || list_any optioned xs) || k) (or-false (is_none x.option_end && stands_to w x)) ∙ by (stands_to w x)
    where
      by : (s : Bool) → ((b || list_any optioned xs) || (is_none x.option_end && s)) ≡ cond s ((b || list_any optioned xs) || is_none x.option_end) (b || list_any optioned xs)
      by true = ap (λ k. (b || list_any optioned xs) || k) (and-true (is_none x.option_end))
      by false = ap (λ k. (b || list_any optioned xs) || k) (and-false (is_none x.option_end)) ∙ or-false (b || list_any optioned xs)

  standing-last : (xs : List Life) (x : Life) (o : Outcome) → standing_among w (xs ++ x ∷ []) o ≡ standing_with x w (standing_among w xs o)
  standing-last xs x o =
      ap (λ k. record { kept = k; lost_option = o.lost_option; has_option = o.has_option || list_any optioned (xs ++ x ∷ []) }) (find-last (stands_to w) xs x o.kept)
      ∙ ap (λ h. record { kept = cond (stands_to w x) (first_some (standing_among w xs o).kept (Some x.grant.number)) (standing_among w xs o).kept; lost_option = o.lost_option; has_option = h }) (has-last o.has_option xs x)
      ∙ by (stands_to w x)
    where
      by : (s : Bool)
          → record {
            kept = cond s (first_some (standing_among w xs o).kept (Some x.grant.number)) (standing_among w xs o).kept;
            lost_option = o.lost_option;
            has_option = cond s ((standing_among w xs o).has_option || is_none x.option_end) (standing_among w xs o).has_option;
          }
          ≡ cond s (record {
            kept = first_some (standing_among w xs o).kept (Some x.grant.number);
            lost_option = o.lost_option;
            has_option = (standing_among w xs o).has_option || is_none x.option_end;
          }) (standing_among w xs o)
      by true = refl
      by false = refl

  standing-none : (o : Outcome) → standing_among w [] o ≡ o
  standing-none o =
      ap (λ k. record { kept = k; lost_option = o.lost_option; has_option = o.has_option || false }) (nothing o.kept)
      ∙ ap (λ h. record { kept = o.kept; lost_option = o.lost_option; has_option = h }) (or-false o.has_option)
    where
      nothing : (first : Option ℕ) → first_some first None ≡ first
      nothing None = refl
      nothing (Some n) = refl

  pub standing-start : (old : Option Outcome) → old ≡ option_map (standing_among w []) old
  standing-start None = refl
  standing-start (Some o) = ap Some (sym (standing-none o))

  pub standing-more : (lives : List Life) (i : ℕ) (d : Life) (old : Option Outcome) → i < length lives
      → option_map (standing_among w (take (i + 1) lives)) old ≡ option_map (standing_with (get_or lives i d) w) (option_map (standing_among w (take i lives)) old)
  standing-more lives i d None lt = refl
  standing-more lives i d (Some o) lt = ap Some (ap (λ l. standing_among w l o) (take_more lives i d lt) ∙ standing-last (take i lives) (get_or lives i d) o)

  -- what is noted in the end
  pub outcome-noted : (at : Moment) (lives : List Life) → option_map (standing_among w lives) (taken_among at w lives) ≡ outcome_at lives at w
  outcome-noted at lives = by (list_any (λ life. is_taken_at at life && is_to w life) lives)
    where
      by : (b : Bool) → option_map (standing_among w lives) (cond b (lost (list_any (λ life. loses_option_at at life && is_to w life) lives)) None) ≡ cond b (Some (outcome_of lives at w)) None
      by true = refl
      by false = refl

pub some-none : {A : Type 0} (o : Option A) → is_some o ≡ false → is_none o ≡ true
some-none None h = refl
some-none (Some x) h = absurd (let never : ⊥ = cc in never)
