-- What a revocation took of the grants in force, as effects.
use Rattle.std.proofs.Common.{◌≡◌, ◌≢◌, ◌<◌, ℕ, Bool, true, false, not, ◌&&◌, cond, List, [], ◌∷◌, map, length, refl, sym, ap, subst, ◌∙◌, arith, eqb}
use Rattle.std.specs.List.{AllByRecursion, filter}
use Rattle.std.proofs.lemmas.Bool.{eq-eqb, ne_eqb, both_ways}
use Rattle.base_core.specs.declared.name.Name.{Name}
use Rattle.tables_core.specs.Contents.{Table}
use Rattle.grants_core.specs.declared.grant.Grant.{Grant}
use Rattle.grants_core.specs.Content.{option_off}
use Rattle.links_core.specs.declared.standing.Standing.{Standing}
use Rattle.graph_core.specs.Indices.{standing_of}
use Rattle.grants_core.proofs.OptionLemmas.{option_kept, options_kept}
use Rattle.stream_core.specs.declared.effect.Effect.{Effect}
use Rattle.stream_core.specs.declared.effect.Effect.TheVariants as effects
use Rattle.stream_core.specs.Effects.{AreEffectsOf, Contents, EachChanges, IsBefore, after_effects, applied, has_number, subject_of}
use Rattle.stream_core.specs.Losses.{IsReducedTo, falls, nothing, stays, unoptioned}
use Rattle.stream_core.proofs.Edits.{EachEdits, Up, edited, edited-behind, edits-behind, rises-up}

-- a grant falls, or loses its option: which of the two, and its number
abbrev pub Loss : Type 0
Loss = Bool × ℕ

abbrev pub fell : ℕ → Loss
fell number = (true, number)

abbrev pub unoption : ℕ → Loss
unoption number = (false, number)

abbrev pub effect_of : Loss → Effect
effect_of loss = cond loss.0 (effects.GrantFell loss.1) (effects.OptionLost loss.1)

abbrev pub number_of : Loss → ℕ
number_of loss = loss.1

abbrev pub of : Grant → ℕ
of g = g.number

-- what the loss makes of the grants
abbrev pub lose : Loss → List Grant → List Grant
lose loss gs = cond loss.0 (filter (λ g. not (has_number loss.1 g)) gs) (map (option_off (has_number loss.1)) gs)

-- a loss of a later grant
other : (g : Grant) (n : ℕ) → g.number < n → has_number n g ≡ false
other g n lt = ne_eqb g.number n (λ q. absurd (omega arith))

pub passes : (g : Grant) (gs : List Grant) (loss : Loss) → g.number < loss.1 → lose loss (g ∷ gs) ≡ g ∷ lose loss gs
passes g gs (kind, n) lt = by kind
  where
    by : (b : Bool) → lose (b, n) (g ∷ gs) ≡ g ∷ lose (b, n) gs
    by true = ap (λ b. cond (not b) (g ∷ filter (λ g. not (has_number n g)) gs) (filter (λ g. not (has_number n g)) gs)) (other g n lt)
    by false = ap (λ h. h ∷ map (option_off (has_number n)) gs) (option_kept (has_number n) g (other g n lt))

-- a loss of a grant that is not among them

none-numbered : (n : ℕ) (gs : List Grant) → AllByRecursion (λ g. n < g.number) gs → AllByRecursion (λ g. has_number n g ≡ false) gs
none-numbered n [] h = tt
none-numbered n (g ∷ gs) h = (ne_eqb g.number n (λ q. let lt = h.0 in absurd (omega arith)), none-numbered n gs h.1)

none-falls : (n : ℕ) (gs : List Grant) → AllByRecursion (λ g. n < g.number) gs → filter (λ g. not (has_number n g)) gs ≡ gs
none-falls n [] h = refl
none-falls n (g ∷ gs) h =
    let rest = none-falls n gs h.1 in
    ap (λ b. cond (not b) (g ∷ filter (λ g. not (has_number n g)) gs) (filter (λ g. not (has_number n g)) gs)) (ne_eqb g.number n (λ q. let lt = h.0 in absurd (omega arith)))
    ∙ ap (λ k. g ∷ k) rest

own : (g : Grant) → has_number g.number g ≡ true
own g = eq-eqb g.number g.number refl

fell-first : (g : Grant) (gs : List Grant) → AllByRecursion (λ h. g.number < h.number) gs → lose (fell g.number) (g ∷ gs) ≡ gs
fell-first g gs h =
    ap (λ b. cond (not b) (g ∷ filter (λ h. not (has_number g.number h)) gs) (filter (λ h. not (has_number g.number h)) gs)) (own g) ∙ none-falls g.number gs h

and_not : (b : Bool) → (b && not true) ≡ false
and_not true = refl
and_not false = refl

unoption-first : (g : Grant) (gs : List Grant) → AllByRecursion (λ h. g.number < h.number) gs → lose (unoption g.number) (g ∷ gs) ≡ record g { option = false } ∷ gs
unoption-first g gs h =
    ap (λ b. record g { option = g.option && not b } ∷ map (option_off (has_number g.number)) gs) (own g)
    ∙ ap (λ b. record g { option = b } ∷ map (option_off (has_number g.number)) gs) (and_not g.option)
    ∙ ap (λ k. record g { option = false } ∷ k) (options_kept (has_number g.number) gs (none-numbered g.number gs h))

-- ---- the losses between two lists of standings, of which the second is left of the first
abbrev pub losses_of : List Standing → List Standing → List Loss
losses_of [] after = []
losses_of (g ∷ before) [] = fell g.number ∷ losses_of before []
losses_of (g ∷ before) (h ∷ after) =
    cond (eqb h.number g.number)
    (cond (g.option && not h.option) (unoption g.number ∷ losses_of before after) (losses_of before after))
    (fell g.number ∷ losses_of before (h ∷ after))

-- the losses between grants
abbrev pub grant_losses : List Grant → List Grant → List Loss
grant_losses before after = losses_of (map standing_of before) (map standing_of after)

-- the numbers of the grants rise
abbrev pub Rising : List Grant → Type 0
Rising gs = Up (λ g. g.number) gs

left-later : (n : ℕ) (before after : List Grant) → IsReducedTo before after → AllByRecursion (λ g. n < g.number) before → AllByRecursion (λ g. n < g.number) after
left-later n _ _ nothing h = tt
left-later n _ _ (stays {g = g} {before = before} {after = after} rest) h = (h.0, left-later n before after rest h.1)
left-later n _ _ (unoptioned {g = g} {before = before} {after = after} rest) h = (h.0, left-later n before after rest h.1)
left-later n _ after (falls {g = g} {before = before} rest) h = left-later n before after rest h.1

-- the first grant falls where the others are all that is left
falls-first : (g : Grant) (before after : List Grant) → AllByRecursion (λ h. g.number < h.number) after → grant_losses (g ∷ before) after ≡ fell g.number ∷ grant_losses before after
falls-first g before [] h = refl
falls-first g before (k ∷ after) h =
    ap (λ b. cond b (cond (g.option && not k.option) (unoption g.number ∷ grant_losses before after) (grant_losses before after)) (fell g.number ∷ grant_losses before (k ∷ after)))
    (ne_eqb k.number g.number (λ q. let lt = h.0 in absurd (omega arith)))

not_both : (b : Bool) → (b && not b) ≡ false
not_both true = refl
not_both false = refl

stays-first : (g : Grant) (before after : List Grant) → grant_losses (g ∷ before) (g ∷ after) ≡ grant_losses before after
stays-first g before after =
    ap (λ b. cond b (cond (g.option && not g.option) (unoption g.number ∷ grant_losses before after) (grant_losses before after)) (fell g.number ∷ grant_losses before (g ∷ after))) (own g)
    ∙ ap (λ b. cond b (unoption g.number ∷ grant_losses before after) (grant_losses before after)) (not_both g.option)

abbrev without_option : Grant → Grant
without_option g = record g { option = false }

loses-first : (g : Grant) (before after : List Grant) → grant_losses (g ∷ before) (without_option g ∷ after) ≡ cond g.option (unoption g.number ∷ grant_losses before after) (grant_losses before after)
loses-first g before after =
    ap (λ b. cond b (cond (g.option && true) (unoption g.number ∷ grant_losses before after) (grant_losses before after)) (fell g.number ∷ grant_losses before (without_option g ∷ after))) (own g)
    ∙ by g.option
  where
    by : (b : Bool) → cond (b && true) (unoption g.number ∷ grant_losses before after) (grant_losses before after) ≡ cond b (unoption g.number ∷ grant_losses before after) (grant_losses before after)
    by true = refl
    by false = refl

-- losses are of grants that were there
later-losses : (n : ℕ) (before after : List Grant) → AllByRecursion (λ g. n < g.number) before → AllByRecursion (λ loss. n < loss.1) (grant_losses before after)
later-losses n [] after h = tt
later-losses n (g ∷ before) [] h = (h.0, later-losses n before [] h.1)
later-losses n (g ∷ before) (k ∷ after) h = by (eqb k.number g.number) (g.option && not k.option) (later-losses n before after h.1) (later-losses n before (k ∷ after) h.1)
  where
    by : (same taken : Bool) → AllByRecursion (λ (loss : Loss). n < loss.1) (grant_losses before after) → AllByRecursion (λ (loss : Loss). n < loss.1) (grant_losses before (k ∷ after))
        → AllByRecursion (λ (loss : Loss). n < loss.1) (cond same (cond taken (unoption g.number ∷ grant_losses before after) (grant_losses before after)) (fell g.number ∷ grant_losses before (k ∷ after)))
    by true true later more = (h.0, later)
    by true false later more = later
    by false taken later more = (h.0, more)

abbrev pub lost : List Grant → List Loss → List Grant
lost gs xs = edited of number_of lose passes gs xs

abbrev pub Lose : List Grant → List Loss → Type 0
Lose gs xs = EachEdits of number_of lose passes gs xs

-- what they lead to, that their numbers rise, and that each takes something
pub record Tells (before after : List Grant) (xs : List Loss) : Type 0 where
  pub leads : lost before xs ≡ after
  pub up : Up number_of xs
  pub each : Lose before xs

-- a grant that stays, before those of which losses are told
told-behind : (g : Grant) (before after : List Grant) (xs : List Loss) → AllByRecursion (λ loss. g.number < loss.1) xs → Tells before after xs → Tells (g ∷ before) (g ∷ after) xs
told-behind g before after xs above t = record {
  leads = edited-behind of number_of lose passes g before xs above ∙ ap (λ k. g ∷ k) t.leads;
  up = t.up;
  each = edits-behind of number_of lose passes g before xs above t.each;
}

no_longer : (g : Grant) (gs : List Grant) → gs ≢ g ∷ gs
no_longer g gs same = let long = ap (λ k. length k) same in absurd (omega (arith, long))

abbrev head_option : Bool → List Grant → Bool
head_option b [] = b
head_option b (g ∷ gs) = g.option

had-option : (g : Grant) (gs : List Grant) → g.option ≡ true → without_option g ∷ gs ≢ g ∷ gs
had-option g gs had same =
    let none : false ≡ g.option = ap (head_option true) same in
    both_ways g.option (sym none) had

pub told : (before after : List Grant) → IsReducedTo before after → Rising before → Tells before after (grant_losses before after)
told _ _ nothing up = record { leads = refl; up = tt; each = tt }
told _ _ (stays {g = g} {before = before} {after = after} rest) up =
    let xs = grant_losses before after in
    subst (Tells (g ∷ before) (g ∷ after)) (sym (stays-first g before after))
    (told-behind g before after xs (later-losses g.number before after up.0) (told before after rest up.1))
told _ after (falls {g = g} {before = before} rest) up =
    let xs = grant_losses before after in
    let t = told before after rest up.1 in
    let first = fell-first g before up.0 in
    subst (Tells (g ∷ before) after) (sym (falls-first g before after (left-later g.number before after rest up.0)))
    (record {
      leads = ap (λ gs. lost gs xs) first ∙ t.leads;
      up = (later-losses g.number before after up.0, t.up);
      each = ((λ same. no_longer g before (sym first ∙ same)), subst (λ gs. Lose gs xs) (sym first) t.each);
    })
told _ _ (unoptioned {g = g} {before = before} {after = after} rest) up =
    subst (Tells (g ∷ before) (without_option g ∷ after)) (sym (loses-first g before after)) (by g.option refl (told before after rest up.1))
  where
    above : AllByRecursion (λ (loss : Loss). g.number < loss.1) (grant_losses before after)
    above = later-losses g.number before after up.0

    by : (b : Bool) → g.option ≡ b → Tells before after (grant_losses before after)
        → Tells (g ∷ before) (without_option g ∷ after) (cond b (unoption g.number ∷ grant_losses before after) (grant_losses before after))
    by true had t =
        let all = grant_losses before after in
        let first = unoption-first g before up.0 in
        let behind = told-behind (without_option g) before after all above t in
        record {
          leads = ap (λ gs. lost gs all) first ∙ behind.leads;
          up = (above, t.up);
          each = ((λ same. had-option g before had (sym first ∙ same)), subst (λ gs. Lose gs all) (sym first) behind.each);
        }
    by false none t =
        let all = grant_losses before after in
        let same : g ≡ without_option g = ap (λ b. record g { option = b }) none in
        subst (λ (k : Grant). Tells (g ∷ before) (k ∷ after) all) same (told-behind g before after all above t)

-- ---- as effects on contents
module _ (tables : List (Name × Table)) where
  abbrev pub holding : List Grant → Contents
  holding gs = record { tables = tables; grants = gs }

  one : (gs : List Grant) (x : Loss) → applied (holding gs) (effect_of x) ≡ holding (lose x gs)
  one gs (true, n) = refl
  one gs (false, n) = refl

  leads-on : (gs : List Grant) (xs : List Loss) → after_effects (holding gs) (map effect_of xs) ≡ holding (lost gs xs)
  leads-on gs [] = refl
  leads-on gs (x ∷ xs) = ap (λ c. after_effects c (map effect_of xs)) (one gs x) ∙ leads-on (lose x gs) xs

  changes-on : (gs : List Grant) (xs : List Loss) → Lose gs xs → EachChanges (holding gs) (map effect_of xs)
  changes-on gs [] each = tt
  changes-on gs (x ∷ xs) each = (
    (λ same. each.0 (ap (λ c. c.grants) (sym (one gs x) ∙ same))),
    subst (λ c. EachChanges c (map effect_of xs)) (sym (one gs x)) (changes-on (lose x gs) xs each.1),
  )

  before_by_number : (x y : Loss) → x.1 < y.1 → IsBefore (subject_of (effect_of x)) (subject_of (effect_of y))
  before_by_number (true, n) (true, m) lt = lt
  before_by_number (true, n) (false, m) lt = lt
  before_by_number (false, n) (true, m) lt = lt
  before_by_number (false, n) (false, m) lt = lt

  -- **the losses are the difference**
  pub AreEffectsOf-losses : (before after : List Grant) → IsReducedTo before after → Rising before → AreEffectsOf (holding before) (holding after) (map effect_of (grant_losses before after))
  AreEffectsOf-losses before after left up =
      let t = told before after left up in
      let xs = grant_losses before after in
      record {
        leads = leads-on before xs ∙ ap holding t.leads;
        rises = rises-up number_of effect_of before_by_number xs t.up;
        changes = changes-on before xs t.each;
      }
