-- The effects of a GRANT are the difference that it makes.
use Rattle.std.proofs.Common.{◌≡◌, ℕ, List, [], ◌∷◌, ◌++◌, map, length, sym, ap, ◌∙◌, arith, length-append, append_assoc, append-nil}
use Rattle.base_core.specs.declared.name.Name.{Name}
use Rattle.tables_core.specs.Contents.{Table}
use Rattle.grants_core.specs.declared.grant.Grant.{Grant}
use Rattle.stream_core.specs.declared.effect.Effect.{Effect}
use Rattle.stream_core.specs.declared.effect.Effect.TheVariants as effects
use Rattle.stream_core.specs.Effects.{AreEffectsOf, Contents, EachChanges, after_effects}
use Rattle.stream_core.proofs.Edits.{Up, rises-up}

abbrev made : Grant → Effect
made g = effects.GrantMade g

abbrev number_of : Grant → ℕ
number_of g = g.number

module _ (tables : List (Name × Table)) where
  abbrev holding : List Grant → Contents
  holding gs = record { tables = tables; grants = gs }

  leads-on : (old gs : List Grant) → after_effects (holding old) (map made gs) ≡ holding (old ++ gs)
  leads-on old [] = ap holding (sym (append-nil old))
  leads-on old (g ∷ gs) = leads-on (old ++ g ∷ []) gs ∙ ap holding (append_assoc old (g ∷ []) gs)

  changes-on : (old gs : List Grant) → EachChanges (holding old) (map made gs)
  changes-on old [] = tt
  changes-on old (g ∷ gs) = (
    (λ same. let long = ap (λ c. length c.grants) same in absurd (omega (arith, long, length-append old (g ∷ [])))),
    changes-on (old ++ g ∷ []) gs,
  )

  -- **new grants behind those in force**
  pub AreEffectsOf-granted : (old gs : List Grant) → Up number_of gs → AreEffectsOf (holding old) (holding (old ++ gs)) (map made gs)
  AreEffectsOf-granted old gs up = record {
    leads = leads-on old gs;
    rises = rises-up number_of made (λ x y lt. lt) gs up;
    changes = changes-on old gs;
  }
