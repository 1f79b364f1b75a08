-- What is told of one moment.
use Rattle.std.proofs.Common.{◌≡◌, ◌<◌, ◌≤◌, ℕ, true, false, cond, ltb, List, [], ◌∷◌, sym, ap, ◌∙◌, arith, append-nil}
use Rattle.std.specs.List.{flat_map}
use Rattle.std.proofs.lemmas.Bool.Decides.{nat_tests}
use Rattle.stream_core.specs.declared.effect.Effect.{Effect}
use Rattle.stream_core.specs.Lines.{effect_lines}
use Rattle.stream_core.specs.Streams.{ChangeTold, stream_text}

module _ (from moment : ℕ) (all : List Effect) where
  abbrev one : ChangeTold
  one = record { moment = moment; all = all }

  abbrev lines_of : ChangeTold → List ℕ
  lines_of told = effect_lines told.moment told.all

  -- one behind the moment from which is told
  pub text-told : from < moment → effect_lines moment all ≡ stream_text from (one ∷ [])
  text-told later =
      let test : ltb from moment ≡ true = grind (arith, nat_tests, later) in
      sym (append-nil (effect_lines moment all)) ∙ ap (λ b. flat_map lines_of (cond b (one ∷ []) [])) (sym test)

  -- one up to it
  pub text-untold : moment ≤ from → [] ≡ stream_text from (one ∷ [])
  text-untold early =
      let test : ltb from moment ≡ false = grind (arith, nat_tests, early) in
      ap (λ b. flat_map lines_of (cond b (one ∷ []) [])) (sym test)
