-- Records of a stream that are written part by part.
use Rattle.std.proofs.Common.{◌≡◌, ℕ, List, [], ◌∷◌, ◌++◌, codes, decimal, length, refl, sym, ap, ◌∙◌, append_assoc}
use Rattle.std.proofs.lemmas.List.Concat.{flat_map-append}
use Rattle.export_core.specs.Record.{comma, field_text, more_text}
use Rattle.export_core.proofs.Fields.{record_line-from_fields}
use Rattle.stream_core.specs.declared.effect.Effect.{Effect}
use Rattle.std.specs.List.{flat_map}
use Rattle.base_core.specs.declared.value.Column.{Column}
use Rattle.stream_core.specs.Lines.{column_fields, effect_line, effect_lines, effect_fields, effect_word}

-- further fields behind further fields
pub fields-behind : (old middle new : List ℕ) (first more : List (List ℕ)) → middle ≡ old ++ more_text first → new ≡ middle ++ more_text more → new ≡ old ++ more_text (first ++ more)
fields-behind old middle new first more one others =
    others ∙ ap (λ text. text ++ more_text more) one ∙ append_assoc old (more_text first) (more_text more)
    ∙ ap (λ text. old ++ text) (sym (flat_map-append (λ field. comma ∷ field_text field) first more))

-- the line of an effect from its parts
pub line-from : (start begun written line : List ℕ) (moment left : ℕ) (e : Effect) → begun ≡ (start ++ field_text (decimal moment)) ++ more_text (decimal left ∷ effect_word e ∷ [])
    → written ≡ begun ++ more_text (effect_fields e) → line ≡ written ++ codes "\n" → line ≡ start ++ effect_line moment left e
line-from start begun written line moment left e head rest ended =
    let first = start ++ field_text (decimal moment) in
    let fields = decimal left ∷ effect_word e ∷ effect_fields e in
    let whole : written ≡ first ++ more_text fields = fields-behind first begun written (decimal left ∷ effect_word e ∷ []) (effect_fields e) head rest in
    let begun_is : first ≡ start ++ field_text (decimal moment) = refl in
    ended ∙ record_line-from_fields start (decimal moment) first written fields begun_is whole

-- one record more
pub lines-more : (start old new : List ℕ) (moment : ℕ) (here all : List Effect) (e : Effect) (rest : List Effect) → here ≡ e ∷ rest → old ++ effect_lines moment here ≡ start ++ effect_lines moment all
    → new ≡ old ++ effect_line moment (length rest) e → new ++ effect_lines moment rest ≡ start ++ effect_lines moment all
lines-more start old new moment here all e rest is so_far grown =
    ap (λ text. text ++ effect_lines moment rest) grown ∙ append_assoc old (effect_line moment (length rest) e) (effect_lines moment rest)
    ∙ ap (λ es. old ++ effect_lines moment es) (sym is) ∙ so_far

-- one column more
pub columns-more : (start old new : List ℕ) (here all : List Column) (column : Column) (rest : List Column) → here ≡ column ∷ rest → old ++ more_text (flat_map column_fields here) ≡ start ++ more_text (flat_map column_fields all)
    → new ≡ old ++ more_text (column_fields column) → new ++ more_text (flat_map column_fields rest) ≡ start ++ more_text (flat_map column_fields all)
columns-more start old new here all column rest is so_far grown =
    ap (λ text. text ++ more_text (flat_map column_fields rest)) grown ∙ append_assoc old (more_text (column_fields column)) (more_text (flat_map column_fields rest))
    ∙ ap (λ text. old ++ text) (sym (flat_map-append (λ field. comma ∷ field_text field) (column_fields column) (flat_map column_fields rest)))
    ∙ ap (λ cs. old ++ more_text (flat_map column_fields cs)) (sym is) ∙ so_far
