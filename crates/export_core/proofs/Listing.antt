-- The lines of a table with its rows.
use Rattle.std.proofs.Common.{◌≡◌, ◌≢◌, ℕ, zero, suc, ◌-◌, ◌<◌, ◌≤◌, Bool, List, length, get_or, Some, refl, ap, ◌∙◌, arith}
use Rattle.std.specs.List.{slice_get}
use Rattle.std.specs.Option.{option_map}
use Rattle.std.proofs.lemmas.Option.{slice_get-map}
use Rattle.std.proofs.lemmas.List.{length-map}
use Rattle.base_core.specs.declared.value.Row.{Row}
use Rattle.capture_core.specs.declared.image.TableImage.{TableImage}
use Rattle.export_core.specs.Export.{cut, listed_lines}
use Rattle.export_core.specs.Record.{row_line}
use Rattle.export_core.proofs.Places.{slice_get-index}

-- behind the first line stand those of the rows
pub listed_row : (marks : List Bool) (t : TableImage) (index : ℕ) (row : Row) → index ≢ 0 → index ≤ length t.rows → row ≡ get_or t.rows (index - 1) row
    → slice_get (listed_lines marks t) index ≡ Some (row_line (cut marks row.values))
listed_row marks t zero row some within read = absurd (some refl)
listed_row marks t (suc i) row some within read =
    let before : suc i - 1 ≡ i = omega arith in
    let below : i < length t.rows = omega arith in
    slice_get-map (λ (r : Row). row_line (cut marks r.values)) t.rows i
    ∙ ap (option_map (λ (r : Row). row_line (cut marks r.values))) (slice_get-index t.rows i row (read ∙ ap (λ n. get_or t.rows n row) before) below)

-- and how many lines there are
pub listed_within : (marks : List Bool) (t : TableImage) (index : ℕ) → index < length (listed_lines marks t) → index ≤ length t.rows
listed_within marks t index within = omega (arith, within, length-map t.rows (λ (r : Row). row_line (cut marks r.values)))
