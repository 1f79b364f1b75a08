-- Tables of which each column is listed.
use Rattle.std.proofs.Common.{◌≡◌, true, Bool, ◌&&◌, if◌then◌else◌, List, [], ◌∷◌, map, codes, refl, ap, ◌∙◌, arith}
use Rattle.std.specs.List.{list_all}
use Rattle.std.proofs.lemmas.List.{length-map}
use Rattle.base_core.specs.declared.value.Column.{Column}
use Rattle.base_core.specs.declared.value.Row.{Row}
use Rattle.capture_core.specs.declared.image.TableImage.{TableImage}
use Rattle.export_core.specs.Export.{cut, held_then, holds_now, held, listed_marks, is_any, listed_lines, withheld_line}
use Rattle.export_core.specs.Record.{record_line, row_line}
use Rattle.export_core.specs.Laws.{WholeIsUncut}
use Rattle.export_core.proofs.Cutting.{each-any, cut-each}

rows_uncut : (marks : List Bool) (rows : List Row) → list_all (λ mark. mark) marks ≡ true → map (λ row. row_line (cut marks row.values)) rows ≡ map (λ row. row_line row.values) rows
rows_uncut marks [] each = refl
rows_uncut marks (row ∷ rows) each =
    ap (λ values. row_line values ∷ map (λ r. row_line (cut marks r.values)) rows) (cut-each marks row.values each)
    ∙ ap (λ lines. row_line row.values ∷ lines) (rows_uncut marks rows each)

lines_uncut : (marks : List Bool) (t : TableImage) → list_all (λ mark. mark) marks ≡ true
    → listed_lines marks t ≡ record_line (codes "table" ∷ t.name ∷ map (λ c. c.name) t.columns) ∷ map (λ row. row_line row.values) t.rows
lines_uncut marks t each =
    ap (λ names. record_line (codes "table" ∷ t.name ∷ names) ∷ map (λ row. row_line (cut marks row.values)) t.rows) (cut-each marks (map (λ c. c.name) t.columns) each)
    ∙ ap (λ lines. record_line (codes "table" ∷ t.name ∷ map (λ c. c.name) t.columns) ∷ lines) (rows_uncut marks t.rows each)

pub whole_is_uncut : WholeIsUncut
whole_is_uncut image now user t some each =
    let marks = listed_marks image now user t.name t.columns in
    let withheld = withheld_line t.name (if is_any (held image user t.name t.columns) then codes "now" else codes "point") ∷ [] in
    let any : is_any marks ≡ true = each-any marks (omega (arith, length-map t.columns (λ (c : Column). held_then image user t.name c.name && holds_now now user t.name c.name))) each in
    ap (λ b. if b then listed_lines marks t else withheld) any ∙ lines_uncut marks t each
