use Rattle.std.proofs.Common.{◌≡◌, ◌∙◌, ℕ, ◌+◌, max, length, sum_by, Option, Some, ap, rules}
use Rattle.graph_core.specs.Graph.{GraphState}
use Rattle.tables_core.specs.Contents.{Database, rows_by_table}
use Rattle.capture_core.specs.declared.image.Image.{Image}
use Rattle.capture_core.specs.Image.{image, records, row_total}
use Rattle.capture_core.specs.Capturing.{ActiveCapture, InProgress, coming}
use Rattle.capture_core.proofs.BeginLemmas.{new_capture, coming-new, sum_rows_by_table}
use Rattle.capture_core.proofs.capture.Capture.begin.Goals as goal

pub returns-clause-begins : goal.returns-clause-begins
returns-clause-begins c =
    let ts = c.args.tables.now.tables in
    let rights = c.args.rights.now.content in
    let number = c.self.inside.begun + 1 in
    let due = c.begin-2.new.self.rest in
    let all : Database = record { tables = ts; rest = rows_by_table ts } in
    let captured : ActiveCapture = new_capture number c.args.point c.records-left.result in
    let rows = ap (λ (d : Database). sum_by length d.rest) c.begin.ensures ∙ sum_rows_by_table ts in
    let grants = ap (λ (r : GraphState). length r.rest) c.begin-2.ensures in
    let left : c.new.result.left ≡ records ts rights =
    ap (λ (a : ActiveCapture). a.left) c.new.ensures
    ∙ (c.records-left.ensures ∙ (ap (λ n. max (n + length due) 1) rows ∙ ap (λ n. max (row_total ts + n) 1) grants)) in
    let is : coming c.new.result c.begin.new.self due ≡ image number c.args.point ts rights =
    ap (λ a. coming a c.begin.new.self due) c.new.ensures
    ∙ (ap (λ d. coming captured d due) c.begin.ensures
    ∙ (ap (λ (r : GraphState). coming captured all r.rest) c.begin-2.ensures
    ∙ coming-new number c.args.point c.records-left.result ts rights)) in
    let some : ℕ → Image → Option InProgress = λ left coming. Some (record { left = left; coming = coming }) in
    ap (λ n. some n (coming c.new.result c.begin.new.self due)) left ∙ ap (some (records ts rights)) is

pub returns-clause-lack : goal.returns-clause-lack
returns-clause-lack c = search rules
