use Rattle.std.proofs.Common.{◌≡◌, ◌+◌, ◌++◌, ◌∷◌, [], List, sym, ap, subst, ◌∙◌}
use Rattle.std.proofs.lemmas.List.Elements.{All-push, All-weaker}
use Rattle.tables_core.specs.Contents.{Table}
use Rattle.tables_core.specs.Capture.{StoredTable}
use Rattle.tables_core.specs.Fitting.{ValuesFit}
use Rattle.tables_core.specs.Indexing.{Numbered, EachLists}
use Rattle.tables_core.proofs.FittingLemmas.{IsWellTyped-with_row}
use Rattle.tables_core.proofs.table.Table.insert.Goals as goal

pub invariant_of-self : goal.invariant_of-self
invariant_of-self c =
    let still = All-weaker (EachLists c.self.inside.indexes.kept.items) (EachLists c.note.new.self.kept.items) c.note.ensures.kept c.self.inside.rows.store.contents c.self.invariant.2 in (
      rw c.in_err-push.ensures.err c.self.invariant.0,
      c.self.invariant.1 ∙ sym c.in_err-push.ensures.err_next,
      rw c.in_err-push.ensures.err still,
    )

pub invariant_of-self-2 : goal.invariant_of-self-2
invariant_of-self-2 c =
    let before : List Numbered = c.self.inside.rows.store.contents in
    let numbered = c.self.invariant.1 in
    let row = c.args.row in
    let new : Numbered = (c.self.inside.inserted, row) in
    let t : Table = record { owner = c.self.inside.owner; columns = c.self.inside.columns; inserted = c.self.inside.inserted; rows = c.self.inside.rows.store.contents } in
    let Fits : StoredTable → Type 0 = λ k. ValuesFit k.contents.columns row.values in
    let more : c.push.new.self.store.contents ≡ before ++ new ∷ [] = c.in_ok-push.ensures.contents ∙ ap (λ n. before ++ (n, row) ∷ []) (sym numbered) in
    let still = All-weaker (EachLists c.self.inside.indexes.kept.items) (EachLists c.note.new.self.kept.items) c.note.ensures.kept before c.self.invariant.2 in (
      rw more (IsWellTyped-with_row t row (subst Fits (sym c.self.view_is) c.requires.fits) c.self.invariant.0),
      ap (λ n. n + 1) numbered ∙ sym c.in_ok-push.ensures.next,
      rw more (All-push (EachLists c.note.new.self.kept.items) before new still c.note.ensures.noted),
    )
