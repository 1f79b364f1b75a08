use Rattle.std.proofs.Common.{◌≡◌, ℕ, ◌+◌, List, ◌∷◌, ◌++◌, length, flat_map, sym, ap, subst, ◌∙◌}
use Rattle.std.specs.Io.KnownBytes.{Appends}
use Rattle.base_core.specs.Streams.{WritesFront}
use Rattle.base_core.proofs.Fronts.{front-first, text-broken, text-then}
use Rattle.messages_core.specs.Fields.{int16, int32, sized, value}
use Rattle.messages_core.specs.Rows.{row_values}
use Rattle.messages_core.proofs.Pieces.{row_length, counted_length}
use Rattle.messages_core.proofs.rows.write_row.Goals as goal

pub returns-in_err-write_all : goal.returns-in_err-write_all
returns-in_err-write_all g c =
    let bytes = flat_map value (row_values c.args.values.now c.args.formats.now) in
    let count = length (row_values c.args.values.now c.args.formats.now) in
    let front : List ℕ = 68 ∷ (int32 (4 + length (int16 count ++ bytes)) ++ int16 count) in
    let is : c.counted_header.result ≡ front = c.counted_header.ensures ∙ ap (λ (n : ℕ). 68 ∷ (int32 (6 + n) ++ int16 (length c.args.values.now))) c.row_size.ensures.size
    ∙ ap (λ (n : ℕ). 68 ∷ (int32 (6 + length bytes) ++ int16 n)) (sym (row_length c.args.values.now c.args.formats.now c.requires.same))
    ∙ ap (λ (n : ℕ). 68 ∷ (int32 n ++ int16 count)) (sym (counted_length count bytes)) in
    text-broken g.W.Sink.failed g.W.Sink.taken _ _ (68 ∷ sized (int16 count ++ bytes)) c.from_residual.result c.from_residual.ensures.0 (
      c.in_err-write_all.ensures.0,
      front-first _ _ front bytes
          (subst (λ (t : List ℕ). WritesFront (g.W.Sink.taken c.args.writer.now) (g.W.Sink.taken c.write_all.new.writer) t) is c.in_err-write_all.ensures.1),
    )

pub returns : goal.returns
returns g c =
    let bytes = flat_map value (row_values c.args.values.now c.args.formats.now) in
    let count = length (row_values c.args.values.now c.args.formats.now) in
    let front : List ℕ = 68 ∷ (int32 (4 + length (int16 count ++ bytes)) ++ int16 count) in
    let is : c.counted_header.result ≡ front = c.counted_header.ensures ∙ ap (λ (n : ℕ). 68 ∷ (int32 (6 + n) ++ int16 (length c.args.values.now))) c.row_size.ensures.size
    ∙ ap (λ (n : ℕ). 68 ∷ (int32 (6 + length bytes) ++ int16 n)) (sym (row_length c.args.values.now c.args.formats.now c.requires.same))
    ∙ ap (λ (n : ℕ). 68 ∷ (int32 n ++ int16 count)) (sym (counted_length count bytes)) in
    text-then g.W.Sink.failed g.W.Sink.taken _ _ _ front bytes c.write_cells.result
    (subst (λ (t : List ℕ). Appends (g.W.Sink.taken c.args.writer.now) (g.W.Sink.taken c.write_all.new.writer) t) is c.in_ok-write_all.ensures.1)
    c.write_cells.ensures
