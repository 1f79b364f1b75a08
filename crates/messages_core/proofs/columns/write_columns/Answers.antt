use Rattle.std.proofs.Common.{◌≡◌, ℕ, ◌+◌, List, ◌∷◌, ◌++◌, length, flat_map, sym, ap, subst, ◌∙◌}
use Rattle.std.specs.Io.KnownBytes.{Appends}
use Rattle.base_core.specs.Streams.{WritesFront}
use Rattle.base_core.proofs.Fronts.{front-first, text-broken, text-then}
use Rattle.messages_core.specs.Columns.{table_columns}
use Rattle.messages_core.specs.Fields.{int16, int32, sized}
use Rattle.messages_core.specs.Rows.{described}
use Rattle.messages_core.proofs.Described.{columns_length}
use Rattle.messages_core.proofs.Pieces.{counted_length}
use Rattle.messages_core.proofs.columns.write_columns.Goals as goal

pub returns-in_err-write_all : goal.returns-in_err-write_all
returns-in_err-write_all g c =
    let all = table_columns c.args.columns.now c.args.formats.now in
    let bytes = flat_map described all in
    let count = length all in
    let front : List ℕ = 84 ∷ (int32 (4 + length (int16 count ++ bytes)) ++ int16 count) in
    let is : c.counted_header.result ≡ front = c.counted_header.ensures ∙ ap (λ (n : ℕ). 84 ∷ (int32 (6 + n) ++ int16 (length c.args.columns.now))) c.columns_size.ensures.size
    ∙ ap (λ (n : ℕ). 84 ∷ (int32 (6 + length bytes) ++ int16 n)) (sym (columns_length c.args.columns.now c.args.formats.now))
    ∙ ap (λ (n : ℕ). 84 ∷ (int32 n ++ int16 count)) (sym (counted_length count bytes)) in
    text-broken g.W.Sink.failed g.W.Sink.taken _ _ (84 ∷ sized (int16 count ++ bytes)) c.from_residual.result c.from_residual.ensures.0 (
      c.in_err-write_all.ensures.0,
      front-first _ _ front bytes
          (subst (λ (t : List ℕ). WritesFront (g.W.Sink.taken c.args.writer.now) (g.W.Sink.taken c.write_all.new.writer) t) is c.in_err-write_all.ensures.1),
    )

pub returns : goal.returns
returns g c =
    let all = table_columns c.args.columns.now c.args.formats.now in
    let bytes = flat_map described all in
    let count = length all in
    let front : List ℕ = 84 ∷ (int32 (4 + length (int16 count ++ bytes)) ++ int16 count) in
    let is : c.counted_header.result ≡ front = c.counted_header.ensures ∙ ap (λ (n : ℕ). 84 ∷ (int32 (6 + n) ++ int16 (length c.args.columns.now))) c.columns_size.ensures.size
    ∙ ap (λ (n : ℕ). 84 ∷ (int32 (6 + length bytes) ++ int16 n)) (sym (columns_length c.args.columns.now c.args.formats.now))
    ∙ ap (λ (n : ℕ). 84 ∷ (int32 n ++ int16 count)) (sym (counted_length count bytes)) in
    text-then g.W.Sink.failed g.W.Sink.taken _ _ _ front bytes c.write_descriptions.result
    (subst (λ (t : List ℕ). Appends (g.W.Sink.taken c.args.writer.now) (g.W.Sink.taken c.write_all.new.writer) t) is c.in_ok-write_all.ensures.1)
    c.write_descriptions.ensures
