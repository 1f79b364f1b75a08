use Rattle.std.proofs.Common.{◌≡◌, ℕ, ◌+◌, List, ◌∷◌, length, flat_map, ap, subst, ◌∙◌}
use Rattle.std.specs.Io.KnownBytes.{Appends}
use Rattle.base_core.specs.Streams.{WritesFront}
use Rattle.base_core.proofs.Fronts.{front-first, text-broken, text-then}
use Rattle.messages_core.specs.Fields.{int32, sized}
use Rattle.messages_core.proofs.writing.write_plain.Goals as goal

pub returns-in_err-write_all : goal.returns-in_err-write_all
returns-in_err-write_all g c =
    let bytes = flat_map g.F.Field.spelled c.args.fields.now in
    let front : List ℕ = c.args.byte ∷ int32 (4 + length bytes) in
    let is : c.header.result ≡ front = c.header.ensures ∙ ap (λ (n : ℕ). c.args.byte ∷ int32 (4 + n)) c.size_of_all.ensures in
    text-broken g.W.Sink.failed g.W.Sink.taken _ _ (c.args.byte ∷ sized bytes) c.from_residual.result c.from_residual.ensures.0 (
      c.in_err-write_all.ensures.0,
      front-first _ _ front bytes
          (subst (λ (t : List ℕ). WritesFront (g.W.Sink.taken c.args.writer.now) (g.W.Sink.taken c.write_all.new.writer) t) is c.in_err-write_all.ensures.1),
    )

pub returns : goal.returns
returns g c =
    let bytes = flat_map g.F.Field.spelled c.args.fields.now in
    let front : List ℕ = c.args.byte ∷ int32 (4 + length bytes) in
    let is : c.header.result ≡ front = c.header.ensures ∙ ap (λ (n : ℕ). c.args.byte ∷ int32 (4 + n)) c.size_of_all.ensures in
    text-then g.W.Sink.failed g.W.Sink.taken _ _ _ front bytes c.write_fields.result
    (subst (λ (t : List ℕ). Appends (g.W.Sink.taken c.args.writer.now) (g.W.Sink.taken c.write_all.new.writer) t) is c.in_ok-write_all.ensures.1)
    c.write_fields.ensures
