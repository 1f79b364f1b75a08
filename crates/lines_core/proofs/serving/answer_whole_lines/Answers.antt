use Rattle.std.proofs.Common.{◌≡◌, ◌-◌, List, ℕ, [], take, length, arith, subst, sym, ◌∙◌}
use Rattle.std.specs.Io.KnownBytes.{Consumes}
use Rattle.std.proofs.KnownBytes.{Keeps-refl}
use Rattle.std.proofs.lemmas.List.{length-take-le}
use Rattle.lines_core.specs.Serving.{HasServed, traffic_of}
use Rattle.lines_core.proofs.ServeLemmas.{Serving-none, Serving-more, Serving-end, Run-whole, BrokenRun-piece}
use Rattle.lines_core.specs.Feeding.{FeedingState}
use Rattle.lines_core.proofs.serving.answer_whole_lines.Goals as goal

pub returns-in_default-clause-ends : goal.returns-in_default-clause-ends
returns-in_default-clause-ends g c =
    let R = g.D.LineServer.answers in
    let law = g.met.D.LineServer.too_long in
    let s = c.loop-feeding.invariant.serving in
    (s.bytes, Run-whole R law _ _ _ _ _ _ _ _ _ s c.in_default.ensures.err)

-- the end of the input, at which no byte was read
nothing : (left0 left1 : _) (n : ℕ) (buffer : List ℕ) → n ≡ 0 → Consumes left0 left1 (take n buffer) → Consumes left0 left1 []
nothing left0 left1 n buffer e h = subst (λ k. Consumes left0 left1 (take k buffer)) e h

pub returns-then-n-eq0-clause-ends : goal.returns-then-n-eq0-clause-ends
returns-then-n-eq0-clause-ends g c =
    let left1 = g.S.Source.left c.loop-feeding.reader in
    let left2 = g.S.Source.left c.read_up_to.new.reader in (
      Serving-end g.D.LineServer.answers g.met.D.LineServer.too_long _ _ _ _ _ left1 left2 _ _ c.loop-feeding.invariant.serving (nothing left1 left2 c.in-Ok.n c.read_up_to.new.buffer c.if-n-eq0.true c.in-Ok.ensures.ok),
      c.in-Ok.ensures.end c.if-n-eq0.true,
      c.loop-feeding.invariant.not_over,
    )

pub returns-clause-ends : goal.returns-clause-ends
returns-clause-ends g c =
    let R = g.D.LineServer.answers in
    let law = g.met.D.LineServer.too_long in
    let s = c.loop-feeding.invariant.serving in
    (s.bytes, Run-whole R law _ _ _ _ _ _ _ _ _ s (Keeps-refl _), omega (arith, s.count))

pub returns-in_default-feed-clause-ends : goal.returns-in_default-feed-clause-ends
returns-in_default-feed-clause-ends g c =
    let feeding = c.loop-feeding.feeding in
    BrokenRun-piece g.D.LineServer.answers g.met.D.LineServer.too_long feeding.line c.args.server.now c.loop-feeding.server c.feed.new.server (take c.in-Ok.n c.read_up_to.new.buffer) feeding.unread
    (g.S.Source.left c.args.reader.now) (g.S.Source.left c.loop-feeding.reader) (g.S.Source.left c.read_up_to.new.reader)
    (g.W.Sink.taken c.args.writer.now) (g.W.Sink.taken c.loop-feeding.writer) (g.W.Sink.taken c.feed.new.writer)
    c.loop-feeding.invariant.serving c.in-Ok.ensures.ok c.in_default-feed.ensures.broken

pub loop-feeding-preserved : goal.loop-feeding-preserved
loop-feeding-preserved g c =
    let old = c.loop-feeding.feeding in
    let new = c.feed.new.self in
    let left0 = g.S.Source.left c.args.reader.now in
    let left2 = g.S.Source.left c.read_up_to.new.reader in
    let taken0 = g.W.Sink.taken c.args.writer.now in
    let taken2 = g.W.Sink.taken c.feed.new.writer in
    let piece = take c.in-Ok.n c.read_up_to.new.buffer in
    let size : length piece ≡ c.in-Ok.n = length-take-le c.in-Ok.n c.read_up_to.new.buffer (omega (arith, c.in-Ok.ensures.count)) in
    let unread : old.unread - length piece ≡ new.unread = omega (arith, c.in-Ok-feed.ensures.unread) in
    let s = subst (λ k. HasServed g.D.LineServer.answers new.line c.args.server.now c.feed.new.server k (traffic_of left0 left2 taken0 taken2)) unread
    (Serving-more g.D.LineServer.answers g.met.D.LineServer.too_long old.line new.line c.args.server.now c.loop-feeding.server c.feed.new.server piece old.unread
    left0 (g.S.Source.left c.loop-feeding.reader) left2 taken0 (g.W.Sink.taken c.loop-feeding.writer) taken2
    c.loop-feeding.invariant.serving c.in-Ok.ensures.ok (omega (arith, size, c.in-Ok.ensures.count)) c.in-Ok-feed.ensures.fed) in
    record {
      source = c.in-Ok.ensures.failed;
      sink = c.in-Ok-feed.ensures.failed;
      flushed = λ h. c.in-Ok-feed.ensures.flushed (c.loop-feeding.invariant.flushed h);
      room = omega arith;
      not_over = λ _. sym c.is_over.ensures ∙ c.if-is_over.false;
      serving = s;
    }

pub loop-feeding-init : goal.loop-feeding-init
loop-feeding-init g c =
    let R = g.D.LineServer.answers in
    let start = c.args.server.now in
    let left = g.S.Source.left c.args.reader.now in
    let taken = g.W.Sink.taken c.args.writer.now in
    record {
      source = c.requires.source;
      sink = c.requires.sink;
      flushed = λ h. h;
      room = c.requires.room;
      not_over = λ h. h;
      serving = subst (λ (f : FeedingState). HasServed R f.line start start f.unread (traffic_of left left taken taken)) (sym c.requires.start) (Serving-none R g.met.D.LineServer.too_long start left taken);
    }

pub returns-then-is_over-clause-ends : goal.returns-then-is_over-clause-ends
returns-then-is_over-clause-ends g c =
    let old = c.loop-feeding.feeding in
    let new = c.feed.new.self in
    let left0 = g.S.Source.left c.args.reader.now in
    let left2 = g.S.Source.left c.read_up_to.new.reader in
    let taken0 = g.W.Sink.taken c.args.writer.now in
    let taken2 = g.W.Sink.taken c.feed.new.writer in
    let piece = take c.in-Ok.n c.read_up_to.new.buffer in
    let size : length piece ≡ c.in-Ok.n = length-take-le c.in-Ok.n c.read_up_to.new.buffer (omega (arith, c.in-Ok.ensures.count)) in
    let unread : old.unread - length piece ≡ new.unread = omega (arith, c.in-Ok-feed.ensures.unread) in
    let s = subst (λ k. HasServed g.D.LineServer.answers new.line c.args.server.now c.feed.new.server k (traffic_of left0 left2 taken0 taken2)) unread
    (Serving-more g.D.LineServer.answers g.met.D.LineServer.too_long old.line new.line c.args.server.now c.loop-feeding.server c.feed.new.server piece old.unread
    left0 (g.S.Source.left c.loop-feeding.reader) left2 taken0 (g.W.Sink.taken c.loop-feeding.writer) taken2
    c.loop-feeding.invariant.serving c.in-Ok.ensures.ok (omega (arith, size, c.in-Ok.ensures.count)) c.in-Ok-feed.ensures.fed) in
    (s.bytes, Run-whole g.D.LineServer.answers g.met.D.LineServer.too_long _ _ _ _ _ _ _ _ _ s (Keeps-refl _), sym c.is_over.ensures ∙ c.if-is_over.true)

pub loop-feeding-smaller : goal.loop-feeding-smaller
loop-feeding-smaller g c =
    let piece = take c.in-Ok.n c.read_up_to.new.buffer in
    let size : length piece ≡ c.in-Ok.n = length-take-le c.in-Ok.n c.read_up_to.new.buffer (omega (arith, c.in-Ok.ensures.count)) in
    omega (arith, size, c.in-Ok-feed.ensures.unread, c.if-n-eq0.false)
