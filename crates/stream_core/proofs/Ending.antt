-- How a stream ends.
use Rattle.std.proofs.Common.{◌≡◌, ℕ, ◌+◌, ◌<◌, ◌≤◌, ◌^◌, Bool, true, false, Option, Some, None, Result, Ok, Err, List, [], ◌∷◌, length, refl, sym, ap, subst, ◌∙◌, arith, append-nil, Vec, Global}
use Rattle.std.specs.Option.{is_some}
use Rattle.std.specs.Prelude.{OnErr}
use Rattle.std.specs.Str.Lines.{lines}
use Rattle.std.specs.Io.KnownBytes.{Appends, Consumes}
use Rattle.base_core.specs.declared.limits.Limits.{Limits}
use Rattle.lines_core.specs.Lines.{whole_lines}
use Rattle.lines_core.specs.Serving.{AnswersAll, EndsWhole, Traffic, traffic_of}
use Rattle.lines_core.specs.declared.serving.SessionFault.{SessionFault}
use Rattle.lines_core.specs.declared.serving.SessionFault.TheVariants as sessions
use Rattle.lines_core.specs.declared.serving.WholeEnding.{WholeEnding}
use Rattle.lines_core.specs.declared.serving.WholeEnding.TheVariants as endings
use Rattle.system_core.specs.World.{World, opening}
use Rattle.system_core.specs.declared.machine.event.Entry.{Entry}
use Rattle.load_core.specs.declared.fault.Undone.{Undone}
use Rattle.load_core.specs.Loading.{StopsAt, lines_unmarked}
use Rattle.load_core.proofs.ReplayEnds.{none_where}
use Rattle.load_core.proofs.Room.{Loads-few}
use Rattle.stream_core.specs.declared.streaming.StreamFault.{StreamFault}
use Rattle.stream_core.specs.declared.streaming.StreamFault.TheVariants as faults
use Rattle.stream_core.specs.Streamer.{StreamerState, StreamsLine, is_stopped, stopped_at}
use Rattle.stream_core.specs.Streaming.{EndsStream, Streams, result_of}
use Rattle.stream_core.proofs.Streamed.{Comes, Goes, StopsTelling, comes}

module _ (chunk : ℕ) (limits : Limits) (from : ℕ) (left left' taken taken' : Option (List ℕ)) where
  abbrev pub start : StreamerState
  start = record { world = opening chunk limits; stop = None; from = from }

  abbrev traffic : Traffic
  traffic = traffic_of left left' taken taken'

  -- what its lines come to
  come : (ls : List (List ℕ)) (text : List ℕ) (new : StreamerState) → AnswersAll StreamsLine start ls text new → Comes start (lines_unmarked ls) text new.stop new
  come ls text new a = comes ls start text new refl a

  -- ---- all lines were told
  streams : (ls : List (List ℕ)) (text : List ℕ) (new : StreamerState) → Goes start (lines_unmarked ls) text new → Appends taken taken' text
      → (journal : List Entry) × Streams limits from (lines_unmarked ls) journal taken taken'
  streams ls text new g wrote =
      (g.entries, record { text = text; loads = g.loads; tells = record { told = g.tells.told; are_told = g.tells.are_told; text_is = g.tells.text_is }; wrote = wrote })

  -- ---- a line stopped it
  stops_at : (ls : List (List ℕ)) (text : List ℕ) (why : Undone) (new : StreamerState) → StopsTelling start (lines_unmarked ls) text why new → StopsAt chunk limits (lines_unmarked ls) (length new.world.journal + 1) why
  stops_at ls text why new s =
      let same : new.world.journal ≡ s.entries = ap (λ k. k.world.journal) s.new_is in
      record {
        front = s.front;
        line = s.line;
        rest = s.rest;
        journal = s.entries;
        lines_are = s.lines_are;
        number_is = ap (λ j. length j + 1) same ∙ omega (arith, s.count);
        loads = s.loads;
        undone = s.undone;
      }

  stopped : (bytes text : List ℕ) (why : Undone) (new : StreamerState) → StopsTelling start (lines_unmarked (whole_lines bytes)) text why new → Consumes left left' bytes → Appends taken taken' text
      → EndsStream chunk limits from (Err (faults.Line (length new.world.journal + 1) why)) left left' taken taken'
  unfolding stops_at
  stopped bytes text why new s read wrote = (
    bytes,
    stops_at (whole_lines bytes) text why new s,
    read,
    record { text = text; loads = s.loads; tells = record { told = s.tells.told; are_told = s.tells.are_told; text_is = s.tells.text_is }; wrote = wrote },
  )

  module _ (new : StreamerState) where
    -- by why it stopped, and how the serving ended
    by : (stop : Option Undone) → new.stop ≡ stop → (ending : Result WholeEnding SessionFault) → EndsWhole StreamsLine is_stopped ending start new traffic
        → (is_open : (fault : SessionFault) → ending ≡ Err fault → (fault ≡ sessions.Write → ⊥) → stop ≡ None)
        → EndsStream chunk limits from (result_of ending (stopped_at (record new { stop = stop }))) left left' taken taken'
    by None is (Ok endings.Whole) (bytes, run, end, open_then, whole, same) is_open =
        let c : Goes start (lines_unmarked (whole_lines bytes)) run.text new = subst (λ k. Comes start (lines_unmarked (whole_lines bytes)) run.text k new) is (come (whole_lines bytes) run.text new run.answered) in
        let s = streams (whole_lines bytes) run.text new c run.wrote in
        (bytes, s.0, run.read, end, (whole, same), s.1)
    by None is (Ok (endings.CutOff front)) (bytes, run, end, open_then, cut, front_is) is_open =
        let c : Goes start (lines_unmarked (whole_lines bytes)) run.text new = subst (λ k. Comes start (lines_unmarked (whole_lines bytes)) run.text k new) is (come (whole_lines bytes) run.text new run.answered) in
        let s = streams (whole_lines bytes) run.text new c run.wrote in
        (bytes, s.0, run.read, end, (cut, front_is), s.1)
    by None is (Ok endings.Over) (bytes, run, over) is_open = let Stopped : Option Undone → Type 0 = λ o. is_some o ≡ true in let never : Stopped None = subst Stopped is over in cc
    by (Some why) is (Ok endings.Whole) (bytes, run, end, open_then, whole, same) is_open =
        stopped bytes run.text why new (subst (λ k. Comes start (lines_unmarked (whole_lines bytes)) run.text k new) is (come (whole_lines bytes) run.text new run.answered)) run.read run.wrote
    by (Some why) is (Ok (endings.CutOff front)) (bytes, run, end, open_then, cut, front_is) is_open =
        stopped bytes run.text why new (subst (λ k. Comes start (lines_unmarked (whole_lines bytes)) run.text k new) is (come (whole_lines bytes) run.text new run.answered)) run.read run.wrote
    by (Some why) is (Ok endings.Over) (bytes, run, over) is_open =
        stopped bytes run.text why new (subst (λ k. Comes start (lines_unmarked (whole_lines bytes)) run.text k new) is (come (whole_lines bytes) run.text new run.answered)) run.read run.wrote
    by None is (Err sessions.Read) (bytes, run) is_open =
        let c : Goes start (lines_unmarked (whole_lines bytes)) run.text new = subst (λ k. Comes start (lines_unmarked (whole_lines bytes)) run.text k new) is (come (whole_lines bytes) run.text new run.answered) in
        let s = streams (whole_lines bytes) run.text new c run.wrote in
        (bytes, s.0, run.read, s.1)
    by None is (Err sessions.Bound) (bytes, run, long) is_open =
        let c : Goes start (lines_unmarked (whole_lines bytes)) run.text new = subst (λ k. Comes start (lines_unmarked (whole_lines bytes)) run.text k new) is (come (whole_lines bytes) run.text new run.answered) in
        let s = streams (whole_lines bytes) run.text new c run.wrote in
        (bytes, s.0, run.read, s.1, long)
    by (Some why) is (Err sessions.Read) ends is_open = let never : Some why ≡ None = is_open sessions.Read refl (λ e. cc) in cc
    by (Some why) is (Err sessions.Bound) ends is_open = let never : Some why ≡ None = is_open sessions.Bound refl (λ e. cc) in cc
    by stop is (Err sessions.Write) b is_open = broken stop (subst (λ k. Comes start (lines_unmarked (lines b.done)) b.text k new) is (come (lines b.done) b.text new b.answered))
      where
        broken : (stop : Option Undone) → Comes start (lines_unmarked (lines b.done)) b.text stop new → EndsStream chunk limits from (Err faults.Write) left left' taken taken'
        broken None g = (
          b.done,
          b.undone,
          lines_unmarked (lines b.done),
          [],
          g.entries,
          b.text,
          b.read,
          sym (append-nil (lines_unmarked (lines b.done))),
          g.loads,
          record { told = g.tells.told; are_told = g.tells.are_told; text_is = g.tells.text_is },
          b.wrote,
        )
        broken (Some why) g = (
          b.done,
          b.undone,
          g.front,
          g.line ∷ g.rest,
          g.entries,
          b.text,
          b.read,
          g.lines_are,
          g.loads,
          record { told = g.tells.told; are_told = g.tells.are_told; text_is = g.tells.text_is },
          b.wrote,
        )
    by stop is (Err sessions.NoMemory) ends is_open = (ends.1, ends.2)

  -- ---- no more was entered than may be
  few_by : (ls : List (List ℕ)) (text : List ℕ) (stop : Option Undone) (new : StreamerState) → Comes start ls text stop new → length new.world.journal ≤ limits.changes
  few_by ls text None new g =
      let count : length g.entries ≤ limits.changes = Loads-few limits [] ls g.entries (omega arith) g.loads in
      omega (arith, ap (λ (k : StreamerState). length k.world.journal) g.new_is, count)
  few_by ls text (Some why) new s =
      let count : length s.entries ≤ limits.changes = Loads-few limits [] s.front s.entries (omega arith) s.loads in
      omega (arith, ap (λ (k : StreamerState). length k.world.journal) s.new_is, count)

  few_of : (ls : List (List ℕ)) (text : List ℕ) (new : StreamerState) → AnswersAll StreamsLine start ls text new → length new.world.journal ≤ limits.changes
  few_of ls text new a = few_by (lines_unmarked ls) text new.stop new (come ls text new a)

  few : (new : StreamerState) (ending : Result WholeEnding SessionFault) → EndsWhole StreamsLine is_stopped ending start new traffic → length new.world.journal ≤ limits.changes
  few new (Ok endings.Whole) (bytes, run, end, open_then, whole, same) = few_of (whole_lines bytes) run.text new run.answered
  few new (Ok (endings.CutOff front)) (bytes, run, end, open_then, cut, front_is) = few_of (whole_lines bytes) run.text new run.answered
  few new (Ok endings.Over) (bytes, run, over) = few_of (whole_lines bytes) run.text new run.answered
  few new (Err sessions.Read) (bytes, run) = few_of (whole_lines bytes) run.text new run.answered
  few new (Err sessions.Bound) (bytes, run, long) = few_of (whole_lines bytes) run.text new run.answered
  few new (Err sessions.Write) b = few_of (lines b.done) b.text new b.answered
  few new (Err sessions.NoMemory) (same, unread, unwritten) = omega (arith, ap (λ (k : StreamerState). length k.world.journal) same)

  pub number_is_small : (new : StreamerState) (ending : Result WholeEnding SessionFault) → EndsWhole StreamsLine is_stopped ending start new traffic → length new.world.journal + 1 < 2 ^ 64
  number_is_small new ending ends = omega (arith, limits.changes_within, few new ending ends)

  -- from what a streamer has come to at first
  pub from_start : (old new : StreamerState) (w : World) (ending : Result WholeEnding SessionFault) → w ≡ opening chunk limits → old ≡ record { world = w; stop = None; from = from }
      → EndsWhole StreamsLine is_stopped ending old new traffic → EndsWhole StreamsLine is_stopped ending start new traffic
  from_start old new w ending here is ends =
      let begun : World → StreamerState = λ k. record { world = k; stop = None; from = from } in
      subst (λ (s : StreamerState). EndsWhole StreamsLine is_stopped ending s new traffic) (is ∙ ap begun here) ends

  -- **so a stream ends**
  pub ends_so : (new : StreamerState) (ending : Result WholeEnding SessionFault) (line : Option (ℕ × Undone)) (result : Result (Option (Vec ℕ Global)) StreamFault)
      → EndsWhole StreamsLine is_stopped ending start new traffic → ((fault : SessionFault) → ending ≡ Err fault → (fault ≡ sessions.Write → ⊥) → new.stop ≡ None)
      → line ≡ stopped_at new → result ≡ result_of ending line → EndsStream chunk limits from result left left' taken taken'
  ends_so new ending line result ends is_open line_is result_is =
      let Ends : Result (Option (Vec ℕ Global)) StreamFault → Type 0 = λ r. EndsStream chunk limits from r left left' taken taken' in
      let same : result ≡ result_of ending (stopped_at new) = result_is ∙ ap (result_of ending) line_is in
      subst Ends (sym same) (by new new.stop refl ending ends is_open)

-- where the writer has not failed, a fault finds the streamer going on
pub going : (old new : StreamerState) (ending : Result WholeEnding SessionFault) (failed : Bool) → old.stop ≡ None → (failed ≡ true → ending ≡ Err sessions.Write)
    → (failed ≡ false → OnErr ending (is_stopped old ≡ false → is_stopped new ≡ false)) → (fault : SessionFault) → ending ≡ Err fault → (fault ≡ sessions.Write → ⊥) → new.stop ≡ None
going old new ending true none write still fault is other =
    let same : Err fault ≡ Err sessions.Write = sym is ∙ write refl in
    absurd (other cc)
going old new ending false none write still fault is other =
    let Still : Result WholeEnding SessionFault → Type 0 = λ r. OnErr r (is_stopped old ≡ false → is_stopped new ≡ false) in
    let open_still : is_stopped old ≡ false → is_stopped new ≡ false = subst Still is (still refl) in
    none_where new.stop (open_still (ap is_some none))
