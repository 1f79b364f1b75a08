-- How a replay ends.
use Rattle.std.proofs.Common.{◌≡◌, inl, inr, ℕ, ◌+◌, ◌<◌, ◌≤◌, ◌^◌, Bool, true, false, cond, Option, Some, None, Result, Ok, Err, IfOk, List, [], ◌∷◌, ◌++◌, length, take, drop, refl, sym, ap, subst, ◌∙◌, append_assoc, append-nil, arith, length-append, Vec, Global}
use Rattle.std.specs.List.{AllByRecursion, slice_split, onto_first}
use Rattle.std.specs.Option.{is_some}
use Rattle.std.specs.Prelude.{if◌then◌else◌, ◌==◌}
use Rattle.std.specs.Str.Lines.{lines, lines_of_parts, strip_carriage_return}
use Rattle.std.specs.Io.KnownBytes.{Consumes, IsAtEnd}
use Rattle.grants_core.proofs.OwnersLemmas.{AllByRecursion-append}
use Rattle.lines_core.specs.Lines.{whole_lines, whole_of_parts, IsCutOff}
use Rattle.lines_core.specs.Serving.{AnswersInput, Ends, traffic_of}
use Rattle.lines_core.specs.declared.line.TheConstants.{KEPT_BYTES}
use Rattle.lines_core.specs.declared.serving.SessionFault.{SessionFault}
use Rattle.lines_core.specs.declared.serving.SessionFault.TheVariants as sessions
use Rattle.system_core.specs.World.{World}
use Rattle.journal_core.specs.Text.{WasRead}
use Rattle.load_core.specs.declared.fault.Undone.{Undone}
use Rattle.load_core.specs.declared.manner.Form.{Form}
use Rattle.load_core.specs.declared.manner.Form.TheVariants as forms
use Rattle.load_core.specs.declared.manner.CutLine.{CutLine}
use Rattle.load_core.specs.declared.manner.CutLine.TheVariants as cut_lines
use Rattle.load_core.specs.declared.manner.Manner.{Manner}
use Rattle.load_core.specs.declared.replayed.LeftOut.{LeftOut}
use Rattle.load_core.specs.declared.replayed.ReplayFault.{ReplayFault}
use Rattle.load_core.specs.declared.replayed.ReplayFault.TheVariants as faults
use Rattle.load_core.specs.Loading.{lines_unmarked}
use Rattle.load_core.specs.Replaying.{longest, lines_read, Replays, nothing, enters, leaves_out, passes_over, DroppedLine, IsCutAt, Drops, ReplayedState, EndsReplay}
use Rattle.load_core.specs.Replayer.{ReplayerState, new_replayer, ReplaysLine, has_ended, ReadsLines, IsReadingFault, dropped_at, leavings_of}
use Rattle.load_core.proofs.Lines.{lines_unmarked-length}
use Rattle.load_core.proofs.ReplayEnds.{Came, Stopped, ComesTo, come}
use Rattle.load_core.proofs.Said.{speaker_named}

-- ---- how many lines bytes have
onto-count : (b : ℕ) (parts : List (List ℕ)) (n : ℕ) → length parts ≤ n + 1 → length (onto_first b parts) ≤ n + 1
onto-count b [] n few = omega arith
onto-count b (part ∷ parts) n few = omega (arith, few)

split-count : (bytes : List ℕ) → length (slice_split (λ b. b == 10) bytes) ≤ length bytes + 1
split-count [] = omega arith
split-count (b ∷ bs) = by_feed (split-count bs) (b == 10)
  where
    by_feed : length (slice_split (λ b. b == 10) bs) ≤ length bs + 1 → (feed : Bool) → length (cond feed ([] ∷ slice_split (λ b. b == 10) bs) (onto_first b (slice_split (λ b. b == 10) bs))) ≤ length (b ∷ bs) + 1
    by_feed few true = omega (arith, few)
    by_feed few false = omega (arith, onto-count b (slice_split (λ b. b == 10) bs) (length bs) few)

whole-count : (parts : List (List ℕ)) → length (whole_of_parts parts) ≤ length parts
whole-count [] = omega arith
whole-count (part ∷ []) = omega arith
whole-count (part ∷ next ∷ more) = omega (arith, whole-count (next ∷ more))

at_most_one : (part : List ℕ) (none : Bool) → length (if none then [] else part ∷ []) ≤ 1
at_most_one part true = omega arith
at_most_one part false = omega arith

-- the whole lines stand before the last
whole-front : (parts : List (List ℕ)) → (last : List (List ℕ)) × (lines_of_parts parts ≡ whole_of_parts parts ++ last) × (length last ≤ 1)
whole-front [] = ([], refl, omega arith)
whole-front (part ∷ []) = ((if length part == 0 then [] else part ∷ []), refl, at_most_one part (length part == 0))
whole-front (part ∷ next ∷ more) =
    let rest = whole-front (next ∷ more) in
    (rest.0, ap (λ (ls : List (List ℕ)). strip_carriage_return part ∷ ls) rest.1, rest.2)

-- ---- without the mark
unmarked-more : (xs ys front : List (List ℕ)) (line : List ℕ) (rest : List (List ℕ)) → lines_unmarked xs ≡ front ++ line ∷ rest → lines_unmarked (xs ++ ys) ≡ front ++ line ∷ (rest ++ ys)
unmarked-more [] ys front line rest is = absurd (omega (arith, ap length is, length-append front (line ∷ rest)))
unmarked-more (x ∷ xs) ys front line rest is = ap (λ (ls : List (List ℕ)). ls ++ ys) is ∙ append_assoc front (line ∷ rest) ys

module _ (manner : Manner) (begins : World) (p : ReplayerState) (left left' : Option (List ℕ)) where
  abbrev start : ReplayerState
  start = new_replayer manner begins

  abbrev EndsAs : Result ReplayedState ReplayFault → Type 0
  EndsAs result = EndsReplay manner begins result left left'

  -- ---- it stopped at a line
  stopped : (bytes : List ℕ) (ls more : List (List ℕ)) (why : Undone) → Consumes left left' bytes → lines_read manner.form bytes ≡ ls ++ more → Stopped start (lines_unmarked ls) p why → EndsAs (Err (faults.Line p.count why))
  stopped bytes ls more why read same s =
      let all : lines_unmarked (lines_read manner.form bytes) ≡ s.front ++ s.line ∷ (s.rest ++ more) = ap lines_unmarked same ∙ unmarked-more ls more s.front s.line s.rest s.lines_are in (
        bytes,
        read,
        record {
          front = s.front;
          line = s.line;
          rest = s.rest ++ more;
          world = s.world;
          numbers = s.numbers;
          out = s.out;
          lines_are = all;
          number_is = omega (arith, s.number);
          replays = s.replays;
          ends = s.ends;
        },
      )

  stopped_all : (bytes : List ℕ) (ls : List (List ℕ)) (why : Undone) → Consumes left left' bytes → lines_read manner.form bytes ≡ ls → Stopped start (lines_unmarked ls) p why → EndsAs (Err (faults.Line p.count why))
  stopped_all bytes ls why read same s = stopped bytes ls [] why read (same ∙ sym (append-nil ls)) s

  -- ---- or came to the end
  module _ (bytes : List ℕ) (ls : List (List ℕ)) (read : Consumes left left' bytes) (end : IsAtEnd left') (same : lines_read manner.form bytes ≡ ls) where
    whole : (dropped : Option DroppedLine) → Came start (lines_unmarked ls) p → Drops manner bytes dropped → EndsAs (leavings_of p (Ok dropped))
    whole dropped c drops =
        let from_ls : List (List ℕ) → List ℕ → Type 0 = λ xs ns. Replays manner begins 1 (lines_unmarked xs) p.world ns c.out in
        (bytes, c.out, read, end, subst (λ (xs : List (List ℕ)). from_ls xs p.numbers) (sym same) (subst (λ (ns : List ℕ). from_ls ls ns) (sym c.numbers_are) c.replays), omega (arith, c.left), c.first, drops, c.same)

    uncut : (stop : Option Undone) → ComesTo stop start (lines_unmarked ls) p → Drops manner bytes None → EndsAs (leavings_of p (dropped_at p.count stop p.manner.cut_line None))
    uncut None c drops = whole None c drops
    uncut (Some why) c drops = stopped_all bytes ls why read same c

    module _ (form : manner.form ≡ forms.Journal) (whole_are : ls ≡ whole_lines bytes) (front : Vec ℕ Global) (cut : IsCutOff bytes) (is : front.items ≡ take KEPT_BYTES cut.last) where
      cut_at : Came start (lines_unmarked ls) p → IsCutAt bytes (p.count + 1) front.items
      cut_at c = record {
        cut_off = cut;
        number_is = omega (arith, c.count_is, lines_unmarked-length ls, ap length whole_are);
        front_is = is;
      }

      by_kind : (kind : CutLine) → manner.cut_line ≡ kind → Came start (lines_unmarked ls) p → EndsAs (leavings_of p (dropped_at p.count None kind (Some front)))
      by_kind cut_lines.Refuse k c = (bytes, read, end, form, k, cut_at c)
      by_kind cut_lines.Drop k c = whole (Some (record { number = p.count + 1; front = front.items })) c (form, k, cut_at c)

      cut_off : (stop : Option Undone) → ComesTo stop start (lines_unmarked ls) p → EndsAs (leavings_of p (dropped_at p.count stop p.manner.cut_line (Some front)))
      cut_off None c =
          subst (λ (kind : CutLine). EndsAs (leavings_of p (dropped_at p.count None kind (Some front)))) (sym (ap (λ (m : Manner). m.cut_line) c.manner_is)) (by_kind manner.cut_line refl c)
      cut_off (Some why) c = stopped_all bytes ls why read same c

  -- ---- or was over
  over_at : (stop : Option Undone) (front : Option (Vec ℕ Global)) (bytes : List ℕ) (ls more : List (List ℕ)) → is_some stop ≡ true → Consumes left left' bytes → lines_read manner.form bytes ≡ ls ++ more → ComesTo stop start (lines_unmarked ls) p
      → EndsAs (leavings_of p (dropped_at p.count stop p.manner.cut_line front))
  over_at None front bytes ls more over read same c = cc
  over_at (Some why) front bytes ls more over read same c = stopped bytes ls more why read same c

  -- ---- by the lines of an input
  few_whole : (bytes : List ℕ) → length bytes ≤ 2 ^ 32 → length (whole_lines bytes) < 2 ^ 63
  few_whole bytes few = omega (arith, few, split-count bytes, whole-count (slice_split (λ b. b == 10) bytes))

  few_lines : (bytes : List ℕ) → length bytes ≤ 2 ^ 32 → length (lines bytes) < 2 ^ 63
  few_lines bytes few =
      let f = whole-front (slice_split (λ b. b == 10) bytes) in
      omega (arith, few, split-count bytes, whole-count (slice_split (λ b. b == 10) bytes), ap length f.1, length-append (whole_lines bytes) f.0, f.2)

  whole_come : (bytes : List ℕ) (taken taken' : Option (List ℕ)) → AnswersInput ReplaysLine whole_lines start p (traffic_of left left' taken taken') bytes → ComesTo p.stop start (lines_unmarked (whole_lines bytes)) p
  whole_come bytes taken taken' run = come (whole_lines bytes) start p run.text run.answered refl (omega (arith, few_whole bytes run.bounded))

  all_come : (bytes : List ℕ) (taken taken' : Option (List ℕ)) → AnswersInput ReplaysLine lines start p (traffic_of left left' taken taken') bytes → ComesTo p.stop start (lines_unmarked (lines bytes)) p
  all_come bytes taken taken' run = come (lines bytes) start p run.text run.answered refl (omega (arith, few_lines bytes run.bounded))

  journal_read : manner.form ≡ forms.Journal → (bytes : List ℕ) → lines_read manner.form bytes ≡ whole_lines bytes
  journal_read form bytes = ap (λ (f : Form). lines_read f bytes) form

  script_read : manner.form ≡ forms.Script → (bytes : List ℕ) → lines_read manner.form bytes ≡ lines bytes
  script_read form bytes = ap (λ (f : Form). lines_read f bytes) form

  ends_ok : (form : Form) → manner.form ≡ form → (front : Option (Vec ℕ Global)) → ReadsLines form (Ok front) start p left left' → EndsAs (leavings_of p (dropped_at p.count p.stop p.manner.cut_line front))
  ends_ok forms.Journal form None (inl (bytes, run, end, open_then, is, same)) =
      uncut bytes (whole_lines bytes) run.read end (journal_read form bytes) p.stop (whole_come bytes None None run) (inr is)
  ends_ok forms.Journal form None (inr (bytes, run, over)) =
      over_at p.stop None bytes (whole_lines bytes) [] over run.read (journal_read form bytes ∙ sym (append-nil (whole_lines bytes))) (whole_come bytes None None run)
  ends_ok forms.Journal form (Some front) (bytes, run, end, open_then, cut, is) =
      cut_off bytes (whole_lines bytes) run.read end (journal_read form bytes) form refl front cut is p.stop (whole_come bytes None None run)
  ends_ok forms.Script form None (bytes, inl (run, end, was)) =
      uncut bytes (lines bytes) run.read end (script_read form bytes) p.stop (all_come bytes None None run) (inl form)
  ends_ok forms.Script form None (bytes, inr (run, over)) =
      let f = whole-front (slice_split (λ b. b == 10) bytes) in
      over_at p.stop None bytes (whole_lines bytes) f.0 over run.read (script_read form bytes ∙ f.1) (whole_come bytes None None run)
  ends_ok forms.Script form (Some front) none = absurd none

  from_fault : (fault : SessionFault) (r : ReplayFault) → Ends ReplaysLine has_ended (Err fault) start p (traffic_of left left' None None) → IsReadingFault fault r → EndsAs (Err r)
  from_fault sessions.Read r ends is = subst (λ (f : ReplayFault). EndsAs (Err f)) (sym is) (ends.0, ends.1.read)
  from_fault sessions.Bound r ends is = subst (λ (f : ReplayFault). EndsAs (Err f)) (sym is) (ends.0, ends.1.read, ends.2)
  from_fault sessions.NoMemory r ends is = subst (λ (f : ReplayFault). EndsAs (Err f)) (sym is) ends.1
  from_fault sessions.Write r ends is = absurd is

  ends_err : (form : Form) (fault : SessionFault) (r : ReplayFault) → ReadsLines form (Err fault) start p left left' → IsReadingFault fault r → EndsAs (Err r)
  ends_err forms.Journal fault r ends is = from_fault fault r ends is
  ends_err forms.Script fault r ends is = from_fault fault r ends is

  -- ---- so many lines can be counted
  counted : (stop : Option Undone) (ls : List (List ℕ)) → length ls < 2 ^ 63 → ComesTo stop start (lines_unmarked ls) p → p.count + 1 < 2 ^ 64
  counted None ls few c = omega (arith, few, c.count_is, lines_unmarked-length ls)
  counted (Some why) ls few c = omega (arith, few, c.number, lines_unmarked-length ls, ap length c.lines_are, length-append c.front (c.line ∷ c.rest))

  few_read : (form : Form) (front : Option (Vec ℕ Global)) → ReadsLines form (Ok front) start p left left' → p.count + 1 < 2 ^ 64
  few_read forms.Journal None (inl (bytes, run, end, open_then, is, same)) = counted p.stop (whole_lines bytes) (few_whole bytes run.bounded) (whole_come bytes None None run)
  few_read forms.Journal None (inr (bytes, run, over)) = counted p.stop (whole_lines bytes) (few_whole bytes run.bounded) (whole_come bytes None None run)
  few_read forms.Journal (Some front) (bytes, run, end, open_then, cut, is) = counted p.stop (whole_lines bytes) (few_whole bytes run.bounded) (whole_come bytes None None run)
  few_read forms.Script None (bytes, inl (run, end, was)) = counted p.stop (lines bytes) (few_lines bytes run.bounded) (all_come bytes None None run)
  few_read forms.Script None (bytes, inr (run, over)) = counted p.stop (whole_lines bytes) (few_whole bytes run.bounded) (whole_come bytes None None run)
  few_read forms.Script (Some front) none = absurd none

-- what was read has no fault
pub no_fault : {T E : Type 0} (x : T) (e : E) → {A : Type 0} → Ok x ≡ Err e → A
no_fault x e h = cc

-- its fault is none of the reader
pub never_read : (p : ReplayerState) (count : ℕ) (stop : Option Undone) (kind : CutLine) (front : Option (Vec ℕ Global)) (result : Result ReplayedState ReplayFault) → result ≡ leavings_of p (dropped_at count stop kind front) → {A : Type 0} → result ≡ Err faults.Read → A
never_read p count (Some why) kind front result is e = cc
never_read p count None kind None result is e = cc
never_read p count None cut_lines.Refuse (Some front) result is e = cc
never_read p count None cut_lines.Drop (Some front) result is e = cc

-- ---- from a replayer that begins so
module _ (manner : Manner) (begins : World) (old p : ReplayerState) (left left' : Option (List ℕ)) (here : old ≡ new_replayer manner begins) where
  pub ends_replay : (front : Option (Vec ℕ Global)) → ReadsLines manner.form (Ok front) old p left left' → EndsReplay manner begins (leavings_of p (dropped_at p.count p.stop p.manner.cut_line front)) left left'
  ends_replay front reads = ends_ok manner begins p left left' manner.form refl front (subst (λ (q : ReplayerState). ReadsLines manner.form (Ok front) q p left left') here reads)

  pub fails_replay : (fault : SessionFault) (r : ReplayFault) → ReadsLines manner.form (Err fault) old p left left' → IsReadingFault fault r → EndsReplay manner begins (Err r) left left'
  fails_replay fault r reads is = ends_err manner begins p left left' manner.form fault r (subst (λ (q : ReplayerState). ReadsLines manner.form (Err fault) q p left left') here reads) is

  pub count_is_small : (front : Option (Vec ℕ Global)) → ReadsLines manner.form (Ok front) old p left left' → p.count + 1 < 2 ^ 64
  count_is_small front reads = few_read manner begins p left left' manner.form front (subst (λ (q : ReplayerState). ReadsLines manner.form (Ok front) q p left left') here reads)

-- ---- what was entered was read
replays_read : (manner : Manner) {w new : World} {n : ℕ} {ls : List (List ℕ)} {numbers : List ℕ} {out : List LeftOut} → Replays manner w n ls new numbers out → AllByRecursion WasRead w.journal → AllByRecursion WasRead new.journal
replays_read manner nothing all = all
replays_read manner (enters {w} {new} {n} {line} e t more) all =
    let says = t.says.says in
    let read : WasRead e = record { line = drop says.asks.start line; spelled = says.asks.spelled; name = speaker_named (longest manner.form) line e.user says.asks.start says.asks.speaker } in
    replays_read manner more (AllByRecursion-append WasRead w.journal (e ∷ []) all (read, tt))
replays_read manner (leaves_out why t more) all = replays_read manner more all
replays_read manner (passes_over t more) all = replays_read manner more all

pub entries_read : (manner : Manner) (begins : World) (result : Result ReplayedState ReplayFault) (left left' : Option (List ℕ)) → EndsReplay manner begins result left left' → AllByRecursion WasRead begins.journal → IfOk result (λ r. AllByRecursion WasRead r.world.journal)
entries_read manner begins (Ok r) left left' ends all = replays_read manner ends.4 all
entries_read manner begins (Err fault) left left' ends all = tt
