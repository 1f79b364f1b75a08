-- A server's answers seen as those of another, while something holds of it.
use Rattle.std.proofs.Common.{◌≡◌, ℕ, Bool, List, [], ◌∷◌, ◌++◌, Option, map, sym, ap, ◌∙◌, subst, inl, inr}
use Rattle.std.specs.Prelude.{Result, Ok, Err}
use Rattle.std.specs.Str.Lines.{lines, strip_carriage_return}
use Rattle.lines_core.specs.Lines.{whole_lines}
use Rattle.lines_core.specs.Serving.{AnswersAll, AnswersPiece, BreaksPiece, AnswersPart, BreaksPart, AnswersInput, BreaksInput, WasOpen, Ends, Traffic}
use Rattle.lines_core.specs.declared.serving.SessionFault.{SessionFault}
use Rattle.lines_core.specs.declared.serving.SessionFault.TheVariants as faults

module _ {X Y : Type 0} (R : X → List ℕ → List ℕ → X → Type 0) (S : Y → List ℕ → List ℕ → Y → Type 0) (f : X → Y) (Inv : X → Type 0)
    (step : (x y : X) (line text : List ℕ) → Inv x → R x line text y → S (f x) line text (f y) × Inv y) where
  pub all-seen : (x y : X) (ls : List (List ℕ)) (text : List ℕ) → Inv x → AnswersAll R x ls text y → AnswersAll S (f x) ls text (f y) × Inv y
  all-seen x y [] text i a = ((a.0, ap f a.1), subst Inv (sym a.1) i)
  all-seen x y (l ∷ ls) text i (first, mid, more, h, t, e) =
      let one = step x mid l first i h in
      let rest = all-seen mid y ls more one.1 t in
      ((first, f mid, more, one.0, rest.0, e), rest.1)

  pub piece-seen : (rest piece kept : List ℕ) (x y : X) (taken taken' : Option (List ℕ))
      → Inv x → AnswersPiece R rest piece kept x y taken taken' → AnswersPiece S rest piece kept (f x) (f y) taken taken' × Inv y
  piece-seen rest piece kept x y taken taken' i r =
      let all = all-seen x y (map strip_carriage_return r.parts) r.text i r.answered in
      (record { parts = r.parts; now = r.now; text = r.text; cut = r.cut; kept_is = r.kept_is; answered = all.0; wrote = r.wrote }, all.1)

  pub break-seen : (rest piece : List ℕ) (x y : X) (taken taken' : Option (List ℕ))
      → Inv x → BreaksPiece R rest piece x y taken taken' → BreaksPiece S rest piece (f x) (f y) taken taken' × Inv y
  break-seen rest piece x y taken taken' i r =
      let all = all-seen x y (map strip_carriage_return r.parts) r.text i r.answered in
      (record { parts = r.parts; done = r.done; undone = r.undone; front = r.front; text = r.text; cut = r.cut; answered = all.0; wrote = r.wrote }, all.1)

  pub part-seen : (rest piece kept : List ℕ) (x y : X) (taken taken' : Option (List ℕ))
      → Inv x → AnswersPart R rest piece kept x y taken taken' → AnswersPart S rest piece kept (f x) (f y) taken taken' × Inv y
  part-seen rest piece kept x y taken taken' i (inl r) =
      (inl record { no_feed = r.no_feed; kept_is = r.kept_is; same = ap f r.same; unwritten = r.unwritten }, subst Inv (sym r.same) i)
  part-seen rest piece kept x y taken taken' i (inr r) =
      let one = step x y (strip_carriage_return (rest ++ r.part)) r.text i r.answered in
      (inr record { part = r.part; text = r.text; piece_is = r.piece_is; no_feed = r.no_feed; kept_is = r.kept_is; answered = one.0; wrote = r.wrote }, one.1)

  pub part_break-seen : (rest piece : List ℕ) (x y : X) (taken taken' : Option (List ℕ))
      → Inv x → BreaksPart R rest piece x y taken taken' → BreaksPart S rest piece (f x) (f y) taken taken' × Inv y
  part_break-seen rest piece x y taken taken' i r =
      let one = step x y (strip_carriage_return (rest ++ r.part)) r.text i r.answered in
      (record { part = r.part; behind = r.behind; text = r.text; piece_is = r.piece_is; no_feed = r.no_feed; answered = one.0; wrote = r.wrote }, one.1)

  pub input-seen : (lines_of : List ℕ → List (List ℕ)) (x y : X) (traffic : Traffic) (bytes : List ℕ)
      → Inv x → AnswersInput R lines_of x y traffic bytes → AnswersInput S lines_of (f x) (f y) traffic bytes × Inv y
  input-seen lines_of x y traffic bytes i r =
      let all = all-seen x y (lines_of bytes) r.text i r.answered in
      (record { text = r.text; bounded = r.bounded; answered = all.0; read = r.read; wrote = r.wrote }, all.1)

  pub broken-seen : (x y : X) (traffic : Traffic)
      → Inv x → BreaksInput R x y traffic → BreaksInput S (f x) (f y) traffic × Inv y
  broken-seen x y traffic i r =
      let all = all-seen x y (lines r.done) r.text i r.answered in
      (record { done = r.done; undone = r.undone; text = r.text; line_end = r.line_end; answered = all.0; read = r.read; wrote = r.wrote }, all.1)

  module _ (over : X → Bool) (over' : Y → Bool) (overs : (x : X) → over' (f x) ≡ over x) where
    open-seen : (x y : X) (bytes : List ℕ) → Inv x → WasOpen R over x y bytes → WasOpen S over' (f x) (f y) bytes
    open-seen x y bytes i w =
        let first = all-seen x w.between (whole_lines bytes) w.first_text i w.answered in
        let behind = all-seen w.between y w.last w.last_text first.1 w.answered_last in record {
          between = f w.between;
          last = w.last;
          first_text = w.first_text;
          last_text = w.last_text;
          lines_are = w.lines_are;
          answered = first.0;
          open_then = λ h. overs w.between ∙ w.open_then (sym (overs x) ∙ h);
          answered_last = behind.0;
        }

    pub ends-seen : (r : Result (Unit {0}) SessionFault) (x y : X) (traffic : Traffic)
        → Inv x → Ends R over r x y traffic → Ends S over' r (f x) (f y) traffic × Inv y
    ends-seen (Ok u) x y traffic i (bytes, inl h) =
        let run = input-seen lines x y traffic bytes i h.0 in ((bytes, inl (run.0, h.1, open-seen x y bytes i h.2)), run.1)
    ends-seen (Ok u) x y traffic i (bytes, inr h) =
        let run = input-seen whole_lines x y traffic bytes i h.0 in ((bytes, inr (run.0, overs y ∙ h.1)), run.1)
    ends-seen (Err faults.Read) x y traffic i (bytes, h) =
        let run = input-seen whole_lines x y traffic bytes i h in ((bytes, run.0), run.1)
    ends-seen (Err faults.Bound) x y traffic i (bytes, h, n) =
        let run = input-seen whole_lines x y traffic bytes i h in ((bytes, run.0, n), run.1)
    ends-seen (Err faults.Write) x y traffic i h = broken-seen x y traffic i h
    ends-seen (Err faults.NoMemory) x y traffic i h = ((ap f h.0, h.1, h.2), subst Inv (sym h.0) i)
