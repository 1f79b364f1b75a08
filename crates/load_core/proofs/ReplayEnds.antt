-- What a replayer has come to by lines.
use Rattle.std.proofs.Common.{◌≡◌, inl, inr, ℕ, ◌+◌, ◌<◌, ◌^◌, Bool, true, false, Option, Some, None, List, [], ◌∷◌, ◌++◌, length, refl, sym, ap, subst, ◌∙◌, append_assoc, append-nil, arith}
use Rattle.std.proofs.lemmas.Bool.Decides.{nat_tests}
use Rattle.std.specs.Option.{is_some}
use Rattle.std.specs.Prelude.{if◌then◌else◌, not, ◌&&◌, ◌==◌}
use Rattle.lines_core.specs.Serving.{AnswersAll}
use Rattle.system_core.specs.World.{World, with_entry}
use Rattle.system_core.specs.declared.machine.event.Entry.{Entry}
use Rattle.load_core.specs.declared.fault.Undone.{Undone}
use Rattle.load_core.specs.declared.fault.Undone.TheVariants as reasons
use Rattle.load_core.specs.declared.manner.Form.{Form}
use Rattle.load_core.specs.declared.manner.Form.TheVariants as forms
use Rattle.load_core.specs.declared.replayed.LeftOut.{LeftOut}
use Rattle.load_core.specs.Loading.{unmarked, lines_unmarked, SaysChange, IsUndone}
use Rattle.load_core.specs.Replaying.{longest, ends_reading, says_no_change, EntersChange, LeavesOut, PassesOver, no_change, behind, StopsReading, Replays, nothing, first_of}
use Rattle.load_core.specs.Replaying as replaying
use Rattle.load_core.specs.Replayer.{ReplayerState, line_behind, first_or, passing, entering, leaving, noted_by, undone_noted, NotesEntered, TakesLine, enters, leaves_out, passes_over, stops, TakesUnless, ReplaysLine}
use Rattle.load_core.proofs.Coming.{with_journal}

pub none_where : {A : Type 0} (o : Option A) → is_some o ≡ false → o ≡ None
none_where None h = refl
none_where (Some x) h = cc

-- ---- one line
no_change_by : (most : ℕ) (w : World) (line : List ℕ) (why : Undone) → says_no_change why ≡ true → IsUndone most w line why → IsUndone most w line reasons.NoChange
no_change_by most w line reasons.NoChange h undone = undone
no_change_by most w line (reasons.Fault code offset) h undone = cc
no_change_by most w line reasons.Unread h undone = cc
no_change_by most w line (reasons.Answer reply) h undone = cc

ends_unread : (form : Form) → ends_reading form reasons.Unread ≡ true
ends_unread forms.Journal = refl
ends_unread forms.Script = refl

module _ (old : ReplayerState) (line : List ℕ) (few : length old.world.journal < old.manner.most) where
  by_tests : (why : Undone) (ends none : Bool) → IsUndone (longest old.manner.form) old.world line why → ends_reading old.manner.form why ≡ ends → says_no_change why ≡ none → TakesLine old line (noted_by ends none (passing old) why)
  by_tests why true none undone e n = stops why (record { few = few; undone = undone; ends = e }) refl refl
  by_tests why false true undone e n = passes_over (no_change (no_change_by (longest old.manner.form) old.world line why n undone)) refl
  by_tests why false false undone e n =
      let left : (not (ends_reading old.manner.form why) && not (says_no_change why)) ≡ true = ap (λ (b : Bool). not b && not (says_no_change why)) e ∙ ap (λ (b : Bool). not false && not b) n in
      leaves_out why (record { few = few; undone = undone; left_out = left }) refl

  -- a line that says no change which is done
  pub takes_undone : (why : Undone) → IsUndone (longest old.manner.form) old.world line why → TakesLine old line (undone_noted (passing old) why)
  takes_undone why undone = by_tests why (ends_reading old.manner.form why) (says_no_change why) undone refl refl

  -- a line whose change was entered
  pub takes_entered : (e : Entry) (mid new : ReplayerState) → SaysChange (longest old.manner.form) old.world.limits old.world.journal line e
      → mid ≡ record (passing old) { world = with_entry old.world e } → NotesEntered mid new → TakesLine old line new
  takes_entered e mid new says is (inl noted_it) =
      enters e (record { few = few; says = says }) (noted_it ∙ ap (λ (p : ReplayerState). record p { numbers = p.numbers ++ p.count ∷ [] }) is)
  takes_entered e mid new says is (inr (stopped, count)) =
      stops reasons.Unread (record { few = few; undone = (e.user, says.says.asks.start, says.says.asks.speaker); ends = ends_unread old.manner.form }) stopped (count ∙ ap (λ (p : ReplayerState). p.count) is)

-- ---- once it has stopped it stays so
stays : (ls : List (List ℕ)) (why : Undone) (old new : ReplayerState) (text : List ℕ) → AnswersAll ReplaysLine old ls text new → old.stop ≡ Some why → old.count + length ls < 2 ^ 64 → new ≡ old
stays [] why old new text p stop few = p.1
stays (line ∷ ls) why old new text (first, mid, more, answered, rest, is) stop few =
    let same : mid ≡ old = subst (λ (s : Option Undone). TakesUnless s old line mid) stop (answered.1 (omega (arith, few))) in
    let fewer : mid.count + length ls < 2 ^ 64 = omega (arith, few, ap (λ (p : ReplayerState). p.count) same) in
    stays ls why mid new more rest (ap (λ (p : ReplayerState). p.stop) same ∙ stop) fewer ∙ same

-- ---- the lines as they are read behind so many
abbrev pub lines_behind : ℕ → List (List ℕ) → List (List ℕ)
lines_behind count ls = if count == 0 then lines_unmarked ls else ls

if-nil : (b : Bool) → (if b then lines_unmarked [] else []) ≡ []
if-nil true = refl
if-nil false = refl

if-cons : (b : Bool) (line : List ℕ) (ls : List (List ℕ)) → (if b then lines_unmarked (line ∷ ls) else line ∷ ls) ≡ (if b then unmarked line else line) ∷ ls
if-cons true line ls = refl
if-cons false line ls = refl

not_first : (n : ℕ) → (n + 1 == 0) ≡ false
not_first n = grind (arith, nat_tests)

behind-more : (count : ℕ) (ls : List (List ℕ)) → lines_behind (count + 1) ls ≡ ls
behind-more count ls = ap (λ (b : Bool). if b then lines_unmarked ls else ls) (not_first count)

-- ---- what lines come to
-- the first that was left out, behind those before
abbrev pub first_from : Option LeftOut → List LeftOut → Option LeftOut
first_from None out = first_of out
first_from (Some first) out = Some first

first-more : (before : Option LeftOut) (line : LeftOut) (out : List LeftOut) → first_from (first_or before line) out ≡ first_from before (line ∷ out)
first-more None line out = refl
first-more (Some first) line out = refl

-- all were read
pub record Came (old : ReplayerState) (ls : List (List ℕ)) (new : ReplayerState) : Type 0 where
  pub numbers : List ℕ
  pub out : List LeftOut
  pub replays : Replays old.manner old.world (old.count + 1) ls new.world numbers out
  pub numbers_are : new.numbers ≡ old.numbers ++ numbers
  pub left : new.left_out ≡ old.left_out + length out
  pub first : new.first_left_out ≡ first_from old.first_left_out out
  pub count_is : new.count ≡ old.count + length ls
  pub manner_is : new.manner ≡ old.manner
  pub same : new.world ≡ with_journal old.world new.world.journal

-- or it stopped at one
pub record Stopped (old : ReplayerState) (ls : List (List ℕ)) (new : ReplayerState) (why : Undone) : Type 0 where
  pub front : List (List ℕ)
  pub line : List ℕ
  pub rest : List (List ℕ)
  pub world : World
  pub numbers : List ℕ
  pub out : List LeftOut
  pub lines_are : ls ≡ front ++ line ∷ rest
  pub replays : Replays old.manner old.world (old.count + 1) front world numbers out
  pub ends : StopsReading old.manner world line why
  pub number : new.count ≡ old.count + length front + 1

abbrev pub ComesTo : Option Undone → ReplayerState → List (List ℕ) → ReplayerState → Type 0
ComesTo None old ls new = Came old ls new
ComesTo (Some why) old ls new = Stopped old ls new why

module _ (old new : ReplayerState) (line : List ℕ) (ls : List (List ℕ)) where
  entered : (stop : Option Undone) (e : Entry) → EntersChange old.manner old.world line e → ComesTo stop (entering old e) ls new → ComesTo stop old (line ∷ ls) new
  entered None e t c = record {
    numbers = (old.count + 1) ∷ c.numbers;
    out = c.out;
    replays = replaying.enters e t c.replays;
    numbers_are = c.numbers_are ∙ append_assoc old.numbers ((old.count + 1) ∷ []) c.numbers;
    left = c.left;
    first = c.first;
    count_is = omega (arith, c.count_is);
    manner_is = c.manner_is;
    same = c.same;
  }
  entered (Some why) e t c = record {
    front = line ∷ c.front;
    line = c.line;
    rest = c.rest;
    world = c.world;
    numbers = (old.count + 1) ∷ c.numbers;
    out = c.out;
    lines_are = ap (λ (xs : List (List ℕ)). line ∷ xs) c.lines_are;
    replays = replaying.enters e t c.replays;
    ends = c.ends;
    number = omega (arith, c.number);
  }

  left_out_one : (stop : Option Undone) (why : Undone) → LeavesOut old.manner old.world line why → ComesTo stop (leaving old why) ls new → ComesTo stop old (line ∷ ls) new
  left_out_one None why t c =
      let one : LeftOut = record { number = old.count + 1; why = why } in record {
        numbers = c.numbers;
        out = one ∷ c.out;
        replays = replaying.leaves_out why t c.replays;
        numbers_are = c.numbers_are;
        left = omega (arith, c.left);
        first = c.first ∙ first-more old.first_left_out one c.out;
        count_is = omega (arith, c.count_is);
        manner_is = c.manner_is;
        same = c.same;
      }
  left_out_one (Some other) why t c = record {
    front = line ∷ c.front;
    line = c.line;
    rest = c.rest;
    world = c.world;
    numbers = c.numbers;
    out = record { number = old.count + 1; why = why } ∷ c.out;
    lines_are = ap (λ (xs : List (List ℕ)). line ∷ xs) c.lines_are;
    replays = replaying.leaves_out why t c.replays;
    ends = c.ends;
    number = omega (arith, c.number);
  }

  passed : (stop : Option Undone) → PassesOver old.manner old.world line → ComesTo stop (passing old) ls new → ComesTo stop old (line ∷ ls) new
  passed None t c = record {
    numbers = c.numbers;
    out = c.out;
    replays = replaying.passes_over t c.replays;
    numbers_are = c.numbers_are;
    left = c.left;
    first = c.first;
    count_is = omega (arith, c.count_is);
    manner_is = c.manner_is;
    same = c.same;
  }
  passed (Some other) t c = record {
    front = line ∷ c.front;
    line = c.line;
    rest = c.rest;
    world = c.world;
    numbers = c.numbers;
    out = c.out;
    lines_are = ap (λ (xs : List (List ℕ)). line ∷ xs) c.lines_are;
    replays = replaying.passes_over t c.replays;
    ends = c.ends;
    number = omega (arith, c.number);
  }

  -- it stopped at this one
  stopped_here : (mid : ReplayerState) (why : Undone) → StopsReading old.manner old.world line why → mid.stop ≡ Some why → mid.count ≡ old.count + 1 → new ≡ mid → ComesTo new.stop old (line ∷ ls) new
  stopped_here mid why t stop count same =
      let here : Stopped old (line ∷ ls) new why = record {
        front = [];
        line = line;
        rest = ls;
        world = old.world;
        numbers = [];
        out = [];
        lines_are = refl;
        replays = nothing;
        ends = t;
        number = omega (arith, count, ap (λ (p : ReplayerState). p.count) same);
      } in
      subst (λ (s : Option Undone). ComesTo s old (line ∷ ls) new) (sym (ap (λ (p : ReplayerState). p.stop) same ∙ stop)) here

-- it goes on from what a line made of it
module _ (new mid : ReplayerState) (ls : List (List ℕ)) (k : mid.stop ≡ None → mid.count + length ls < 2 ^ 64 → ComesTo new.stop mid (lines_behind mid.count ls) new) where
  on : (old next : ReplayerState) → old.stop ≡ None → old.count + (length ls + 1) < 2 ^ 64 → mid ≡ next → next.stop ≡ old.stop → next.count ≡ old.count + 1 → ComesTo new.stop next ls new
  on old next open_then few is stop count =
      let open_now : mid.stop ≡ None = ap (λ (p : ReplayerState). p.stop) is ∙ stop ∙ open_then in
      let counted : mid.count ≡ old.count + 1 = ap (λ (p : ReplayerState). p.count) is ∙ count in
      let come_on : ComesTo new.stop mid (lines_behind mid.count ls) new = k open_now (omega (arith, few, counted)) in
      let behind_it : lines_behind mid.count ls ≡ ls = ap (λ (n : ℕ). lines_behind n ls) counted ∙ behind-more old.count ls in
      subst (λ (p : ReplayerState). ComesTo new.stop p ls new) is (subst (λ (xs : List (List ℕ)). ComesTo new.stop mid xs new) behind_it come_on)

  by_line : (at : List ℕ) (old : ReplayerState) (more : List ℕ) → AnswersAll ReplaysLine mid ls more new → old.stop ≡ None → old.count + (length ls + 1) < 2 ^ 64 → TakesLine old at mid → ComesTo new.stop old (at ∷ ls) new
  by_line at old more rest open_then few (enters e t is) = entered old new at ls new.stop e t (on old (entering old e) open_then few is refl refl)
  by_line at old more rest open_then few (leaves_out why t is) = left_out_one old new at ls new.stop why t (on old (leaving old why) open_then few is refl refl)
  by_line at old more rest open_then few (passes_over t is) = passed old new at ls new.stop t (on old (passing old) open_then few is refl refl)
  by_line at old more rest open_then few (stops why t is count) =
      stopped_here old new at ls mid why t is count (stays ls why mid new more rest is (omega (arith, few, count)))

none-first : (before : Option LeftOut) → before ≡ first_from before []
none-first None = refl
none-first (Some first) = refl

-- **what lines come to**
pub come : (ls : List (List ℕ)) (old new : ReplayerState) (text : List ℕ) → AnswersAll ReplaysLine old ls text new → old.stop ≡ None → old.count + length ls < 2 ^ 64 → ComesTo new.stop old (lines_behind old.count ls) new
come [] old new text p open_then few =
    let start : Came old [] old = record { numbers = []; out = []; replays = nothing; numbers_are = sym (append-nil old.numbers); left = omega arith; first = none-first old.first_left_out; count_is = omega arith; manner_is = refl; same = refl } in
    let here : Came old (lines_behind old.count []) old = subst (λ (xs : List (List ℕ)). Came old xs old) (sym (if-nil (old.count == 0))) start in
    let open_now : ComesTo old.stop old (lines_behind old.count []) old = subst (λ (s : Option Undone). ComesTo s old (lines_behind old.count []) old) (sym open_then) here in
    subst (λ (q : ReplayerState). ComesTo q.stop old (lines_behind old.count []) q) (sym p.1) open_now
come (line ∷ ls) old new text (first, mid, more, answered, rest, is) open_then few =
    let taken : TakesLine old (line_behind old.count line) mid = subst (λ (s : Option Undone). TakesUnless s old line mid) open_then (answered.1 (omega (arith, few))) in
    subst (λ (xs : List (List ℕ)). ComesTo new.stop old xs new) (sym (if-cons (old.count == 0) line ls))
    (by_line new mid ls (λ o f. come ls mid new more rest o f) (line_behind old.count line) old more rest open_then (omega (arith, few)) taken)
