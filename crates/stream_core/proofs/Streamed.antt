-- What a streamer has come to by lines, and what it has told.
use Rattle.std.proofs.Common.{◌≡◌, ℕ, ◌+◌, Bool, true, false, cond, ltb, Option, Some, None, List, [], ◌∷◌, ◌++◌, length, refl, ap, sym, subst, ◌∙◌, arith, append_assoc, append-nil}
use Rattle.std.specs.List.{flat_map}
use Rattle.lines_core.specs.Serving.{AnswersAll}
use Rattle.lines_core.specs.declared.line.TheConstants.{LONGEST_LINE}
use Rattle.system_core.specs.World.{with_entry}
use Rattle.system_core.specs.declared.machine.event.Entry.{Entry}
use Rattle.load_core.specs.declared.fault.Undone.{Undone}
use Rattle.load_core.specs.Loading.{Loads, SaysChange, IsUndone}
use Rattle.load_core.specs.Loader.{line_at, lines_at}
use Rattle.load_core.proofs.Lines.{lines_at-nil, lines_at-cons, lines_at-more}
use Rattle.stream_core.specs.Lines.{effect_lines}
use Rattle.stream_core.specs.Streams.{AreChangesTold, ChangeTold, behind, stream_text}
use Rattle.stream_core.specs.Streamer.{StreamerState, StreamsLine, TellsEntry, TellsLine, TellsOrPasses}

-- it has nothing more than these entries
abbrev pub with_entries : StreamerState → List Entry → StreamerState
with_entries s es = record s { world = record s.world { journal = s.world.journal ++ es } }

-- the text tells what the entries do behind the journal
pub record TellsOn (from : ℕ) (journal es : List Entry) (text : List ℕ) : Type 0 where
  pub told : List ChangeTold
  pub are_told : AreChangesTold journal es told
  pub text_is : text ≡ stream_text from told

-- the lines were entered and told
pub record Goes (old : StreamerState) (ls : List (List ℕ)) (text : List ℕ) (new : StreamerState) : Type 0 where
  pub entries : List Entry
  pub loads : Loads old.world.limits old.world.journal ls (old.world.journal ++ entries)
  pub tells : TellsOn old.from old.world.journal entries text
  pub new_is : new ≡ with_entries old entries

-- the lines before some line were entered and told, and that one stopped it
pub record StopsTelling (old : StreamerState) (ls : List (List ℕ)) (text : List ℕ) (why : Undone) (new : StreamerState) : Type 0 where
  pub front : List (List ℕ)
  pub line : List ℕ
  pub rest : List (List ℕ)
  pub entries : List Entry
  pub lines_are : ls ≡ front ++ line ∷ rest
  pub count : length entries ≡ length front
  pub loads : Loads old.world.limits old.world.journal front (old.world.journal ++ entries)
  pub tells : TellsOn old.from old.world.journal entries text
  pub undone : IsUndone LONGEST_LINE (with_entries old entries).world line why
  pub new_is : new ≡ record (with_entries old entries) { stop = Some why }

abbrev pub Comes : StreamerState → List (List ℕ) → List ℕ → Option Undone → StreamerState → Type 0
Comes old ls text None new = Goes old ls text new
Comes old ls text (Some why) new = StopsTelling old ls text why new

-- ---- texts
abbrev lines_of : ChangeTold → List ℕ
lines_of one = effect_lines one.moment one.all

told-cons : (from : ℕ) (first : ChangeTold) (later : List ChangeTold) → stream_text from (first ∷ later) ≡ stream_text from (first ∷ []) ++ stream_text from later
told-cons from first later = by (ltb from first.moment)
  where
    by : (b : Bool) → flat_map lines_of (cond b (first ∷ behind from later) (behind from later)) ≡ flat_map lines_of (cond b (first ∷ []) []) ++ flat_map lines_of (behind from later)
    by true = ap (λ (text : List ℕ). text ++ flat_map lines_of (behind from later)) (sym (append-nil (lines_of first)))
    by false = refl

-- one entry before others
tells-cons : (from : ℕ) (journal : List Entry) (e : Entry) (es : List Entry) (first more : List ℕ) → TellsEntry from journal e first → TellsOn from (journal ++ e ∷ []) es more → TellsOn from journal (e ∷ es) (first ++ more)
tells-cons from journal e es first more here later =
    let one : ChangeTold = record { moment = length journal + 1; all = here.all } in
    record {
      told = one ∷ later.told;
      are_told = (here.all, later.told, here.are, later.are_told, refl);
      text_is = ap (λ text. text ++ more) here.text_is ∙ ap (λ text. stream_text from (one ∷ []) ++ text) later.text_is ∙ sym (told-cons from one later.told);
    }

-- ---- lines
module _ (old : StreamerState) (e : Entry) (line : List ℕ) (says : SaysChange LONGEST_LINE old.world.limits old.world.journal line e) (first : List ℕ) (here : TellsEntry old.from old.world.journal e first) where
  abbrev next : StreamerState
  next = record old { world = with_entry old.world e }

  joined : (es : List Entry) → with_entries next es ≡ with_entries old (e ∷ es)
  joined es = ap (λ j. record old { world = record old.world { journal = j } }) (append_assoc old.world.journal (e ∷ []) es)

  loads-on : (ls : List (List ℕ)) (es : List Entry) → Loads next.world.limits next.world.journal ls (next.world.journal ++ es) → Loads old.world.limits old.world.journal (line ∷ ls) (old.world.journal ++ e ∷ es)
  loads-on ls es loads = (e, says, subst (λ j. Loads old.world.limits (old.world.journal ++ e ∷ []) ls j) (append_assoc old.world.journal (e ∷ []) es) loads)

  entered : (ls : List (List ℕ)) (more : List ℕ) (stop : Option Undone) (new : StreamerState) → Comes next ls more stop new → Comes old (line ∷ ls) (first ++ more) stop new
  entered ls more None new q = record {
    entries = e ∷ q.entries;
    loads = loads-on ls q.entries q.loads;
    tells = tells-cons old.from old.world.journal e q.entries first more here q.tells;
    new_is = q.new_is ∙ joined q.entries;
  }
  entered ls more (Some why) new q = record {
    front = line ∷ q.front;
    line = q.line;
    rest = q.rest;
    entries = e ∷ q.entries;
    lines_are = ap (λ (xs : List (List ℕ)). line ∷ xs) q.lines_are;
    count = omega (arith, q.count);
    loads = loads-on q.front q.entries q.loads;
    tells = tells-cons old.from old.world.journal e q.entries first more here q.tells;
    undone = subst (λ (s : StreamerState). IsUndone LONGEST_LINE s.world q.line why) (joined q.entries) q.undone;
    new_is = q.new_is ∙ ap {A = StreamerState} (λ s. record s { stop = Some why }) (joined q.entries);
  }

nothing_told : (from : ℕ) (journal : List Entry) → TellsOn from journal [] []
nothing_told from journal = record { told = []; are_told = refl; text_is = refl }

no_entries : (s : StreamerState) → s ≡ with_entries s []
no_entries s = ap (λ j. record s { world = record s.world { journal = j } }) (sym (append-nil s.world.journal))

abbrev ComesOrPasses : Option Undone → StreamerState → List (List ℕ) → List ℕ → StreamerState → Type 0
ComesOrPasses None old ls text new = Comes old (lines_at old.world.journal ls) text new.stop new
ComesOrPasses (Some why) old ls text new = (text ≡ []) × (new ≡ old)

join : (stop : Option Undone) (old : StreamerState) → old.stop ≡ stop → (line : List ℕ) (ls : List (List ℕ)) (first : List ℕ) (mid : StreamerState) (more : List ℕ) (new : StreamerState)
    → TellsOrPasses stop old line first mid → ComesOrPasses mid.stop mid ls more new → ComesOrPasses stop old (line ∷ ls) (first ++ more) new
join (Some why) old is line ls first mid more new p q =
    let On : StreamerState → Type 0 = λ s. ComesOrPasses s.stop s ls more new in
    let same : mid.stop ≡ Some why = ap (λ s. s.stop) p.1 ∙ is in
    let passed : ComesOrPasses (Some why) mid ls more new = subst (λ (s : Option Undone). ComesOrPasses s mid ls more new) same q in
    (ap (λ text. text ++ more) p.0 ∙ passed.0, passed.1 ∙ p.1)
join None old is line ls first mid more new p q = by mid.stop refl p q
  where
    by : (stop : Option Undone) → mid.stop ≡ stop → TellsLine old (line_at old.world.journal line) first mid.stop mid → ComesOrPasses mid.stop mid ls more new → Comes old (lines_at old.world.journal (line ∷ ls)) (first ++ more) new.stop new
    by None none p q =
        let told : TellsLine old (line_at old.world.journal line) first None mid = subst (λ (s : Option Undone). TellsLine old (line_at old.world.journal line) first s mid) none p in
        let e = told.0 in
        let next : StreamerState = record old { world = with_entry old.world e } in
        let on : Comes mid (lines_at mid.world.journal ls) more new.stop new = subst (λ (s : Option Undone). ComesOrPasses s mid ls more new) none q in
        let from_next : Comes next (lines_at next.world.journal ls) more new.stop new = subst (λ (s : StreamerState). Comes s (lines_at s.world.journal ls) more new.stop new) told.2 on in
        let here : Comes next ls more new.stop new = subst (λ (xs : List (List ℕ)). Comes next xs more new.stop new) (lines_at-more old.world.journal e ls) from_next in
        subst (λ (xs : List (List ℕ)). Comes old xs (first ++ more) new.stop new) (sym (lines_at-cons old.world.journal line ls))
        (entered old e (line_at old.world.journal line) told.1 first told.3 ls more new.stop new here)
    by (Some why) stopped p q =
        let told : TellsLine old (line_at old.world.journal line) first (Some why) mid = subst (λ (s : Option Undone). TellsLine old (line_at old.world.journal line) first s mid) stopped p in
        let passed : ComesOrPasses (Some why) mid ls more new = subst (λ (s : Option Undone). ComesOrPasses s mid ls more new) stopped q in
        let same : new ≡ record old { stop = Some why } = passed.1 ∙ told.1 in
        let stop_is : new.stop ≡ Some why = ap (λ s. s.stop) same in
        let no_text : first ++ more ≡ [] = ap (λ text. text ++ more) told.2 ∙ passed.0 in
        let here : StopsTelling old (lines_at old.world.journal (line ∷ ls)) [] why new = record {
          front = [];
          line = line_at old.world.journal line;
          rest = ls;
          entries = [];
          lines_are = lines_at-cons old.world.journal line ls;
          count = refl;
          loads = append-nil old.world.journal;
          tells = nothing_told old.from old.world.journal;
          undone = subst (λ (s : StreamerState). IsUndone LONGEST_LINE s.world (line_at old.world.journal line) why) (no_entries old) told.0;
          new_is = same ∙ ap {A = StreamerState} (λ s. record s { stop = Some why }) (no_entries old);
        } in
        subst (λ (text : List ℕ). Comes old (lines_at old.world.journal (line ∷ ls)) text new.stop new) (sym no_text)
        (subst (λ (s : Option Undone). Comes old (lines_at old.world.journal (line ∷ ls)) [] s new) (sym stop_is) here)

comes_on : (ls : List (List ℕ)) (old : StreamerState) (text : List ℕ) (new : StreamerState) → AnswersAll StreamsLine old ls text new → ComesOrPasses old.stop old ls text new
comes_on [] old text new p = by old.stop refl
  where
    by : (stop : Option Undone) → old.stop ≡ stop → ComesOrPasses stop old [] text new
    by None none =
        let here : Goes old (lines_at old.world.journal []) text new = record {
          entries = [];
          loads = subst (λ (xs : List (List ℕ)). Loads old.world.limits old.world.journal xs (old.world.journal ++ [])) (sym (lines_at-nil old.world.journal)) (append-nil old.world.journal);
          tells = record { told = []; are_told = refl; text_is = p.0 };
          new_is = p.1 ∙ no_entries old;
        } in
        subst (λ (s : Option Undone). Comes old (lines_at old.world.journal []) text s new) (sym (ap (λ s. s.stop) p.1 ∙ none)) here
    by (Some why) stopped = (p.0, p.1)
comes_on (line ∷ ls) old text new (first, mid, more, answered, behind, is) =
    subst (λ (t : List ℕ). ComesOrPasses old.stop old (line ∷ ls) t new) (sym is)
    (join old.stop old refl line ls first mid more new answered (comes_on ls mid more new behind))

-- **what a streamer that had not stopped has come to, and told**
pub comes : (ls : List (List ℕ)) (old : StreamerState) (text : List ℕ) (new : StreamerState) → old.stop ≡ None → AnswersAll StreamsLine old ls text new → Comes old (lines_at old.world.journal ls) text new.stop new
comes ls old text new going p = subst (λ (s : Option Undone). ComesOrPasses s old ls text new) going (comes_on ls old text new p)
