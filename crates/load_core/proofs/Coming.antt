-- What a loader has come to by lines.
use Rattle.std.proofs.Common.{◌≡◌, ℕ, ◌+◌, Option, Some, None, List, [], ◌∷◌, ◌++◌, length, refl, ap, sym, subst, ◌∙◌, arith, length-append}
use Rattle.lines_core.specs.Serving.{AnswersAll}
use Rattle.lines_core.specs.declared.line.TheConstants.{LONGEST_LINE}
use Rattle.system_core.specs.World.{World, with_entry}
use Rattle.system_core.specs.declared.machine.event.Entry.{Entry}
use Rattle.load_core.specs.declared.fault.Undone.{Undone}
use Rattle.load_core.specs.Loading.{Loads, SaysChange, IsUndone}
use Rattle.load_core.specs.Loader.{LoaderState, GoesOn, EntersOrPasses, line_at, lines_at}
use Rattle.load_core.proofs.Lines.{lines_at-nil, lines_at-cons, lines_at-more}

-- it has nothing more than this journal
abbrev pub with_journal : World → List Entry → World
with_journal w journal = record w { journal = journal }

-- the lines before some line were entered, and that one stopped it
pub record Stops (old : World) (ls : List (List ℕ)) (why : Undone) (new : World) : Type 0 where
  pub front : List (List ℕ)
  pub line : List ℕ
  pub rest : List (List ℕ)
  pub lines_are : ls ≡ front ++ line ∷ rest
  pub count : length new.journal ≡ length old.journal + length front
  pub loads : Loads old.limits old.journal front new.journal
  pub same : new ≡ with_journal old new.journal
  pub undone : IsUndone LONGEST_LINE new line why

-- what the lines come to from an open loader
abbrev pub Comes : World → List (List ℕ) → Option Undone → World → Type 0
Comes old ls None new = Loads old.limits old.journal ls new.journal × (new ≡ with_journal old new.journal)
Comes old ls (Some why) new = Stops old ls why new

-- one line before them that was entered
entered : (old : World) (e : Entry) (line : List ℕ) (ls : List (List ℕ)) (stop : Option Undone) (new : World) → SaysChange LONGEST_LINE old.limits old.journal line e → Comes (with_entry old e) ls stop new → Comes old (line ∷ ls) stop new
entered old e line ls None new says q = ((e, says, q.0), q.1)
entered old e line ls (Some why) new says q = record {
  front = line ∷ q.front;
  line = q.line;
  rest = q.rest;
  lines_are = ap (λ (xs : List (List ℕ)). line ∷ xs) q.lines_are;
  count = omega (arith, q.count, length-append old.journal (e ∷ []));
  loads = (e, says, q.loads);
  same = q.same;
  undone = q.undone;
}

abbrev ComesOrPasses : Option Undone → World → List (List ℕ) → Option Undone → World → Type 0
ComesOrPasses None old ls stop new = Comes old (lines_at old.journal ls) stop new
ComesOrPasses (Some why) old ls stop new = (stop ≡ Some why) × (new ≡ old)

join : (stop : Option Undone) (old : World) (line : List ℕ) (ls : List (List ℕ)) (stop1 : Option Undone) (mid : World) (stop2 : Option Undone) (new : World)
    → EntersOrPasses stop old line stop1 mid → ComesOrPasses stop1 mid ls stop2 new → ComesOrPasses stop old (line ∷ ls) stop2 new
join (Some why) old line ls stop1 mid stop2 new p q =
    let passed : ComesOrPasses (Some why) mid ls stop2 new = subst (λ (s : Option Undone). ComesOrPasses s mid ls stop2 new) p.0 q in
    (passed.0, passed.1 ∙ p.1)
join None old line ls None mid stop2 new p q =
    let behind : lines_at mid.journal ls ≡ ls = ap (λ (w : World). lines_at w.journal ls) p.2 ∙ lines_at-more old.journal p.0 ls in
    let here : Comes mid ls stop2 new = subst (λ (xs : List (List ℕ)). Comes mid xs stop2 new) behind q in
    let on : Comes (with_entry old p.0) ls stop2 new = subst (λ (w : World). Comes w ls stop2 new) p.2 here in
    subst (λ (xs : List (List ℕ)). Comes old xs stop2 new) (sym (lines_at-cons old.journal line ls)) (entered old p.0 (line_at old.journal line) ls stop2 new p.1 on)
join None old line ls (Some why) mid stop2 new p q =
    let same : new ≡ old = q.1 ∙ p.1 in
    let stopped : Comes old (lines_at old.journal (line ∷ ls)) (Some why) old = record {
      front = [];
      line = line_at old.journal line;
      rest = ls;
      lines_are = lines_at-cons old.journal line ls;
      count = omega arith;
      loads = refl;
      same = refl;
      undone = p.0;
    } in
    subst (λ (s : Option Undone). Comes old (lines_at old.journal (line ∷ ls)) s new) (sym q.0) (subst (λ (w : World). Comes old (lines_at old.journal (line ∷ ls)) (Some why) w) (sym same) stopped)

comes_on : (ls : List (List ℕ)) (stop : Option Undone) (old : World) (text : List ℕ) (new : LoaderState) → AnswersAll GoesOn (record { world = old; stop = stop }) ls text new → ComesOrPasses stop old ls new.stop new.world
comes_on [] None old text new p =
    subst (λ (q : LoaderState). Comes old (lines_at old.journal []) q.stop q.world) (sym p.1)
    (subst (λ (xs : List (List ℕ)). Comes old xs None old) (sym (lines_at-nil old.journal)) (refl, refl))
comes_on [] (Some why) old text new p = (ap (λ (q : LoaderState). q.stop) p.1, ap (λ (q : LoaderState). q.world) p.1)
comes_on (line ∷ ls) stop old text new (first, mid, more, answered, behind, is) =
    join stop old line ls mid.stop mid.world new.stop new.world answered.1 (comes_on ls mid.stop mid.world more new behind)

-- what an open loader has come to
pub comes : (ls : List (List ℕ)) (old : World) (text : List ℕ) (new : LoaderState) → AnswersAll GoesOn (record { world = old; stop = None }) ls text new → Comes old (lines_at old.journal ls) new.stop new.world
comes ls old text new p = comes_on ls None old text new p
