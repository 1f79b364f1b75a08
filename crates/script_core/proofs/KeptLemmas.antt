-- What a keeper has of the lines that were answered with it.
use Rattle.std.proofs.Common.{◌≡◌, ℕ, true, false, List, [], ◌∷◌, ◌++◌, Result, Ok, Err, refl, sym, ap, ◌∙◌, subst, append_assoc, append-nil, inl, inr, ◌⊎◌}
use Rattle.lines_core.specs.Serving.{AnswersAll, Ends, Traffic}
use Rattle.lines_core.specs.declared.serving.SessionFault.{SessionFault}
use Rattle.lines_core.specs.declared.serving.SessionFault.TheVariants as session_faults
use Rattle.lines_core.proofs.Seen.{ends-seen}
use Rattle.system_core.specs.World.{World, opening}
use Rattle.journal_core.specs.Keeping.{KeepsAll}
use Rattle.script_core.specs.Script.{Answers, never, EndsScript}
use Rattle.journal_core.specs.Recorder.{WithKeeper, with_keeper}
use Rattle.journal_core.specs.declared.keeper.Keeper.{Ghosts}
use Rattle.journal_core.proofs.Entering.{never-both, KeepsAll-append}
use Rattle.script_core.specs.Keeping.{KeepsNew, AnswersKept, over, answered, withheld, AnswersFront, all, some, is_owing, EndsWithKeeper, EndsKeptFrom, EndsKept}
use Rattle.script_core.specs.declared.scripts.fault.ScriptFault.{ScriptFault}
use Rattle.script_core.specs.declared.scripts.fault.ScriptFault.TheVariants as faults

module _ {K : Type 0} (rules : Ghosts K) where
  -- the journal and the keeper stay
  pub KeepsNew-none : (old new : WithKeeper K) → new.world.journal ≡ old.world.journal → new.keeper ≡ old.keeper → KeepsNew rules old new
  KeepsNew-none old new e k = record { entries = []; journal = e ∙ sym (append-nil old.world.journal); kept = k }

  pub KeepsNew-trans : (old mid new : WithKeeper K) → KeepsNew rules old mid → KeepsNew rules mid new → KeepsNew rules old new
  KeepsNew-trans old mid new a b = record {
    entries = a.entries ++ b.entries;
    journal = b.journal ∙ (ap (λ j. j ++ b.entries) a.journal ∙ append_assoc old.world.journal a.entries b.entries);
    kept = KeepsAll-append rules.keeps old.keeper mid.keeper new.keeper a.entries b.entries a.kept b.kept;
  }

module _ {K : Type 0} (rules : Ghosts K) where
  -- once a change could not be kept, nothing is written
  over-one : (old new : WithKeeper K) (line text : List ℕ) → rules.owing old.keeper ≡ true → AnswersKept rules old line text new → (text ≡ []) × (new ≡ old)
  over-one old _ line _ f (over o) = (refl, refl)
  over-one old new line text f (answered o n a kept) = never-both (rules.owing old.keeper) f o
  over-one old new line _ f (withheld o n a owed) = never-both (rules.owing old.keeper) f o

  over-all : (old new : WithKeeper K) (lines : List (List ℕ)) (text : List ℕ) → rules.owing old.keeper ≡ true → AnswersAll (AnswersKept rules) old lines text new → (text ≡ []) × (new ≡ old)
  over-all old new [] text f h = h
  over-all old new (line ∷ lines) text f (first, mid, more, a, t, is) =
      let one = over-one old mid line first f a in
      let rest = over-all mid new lines more (ap (λ (s : WithKeeper K). rules.owing s.keeper) one.1 ∙ f) t in
      (is ∙ (ap (λ x. x ++ more) one.0 ∙ rest.0), rest.1 ∙ one.1)

  -- one line more in front
  front-more : (old mid new : WithKeeper K) (line : List ℕ) (lines : List (List ℕ)) (first more text : List ℕ)
      → Answers old.world line first mid.world → KeepsNew rules old mid → text ≡ first ++ more
      → AnswersFront rules mid lines more new → AnswersFront rules old (line ∷ lines) text new
  front-more old mid new line lines first more text a kept is (all n t k) =
      all n (first, mid.world, more, a, t, is) (KeepsNew-trans rules old mid new kept k)
  front-more old mid new line lines first more text a kept is (some front behind next reply last n e t k l owed) =
      some (line ∷ front) behind next reply last n (ap (λ ls. line ∷ ls) e) (first, mid.world, more, a, t, is) (KeepsNew-trans rules old mid last kept k) l owed

  front-line : (old mid new : WithKeeper K) (line : List ℕ) (lines : List (List ℕ)) (first more text : List ℕ) → rules.owing old.keeper ≡ false
      → AnswersKept rules old line first mid → AnswersAll (AnswersKept rules) mid lines more new → text ≡ first ++ more
      → (rules.owing mid.keeper ≡ false → AnswersFront rules mid lines more new) → AnswersFront rules old (line ∷ lines) text new
  front-line old _ new line lines _ more text f (over o) t is rest = never-both (rules.owing old.keeper) o f
  front-line old mid new line lines first more text f (answered o n a kept) t is rest = front-more old mid new line lines first more text a kept is (rest n)
  front-line old mid new line lines _ more text f (withheld {text = reply} o n a owed) t is rest =
      let none = over-all mid new lines more n t in
      subst (λ s. AnswersFront rules old (line ∷ lines) text s) (sym none.1)
      (some [] lines line reply old n refl (is ∙ none.0, refl) (KeepsNew-none rules old old refl refl) a owed)

  -- **of the lines a front was answered, and its changes were kept**
  pub answered-front : (old new : WithKeeper K) (lines : List (List ℕ)) (text : List ℕ) → rules.owing old.keeper ≡ false
      → AnswersAll (AnswersKept rules) old lines text new → AnswersFront rules old lines text new
  answered-front old new [] text f h =
      all (ap (λ (s : WithKeeper K). rules.owing s.keeper) h.1 ∙ f) (h.0, ap (λ (s : WithKeeper K). s.world) h.1)
      (KeepsNew-none rules old new (ap (λ (s : WithKeeper K). s.world.journal) h.1) (ap (λ (s : WithKeeper K). s.keeper) h.1))
  answered-front old new (line ∷ lines) text f (first, mid, more, a, t, is) =
      front-line old mid new line lines first more text f a t is (λ n. answered-front mid new lines more n t)

  -- all changes were kept, where the keeper owes nothing
  all-kept : (old new : WithKeeper K) (lines : List (List ℕ)) (text : List ℕ) → rules.owing new.keeper ≡ false → AnswersFront rules old lines text new → KeepsNew rules old new
  all-kept old new lines text f (all n t k) = k
  all-kept old new lines text f (some front behind line reply mid n e t k l owed) = never-both (rules.owing new.keeper) n f

  ended-kept : (old new : WithKeeper K) (traffic : Traffic) → rules.owing old.keeper ≡ false → rules.owing new.keeper ≡ false
      → Ends (AnswersKept rules) (is_owing rules) (Ok tt) old new traffic → KeepsNew rules old new
  ended-kept old new traffic f n (bytes, inl h) = all-kept old new _ h.0.text n (answered-front old new _ h.0.text f h.0.answered)
  ended-kept old new traffic f n (bytes, inr h) = never-both (rules.owing new.keeper) h.1 n

  -- **where it ends without a fault, the changes by which the journal grew were kept**
  pub grown-kept : (start new : World) (keeper keeper' : K) (traffic : Traffic) → rules.owing keeper ≡ false
      → EndsKeptFrom rules start (Ok new) keeper keeper' traffic → KeepsNew rules (with_keeper start keeper) (with_keeper new keeper')
  grown-kept start new keeper keeper' traffic f (n, ends) =
      ended-kept (with_keeper start keeper) (with_keeper new keeper') traffic f n ends

  -- **a script that ends without a fault has its journal kept**
  pub journal-kept : (chunk : ℕ) (new : World) (keeper keeper' : K) (traffic : Traffic) → rules.owing keeper ≡ false
      → EndsKept rules chunk (Ok new) keeper keeper' traffic → KeepsAll rules.keeps keeper new.journal keeper'
  journal-kept chunk new keeper keeper' traffic f (limits, full, ends) =
      let k = grown-kept (opening chunk limits) new keeper keeper' traffic f ends in
      subst (λ es. KeepsAll rules.keeps keeper es keeper') (sym k.journal) k.kept

  module _ (works : (k : K) → rules.owing k ≡ false) where
    plain : (old new : WithKeeper K) (line text : List ℕ) → Unit {0} → AnswersKept rules old line text new → Answers old.world line text new.world × Unit {0}
    plain old _ line _ u (over o) = never-both (rules.owing old.keeper) o (works old.keeper)
    plain old new line text u (answered o n a kept) = (a, tt)
    plain old new line _ u (withheld o n a owed) = never-both (rules.owing new.keeper) n (works new.keeper)

    plain-ends : (ending : Result (Unit {0}) SessionFault) (old new : WithKeeper K) (traffic : Traffic)
        → Ends (AnswersKept rules) (is_owing rules) ending old new traffic → Ends Answers never ending old.world new.world traffic
    plain-ends ending old new traffic e =
        (ends-seen (AnswersKept rules) Answers (λ (s : WithKeeper K). s.world) (λ s. Unit {0}) plain (is_owing rules) never (λ s. sym (works s.keeper)) ending old new traffic tt e).0

    -- **with a keeper that never owes a script ends as without one**
    pub plain-end : (chunk : ℕ) (new : World) (keeper keeper' : K) (traffic : Traffic)
        → EndsKept rules chunk (Ok new) keeper keeper' traffic → EndsScript chunk (Ok new) traffic
    plain-end chunk new keeper keeper' traffic (limits, full, (n, ends)) =
        (limits, full, plain-ends (Ok tt) (with_keeper (opening chunk limits) keeper) (with_keeper new keeper') traffic ends)

    pub plain-fault : (chunk : ℕ) (fault : SessionFault) (keeper keeper' : K) (traffic : Traffic)
        → EndsKept rules chunk (Err (faults.Session fault)) keeper keeper' traffic → EndsScript chunk (Err fault) traffic
    plain-fault chunk fault keeper keeper' traffic (limits, full, (n, new, ends)) =
        (limits, new, full, plain-ends (Err fault) (with_keeper (opening chunk limits) keeper) (with_keeper new keeper') traffic ends)

    pub no-journal-fault : (chunk : ℕ) (keeper keeper' : K) (traffic : Traffic)
        → EndsKept rules chunk (Err faults.Journal) keeper keeper' traffic → ⊥
    no-journal-fault chunk keeper keeper' traffic (limits, full, h) = never-both (rules.owing keeper') h.0 (works keeper')

-- what a script's server told of its fields, told of its world and its keeper
module _ {X N M K : Type 0} (world : X → World) (keeper : X → K) (name : X → N) (other : X → M) (rules : Ghosts K) where
  abbrev pub seen : X → WithKeeper K
  seen x = with_keeper (world x) (keeper x)

  abbrev pub Served : X → List ℕ → List ℕ → X → Type 0
  Served old line text new = AnswersKept rules (seen old) line text (seen new) × (name new ≡ name old) × (other new ≡ other old)

  pub server_ends : (ending : Result (Unit {0}) SessionFault) (x y : X) (traffic : Traffic)
      → Ends Served (λ s. rules.owing (keeper s)) ending x y traffic
      → Ends (AnswersKept rules) (is_owing rules) ending (seen x) (seen y) traffic × ((name y ≡ name x) × (other y ≡ other x))
  server_ends ending x y traffic e =
      ends-seen Served (AnswersKept rules) seen (λ s. (name s ≡ name x) × (other s ≡ other x)) (λ a b line text same s. (s.0, (s.1 ∙ same.0, s.2 ∙ same.1))) (λ s. rules.owing (keeper s)) (is_owing rules) (λ s. refl) ending x y traffic (refl, refl) e

-- so it ends, with the world and the keeper as they were handed back
pub script_ends : {K : Type 0} (rules : Ghosts K) (ending : Result (Unit {0}) SessionFault)
    (start last world : World) (old k keeper : K) (traffic : Traffic) → world ≡ last → keeper ≡ k
    → Ends (AnswersKept rules) (is_owing rules) ending (with_keeper start old) (with_keeper last k) traffic
    → EndsWithKeeper rules start ending world old keeper traffic
script_ends {K} rules ending start last world old k keeper traffic is same e =
    let From : World → K → Type 0 = λ w m. Ends (AnswersKept rules) (is_owing rules) ending (with_keeper start old) (with_keeper w m) traffic in
    subst (λ m. From world m) (sym same) (subst (λ w. From w k) (sym is) e)

-- so it ends by the fault of its journal
pub journal_ends : {K : Type 0} (rules : Ghosts K) (start : World) (ending : Result (Unit {0}) SessionFault) (world : World) (old keeper : K) (traffic : Traffic)
    → rules.owing keeper ≡ true → (ending ≡ Ok tt) ⊎ (ending ≡ Err session_faults.Write) → EndsWithKeeper rules start ending world old keeper traffic
    → EndsKeptFrom rules start (Err faults.Journal) old keeper traffic
journal_ends rules start ending world old keeper traffic f (inl e) h =
    (f, world, inl (subst (λ r. EndsWithKeeper rules start r world old keeper traffic) e h))
journal_ends rules start ending world old keeper traffic f (inr e) h =
    (f, world, inr (subst (λ r. EndsWithKeeper rules start r world old keeper traffic) e h))

-- a result has one fault
pub session-once : {T : Type 0} (f g : SessionFault) (r : Result T ScriptFault) → r ≡ Err (faults.Session f) → r ≡ Err (faults.Session g) → f ≡ g
session-once f g r e h = cc

pub fault-once : {T : Type 0} (f g : SessionFault) (r : Result T SessionFault) → r ≡ Err f → r ≡ Err g → f ≡ g
fault-once f g r e h = cc

pub no-journal : {T : Type 0} (f : SessionFault) (r : Result T ScriptFault) → r ≡ Err (faults.Session f) → r ≡ Err faults.Journal → ⊥
no-journal f r e h = cc

pub no-fault : {T : Type 0} (t : T) (f : ScriptFault) (r : Result T ScriptFault) → r ≡ Ok t → r ≡ Err f → ⊥
no-fault t f r e h = cc
