-- A difference between two contents has one list of effects at most, and a journal one stream.
use Rattle.std.proofs.Common.{◌≡◌, ◌≢◌, suc, Bool, true, false, List, [], ◌∷◌, ◌++◌, refl, sym, ap, subst, ◌∙◌, arith, ◌⊎◌, inl, inr, ⊎_elim}
use Rattle.std.specs.Bool.{Decides}
use Rattle.std.specs.List.{AllByRecursion, AllPairs}
use Rattle.std.proofs.lemmas.Bool.{both_ways, cases_eq}
use Rattle.std.proofs.lemmas.List.Elements.{recursion_from_All}
use Rattle.std.proofs.lemmas.Slice.Eq.{bytes_eq-Decides}
use Rattle.base_core.specs.Words.{same_name}
use Rattle.base_core.specs.declared.name.Name.{Name}
use Rattle.system_core.specs.declared.machine.event.Entry.{Entry}
use Rattle.stream_core.specs.declared.effect.Effect.{Effect}
use Rattle.stream_core.specs.Effects.{Contents, EachChanges, IsBefore, Subject, a_grant, a_row, a_table, after_effects, applied, subject_of}
use Rattle.stream_core.specs.Streams.{AreChangesTold, EffectsAreOne, StreamIsOne, ChangeTold, contents_at}
use Rattle.stream_core.proofs.Parts.{leaves, parts}
use Rattle.stream_core.proofs.PartsChanged.{changes, tells}

-- ---- subjects
is-or-not : {P : Type 0} (b : Bool) → Decides b P → P ⊎ (P → ⊥)
is-or-not true d = inl (d.0 refl)
is-or-not false d = inr (λ p. both_ways false refl (d.1 p))

names : (name other : Name) → (name ≡ other) ⊎ (name ≢ other)
names name other = is-or-not (same_name name other) (bytes_eq-Decides name other)

subjects : (s t : Subject) → (s ≡ t) ⊎ (s ≢ t)
subjects (a_table name) (a_table other) = ⊎_elim (λ (q : name ≡ other). inl (ap a_table q)) (λ (differ : name ≢ other). inr (λ q. differ (cc))) (names name other)
subjects (a_row name n) (a_row other m) =
    ⊎_elim
    (λ (q : name ≡ other). ⊎_elim (λ (p : n ≡ m). inl (cc)) (λ (differ : n ≢ m). inr (λ q. differ (cc))) (cases_eq n m))
    (λ (differ : name ≢ other). inr (λ q. differ (cc)))
    (names name other)
subjects (a_grant n) (a_grant m) = ⊎_elim (λ (q : n ≡ m). inl (ap a_grant q)) (λ (differ : n ≢ m). inr (λ q. differ (cc))) (cases_eq n m)
subjects s t = inr (λ q. cc)

one-way : (s t : Subject) → IsBefore s t → IsBefore t s → ⊥
one-way (a_row name n) (a_row other m) p q = let less = p.1 in let more = q.1 in omega arith
one-way (a_row name n) (a_table other) p q = p
one-way (a_row name n) (a_grant m) p q = p
one-way (a_grant n) (a_grant m) p q = omega arith
one-way (a_grant n) (a_table other) p q = p
one-way (a_grant n) (a_row other m) p q = p
one-way (a_table name) t p q = p

-- the subjects of effects rise
abbrev SubjectsRise : List Effect → Type 0
SubjectsRise [] = Unit {0}
SubjectsRise (e ∷ es) = AllByRecursion (λ f. IsBefore (subject_of e) (subject_of f)) es × SubjectsRise es

rise : (es : List Effect) → AllPairs (λ e f. IsBefore (subject_of e) (subject_of f)) es → SubjectsRise es
rise [] h = tt
rise (e ∷ es) h = (
  recursion_from_All (λ f. IsBefore (subject_of e) (subject_of f)) es (λ k d within. h 0 (suc k) d (omega arith) (omega arith)),
  rise es (λ i j d less within. h (suc i) (suc j) d (omega arith) (omega arith)),
)

-- what is not behind a subject is not among those behind it
not-among : (s t : Subject) (es : List Effect) → (IsBefore t s → ⊥) → AllByRecursion (λ f. IsBefore t (subject_of f)) es → AllByRecursion (λ f. s ≢ subject_of f) es
not-among s t [] never h = tt
not-among s t (f ∷ fs) never h = ((λ q. never (subst (IsBefore t) (sym q) h.0)), not-among s t fs never h.1)

-- ---- effects one after another
all-leave : (c : Contents) (es : List Effect) (s : Subject) → AllByRecursion (λ f. s ≢ subject_of f) es → parts s (after_effects c es) ≡ parts s c
all-leave c [] s other = refl
all-leave c (e ∷ es) s other = all-leave (applied c e) es s other.1 ∙ leaves c e s other.0

-- of the subject of the first, they make what the first makes
first : (c : Contents) (e : Effect) (es : List Effect) → SubjectsRise (e ∷ es) → parts (subject_of e) (after_effects c (e ∷ es)) ≡ parts (subject_of e) (applied c e)
first c e es up = all-leave (applied c e) es (subject_of e) (not-among (subject_of e) (subject_of e) es (λ p. one-way (subject_of e) (subject_of e) p p) up.0)

all-change : (c : Contents) (e : Effect) (es : List Effect) → SubjectsRise (e ∷ es) → applied c e ≢ c → parts (subject_of e) (after_effects c (e ∷ es)) ≢ parts (subject_of e) c
all-change c e es up turns same = changes c e turns (sym (first c e es up) ∙ same)

module _ (c : Contents) (e f : Effect) (es fs : List Effect) (up-e : SubjectsRise (e ∷ es)) (up-f : SubjectsRise (f ∷ fs)) (turns-e : applied c e ≢ c) (turns-f : applied c f ≢ c)
    (leads : after_effects c (e ∷ es) ≡ after_effects c (f ∷ fs)) where
  -- else one of the lists leaves what the other changes
  one-subject : subject_of e ≢ subject_of f → ⊥
  one-subject differ =
      let s = subject_of e in
      let t = subject_of f in
      let not-behind : IsBefore s t → ⊥ = λ before.
      all-change c e es up-e turns-e (ap (parts s) leads ∙ all-leave c (f ∷ fs) s (differ, not-among s t fs (λ behind. one-way s t before behind) up-f.0)) in
      all-change c f fs up-f turns-f (ap (parts t) (sym leads) ∙ all-leave c (e ∷ es) t ((λ q. differ (sym q)), not-among t s es not-behind up-e.0))

  one-first : e ≡ f
  one-first =
      ⊎_elim
      (λ (s : subject_of e ≡ subject_of f).
      tells c e f turns-e turns-f s
      (sym (first c e es up-e) ∙ ap (parts (subject_of e)) leads ∙ subst (λ t. parts t (after_effects c (f ∷ fs)) ≡ parts t (applied c f)) (sym s) (first c f fs up-f)))
      (λ (differ : subject_of e ≢ subject_of f). absurd (one-subject differ))
      (subjects (subject_of e) (subject_of f))

one-list : (c : Contents) (es fs : List Effect) → SubjectsRise es → SubjectsRise fs → EachChanges c es → EachChanges c fs → after_effects c es ≡ after_effects c fs → es ≡ fs
one-list c [] [] up-e up-f each-e each-f leads = refl
one-list c [] (f ∷ fs) up-e up-f each-e each-f leads = absurd (all-change c f fs up-f each-f.0 (ap (parts (subject_of f)) (sym leads)))
one-list c (e ∷ es) [] up-e up-f each-e each-f leads = absurd (all-change c e es up-e each-e.0 (ap (parts (subject_of e)) leads))
one-list c (e ∷ es) (f ∷ fs) up-e up-f each-e each-f leads =
    let same : f ≡ e = sym (one-first c e f es fs up-e up-f each-e.0 each-f.0 leads) in
    let each = subst (λ k. EachChanges (applied c k) fs) same each-f.1 in
    let rest = one-list (applied c e) es fs up-e.1 up-f.1 each-e.1 each (leads ∙ ap (λ k. after_effects (applied c k) fs) same) in
    cc

-- ---- **the laws**
pub effects-are-one : EffectsAreOne
effects-are-one before after all other a b = one-list before all other (rise all a.rises) (rise other b.rises) a.changes b.changes (a.leads ∙ sym b.leads)

told-once : (before es : List Entry) (told other : List ChangeTold) → AreChangesTold before es told → AreChangesTold before es other → told ≡ other
told-once before [] told other a b = a ∙ sym b
told-once before (e ∷ es) told other (all, later, are, rest, is) (all', later', are', rest', is') =
    let same = effects-are-one (contents_at before) (contents_at (before ++ e ∷ [])) all all' are are' in
    let others = told-once (before ++ e ∷ []) es later later' rest rest' in
    cc

pub stream-is-one : StreamIsOne
stream-is-one journal told other a b = told-once [] journal told other a b
