-- `first_fault` finds the leftmost fault of the grammar's sentences.
use Rattle.std.proofs.Common.{◌≡◌, ℕ, Bool, true, false, nat_le, pos, List, [], ◌∷◌, ◌++◌, map, Option, Some, None, if◌then◌else◌, ap, sym, subst, ◌∙◌, refl, append_assoc, arith, rules, ◌⊎◌, inl, inr}
use Rattle.std.proofs.lemmas.List.{append-nil}
use Rattle.base_core.specs.declared.keyword.Keyword.TheVariants as keywords
use Rattle.lexer_core.specs.declared.token.Mark.TheVariants as marks
use Rattle.lexer_core.specs.declared.token.TokenKind.{TokenKind}
use Rattle.lexer_core.specs.declared.token.TokenKind.TheVariants as kinds
use Rattle.lexer_core.specs.declared.token.Token as tokens
use Rattle.lexer_core.specs.declared.fault.Code.{Code}
use Rattle.lexer_core.specs.declared.fault.Code.TheVariants as codes
use Rattle.reader_core.specs.Grammar.{Grammar, End, One, Case, Items, More, Class, Key, Sign, AnyName, AnyLiteral, AnyType, AnyTest, AtLeastOne, fits, item_fault, repeated_or_too_many, followed_by, Fault}
use Rattle.reader_core.specs.Recogniser.{with_fault, enter, step, can_end, first_fault}
use Rattle.reader_core.specs.Sentences.{statement}
use Rattle.reader_core.specs.Matches.{TokenWithFault, faultless, is_next, Matches, done, one, this, other, item, next, last, IsSentence, IsViablePrefix, CanFollow, IsWrongAt, IsWrongHere, IsFault}

-- ---- grammars whose items begin with a token of their own, and whose lists are followed by no comma
abbrev pub BeginsWithToken : Grammar → Type 0
BeginsWithToken End = ⊥
BeginsWithToken (One c g) = Unit {0}
BeginsWithToken (Case c a b) = BeginsWithToken b
BeginsWithToken (Items r s i g) = ⊥
BeginsWithToken (More r s i g) = ⊥

pub first_fault_nil : (end : ℕ) (g : Grammar) → first_fault end g [] ≡ (if can_end g then None else Some (codes.Expected, end))
unfolding first_fault
first_fault_nil end g = refl

pub first_fault_none : (end : ℕ) (g : Grammar) (t : tokens.Token) (ts : List tokens.Token) → step g t.kind ≡ None → first_fault end g (t ∷ ts) ≡ Some ((if can_end g then codes.Trailing else codes.Expected), t.start)
unfolding first_fault
first_fault_none end g t ts e = ap (λ st. elim st [ None ↦ Some ((if can_end g then codes.Trailing else codes.Expected), t.start) | Some s ↦ elim s.0 [ None ↦ first_fault end s.1 ts | Some code ↦ Some (code, t.start) ] ]) e

pub first_fault_some : (end : ℕ) (g : Grammar) (t : tokens.Token) (ts : List tokens.Token) (m : Option Code) (g' : Grammar) → step g t.kind ≡ Some (m, g') → first_fault end g (t ∷ ts) ≡ elim m [ None ↦ first_fault end g' ts | Some code ↦ Some (code, t.start) ]
unfolding first_fault
first_fault_some end g t ts m g' e = ap (λ st. elim st [ None ↦ Some ((if can_end g then codes.Trailing else codes.Expected), t.start) | Some s ↦ elim s.0 [ None ↦ first_fault end s.1 ts | Some code ↦ Some (code, t.start) ] ]) e

-- ---- the end
can_end_yes : (g : Grammar) → can_end g ≡ true → Matches g []
can_end_yes End e = done
can_end_yes (One c g) e = cc
can_end_yes (Case c a b) e = other refl (can_end_yes b e)
can_end_yes (Items r s i g) e = cc
can_end_yes (More r s i g) e = last refl (can_end_yes g e)

can_end_no : {g : Grammar} → Matches g [] → can_end g ≡ true
can_end_no done = refl
can_end_no (other n m) = can_end_no m
can_end_no (last n m) = can_end_no m

-- ---- one token
-- a sentence's first token is a step
enter_of : (i k : Grammar) {t : TokenKind} {ss : List TokenWithFault} → BeginsWithToken i → Matches (followed_by i k) (faultless t ∷ ss) → (g : Grammar) × (enter i k t ≡ Some g) × Matches g ss
enter_of End k b m = absurd b
enter_of (One c g) k b (one f m) = (followed_by g k, ap (λ x. if x then Some (followed_by g k) else None) f, m)
enter_of (Case c a d) k {t} b (this f m) = (followed_by a k, ap (λ x. if x then Some (followed_by a k) else enter d k t) f, m)
enter_of (Case c a d) k {t} b (other n m) = let r = enter_of d k b m in (r.0, ap (λ x. if x then Some (followed_by a k) else enter d k t) n ∙ r.1, r.2)
enter_of (Items r s i g) k b m = absurd b
enter_of (More r s i g) k b m = absurd b

-- a token of the class
abbrev pub witness : Class → TokenKind
witness (Key k) = kinds.Keyword k
witness (Sign m) = kinds.Mark m
witness AnyName = kinds.Name []
witness AnyLiteral = kinds.Text
witness AnyType = kinds.Keyword keywords.Text
witness AnyTest = kinds.Mark marks.Equal
witness AtLeastOne = kinds.Number (pos 1)

witness_fits : (c : Class) → fits c (witness c) ≡ true
witness_fits (Key k) = grind arith
witness_fits (Sign m) = grind arith
witness_fits AnyName = refl
witness_fits AnyLiteral = refl
witness_fits AnyType = refl
witness_fits AnyTest = refl
witness_fits AtLeastOne = refl

-- it may go on with another token than a comma
abbrev pub IsCalm : Class → Grammar → Type 0
IsCalm d (One c g) = fits d (witness c) ≡ false
IsCalm d (Case c a b) = fits d (witness c) ≡ false
IsCalm d _ = ⊥

abbrev pub IsSound : Grammar → Type 0
IsSound End = Unit {0}
IsSound (One c g) = IsSound g
IsSound (Case c a b) = IsSound a × IsSound b
IsSound (Items r s i g) = BeginsWithToken i × IsSound i × IsSound g × IsCalm r.separator g
IsSound (More r s i g) = BeginsWithToken i × IsSound i × IsSound g × IsCalm r.separator g

step_of : (g : Grammar) {t : TokenKind} {w : Option Code} {ss : List TokenWithFault} → IsSound g → Matches g (record { kind = t; wrong = w } ∷ ss) → (g' : Grammar) × (step g t ≡ Some (w, g')) × Matches g' ss
step_of End b m = elim m [ ]
step_of (One c g) b (one f m) = (g, ap (λ x. if x then Some (None, g) else None) f, m)
step_of (Case c a d) {t} b (this f m) = (a, ap (λ x. if x then Some (None, a) else step d t) f, m)
step_of (Case c a d) {t} b (other n m) = let r = step_of d b.1 m in (r.0, ap (λ x. if x then Some (None, a) else step d t) n ∙ r.1, r.2)
step_of (Items r s i g) {t} b (item m) = let e = enter_of i _ b.0 m in (e.0, ap (with_fault (item_fault r s t)) e.1, e.2)
step_of (More r s i g) {t} b (next f m) = (Items r s i g, ap (λ x. if x then Some (None, Items r s i g) else step g t) f, m)
step_of (More r s i g) {t} b (last n m) = let e = step_of g b.2 m in (e.0, ap (λ x. if x then Some (None, Items r s i g) else step g t) n ∙ e.1, e.2)

-- ---- and back
choose : {A : Type 0} (b : Bool) {x y z : A} → (if b then x else y) ≡ z → ((b ≡ true) × (x ≡ z)) ⊎ ((b ≡ false) × (y ≡ z))
choose true e = inl (refl, e)
choose false e = inr (refl, e)

same_step : (p q : Option Code × Grammar) → Some p ≡ Some q → (p.0 ≡ q.0) × (p.1 ≡ q.1)
same_step p q e = let h : p ≡ q = cc in (ap (λ (x : Option Code × Grammar). x.0) h, ap (λ (x : Option Code × Grammar). x.1) h)

at_step : {g g1 g2 : Grammar} {t : TokenKind} {w v : Option Code} {ss : List TokenWithFault} → (v ≡ w) × (g1 ≡ g2) → (Matches g1 ss → Matches g (record { kind = t; wrong = v } ∷ ss)) → Matches g2 ss → Matches g (record { kind = t; wrong = w } ∷ ss)
at_step {g} {g1} {g2} {t} {w} {v} {ss} e f m =
    subst (λ (x : Option Code). Matches g (record { kind = t; wrong = x } ∷ ss)) e.0 (f (subst (λ (x : Grammar). Matches x ss) (sym e.1) m))

enter_back : (i k : Grammar) {t : TokenKind} {g : Grammar} {ss : List TokenWithFault} → enter i k t ≡ Some g → Matches g ss → Matches (followed_by i k) (faultless t ∷ ss)
enter_back End k e m = cc
enter_back (One c h) k {t} {g} {ss} e m = elim (choose (fits c t) e) [
  | inl p ↦ let gg : followed_by h k ≡ g = cc in one p.0 (subst (λ (x : Grammar). Matches x ss) (sym gg) m)
  | inr p ↦ cc
]
enter_back (Case c a b) k {t} {g} {ss} e m = elim (choose (fits c t) e) [
  | inl p ↦ let gg : followed_by a k ≡ g = cc in this p.0 (subst (λ (x : Grammar). Matches x ss) (sym gg) m)
  | inr p ↦ other p.0 (enter_back b k p.1 m)
]
enter_back (Items r s i g) k e m = cc
enter_back (More r s i g) k e m = cc

unmark : {m w : Option Code} (o : Option Grammar) {g : Grammar} → with_fault m o ≡ Some (w, g) → (o ≡ Some g) × (m ≡ w)
unmark None e = cc
unmark {m} {w} (Some h) {g} e = let p = same_step (m, h) (w, g) e in (ap (λ (x : Grammar). Some x) p.1, p.0)

step_back : (g : Grammar) {t : TokenKind} {w : Option Code} {g' : Grammar} {ss : List TokenWithFault} → step g t ≡ Some (w, g') → Matches g' ss → Matches g (record { kind = t; wrong = w } ∷ ss)
step_back End e m = cc
step_back (One c g) {t} e m = elim (choose (fits c t) e) [ inl p ↦ at_step (same_step _ _ p.1) (one p.0) m | inr p ↦ cc ]
step_back (Case c a b) {t} e m = elim (choose (fits c t) e) [ inl p ↦ at_step (same_step _ _ p.1) (this p.0) m | inr p ↦ other p.0 (step_back b p.1 m) ]
step_back (Items r s i g) {t} {w} {g'} {ss} e m =
    let u = unmark (enter i (More r (s ++ t ∷ []) i g) t) e in
    subst (λ (x : Option Code). Matches (Items r s i g) (record { kind = t; wrong = x } ∷ ss)) u.1 (item (enter_back i (More r (s ++ t ∷ []) i g) u.0 m))
step_back (More r s i g) {t} {w} {g'} {ss} e m = elim (choose (fits r.separator t) e) [
  | inl p ↦ at_step (same_step _ _ p.1) (next p.0) m
  | inr p ↦ last p.0 (step_back g p.1 m)
]

-- ---- each step keeps a grammar sound
calm_then : (d : Class) (g k : Grammar) → IsCalm d g → IsCalm d (followed_by g k)
calm_then d End k h = absurd h
calm_then d (One c g) k h = h
calm_then d (Case c a b) k h = h
calm_then d (Items r s i g) k h = absurd h
calm_then d (More r s i g) k h = absurd h

sound_then : (g k : Grammar) → IsSound g → IsSound k → IsSound (followed_by g k)
sound_then End k h j = j
sound_then (One c g) k h j = sound_then g k h j
sound_then (Case c a b) k h j = (sound_then a k h.0 j, sound_then b k h.1 j)
sound_then (Items r s i g) k h j = (h.0, h.1, sound_then g k h.2 j, calm_then r.separator g k h.3)
sound_then (More r s i g) k h j = (h.0, h.1, sound_then g k h.2 j, calm_then r.separator g k h.3)

sound_enter : (i k : Grammar) (t : TokenKind) {g : Grammar} → IsSound i → IsSound k → enter i k t ≡ Some g → IsSound g
sound_enter End k t h j e = cc
sound_enter (One c i) k t {g} h j e = elim (choose (fits c t) e) [
  | inl p ↦ let gg : followed_by i k ≡ g = cc in subst IsSound gg (sound_then i k h j)
  | inr p ↦ cc
]
sound_enter (Case c a b) k t {g} h j e = elim (choose (fits c t) e) [
  | inl p ↦ let gg : followed_by a k ≡ g = cc in subst IsSound gg (sound_then a k h.0 j)
  | inr p ↦ sound_enter b k t h.1 j p.1
]
sound_enter (Items r s i g) k t h j e = cc
sound_enter (More r s i g) k t h j e = cc

sound_step : (g : Grammar) (t : TokenKind) {w : Option Code} {g' : Grammar} → IsSound g → step g t ≡ Some (w, g') → IsSound g'
sound_step End t h e = cc
sound_step (One c g) t h e = elim (choose (fits c t) e) [ inl p ↦ subst IsSound (same_step _ _ p.1).1 h | inr p ↦ cc ]
sound_step (Case c a b) t h e = elim (choose (fits c t) e) [ inl p ↦ subst IsSound (same_step _ _ p.1).1 h.0 | inr p ↦ sound_step b t h.1 p.1 ]
sound_step (Items r s i g) t h e = sound_enter i (More r (s ++ t ∷ []) i g) t h.1 h (unmark (enter i (More r (s ++ t ∷ []) i g) t) e).0
sound_step (More r s i g) t h e = elim (choose (fits r.separator t) e) [ inl p ↦ subst IsSound (same_step _ _ p.1).1 h | inr p ↦ sound_step g t h.2 p.1 ]

-- ---- each grammar has a sentence
abbrev pub first : Grammar → TokenKind
first (One c g) = witness c
first (Case c a b) = witness c
first _ = kinds.Text

pub record Sentence (g k : Grammar) : Type 0 where
  pub faultless_all : List TokenWithFault
  pub matches : Matches (followed_by g k) faultless_all
  pub calm : (d : Class) → IsCalm d g → is_next d faultless_all ≡ false
  pub rest : List TokenWithFault
  pub begins : BeginsWithToken g → faultless_all ≡ faultless (first g) ∷ rest

complete : (g k : Grammar) {ss : List TokenWithFault} → IsSound g → Matches k ss → Sentence g k
complete End k {ss} h m = record { faultless_all = ss; matches = m; calm = λ d c. absurd c; rest = []; begins = λ b. absurd b }
complete (One c g) k h m =
    let r = complete g k h m in
    record { faultless_all = faultless (witness c) ∷ r.faultless_all; matches = one (witness_fits c) r.matches; calm = λ d q. q; rest = r.faultless_all; begins = λ b. refl }
complete (Case c a d) k h m =
    let r = complete a k h.0 m in
    record { faultless_all = faultless (witness c) ∷ r.faultless_all; matches = this (witness_fits c) r.matches; calm = λ d q. q; rest = r.faultless_all; begins = λ b. refl }
complete (Items r s i g) k h m =
    let e = complete g k h.2 m in
    let n = complete i (More r (s ++ first i ∷ []) i (followed_by g k)) h.1 (last (e.calm r.separator h.3) e.matches) in
    record {
      faultless_all = record { kind = first i; wrong = item_fault r s (first i) } ∷ n.rest;
      matches = item (subst (λ (x : List TokenWithFault). Matches (followed_by i (More r (s ++ first i ∷ []) i (followed_by g k))) x) (n.begins h.0) n.matches);
      calm = λ d c. absurd c;
      rest = [];
      begins = λ b. absurd b;
    }
complete (More r s i g) k h m =
    let e = complete g k h.2 m in
    record { faultless_all = e.faultless_all; matches = last (e.calm r.separator h.3) e.matches; calm = λ d c. absurd c; rest = []; begins = λ b. absurd b }

then_end : (g : Grammar) → followed_by g End ≡ g
then_end End = refl
then_end (One c g) = ap (One c) (then_end g)
then_end (Case c a b) = ap (λ x. Case c x (followed_by b End)) (then_end a) ∙ ap (Case c a) (then_end b)
then_end (Items r s i g) = ap (Items r s i) (then_end g)
then_end (More r s i g) = ap (More r s i) (then_end g)

sentence : (g : Grammar) → IsSound g → (ss : List TokenWithFault) × Matches g ss
sentence g h = let r = complete g End h done in (r.faultless_all, subst (λ (x : Grammar). Matches x r.faultless_all) (then_end g) r.matches)

-- ---- the leftmost fault
-- the tokens lead from the one grammar to the other
pub record Reaches (all : Grammar) (before : List TokenKind) (g : Grammar) : Type 0 where
  pub to : (ss : List TokenWithFault) → Matches g ss → Matches all (map faultless before ++ ss)
  pub back : (ss : List TokenWithFault) → Matches all (map faultless before ++ ss) → Matches g ss

fine_push : (ks : List TokenKind) (t : TokenKind) (ss : List TokenWithFault) → map faultless (ks ++ t ∷ []) ++ ss ≡ map faultless ks ++ faultless t ∷ ss
fine_push [] t ss = refl
fine_push (k ∷ ks) t ss = ap (λ x. faultless k ∷ x) (fine_push ks t ss)

reaches_step : {all g g' : Grammar} (before : List TokenKind) (t : TokenKind) → Reaches all before g → IsSound g → step g t ≡ Some (None, g') → Reaches all (before ++ t ∷ []) g'
reaches_step {all} {g} {g'} before t r h e = record {
  to = λ ss m. subst (λ (x : List TokenWithFault). Matches all x) (sym (fine_push before t ss)) (r.to (faultless t ∷ ss) (step_back g e m));
  back = λ ss m.
      let n = step_of g h (r.back (faultless t ∷ ss) (subst (λ (x : List TokenWithFault). Matches all x) (fine_push before t ss) m)) in
      let q : g' ≡ n.0 = (same_step _ _ (sym e ∙ n.1)).1 in
      subst (λ (x : Grammar). Matches x ss) (sym q) n.2;
}

whole_at : {all g : Grammar} (before : List TokenKind) → Reaches all before g → Matches g [] → IsSentence all before
whole_at {all} before r m = subst (λ (x : List TokenWithFault). Matches all x) (append-nil _) (r.to [] m)

at_whole : {all g : Grammar} (before : List TokenKind) → Reaches all before g → IsSentence all before → Matches g []
at_whole {all} before r m = r.back [] (subst (λ (x : List TokenWithFault). Matches all x) (sym (append-nil _)) m)

map_push : (ts : List tokens.Token) (t : tokens.Token) → map (λ x. x.kind) (ts ++ t ∷ []) ≡ map (λ x. x.kind) ts ++ t.kind ∷ []
map_push [] t = refl
map_push (x ∷ ts) t = ap (λ ks. x.kind ∷ ks) (map_push ts t)

begins_at : {all g : Grammar} (before : List TokenKind) → Reaches all before g → IsSound g → IsViablePrefix all before
begins_at {all} {g} before r h = let s = sentence g h in (s.0, r.to s.0 s.1)

-- at one token that leads nowhere, or to a wrong item
wrong_none : {all g : Grammar} (before : List TokenKind) (end : ℕ) (t : tokens.Token) (ts : List tokens.Token) (f : Fault) → Reaches all before g → IsSound g → step g t.kind ≡ None → Some ((if can_end g then codes.Trailing else codes.Expected), t.start) ≡ Some f → IsWrongHere all before end (t ∷ ts) f
wrong_none {all} {g} before end t ts f r h e q = go (can_end g) refl q
  where
    no : (wrong : Option Code) → CanFollow all before t.kind wrong → ⊥
    no wrong o = let n = step_of g h (r.back _ o.1) in let z : ◌≡◌ {A = Option (Option Code × Grammar)} None (Some (wrong, n.0)) = sym e ∙ n.1 in cc

    go : (b : Bool) → can_end g ≡ b → Some ((if b then codes.Trailing else codes.Expected), t.start) ≡ Some f → IsWrongHere all before end (t ∷ ts) f
    go true e q = let p : (codes.Trailing, t.start) ≡ f = cc in subst (IsWrongHere all before end (t ∷ ts)) p ((whole_at before r (can_end_yes g e), no), refl)
    go false e q = let p : (codes.Expected, t.start) ≡ f = cc in subst (IsWrongHere all before end (t ∷ ts)) p (((λ w. let z : can_end g ≡ true = can_end_no (at_whole before r w) in cc), no), refl)

wrong_mark : (b c : Bool) (code : Code) → (if b then Some codes.Duplicate else if c then Some codes.TooMany else None) ≡ Some code → (code ≡ codes.Duplicate) ⊎ (code ≡ codes.TooMany)
wrong_mark true c code e = inl (cc)
wrong_mark false true code e = inr (cc)
wrong_mark false false code e = cc

wrong_code : (code : Code) (b : Bool) (n l : ℕ) → repeated_or_too_many b n l ≡ Some code → (code ≡ codes.Duplicate) ⊎ (code ≡ codes.TooMany)
unfolding repeated_or_too_many
wrong_code code b n l e = wrong_mark b (nat_le l n) code e

wrong_step : (g : Grammar) (t : TokenKind) (code : Code) (g' : Grammar) → step g t ≡ Some (Some code, g') → (code ≡ codes.Duplicate) ⊎ (code ≡ codes.TooMany)
wrong_step End t code g' e = cc
wrong_step (One c g) t code g' e = elim (choose (fits c t) e) [ inl p ↦ let z : None ≡ Some code = (same_step _ _ p.1).0 in cc | inr p ↦ cc ]
wrong_step (Case c a b) t code g' e = elim (choose (fits c t) e) [ inl p ↦ let z : None ≡ Some code = (same_step _ _ p.1).0 in cc | inr p ↦ wrong_step b t code g' p.1 ]
wrong_step (Items r s i g) t code g' e = wrong_code code _ _ _ (unmark (enter i (More r (s ++ t ∷ []) i g) t) e).1
wrong_step (More r s i g) t code g' e = elim (choose (fits r.separator t) e) [ inl p ↦ let z : None ≡ Some code = (same_step _ _ p.1).0 in cc | inr p ↦ wrong_step g t code g' p.1 ]

wrong_some : {all g : Grammar} (before : List TokenKind) (end : ℕ) (t : tokens.Token) (ts : List tokens.Token) (code : Code) (g' : Grammar) → Reaches all before g → IsSound g → step g t.kind ≡ Some (Some code, g') → IsWrongHere all before end (t ∷ ts) (code, t.start)
wrong_some {all} {g} before end t ts code g' r h e =
    let s = sentence g' (sound_step g t.kind h e) in
    let o : CanFollow all before t.kind (Some code) = (s.0, r.to _ (step_back g e s.1)) in
    elim (wrong_step g t.kind code g' e) [
      | inl p ↦ subst (λ (x : Code). IsWrongHere all before end (t ∷ ts) (x, t.start)) (sym p) (subst (λ (x : Code). CanFollow all before t.kind (Some x)) p o, refl)
      | inr p ↦ subst (λ (x : Code). IsWrongHere all before end (t ∷ ts) (x, t.start)) (sym p) (subst (λ (x : Code). CanFollow all before t.kind (Some x)) p o, refl)
    ]

left_fault : (all : Grammar) (end : ℕ) (line : List tokens.Token) (ts before : List tokens.Token) (g : Grammar) (f : Fault) → line ≡ before ++ ts → Reaches all (map (λ x. x.kind) before) g → IsSound g → first_fault end g ts ≡ Some f → IsFault all end line f
left_fault all end line [] before g f split r h e = elim (choose (can_end g) (sym (first_fault_nil end g) ∙ e)) [
  | inl p ↦ cc
  | inr p ↦ record {
    before = before;
    rest = [];
    split = split;
    begins = begins_at _ r h;
    wrong = (λ w. let z : can_end g ≡ true = can_end_no (at_whole _ r w) in cc, let q : (codes.Expected, end) ≡ f = cc in sym q);
  }
]
left_fault all end line (t ∷ ts) before g f split r h e =
    go (step g t.kind) refl (λ g' q. left_fault all end line ts (before ++ t ∷ []) g' f (split ∙ sym (append_assoc before (t ∷ []) ts))
    (subst (λ (ks : List TokenKind). Reaches all ks g') (sym (map_push before t)) (reaches_step _ t.kind r h q)) (sound_step g t.kind h q) (sym (first_fault_some end g t ts None g' q) ∙ e))
  where
    go : (st : Option (Option Code × Grammar)) → step g t.kind ≡ st → ((g' : Grammar) → step g t.kind ≡ Some (None, g') → IsFault all end line f) → IsFault all end line f
    go None q k = record { before = before; rest = t ∷ ts; split = split; begins = begins_at _ r h; wrong = wrong_none _ end t ts f r h q (sym (first_fault_none end g t ts q) ∙ e) }
    go (Some (None, g')) q k = k g' q
    go (Some (Some code, g')) q k =
        let p : (code, t.start) ≡ f = let z : Some (code, t.start) ≡ Some f = sym (first_fault_some end g t ts (Some code) g' q) ∙ e in cc in
        record { before = before; rest = t ∷ ts; split = split; begins = begins_at _ r h; wrong = subst (IsWrongHere all _ end (t ∷ ts)) p (wrong_some _ end t ts code g' r h q) }

left_whole : (all : Grammar) (end : ℕ) (ts before : List tokens.Token) (g : Grammar) → Reaches all (map (λ x. x.kind) before) g → IsSound g → first_fault end g ts ≡ None → IsSentence all (map (λ x. x.kind) (before ++ ts))
left_whole all end [] before g r h e = elim (choose (can_end g) (sym (first_fault_nil end g) ∙ e)) [
  | inl p ↦ subst (λ (x : List tokens.Token). IsSentence all (map (λ t. t.kind) x)) (sym (append-nil before)) (whole_at _ r (can_end_yes g p.0))
  | inr p ↦ cc
]
left_whole all end (t ∷ ts) before g r h e =
    go (step g t.kind) refl (λ g' q. subst (λ (x : List tokens.Token). IsSentence all (map (λ t. t.kind) x)) (append_assoc before (t ∷ []) ts) (left_whole all end ts (before ++ t ∷ []) g'
    (subst (λ (ks : List TokenKind). Reaches all ks g') (sym (map_push before t)) (reaches_step _ t.kind r h q)) (sound_step g t.kind h q) (sym (first_fault_some end g t ts None g' q) ∙ e)))
  where
    go : (st : Option (Option Code × Grammar)) → step g t.kind ≡ st → ((g' : Grammar) → step g t.kind ≡ Some (None, g') → IsSentence all (map (λ x. x.kind) (before ++ t ∷ ts))) → IsSentence all (map (λ x. x.kind) (before ++ t ∷ ts))
    go None q k = let z = sym (first_fault_none end g t ts q) ∙ e in cc
    go (Some (None, g')) q k = k g' q
    go (Some (Some code, g')) q k = let z = sym (first_fault_some end g t ts (Some code) g' q) ∙ e in cc

reaches_start : (all : Grammar) → Reaches all [] all
reaches_start all = record { to = λ ss m. m; back = λ ss m. m }

-- what is found is the leftmost fault, or there is none
pub fault_from_first_fault : (all : Grammar) (end : ℕ) (ts : List tokens.Token) (f : Fault) → IsSound all → first_fault end all ts ≡ Some f → IsFault all end ts f
fault_from_first_fault all end ts f h e = left_fault all end ts ts [] all f refl (reaches_start all) h e

pub whole_from_first_fault : (all : Grammar) (end : ℕ) (ts : List tokens.Token) → IsSound all → first_fault end all ts ≡ None → IsSentence all (map (λ x. x.kind) ts)
whole_from_first_fault all end ts h e = left_whole all end ts [] all (reaches_start all) h e

-- ---- and back: a whole sentence has no fault, and no line has two
pub first_fault_from_whole : (g : Grammar) (end : ℕ) (ts : List tokens.Token) → IsSound g → Matches g (map faultless (map (λ t. t.kind) ts)) → first_fault end g ts ≡ None
first_fault_from_whole g end [] h m = first_fault_nil end g ∙ ap (λ b. if b then None else Some (codes.Expected, end)) (can_end_no m)
first_fault_from_whole g end (t ∷ ts) h m =
    let n = step_of g h m in
    first_fault_some end g t ts None n.0 n.1 ∙ first_fault_from_whole n.0 end ts (sound_step g t.kind h n.1) n.2

pub record Run (all g : Grammar) (end : ℕ) (done before rest : List tokens.Token) : Type 0 where
  pub left : Grammar
  pub sound : IsSound left
  pub reaches : Reaches all (map (λ t. t.kind) (done ++ before)) left
  pub fault_left : first_fault end g (before ++ rest) ≡ first_fault end left rest

run : (all g : Grammar) (end : ℕ) (past before rest : List tokens.Token) (ss : List TokenWithFault) → IsSound g → Reaches all (map (λ t. t.kind) past) g → Matches g (map faultless (map (λ t. t.kind) before) ++ ss) → Run all g end past before rest
run all g end past [] rest ss h r m = record { left = g; sound = h; reaches = subst (λ (x : List tokens.Token). Reaches all (map (λ t. t.kind) x) g) (sym (append-nil past)) r; fault_left = refl }
run all g end past (t ∷ before) rest ss h r m =
    let n = step_of g h m in
    let more = run all n.0 end (past ++ t ∷ []) before rest ss (sound_step g t.kind h n.1) (subst (λ (ks : List TokenKind). Reaches all ks n.0) (sym (map_push past t)) (reaches_step _ t.kind r h n.1)) n.2 in
    record { left = more.left; sound = more.sound; reaches = subst (λ (x : List tokens.Token). Reaches all (map (λ t. t.kind) x) more.left) (append_assoc past (t ∷ []) before) more.reaches; fault_left = first_fault_some end g t (before ++ rest) None n.0 n.1 ∙ more.fault_left }

stuck : {all g : Grammar} (before : List TokenKind) (t : TokenKind) → Reaches all before g → IsSound g → ((wrong : Option Code) → CanFollow all before t wrong → ⊥) → step g t ≡ None
stuck {all} {g} before t r h nowhere = go (step g t) refl
  where
    go : (st : Option (Option Code × Grammar)) → step g t ≡ st → st ≡ None
    go None e = refl
    go (Some p) e = let s = sentence p.1 (sound_step g t h e) in absurd (nowhere p.0 (s.0, r.to _ (step_back g e s.1)))

ends_or_not : {all g : Grammar} (before : List TokenKind) → Reaches all before g → (IsSentence all before → ⊥) → can_end g ≡ false
ends_or_not {all} {g} before r nowhere = go (can_end g) refl
  where
    go : (b : Bool) → can_end g ≡ b → b ≡ false
    go true e = absurd (nowhere (whole_at before r (can_end_yes g e)))
    go false e = refl

first_fault_here : (all g : Grammar) (end : ℕ) (before : List TokenKind) (rest : List tokens.Token) (f : Fault) → IsSound g → Reaches all before g → IsWrongHere all before end rest f → first_fault end g rest ≡ Some f
first_fault_here all g end before [] f h r w = first_fault_nil end g ∙ ap (λ b. if b then None else Some (codes.Expected, end)) (ends_or_not before r w.0) ∙ ap (λ (x : Fault). Some x) (sym w.1)
first_fault_here all g end before (t ∷ ts) (code, offset) h r w = go code w.0 ∙ ap (λ (n : ℕ). Some (code, n)) (sym w.1)
  where
    marked_so : (c : Code) → CanFollow all before t.kind (Some c) → first_fault end g (t ∷ ts) ≡ Some (c, t.start)
    marked_so c o = let n = step_of g h (r.back _ o.1) in first_fault_some end g t ts (Some c) n.0 n.1

    go : (c : Code) → IsWrongAt all before t.kind c → first_fault end g (t ∷ ts) ≡ Some (c, t.start)
    go codes.Trailing a = first_fault_none end g t ts (stuck before t.kind r h a.1) ∙ ap (λ b. Some ((if b then codes.Trailing else codes.Expected), t.start)) (can_end_no (at_whole before r a.0))
    go codes.Expected a = first_fault_none end g t ts (stuck before t.kind r h a.1) ∙ ap (λ b. Some ((if b then codes.Trailing else codes.Expected), t.start)) (ends_or_not before r a.0)
    go codes.Duplicate a = marked_so codes.Duplicate a
    go codes.TooMany a = marked_so codes.TooMany a
    go _ a = absurd a

pub first_fault_from_fault : (all : Grammar) (end : ℕ) (ts : List tokens.Token) (f : Fault) → IsSound all → IsFault all end ts f → first_fault end all ts ≡ Some f
first_fault_from_fault all end ts f h w =
    let n = run all all end [] w.before w.rest w.begins.0 h (reaches_start all) w.begins.1 in
    ap (λ (x : List tokens.Token). first_fault end all x) w.split ∙ n.fault_left ∙ first_fault_here all n.left end _ w.rest f n.sound n.reaches w.wrong

-- a line has one fault, and a whole one has none
pub one_fault : (all : Grammar) (end : ℕ) (ts : List tokens.Token) (f g : Fault) → IsSound all → IsFault all end ts f → IsFault all end ts g → f ≡ g
one_fault all end ts f g h v w = let e : Some f ≡ Some g = sym (first_fault_from_fault all end ts f h v) ∙ first_fault_from_fault all end ts g h w in cc

-- the whole language's grammar
pub sound : IsSound statement
sound = search rules
