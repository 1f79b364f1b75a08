-- What is wrong with the items of a list.
use Rattle.std.proofs.Common.{◌≡◌, ℕ, ◌<◌, ◌+◌, suc, length, arith, length-append, append_assoc, true, false, All, List, [], ◌∷◌, ◌++◌, ◌&&◌, map, drop, Option, Some, None, Result, Err, if◌then◌else◌, ap, sym, subst, ◌∙◌, refl}
use Rattle.std.proofs.lemmas.Grind.{flat_map-append}
use Rattle.std.proofs.lemmas.List.{append-nil, length-map}
use Rattle.std.proofs.lemmas.List.Elements.{All-nil, All-cons, All-append}
use Rattle.std.specs.List.{list_any, flat_map}
use Rattle.lexer_core.specs.Lexing.{Lexeme, located}
use Rattle.lexer_core.specs.declared.token.TokenKind.{TokenKind}
use Rattle.lexer_core.specs.declared.token.Token as tokens
use Rattle.lexer_core.specs.declared.fault.ReadFault.{ReadFault}
use Rattle.lexer_core.specs.declared.fault.ReadFault.TheVariants as faults
use Rattle.lexer_core.specs.declared.fault.Code.{Code}
use Rattle.lexer_core.specs.declared.fault.Code.TheVariants as codes
use Rattle.reader_core.specs.Grammar.{Grammar, Class, Rule, Items, More, One, Case, fits, item_fault, followed_by, same, repeated_or_too_many}
use Rattle.reader_core.specs.Recogniser.{first_fault, with_fault, step, can_end, AreFaultless}
use Rattle.reader_core.specs.Cursor.{Cursor, Takes, Faults, fault_of, fault_left, left_says, next_kind, next_lexeme, next_is, offset_at}
use Rattle.reader_core.specs.Saying.{separated}
use Rattle.reader_core.proofs.Theory.{first_fault_nil, first_fault_none, first_fault_some}
use Rattle.reader_core.proofs.Taking.{says_taken, at_line}

step_item : (r : Rule) (s : List TokenKind) (c : Class) (i k : Grammar) (x y : TokenKind) (m : Option Code) → y ≡ x → fits c x ≡ true → item_fault r s x ≡ m → step (Items r s (One c i) k) y ≡ Some (m, followed_by i (More r (s ++ x ∷ []) (One c i) k))
step_item r s c i k x y m e f h =
    ap (λ z. step (Items r s (One c i) k) z) e
    ∙ ap (λ b. with_fault (item_fault r s x) (if b then Some (followed_by i (More r (s ++ x ∷ []) (One c i) k)) else None)) f
    ∙ ap (λ z. with_fault z (Some (followed_by i (More r (s ++ x ∷ []) (One c i) k)))) h

step_misfit : (r : Rule) (s : List TokenKind) (c : Class) (i k : Grammar) (y : TokenKind) → fits c y ≡ false → step (Items r s (One c i) k) y ≡ None
step_misfit r s c i k y f = ap (λ b. with_fault (item_fault r s y) (if b then Some (followed_by i (More r (s ++ y ∷ []) (One c i) k)) else None)) f

-- ---- the first token of an item
module _ (at : Cursor) (r : Rule) (s : List TokenKind) (c : Class) (i k : Grammar) where
  pub item_bad : (x : TokenKind) (code : Code) → next_kind at ≡ Some x → fits c x ≡ true → item_fault r s x ≡ Some code → fault_left (Items r s (One c i) k) at ≡ Some (code, offset_at at)
  item_bad x code is f m = go at.rest is
    where
      go : (ts : List tokens.Token) → next_kind (at_line at.line ts) ≡ Some x → fault_left (Items r s (One c i) k) (at_line at.line ts) ≡ Some (code, offset_at (at_line at.line ts))
      go [] e = cc
      go (t ∷ ts) e = first_fault_some (length at.line) _ t ts (Some code) _ (step_item r s c i k x t.kind (Some code) (cc) f m)

  pub item_misfit : next_is c at ≡ false → fault_left (Items r s (One c i) k) at ≡ Some (codes.Expected, offset_at at)
  item_misfit is = go at.rest is
    where
      go : (ts : List tokens.Token) → next_is c (at_line at.line ts) ≡ false → fault_left (Items r s (One c i) k) (at_line at.line ts) ≡ Some (codes.Expected, offset_at (at_line at.line ts))
      go [] e = first_fault_nil (length at.line) (Items r s (One c i) k)
      go (t ∷ ts) e = first_fault_none (length at.line) _ t ts (step_misfit r s c i k t.kind e)

pub item_misfit_at : (old : Cursor) (r : Rule) (s : List TokenKind) (c : Class) (i : Grammar) (e : ReadFault) → e ≡ faults.At codes.Expected (offset_at old) → next_is c old ≡ false → Faults (λ k. Items r s (One c i) k) e old
item_misfit_at old r s c i e same h = record { fault = λ ne k. item_misfit old r s c i k h ∙ sym (ap fault_of same) }

-- an item past the limit, where items may repeat
pub item_bad_at : (old : Cursor) (r : Rule) (s : List TokenKind) (c : Class) (i : Grammar) (code : Code) (e : ReadFault) → r.distinct ≡ false → next_is c old ≡ true → repeated_or_too_many false (length s) r.limit ≡ Some code → e ≡ faults.At code (offset_at old) → Faults (λ k. Items r s (One c i) k) e old
item_bad_at old r s c i code e any is m fault = record { fault = λ ne k. go k old.rest is ∙ sym (ap fault_of fault) }
  where
    at_any : (t : TokenKind) → item_fault r s t ≡ Some code
    at_any t = ap (λ b. repeated_or_too_many (b && list_any (λ x. same x t) s) (length s) r.limit) any ∙ m

    go : (k : Grammar) (ts : List tokens.Token) → next_is c (at_line old.line ts) ≡ true → fault_left (Items r s (One c i) k) (at_line old.line ts) ≡ Some (code, offset_at (at_line old.line ts))
    go k [] e = cc
    go k (t ∷ ts) e = first_fault_some (length old.line) _ t ts (Some code) _ (step_item r s c i k t.kind t.kind (Some code) refl e (at_any t.kind))

-- a look at the next token that found none of the class
pub item_misfit_so : {V : Type 0} (old : Cursor) (r : Rule) (s : List TokenKind) (c : Class) (i : Grammar) (e : ReadFault) → ◌≡◌ {A = Result V ReadFault} (Err e) (Err (faults.At codes.Expected (offset_at old))) × (next_is c old ≡ false) → Faults (λ k. Items r s (One c i) k) e old
item_misfit_so old r s c i e h = let p = h.0 in let same : e ≡ faults.At codes.Expected (offset_at old) = cc in item_misfit_at old r s c i e same h.1

-- the token that begins an item is taken
pub item_taken : {old new : Cursor} (r : Rule) (s : List TokenKind) (c : Class) (i : Grammar) (x : TokenKind) (l : Lexeme) → next_kind old ≡ Some x → next_lexeme old ≡ Some l → fits c x ≡ true → item_fault r s x ≡ None → new.rest ≡ drop 1 old.rest → new.line ≡ old.line → Takes (λ k. Items r s (One c i) k) (λ k. followed_by i (More r (s ++ x ∷ []) (One c i) k)) (l ∷ []) old new
item_taken {old} {new} r s c i x l is says f m rest line = record {
  says = says_taken old new l says rest line;
  line = line;
  fault = λ k. go k old.rest is ∙ ap (λ (ts : List tokens.Token). first_fault (length old.line) (followed_by i (More r (s ++ x ∷ []) (One c i) k)) ts) (sym rest) ∙ ap (λ (b : List ℕ). first_fault (length b) (followed_by i (More r (s ++ x ∷ []) (One c i) k)) new.rest) (sym line);
}
  where
    go : (k : Grammar) (ts : List tokens.Token) → next_kind (at_line old.line ts) ≡ Some x → first_fault (length old.line) (Items r s (One c i) k) ts ≡ first_fault (length old.line) (followed_by i (More r (s ++ x ∷ []) (One c i) k)) (drop 1 ts)
    go k [] e = cc
    go k (t ∷ ts) e = first_fault_some (length old.line) _ t ts None _ (step_item r s c i k x t.kind None (cc) f m)

-- ---- behind an item
more_on : (end : ℕ) (line : List ℕ) (ts : List tokens.Token) (r : Rule) (s : List TokenKind) (i k : Grammar) → next_is r.separator (at_line line ts) ≡ true → first_fault end (More r s i k) ts ≡ first_fault end (Items r s i k) (drop 1 ts)
more_on end line [] r s i k e = cc
more_on end line (t ∷ ts) r s i k e = first_fault_some end _ t ts None (Items r s i k) (ap (λ b. if b then Some (None, Items r s i k) else step k t.kind) e)

more_done : (end : ℕ) (line : List ℕ) (ts : List tokens.Token) (r : Rule) (s : List TokenKind) (i k : Grammar) → next_is r.separator (at_line line ts) ≡ false → first_fault end (More r s i k) ts ≡ first_fault end k ts
unfolding first_fault
more_done end line [] r s i k e = refl
more_done end line (t ∷ ts) r s i k e = ap (λ b. elim (if b then Some (None, Items r s i k) else step k t.kind) [ None ↦ Some ((if can_end k then codes.Trailing else codes.Expected), t.start) | Some s ↦ elim s.0 [ None ↦ first_fault end s.1 ts | Some code ↦ Some (code, t.start) ] ]) e

-- the items, each behind a separator
abbrev pub behind_each : {A : Type 0} → Lexeme → (A → List Lexeme) → List A → List Lexeme
behind_each separator says xs = flat_map (λ y. separator ∷ says y) xs

each_push : {A : Type 0} (separator : Lexeme) (says : A → List Lexeme) (xs : List A) (x : A) (r : List Lexeme) → behind_each separator says (xs ++ x ∷ []) ++ r ≡ behind_each separator says xs ++ separator ∷ (says x ++ r)
each_push separator says xs x r = simp (flat_map-append, append_assoc)

each_listed : {A : Type 0} (separator : Lexeme) (says : A → List Lexeme) (xs : List A) (x : A) → behind_each separator says (xs ++ x ∷ []) ≡ separator ∷ separated separator says (xs ++ x ∷ [])
each_listed separator says [] x = refl
each_listed separator says (y ∷ ys) x = refl

-- A list in the midst, before an item.
pub record SoFar {A : Type 0} (r : Rule) (separator : Lexeme) (i : Grammar) (first : A → TokenKind) (says : A → List Lexeme) (IsItem : A → Type 0) (xs : List A) (old here : Cursor) : Type 0 where
  pub line : here.line ≡ old.line
  pub fault : (k : Grammar) → fault_left (Items r [] i k) old ≡ fault_left (Items r (map first xs) i k) here
  pub said : separator ∷ left_says old ≡ behind_each separator says xs ++ separator ∷ left_says here
  pub faultless : AreFaultless r [] (map first xs)
  pub well_formed : All IsItem xs

-- faultless items, with one more
fine_push : (r : Rule) (seen ks : List TokenKind) (k : TokenKind) → AreFaultless r seen ks → item_fault r (seen ++ ks) k ≡ None → AreFaultless r seen (ks ++ k ∷ [])
fine_push r seen [] k h m = (subst (λ (s : List TokenKind). item_fault r s k ≡ None) (append-nil seen) m, tt)
fine_push r seen (j ∷ ks) k h m = (h.0, fine_push r (seen ++ j ∷ []) ks k h.1 (subst (λ (s : List TokenKind). item_fault r s k ≡ None) (sym (append_assoc seen (j ∷ []) ks)) m))

pub firsts_push : {A : Type 0} (first : A → TokenKind) (xs : List A) (x : A) → map first (xs ++ x ∷ []) ≡ map first xs ++ first x ∷ []
firsts_push first [] x = refl
firsts_push first (y ∷ xs) x = ap (λ zs. first y ∷ zs) (firsts_push first xs x)

pub firsts_length : {A : Type 0} (first : A → TokenKind) (xs : List A) → length (map first xs) ≡ length xs
firsts_length first [] = refl
firsts_length first (x ∷ xs) = ap suc (firsts_length first xs)

pub nothing_yet : {A : Type 0} (r : Rule) (separator : Lexeme) (i : Grammar) (first : A → TokenKind) (says : A → List Lexeme) (IsItem : A → Type 0) (xs : List A) (here : Cursor) → xs ≡ [] → SoFar r separator i first says IsItem xs here here
nothing_yet {A} r separator i first says IsItem xs here e = subst (λ (ys : List A). SoFar r separator i first says IsItem ys here here) (sym e) (record { line = refl; fault = λ k. refl; said = refl; faultless = tt; well_formed = All-nil IsItem })

module _ {A : Type 0} {r : Rule} {separator : Lexeme} {i : Grammar} {first : A → TokenKind} {says : A → List Lexeme} {IsItem : A → Type 0} {xs : List A} {old here mid : Cursor} (x : A)
    (so_far : SoFar r separator i first says IsItem xs old here) (t : Takes (λ k. Items r (map first xs) i k) (λ k. More r (map first (xs ++ x ∷ [])) i k) (says x) here mid) (m : item_fault r (map first xs) (first x) ≡ None) (is_item : IsItem x) where
  pub lawful_on : All IsItem (xs ++ x ∷ [])
  lawful_on = All-append IsItem xs (x ∷ []) so_far.well_formed (All-cons IsItem x [] is_item (All-nil IsItem))

  pub faultless_on : AreFaultless r [] (map first (xs ++ x ∷ []))
  faultless_on = subst (AreFaultless r []) (sym (firsts_push first xs x)) (fine_push r [] (map first xs) (first x) so_far.faultless m)

  pub list_on : (new : Cursor) → next_is r.separator mid ≡ true → next_lexeme mid ≡ Some separator → new.rest ≡ drop 1 mid.rest → new.line ≡ mid.line → SoFar r separator i first says IsItem (xs ++ x ∷ []) old new
  list_on new is located rest line =
      let said = says_taken mid new separator located rest line in
      record {
        line = line ∙ t.line ∙ so_far.line;
        fault = λ k. so_far.fault k ∙ t.fault k ∙ more_on (length mid.line) mid.line mid.rest r (map first (xs ++ x ∷ [])) i k is
            ∙ ap (λ (ts : List tokens.Token). first_fault (length mid.line) (Items r (map first (xs ++ x ∷ [])) i k) ts) (sym rest)
            ∙ ap (λ (b : List ℕ). first_fault (length b) (Items r (map first (xs ++ x ∷ [])) i k) new.rest) (sym line);
        said = so_far.said ∙ ap (λ z. behind_each separator says xs ++ separator ∷ z) (t.says ∙ ap (λ z. says x ++ z) said) ∙ sym (each_push separator says xs x (separator ∷ left_says new));
        faultless = faultless_on;
        well_formed = lawful_on;
      }

  pub list_done : next_is r.separator mid ≡ false → Takes (λ k. Items r [] i k) (λ k. k) (separated separator says (xs ++ x ∷ [])) old mid
  list_done is = record {
    line = t.line ∙ so_far.line;
    fault = λ k. so_far.fault k ∙ t.fault k ∙ more_done (length mid.line) mid.line mid.rest r (map first (xs ++ x ∷ [])) i k is;
    says =
        let e : separator ∷ left_says old ≡ separator ∷ (separated separator says (xs ++ x ∷ []) ++ left_says mid) = so_far.said ∙ ap (λ z. behind_each separator says xs ++ separator ∷ z) t.says ∙ sym (each_push separator says xs x (left_says mid)) ∙ ap (λ z. z ++ left_says mid) (each_listed separator says xs x) in
        cc;
  }

-- a list goes on behind fewer tokens
pub shorter : (old mid new : Cursor) (c : Class) (said : List Lexeme) → left_says old ≡ said ++ left_says mid → next_is c mid ≡ true → new.rest ≡ drop 1 mid.rest → length new.rest < length old.rest
shorter old mid new c said e is rest =
    let count : length old.rest ≡ length said + length mid.rest = sym (length-map old.rest (λ t. (located old.line t).lexeme)) ∙ ap length e ∙ length-append said (left_says mid) ∙ ap (λ n. length said + n) (length-map mid.rest (λ t. (located mid.line t).lexeme)) in
    let less : length (drop 1 mid.rest) < length mid.rest = go mid.rest is in
    let same : length new.rest ≡ length (drop 1 mid.rest) = ap length rest in
    omega arith
  where
    go : (ts : List tokens.Token) → next_is c (at_line mid.line ts) ≡ true → length (drop 1 ts) < length ts
    go [] e = cc
    go (t ∷ ts) e = omega arith

-- ---- choices
pub case_yes : (at : Cursor) (c : Class) (a b : Grammar) → next_is c at ≡ true → fault_left (Case c a b) at ≡ fault_left (One c a) at
case_yes at c a b is = go at.rest is
  where
    go : (ts : List tokens.Token) → next_is c (at_line at.line ts) ≡ true → first_fault (length at.line) (Case c a b) ts ≡ first_fault (length at.line) (One c a) ts
    go [] e = cc
    go (t ∷ ts) e = first_fault_some (length at.line) _ t ts None a (ap (λ x. if x then Some (None, a) else step b t.kind) e) ∙ sym (first_fault_some (length at.line) _ t ts None a (ap (λ x. if x then Some (None, a) else None) e))

pub case_no : (at : Cursor) (c : Class) (a b : Grammar) → next_is c at ≡ false → fault_left (Case c a b) at ≡ fault_left b at
unfolding first_fault
case_no at c a b is = go at.rest is
  where
    go : (ts : List tokens.Token) → next_is c (at_line at.line ts) ≡ false → first_fault (length at.line) (Case c a b) ts ≡ first_fault (length at.line) b ts
    go [] e = refl
    go (t ∷ ts) e = ap (λ x. elim (if x then Some (None, a) else step b t.kind) [ None ↦ Some ((if can_end b then codes.Trailing else codes.Expected), t.start) | Some s ↦ elim s.0 [ None ↦ first_fault (length at.line) s.1 ts | Some code ↦ Some (code, t.start) ] ]) e

-- names that stand earlier
pub any_first : {A : Type 0} (first : A → TokenKind) (xs : List A) (t : TokenKind) → list_any (λ x. same x t) (map first xs) ≡ list_any (λ x. same (first x) t) xs
any_first first [] t = refl
any_first first (x ∷ xs) t = rw (any_first first xs t) refl
