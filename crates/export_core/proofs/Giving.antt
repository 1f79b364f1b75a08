-- Records given, some and then more.
use Rattle.std.proofs.Common.{◌≡◌, ℕ, ◌+◌, ◌-◌, ◌≤◌, ◌<◌, length, List, [], ◌∷◌, ◌++◌, take, drop, Option, Some, None, refl, sym, ap, subst, ◌∙◌, arith, append-nil, append_assoc}
use Rattle.std.specs.List.{slice_get, concat}
use Rattle.std.specs.Io.KnownBytes.{Appends}
use Rattle.std.proofs.KnownBytes.{Appends-nil, Appends-trans}
use Rattle.std.proofs.lemmas.List.{take-append-drop, take-take, drop-take, drop-drop, length-drop}
use Rattle.std.proofs.lemmas.List.Folds.{concat-append}
use Rattle.std.proofs.lemmas.Option.{none-some, slice_get_within}
use Rattle.base_core.specs.Streams.{WritesFront}
use Rattle.export_core.specs.declared.fault.ExportFault.{ExportFault}
use Rattle.export_core.specs.declared.fault.ExportFault.TheVariants as faults
use Rattle.export_core.specs.Ticket.{TicketState, after_giving, finished, WritesRecords, BreaksRecord, Stops}
use Rattle.export_core.proofs.Places.{slice_get-drop}

some_length : {X : Type 0} (xs : List X) → (xs ≡ [] → ⊥) → 0 < length xs
some_length [] more = absurd (more refl)
some_length (x ∷ xs) more = omega arith

take-add : {X : Type 0} (n m : ℕ) (xs : List X) → take (n + m) xs ≡ take n xs ++ take m (drop n xs)
take-add n m xs =
    let below : n ≤ n + m = omega arith in
    sym (take-append-drop n (take (n + m) xs))
    ∙ ap (λ l. l ++ drop n (take (n + m) xs)) (take-take n (n + m) xs below)
    ∙ ap (λ l. take n xs ++ l) (drop-take n m xs)

-- an export with these records given and these to come
abbrev with_records : TicketState → List (List ℕ) → List (List ℕ) → TicketState
with_records e given to_come = record e { given = given; to_come = to_come }

same_records : (e : TicketState) (given to_come given' to_come' : List (List ℕ)) → given ≡ given' → to_come ≡ to_come' → with_records e given to_come ≡ with_records e given' to_come'
same_records e given to_come given' to_come' one other = ap (λ l. with_records e l to_come) one ∙ ap (λ l. with_records e given' l) other

pub giving_none : (e : TicketState) → after_giving 0 e ≡ e
giving_none e = same_records e (e.given ++ []) e.to_come e.given e.to_come (append-nil e.given) refl

pub giving_more : (n m : ℕ) (e : TicketState) → after_giving m (after_giving n e) ≡ after_giving (n + m) e
giving_more n m e =
    let xs = e.to_come in
    same_records e ((e.given ++ take n xs) ++ take m (drop n xs)) (drop m (drop n xs)) (e.given ++ take (n + m) xs) (drop (n + m) xs)
    (append_assoc e.given (take n xs) (take m (drop n xs)) ∙ ap (λ l. e.given ++ l) (sym (take-add n m xs)))
    (drop-drop m n xs)

pub giving_keeps : (n : ℕ) (e : TicketState) → (after_giving n e).given ++ (after_giving n e).to_come ≡ e.given ++ e.to_come
giving_keeps n e = append_assoc e.given (take n e.to_come) (drop n e.to_come) ∙ ap (λ l. e.given ++ l) (take-append-drop n e.to_come)

pub writes_none : (e : TicketState) (w : Option (List ℕ)) → WritesRecords 0 e e w w
writes_none e w = record { gave = sym (giving_none e); wrote = Appends-nil w }

module _ (n : ℕ) (a b : TicketState) (v w : Option (List ℕ)) (so_far : WritesRecords n a b v w) where
  rest : b.to_come ≡ drop n a.to_come
  rest = ap (λ e. e.to_come) so_far.gave

  front : (m : ℕ) → concat (take n a.to_come) ++ concat (take m b.to_come) ≡ concat (take (n + m) a.to_come)
  front m =
      ap (λ l. concat (take n a.to_come) ++ concat (take m l)) rest
      ∙ sym (concat-append (take n a.to_come) (take m (drop n a.to_come)))
      ∙ ap concat (sym (take-add n m a.to_come))

  gives : (m : ℕ) (c : TicketState) → c ≡ after_giving m b → c ≡ after_giving (n + m) a
  gives m c gave = gave ∙ ap (after_giving m) so_far.gave ∙ giving_more n m a

  pub writes_more : (m : ℕ) (c : TicketState) (x : Option (List ℕ)) → WritesRecords m b c w x → WritesRecords (n + m) a c v x
  writes_more m c x next = record {
    gave = gives m c next.gave;
    wrote = subst (Appends v x) (front m) (Appends-trans _ _ _ _ _ so_far.wrote next.wrote);
  }

  pub breaks_more : (m : ℕ) (c : TicketState) (x : Option (List ℕ)) → BreaksRecord m b c w x → BreaksRecord (n + m) a c v x
  breaks_more m c x next =
      let further : n + (m + 1) ≡ n + m + 1 = omega arith in
      record {
        front = next.front;
        unwritten = next.unwritten;
        broken = sym (slice_get-drop a.to_come n m) ∙ ap (λ l. slice_get l m) (sym rest) ∙ next.broken;
        gave = gives (m + 1) c next.gave ∙ ap (λ k. after_giving k a) further;
        wrote = subst (Appends v x) (sym (append_assoc (concat (take n a.to_come)) (concat (take m b.to_come)) next.front) ∙ ap (λ l. l ++ next.front) (front m)) (Appends-trans _ _ _ _ _ so_far.wrote next.wrote);
      }

  pub stops_more : (fault : ExportFault) (c : TicketState) (x : Option (List ℕ)) → Stops fault b c w x → Stops fault a c v x
  stops_more faults.NoMemory c x (m, below, next) =
      let left : length b.to_come ≡ length a.to_come - n = ap length rest ∙ length-drop n a.to_come in
      (n + m, omega (arith, below, left), writes_more m c x next)
  stops_more faults.Write c x (m, next) = (n + m, breaks_more m c x next)

  -- with nothing left, all was given and written
  all_given : b.to_come ≡ [] → take n a.to_come ≡ a.to_come
  all_given none = sym (append-nil (take n a.to_come)) ∙ ap (λ l. take n a.to_come ++ l) (sym (sym rest ∙ none)) ∙ take-append-drop n a.to_come

  pub gave_all : b.to_come ≡ [] → b ≡ finished a
  gave_all none =
      so_far.gave ∙ same_records a (a.given ++ take n a.to_come) (drop n a.to_come) (a.given ++ a.to_come) [] (ap (λ l. a.given ++ l) (all_given none)) (sym rest ∙ none)

  pub wrote_all : b.to_come ≡ [] → Appends v w (concat a.to_come)
  wrote_all none = subst (Appends v w) (ap concat (all_given none)) so_far.wrote

-- where some were given and more are to come, they are fewer than before
pub fewer_left : (n : ℕ) (a b : TicketState) → 0 < n → b ≡ after_giving n a → (b.to_come ≡ [] → ⊥) → length b.to_come < length a.to_come
fewer_left n a b some gave more =
    let left : length b.to_come ≡ length a.to_come - n = ap (λ (e : TicketState). length e.to_come) gave ∙ length-drop n a.to_come in
    let above : 0 < length b.to_come = some_length b.to_come more in
    omega (arith, left, above, some)

-- one step of the writing
first_one : (xs : List (List ℕ)) (line : List ℕ) → slice_get xs 0 ≡ Some line → take 1 xs ≡ line ∷ []
first_one [] line found = cc
first_one (x ∷ xs) line found =
    let same : x ≡ line = cc in
    ap (λ y. y ∷ []) same

pub none_left : (xs : List (List ℕ)) → slice_get xs 0 ≡ None → xs ≡ []
none_left [] none = refl
none_left (x ∷ xs) none = cc

pub writes_one : (old new : TicketState) (line : List ℕ) (v w : Option (List ℕ)) → slice_get old.to_come 0 ≡ Some line → new ≡ after_giving 1 old → Appends v w line → WritesRecords 1 old new v w
writes_one old new line v w found gave wrote = record {
  gave = gave;
  wrote = subst (Appends v w) (sym (ap concat (first_one old.to_come line found) ∙ append-nil line)) wrote;
}

pub writes_end : (old new : TicketState) (w : Option (List ℕ)) → slice_get old.to_come 0 ≡ None → new ≡ after_giving 1 old → WritesRecords 1 old new w w
writes_end old new w none gave = record {
  gave = gave;
  wrote = subst (Appends w w) (sym (ap (λ l. concat (take 1 l)) (none_left old.to_come none))) (Appends-nil w);
}

pub breaks_one : (old new : TicketState) (line : List ℕ) (v w : Option (List ℕ)) → slice_get old.to_come 0 ≡ Some line → new ≡ after_giving 1 old → WritesFront v w line → BreaksRecord 0 old new v w
breaks_one old new line v w found gave wrote = record {
  front = wrote.part;
  unwritten = wrote.unwritten;
  broken = found ∙ ap Some wrote.front;
  gave = gave;
  wrote = wrote.wrote;
}

pub gives_nothing : (e : TicketState) → slice_get e.to_come 0 ≡ None → e ≡ after_giving 1 e
gives_nothing e gone =
    let none = none_left e.to_come gone in
    same_records e e.given e.to_come (e.given ++ take 1 e.to_come) (drop 1 e.to_come)
    (sym (ap (λ l. e.given ++ take 1 l) none ∙ append-nil e.given))
    (none ∙ sym (ap (drop 1) none))

pub something_left : (xs : List (List ℕ)) (line : List ℕ) → slice_get xs 0 ≡ Some line → xs ≡ [] → ⊥
something_left xs line found none = none-some line (sym (ap (λ l. slice_get l 0) none) ∙ found)

-- where memory is refused for the next record
pub stops_here : (e : TicketState) (line : List ℕ) (w : Option (List ℕ)) → slice_get e.to_come 0 ≡ Some line → Stops faults.NoMemory e e w w
stops_here e line w found = (0, slice_get_within e.to_come 0 line found, writes_none e w)
