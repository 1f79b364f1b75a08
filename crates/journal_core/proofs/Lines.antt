-- The text of a journal, line by line.
use Rattle.std.proofs.Common.{◌≡◌, ℕ, ◌+◌, ◌<◌, List, [], ◌∷◌, ◌++◌, Option, get_or, length, take, drop, zero, suc, sym, ap, subst, ◌∙◌, append-nil, arith}
use Rattle.std.specs.List.{AllByRecursion, flat_map}
use Rattle.std.specs.Io.KnownBytes.{Appends}
use Rattle.std.proofs.KnownBytes.{Appends-trans}
use Rattle.std.proofs.lemmas.List.{map-append, take_more, drop_more, take-append-drop}
use Rattle.std.proofs.lemmas.List.Concat.{flat_map-append}
use Rattle.base_core.specs.Streams.{WritesFront}
use Rattle.printer_core.specs.Printing.{journal_line}
use Rattle.system_core.specs.declared.machine.event.Entry.{Entry}
use Rattle.journal_core.specs.Text.{entry_text, journal_lines, journal_text}
use Rattle.base_core.proofs.Fronts.{front-first, front-second}

pub text-append : (xs ys : List Entry) → journal_text (xs ++ ys) ≡ journal_text xs ++ journal_text ys
text-append xs ys =
    let line : Entry → List ℕ = λ e. journal_line e.user e.statement in
    let ended : List ℕ → List ℕ = λ line. line ++ 10 ∷ [] in
    ap (flat_map ended) (map-append line xs ys) ∙ flat_map-append ended (journal_lines xs) (journal_lines ys)

pub text-one : (e : Entry) → journal_text (e ∷ []) ≡ entry_text e
text-one e = append-nil (entry_text e)

-- ---- the entry at a place
pub at-place : {X : Type 0} (P : X → Type 0) (xs : List X) (i : ℕ) (d : X) → i < length xs → AllByRecursion P xs → P (get_or xs i d)
at-place P [] i d within all = absurd (omega arith)
at-place P (x ∷ xs) zero d within all = all.0
at-place P (x ∷ xs) (suc i) d within all = at-place P xs i d (omega arith) all.1

module _ (xs : List Entry) (i : ℕ) (e : Entry) (within : i < length xs) (is : e ≡ get_or xs i e) where
  with_it : take (i + 1) xs ≡ take i xs ++ e ∷ []
  with_it = take_more xs i e within ∙ ap (λ (x : Entry). take i xs ++ x ∷ []) (sym is)

  all_by : xs ≡ take i xs ++ e ∷ drop (i + 1) xs
  all_by = sym (take-append-drop i xs) ∙ ap (λ (ys : List Entry). take i xs ++ ys) (drop_more xs i e within ∙ ap (λ (x : Entry). x ∷ drop (i + 1) xs) (sym is))

  module _ (a b c : Option (List ℕ)) (before : Appends a b (journal_text (take i xs))) where
    pub line-more : Appends b c (entry_text e) → Appends a c (journal_text (take (i + 1) xs))
    line-more w =
        let text : journal_text (take (i + 1) xs) ≡ journal_text (take i xs) ++ entry_text e = ap journal_text with_it ∙ text-append (take i xs) (e ∷ []) ∙ ap (λ (t : List ℕ). journal_text (take i xs) ++ t) (text-one e) in
        subst (λ (t : List ℕ). Appends a c t) (sym text) (Appends-trans a b c (journal_text (take i xs)) (entry_text e) before w)

    pub line-broken : WritesFront b c (entry_text e) → WritesFront a c (journal_text xs)
    line-broken w =
        let rest = drop (i + 1) xs in
        let text : journal_text xs ≡ journal_text (take i xs) ++ (entry_text e ++ journal_text rest) = ap journal_text all_by ∙ text-append (take i xs) (e ∷ rest) in
        subst (λ (t : List ℕ). WritesFront a c t) (sym text)
        (front-second a b c (journal_text (take i xs)) (entry_text e ++ journal_text rest) before (front-first b c (entry_text e) (journal_text rest) w))
