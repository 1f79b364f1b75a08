-- A text is cut at its places in one way.
use mathlib.Core.Logic.{⊎_elim}
use Rattle.std.proofs.Common.{◌≡◌, ℕ, ◌<◌, ◌≤◌, true, false, List, [], ◌∷◌, ◌++◌, length, take, drop, get_or, refl, sym, ◌∙◌, ap, subst, arith, length-append, append_assoc}
use Rattle.std.specs.Prelude.{slice_index}
use Rattle.std.proofs.lemmas.Bool.{cases_lt, cases_order, true≢false}
use Rattle.std.proofs.lemmas.List.{take_at, drop_at, take-append-drop, length-take-le}
use Rattle.base_core.specs.Words.{is_word_byte}
use Rattle.parameters_core.specs.Statements.{IsClosed}
use Rattle.parameters_core.specs.Places.{IsPlace, BeginsNoPlace, HasNoPlace, Part, BeginsPart, AreParts}
use Rattle.parameters_core.proofs.Overlaps.{overlap, same_cut, first_of_both}
use Rattle.parameters_core.proofs.Fronts.{place_some, digit_behind, digit_word, dollar_first}

-- what begins the second part, where a word goes on with the whole
goes_with : (us vs : List ℕ) → is_word_byte (slice_index us 0) ≡ true → is_word_byte (slice_index (us ++ vs) 0) ≡ true
goes_with [] vs e = absurd (true≢false (sym e))
goes_with (u ∷ us) vs e = e

-- "$" stands in no place but at its front
no_dollar_within : (place front behind : List ℕ) → IsPlace place → place ≡ front ++ behind → 0 < length front → 0 < length behind → slice_index behind 0 ≡ 36 → ⊥
no_dollar_within place front behind p e h g d = let r = digit_behind place front behind p e h g in omega (arith, r.0, d)

module _ (text : List ℕ) (p q : Part) (rest tail : List ℕ) (a : BeginsPart text p rest) (b : BeginsPart text q tail) where
  same_text : p.segment ++ (p.place ++ rest) ≡ q.segment ++ (q.place ++ tail)
  same_text = sym a.split ∙ b.split

  -- the second place does not begin within the first, nor behind it
  module _ (ws : List ℕ) (longer : q.segment ≡ p.segment ++ ws) (left : p.place ++ rest ≡ ws ++ (q.place ++ tail)) (full : 0 < length ws) where
    within_place : length ws < length p.place → ⊥
    within_place h =
        let w = overlap ws p.place (q.place ++ tail) rest (sym left) (omega (arith, h)) in
        let more : 0 < length w.0 = omega (arith, h, ap length w.1, length-append ws w.0) in
        let here : slice_index w.0 0 ≡ 36 = sym (first_of_both w.0 rest more) ∙ (ap (λ (bytes : List ℕ). get_or bytes 0 0) (sym w.2) ∙ dollar_first q.place tail b.is_place) in
        no_dollar_within p.place ws w.0 a.is_place w.1 full more here

    behind_place : length p.place ≤ length ws → ⊥
    behind_place h =
        let w = overlap p.place ws rest (q.place ++ tail) left h in
        let is : q.segment ≡ p.segment ++ (p.place ++ w.0) = longer ∙ ap (λ (bytes : List ℕ). p.segment ++ bytes) w.1 in
        let goes : is_word_byte (slice_index w.0 0) ≡ true = b.free p.segment (p.place ++ w.0) is a.closed p.place w.0 refl a.is_place in
        true≢false (sym (goes_with w.0 (q.place ++ tail) goes) ∙ (ap (λ (bytes : List ℕ). is_word_byte (slice_index bytes 0)) (sym w.2) ∙ a.ends))

  pub not_longer : length p.segment < length q.segment → ⊥
  not_longer h =
      let w = overlap p.segment q.segment (p.place ++ rest) (q.place ++ tail) same_text (omega arith) in
      let full : 0 < length w.0 = omega (arith, h, ap length w.1, length-append p.segment w.0) in
      ⊎_elim (λ l. within_place w.0 w.1 w.2 full l) (λ g. behind_place w.0 w.1 w.2 full g) (cases_lt (length w.0) (length p.place))

  pub place_not_longer : p.place ++ rest ≡ q.place ++ tail → length p.place < length q.place → ⊥
  place_not_longer e h =
      let w = overlap p.place q.place rest tail e (omega arith) in
      let full : 0 < length w.0 = omega (arith, h, ap length w.1, length-append p.place w.0) in
      let first : 0 < length p.place = omega (arith, place_some p.place a.is_place) in
      let digit = digit_word (slice_index w.0 0) (digit_behind q.place p.place w.0 b.is_place w.1 first full) in
      true≢false (sym (goes_with w.0 tail digit) ∙ (ap (λ (bytes : List ℕ). is_word_byte (slice_index bytes 0)) (sym w.2) ∙ a.ends))

abbrev pub part : List ℕ → List ℕ → Part
part segment place = record { segment = segment; place = place }

pub part_once : (text : List ℕ) (p q : Part) (rest tail : List ℕ) → BeginsPart text p rest → BeginsPart text q tail → (p ≡ q) × (rest ≡ tail)
part_once text p q rest tail a b =
    let size : length p.segment ≡ length q.segment = ⊎_elim
    (λ same. same)
    (λ o. ⊎_elim (λ l. absurd (not_longer text p q rest tail a b l)) (λ m. absurd (not_longer text q p tail rest b a m)) o)
    (cases_order (length p.segment) (length q.segment)) in
    let cut = same_cut p.segment q.segment (p.place ++ rest) (q.place ++ tail) (sym a.split ∙ b.split) size in
    let places : length p.place ≡ length q.place = ⊎_elim
    (λ same. same)
    (λ o. ⊎_elim (λ l. absurd (place_not_longer text p q rest tail a b cut.1 l)) (λ m. absurd (place_not_longer text q p tail rest b a (sym cut.1) m)) o)
    (cases_order (length p.place) (length q.place)) in
    let left = same_cut p.place q.place rest tail cut.1 places in
    let same : part p.segment p.place ≡ part q.segment q.place = ap (λ (s : List ℕ). part s p.place) cut.0 ∙ ap (λ (s : List ℕ). part q.segment s) left.0 in
    (same, left.1)

-- a text with a place is not without one
pub part_or_none : (text : List ℕ) (p : Part) (rest : List ℕ) → BeginsPart text p rest → HasNoPlace text → ⊥
part_or_none text p rest a none = true≢false (sym (none p.segment (p.place ++ rest) a.split a.closed p.place rest refl a.is_place) ∙ a.ends)

pub parts_once : (text : List ℕ) (ps qs : List Part) (last end : List ℕ) → AreParts text ps last → AreParts text qs end → (ps ≡ qs) × (last ≡ end)
parts_once text [] [] last end a b = (refl, sym a.0 ∙ b.0)
parts_once text [] (q ∷ qs) last end a b = absurd (part_or_none text q b.0 b.1 a.1)
parts_once text (p ∷ ps) [] last end a b = absurd (part_or_none text p a.0 a.1 b.1)
parts_once text (p ∷ ps) (q ∷ qs) last end a b =
    let first = part_once text p q a.0 b.0 a.1 b.1 in
    let more = parts_once a.0 ps qs last end a.2 (subst (λ (r : List ℕ). AreParts r qs end) (sym first.1) b.2) in
    let parts : (p ∷ ps) ≡ (q ∷ qs) = ap (λ (x : Part). x ∷ ps) first.0 ∙ ap (λ (xs : List Part). q ∷ xs) more.0 in
    (parts, more.1)

-- ---- by places of a text
-- no place begins before here
abbrev pub NoPlaceBefore : List ℕ → ℕ → Type 0
NoPlaceBefore text n = (k : ℕ) → k < n → IsClosed (take k text) → BeginsNoPlace (drop k text)

module _ (text : List ℕ) (n : ℕ) (h : NoPlaceBefore text n) where
  -- none at all
  pub none_to_end : BeginsNoPlace [] → length text ≤ n → HasNoPlace text
  none_to_end nothing all front [] e closed = nothing
  none_to_end nothing all front (b ∷ behind) e closed =
      let k = length front in
      let before : take k text ≡ front = ap (take k) e ∙ take_at front (b ∷ behind) k refl in
      let after : drop k text ≡ b ∷ behind = ap (drop k) e ∙ drop_at front (b ∷ behind) k refl in
      subst BeginsNoPlace after (h k (omega (arith, all, ap length e, length-append front (b ∷ behind))) (subst IsClosed (sym before) closed))

  -- none in what is before a "$"
  pub none_before : n ≤ length text → slice_index (drop n text) 0 ≡ 36 → HasNoPlace (take n text)
  none_before within here front behind e closed place rest f p =
      let k = length front in
      let size : length (take n text) ≡ n = length-take-le n text within in
      let inside : k < n = omega (arith, size, ap length e, ap length f, length-append front behind, length-append place rest, place_some place p) in
      let whole : text ≡ front ++ (place ++ (rest ++ drop n text)) =
      sym (take-append-drop n text)
      ∙ (ap (λ (bytes : List ℕ). bytes ++ drop n text) (e ∙ ap (λ (bytes : List ℕ). front ++ bytes) f)
      ∙ (append_assoc front (place ++ rest) (drop n text) ∙ ap (λ (bytes : List ℕ). front ++ bytes) (append_assoc place rest (drop n text)))) in
      let before : take k text ≡ front = ap (take k) whole ∙ take_at front (place ++ (rest ++ drop n text)) k refl in
      let after : drop k text ≡ place ++ (rest ++ drop n text) = ap (drop k) whole ∙ drop_at front (place ++ (rest ++ drop n text)) k refl in
      by rest (h k inside (subst IsClosed (sym before) closed) place (rest ++ drop n text) after p)
    where
      by : (rest : List ℕ) → is_word_byte (slice_index (rest ++ drop n text) 0) ≡ true → is_word_byte (slice_index rest 0) ≡ true
      by [] t = absurd (true≢false (sym t ∙ ap is_word_byte here))
      by (r ∷ rs) t = t

  -- so a place here ends the first part
  pub part_here : (place rest : List ℕ) → n ≤ length text → IsClosed (take n text) → drop n text ≡ place ++ rest → IsPlace place → is_word_byte (slice_index rest 0) ≡ false → BeginsPart text (part (take n text) place) rest
  part_here place rest inside shut e p stop = record {
    split = sym (take-append-drop n text) ∙ ap (λ (bytes : List ℕ). take n text ++ bytes) e;
    free = none_before inside (ap (λ (bytes : List ℕ). get_or bytes 0 0) e ∙ dollar_first place rest p);
    closed = shut;
    is_place = p;
    ends = stop;
  }
