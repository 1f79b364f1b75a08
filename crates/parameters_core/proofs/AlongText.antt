-- From place to place of a text.
use Rattle.std.proofs.Common.{◌≡◌, ℕ, ◌+◌, ◌-◌, ◌<◌, ◌≤◌, max, min, Bool, false, ltb, List, [], ◌∷◌, ◌++◌, length, take, drop, get_or, refl, sym, ◌∙◌, ap, subst, arith, length-append, length-drop}
use Rattle.std.specs.Prelude.{slice_index, if◌then◌else◌}
use Rattle.std.proofs.lemmas.Bool.{lt-ltb, le-ltb}
use Rattle.std.proofs.lemmas.List.{take-append-drop, drop-drop, length-take-le, get_or-drop}
use Rattle.base_core.specs.Words.{is_word_byte}
use Rattle.parameters_core.specs.Statements.{inside_behind, open_behind, IsClosed}
use Rattle.parameters_core.specs.Places.{HasNoPlace, BeginsNoPlace, Part, BeginsPart, AreParts, IsGreatestNumber, greatest_number, place_number}
use Rattle.parameters_core.specs.Positions.{origin, IsOrigin}
use Rattle.parameters_core.specs.Finding.{IsFrontPlace, IsFirstPlace, part_between}
use Rattle.parameters_core.proofs.Fronts.{none_in_nothing, place_some}
use Rattle.parameters_core.proofs.Parts.{NoPlaceBefore, none_to_end, part_here}
use Rattle.parameters_core.proofs.EachText.{each_text, further}
use Rattle.parameters_core.proofs.Quotes.{one_turn}

-- ---- the first place, as the code has it
module _ (text : List ℕ) (n len number : ℕ) (h : NoPlaceBefore text n) (inside : n < length text) (closed : IsClosed (take n text)) (f : IsFrontPlace (drop n text) len number) where
  place_is : take ((n + len) - n) (drop n text) ≡ take len (drop n text)
  place_is = let e : (n + len) - n ≡ len = omega arith in ap (λ (k : ℕ). take k (drop n text)) e

  behind_is : drop len (drop n text) ≡ drop (n + len) text
  behind_is = drop-drop len n text

  ends_there : is_word_byte (slice_index (drop (n + len) text) 0) ≡ false
  ends_there =
      let z : len + 0 ≡ len = omega arith in
      let there : slice_index (drop (n + len) text) 0 ≡ slice_index (drop n text) len =
      ap (λ (bytes : List ℕ). get_or bytes 0 0) (sym behind_is) ∙ (get_or-drop len (drop n text) 0 0 ∙ ap (λ (k : ℕ). get_or (drop n text) k 0) z) in
      ap is_word_byte there ∙ f.ends

  pub first_found : IsFirstPlace text (record { start = n; end = n + len; number = number })
  first_found = record {
    within = omega (arith, f.within, length-drop n text, inside);
    some = omega (arith, place_some (take len (drop n text)) f.is_place, length-take-le len (drop n text) f.within);
    begins =
        subst (λ (place : List ℕ). BeginsPart text (record { segment = take n text; place = place }) (drop (n + len) text)) (sym place_is)
        (part_here text n h (take len (drop n text)) (drop (n + len) text) (omega (arith, inside)) closed
        (sym (take-append-drop len (drop n text)) ∙ ap (λ (bytes : List ℕ). take len (drop n text) ++ bytes) behind_is)
        f.is_place ends_there);
    number_is = f.number_is ∙ ap place_number (sym place_is);
  }

-- one byte further on
pub one_byte : (text : List ℕ) (n : ℕ) (inside next : Bool) → inside ≡ open_behind false (take n text) → NoPlaceBefore text n → n < length text → (inside ≡ false → BeginsNoPlace (drop n text)) → next ≡ inside_behind inside (get_or text n 0)
    → (next ≡ open_behind false (take (n + 1) text)) × NoPlaceBefore text (n + 1)
one_byte text n inside next is h less none e = (
  one_turn text n inside next is less e,
  further text n h (λ closed. none (is ∙ closed)),
)

pub none_found : (text : List ℕ) (n : ℕ) → NoPlaceBefore text n → length text ≤ n → HasNoPlace text
none_found text n h all = none_to_end text n h none_in_nothing all

-- ---- the greatest number
pub record GreatestSoFar (text rest : List ℕ) (n : ℕ) : Type 0 where
  pub on : (ps : List Part) (last : List ℕ) → AreParts rest ps last → (qs : List Part) × AreParts text qs last × (greatest_number qs ≡ max n (greatest_number ps))

pub none_yet : (text : List ℕ) → GreatestSoFar text text 0
none_yet text = record { on = λ ps last a. (ps, a, omega arith) }

pub greater : (text rest tail : List ℕ) (n m k : ℕ) (part : Part) → GreatestSoFar text rest n → BeginsPart rest part tail → m ≡ place_number part.place → k ≡ max n m → GreatestSoFar text tail k
greater text rest tail n m k part s b e f = record {
  on = λ ps last a.
      let r = s.on (part ∷ ps) last (tail, b, a) in
      (r.0, r.1, omega (arith, r.2, e, f));
}

pub greatest_all : (text rest : List ℕ) (n : ℕ) → GreatestSoFar text rest n → HasNoPlace rest → IsGreatestNumber text n
greatest_all text rest n s none =
    let r = s.on [] rest (refl, none) in
    record { parts = r.0; last = rest; cut = r.1; greatest = omega (arith, r.2) }

-- ---- the origin of a byte
-- how much of the text lies before its rest
abbrev pub gone : List ℕ → List ℕ → ℕ
gone text rest = length text - length rest

pub record OriginSoFar (text rest : List ℕ) (offset left : ℕ) : Type 0 where
  pub within : length rest ≤ length text
  pub on : (ps : List Part) (last : List ℕ) → AreParts rest ps last → (qs : List Part) × AreParts text qs last × (origin qs last offset ≡ (length text - length rest) + origin ps last left)

pub at_start : (text : List ℕ) (offset : ℕ) → OriginSoFar text text offset offset
at_start text offset = record { within = omega arith; on = λ ps last a. (ps, a, omega arith) }

module _ (part : Part) (ps : List Part) (last : List ℕ) (left : ℕ) where
  abbrev segment : ℕ
  segment = length part.segment

  abbrev behind : ℕ
  behind = segment + (length part.place + origin ps last (left - segment - 3))

  pub origin_before : left < segment → origin (part ∷ ps) last left ≡ left
  origin_before h = ap (λ (x : Bool). if x then left else (if ltb (left - segment) 3 then segment else behind)) (lt-ltb left segment h)

  past_segment : segment ≤ left → origin (part ∷ ps) last left ≡ (if ltb (left - segment) 3 then segment else behind)
  past_segment h = ap (λ (x : Bool). if x then left else (if ltb (left - segment) 3 then segment else behind)) (le-ltb left segment h)

  pub origin_at : segment ≤ left → left - segment < 3 → origin (part ∷ ps) last left ≡ segment
  origin_at h g = past_segment h ∙ ap (λ (x : Bool). if x then segment else behind) (lt-ltb (left - segment) 3 g)

  pub origin_past : segment ≤ left → 3 ≤ left - segment → origin (part ∷ ps) last left ≡ behind
  origin_past h g = past_segment h ∙ ap (λ (x : Bool). if x then segment else behind) (le-ltb (left - segment) 3 g)

module _ (text rest : List ℕ) (offset left : ℕ) (s : OriginSoFar text rest offset left) where
  pub origin_all : (byte : ℕ) → HasNoPlace rest → byte ≡ gone text rest + min left (length rest) → IsOrigin text offset byte
  origin_all byte none e =
      let r = s.on [] rest (refl, none) in
      record { parts = r.0; last = rest; cut = r.1; from = e ∙ sym r.2 }

  module _ (start end : ℕ) (tail : List ℕ) (b : BeginsPart rest (part_between rest start end) tail) (inside : start ≤ length rest) where
    segment_len : length (take start rest) ≡ start
    segment_len = length-take-le start rest inside

    pub in_segment : (byte : ℕ) → left < start → byte ≡ gone text rest + left → IsOrigin text offset byte
    in_segment byte h e =
        let cut = each_text tail in
        let r = s.on (part_between rest start end ∷ cut.0) cut.1 (tail, b, cut.2) in
        let there = origin_before (part_between rest start end) cut.0 cut.1 left (omega (arith, h, segment_len)) in
        record { parts = r.0; last = cut.1; cut = r.1; from = e ∙ (ap (λ (n : ℕ). gone text rest + n) (sym there) ∙ sym r.2) }

    pub in_place : (byte : ℕ) → start ≤ left → left - start < 3 → byte ≡ gone text rest + start → IsOrigin text offset byte
    in_place byte h g e =
        let cut = each_text tail in
        let r = s.on (part_between rest start end ∷ cut.0) cut.1 (tail, b, cut.2) in
        let there = origin_at (part_between rest start end) cut.0 cut.1 left (omega (arith, h, segment_len)) (omega (arith, g, segment_len)) in
        record { parts = r.0; last = cut.1; cut = r.1; from = e ∙ (ap (λ (n : ℕ). gone text rest + n) (sym (there ∙ segment_len)) ∙ sym r.2) }

    pub past_place : (next : ℕ) → start ≤ left → 3 ≤ left - start → next ≡ left - start - 3 → OriginSoFar text tail offset next
    past_place next h g e = record {
      within = omega (arith, s.within, sizes);
      on = λ ps last a.
          let r = s.on (part_between rest start end ∷ ps) last (tail, b, a) in
          let there = origin_past (part_between rest start end) ps last left (omega (arith, h, segment_len)) (omega (arith, g, segment_len)) in
          let same : left - length (take start rest) - 3 ≡ next = omega (arith, e, segment_len) in
          let moved = ap (λ (n : ℕ). origin ps last n) same in
          let all = r.2 ∙ ap (λ (n : ℕ). gone text rest + n) there in
          (r.0, r.1, omega (arith, all, moved, sizes, s.within));
    }
      where
        sizes : length rest ≡ length (take start rest) + (length (take (end - start) (drop start rest)) + length tail)
        sizes = omega (arith, ap length b.split, length-append (take start rest) (take (end - start) (drop start rest) ++ tail), length-append (take (end - start) (drop start rest)) tail)
