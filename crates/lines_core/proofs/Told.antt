-- Which end an answering came to.
use Rattle.std.proofs.Common.{◌≡◌, ◌<◌, ℕ, List, [], ◌∷◌, ◌++◌, Bool, false, Option, Ok, map, length, take, refl, sym, ap, ◌∙◌, subst, append_assoc, append-nil, arith, inl, inr}
use Rattle.std.specs.List.{flat_map}
use Rattle.std.specs.Str.Lines.{lines, strip_carriage_return}
use Rattle.std.specs.Io.KnownBytes.{IsAtEnd}
use Rattle.std.proofs.KnownBytes.{Keeps-refl}
use Rattle.std.proofs.lemmas.List.{length-append}
use Rattle.lines_core.specs.declared.line.TheConstants.{KEPT_BYTES, LONGEST_LINE}
use Rattle.lines_core.specs.Lines.{Cut, NoFeed, whole_lines, IsWhole, IsCutOff}
use Rattle.lines_core.specs.Serving.{AnswersInput, WasOpen, HasServed, Ends, EndsTold, EndsWhole, ending_at, IsEndingAt, traffic_of, Traffic}
use Rattle.lines_core.specs.declared.serving.Ending.{Ending}
use Rattle.lines_core.specs.declared.serving.Ending.TheVariants as endings
use Rattle.lines_core.specs.declared.serving.WholeEnding.{WholeEnding}
use Rattle.lines_core.specs.declared.serving.WholeEnding.TheVariants as whole_endings
use Rattle.lines_core.proofs.LineLemmas.{lines-Cut, whole_lines-Cut}
use Rattle.lines_core.proofs.FeedLemmas.{no_rest}
use Rattle.lines_core.proofs.ServeLemmas.{Run-whole}

-- ---- bytes that end with a line feed, and those that do not
behind : (part rest : List ℕ) → IsWhole rest → (front : List ℕ) × ((part ++ 10 ∷ []) ++ rest ≡ front ++ 10 ∷ [])
behind part rest (inl e) = (part, ap (λ r. (part ++ 10 ∷ []) ++ r) e ∙ append-nil (part ++ 10 ∷ []))
behind part rest (inr (front, e)) = ((part ++ 10 ∷ []) ++ front, ap (λ r. (part ++ 10 ∷ []) ++ r) e ∙ sym (append_assoc (part ++ 10 ∷ []) front (10 ∷ [])))

whole_parts : (parts : List (List ℕ)) → IsWhole (flat_map (λ part. part ++ 10 ∷ []) parts)
whole_parts [] = inl refl
whole_parts (part ∷ parts) = inr (behind part (flat_map (λ p. p ++ 10 ∷ []) parts) (whole_parts parts))

abbrev last_of : List ℕ → ℕ
last_of [] = 0
last_of (x ∷ []) = x
last_of (x ∷ y ∷ ys) = last_of (y ∷ ys)

last_behind : (xs : List ℕ) (y : ℕ) (ys : List ℕ) → last_of (xs ++ y ∷ ys) ≡ last_of (y ∷ ys)
last_behind [] y ys = refl
last_behind (x ∷ []) y ys = refl
last_behind (x ∷ z ∷ zs) y ys = last_behind (z ∷ zs) y ys

last_open : (b : ℕ) (bs : List ℕ) → NoFeed (b ∷ bs) → last_of (b ∷ bs) ≡ 10 → ⊥
last_open b [] h e = h.0 e
last_open b (c ∷ cs) h e = last_open c cs h.1 e

not_whole : (front : List ℕ) (b : ℕ) (bs : List ℕ) → NoFeed (b ∷ bs) → IsWhole (front ++ b ∷ bs) → ⊥
not_whole front b bs h (inl e) = omega (arith, ap length e, length-append front (b ∷ bs))
not_whole front b bs h (inr (other, e)) = last_open b bs h (sym (last_behind front b bs) ∙ ap last_of e ∙ last_behind other 10 [])

is_whole : (bytes : List ℕ) (parts : List (List ℕ)) → Cut bytes parts [] → IsWhole bytes
is_whole bytes parts cut = subst IsWhole (sym (cut.whole ∙ append-nil (flat_map (λ part. part ++ 10 ∷ []) parts))) (whole_parts parts)

all_whole : (bytes : List ℕ) (parts : List (List ℕ)) → Cut bytes parts [] → lines bytes ≡ whole_lines bytes
all_whole bytes parts cut = lines-Cut bytes parts [] cut ∙ append-nil (map strip_carriage_return parts) ∙ sym (whole_lines-Cut bytes parts [] cut)

abbrev is_cut_off : (bytes : List ℕ) (parts : List (List ℕ)) (b : ℕ) (bs : List ℕ) → Cut bytes parts (b ∷ bs) → IsCutOff bytes
is_cut_off bytes parts b bs cut = record {
  last = b ∷ bs;
  lines_are = lines-Cut bytes parts (b ∷ bs) cut ∙ ap (λ ls. ls ++ (b ∷ bs) ∷ []) (sym (whole_lines-Cut bytes parts (b ∷ bs) cut));
  not_whole = λ w. not_whole (flat_map (λ part. part ++ 10 ∷ []) parts) b bs cut.open_rest (subst IsWhole cut.whole w);
}

-- ---- by what is kept of the last line
pub told_at : {X : Type 0} (R : X → List ℕ → List ℕ → X → Type 0) (over : X → Bool) (kept : List ℕ) (start mid new : X) (unread : ℕ) (left0 left1 left2 taken0 taken1 taken2 : Option (List ℕ))
    → (s : HasServed R kept start mid unread (traffic_of left0 left1 taken0 taken1))
    → AnswersInput R lines start new (traffic_of left0 left2 taken0 taken2) s.bytes → IsAtEnd left2 → WasOpen R over start new s.bytes
    → EndsTold R over (Ok (ending_at kept)) start new (traffic_of left0 left2 taken0 taken2)
told_at R over [] start mid new unread left0 left1 left2 taken0 taken1 taken2 s run end open_then =
    let cut : Cut s.bytes s.fed.parts [] = subst (λ now. Cut s.bytes s.fed.parts now) (no_rest s.fed.now [] s.fed.kept_is refl) s.fed.cut in
    (s.bytes, run, end, open_then, is_whole s.bytes s.fed.parts cut, all_whole s.bytes s.fed.parts cut)
told_at R over (k ∷ ks) start mid new unread left0 left1 left2 taken0 taken1 taken2 s run end open_then =
    (s.bytes, run, end, open_then, by_rest s.fed.now s.fed.cut s.fed.kept_is)
  where
    by_rest : (now : List ℕ) → Cut s.bytes s.fed.parts now → k ∷ ks ≡ take KEPT_BYTES now → IsCutOff s.bytes
    by_rest [] cut e = cc
    by_rest (b ∷ bs) cut e = is_cut_off s.bytes s.fed.parts b bs cut

-- ---- the same where that line is not answered
pub whole_at : {X : Type 0} (R : X → List ℕ → List ℕ → X → Type 0)
    (too_long : (old new : X) (line other text : List ℕ) → LONGEST_LINE < length line → LONGEST_LINE < length other → R old line text new → R old other text new)
    (over : X → Bool) (ending : WholeEnding) (kept : List ℕ) (start new : X) (unread : ℕ) (left0 left1 taken0 taken1 : Option (List ℕ))
    → HasServed R kept start new unread (traffic_of left0 left1 taken0 taken1) → IsAtEnd left1 → (over start ≡ false → over new ≡ false) → IsEndingAt ending kept
    → EndsWhole R over (Ok ending) start new (traffic_of left0 left1 taken0 taken1)
whole_at R too_long over whole_endings.Whole kept start new unread left0 left1 taken0 taken1 s end open_then none =
    let nothing : s.fed.now ≡ [] = no_rest s.fed.now kept s.fed.kept_is (ap length none) in
    let cut : Cut s.bytes s.fed.parts [] = subst (λ now. Cut s.bytes s.fed.parts now) nothing s.fed.cut in
    (s.bytes, Run-whole R too_long kept start new unread left0 left1 left1 taken0 taken1 s (Keeps-refl left1), end, open_then, is_whole s.bytes s.fed.parts cut, all_whole s.bytes s.fed.parts cut)
whole_at R too_long over (whole_endings.CutOff front) kept start new unread left0 left1 taken0 taken1 s end open_then (is, some) =
    let c = by_rest s.fed.now s.fed.cut s.fed.kept_is in
    (s.bytes, Run-whole R too_long kept start new unread left0 left1 left1 taken0 taken1 s (Keeps-refl left1), end, open_then, c.0, is ∙ c.1)
  where
    by_rest : (now : List ℕ) → Cut s.bytes s.fed.parts now → kept ≡ take KEPT_BYTES now → (cut : IsCutOff s.bytes) × (kept ≡ take KEPT_BYTES cut.last)
    by_rest [] cut e = absurd (some e)
    by_rest (b ∷ bs) cut e = (is_cut_off s.bytes s.fed.parts b bs cut, e)
whole_at R too_long over whole_endings.Over kept start new unread left0 left1 taken0 taken1 s end open_then none = absurd none

-- ---- what is told may be left

pub told_ends : {X : Type 0} (R : X → List ℕ → List ℕ → X → Type 0) (over : X → Bool) (ending : Ending) (old new : X) (traffic : Traffic)
    → EndsTold R over (Ok ending) old new traffic → Ends R over (Ok tt) old new traffic
told_ends R over endings.Whole old new traffic (bytes, run, end, open_then, whole, same) = (bytes, inl (run, end, open_then))
told_ends R over endings.CutOff old new traffic (bytes, run, end, open_then, cut) = (bytes, inl (run, end, open_then))
told_ends R over endings.Over old new traffic (bytes, run, over_then) = (bytes, inr (run, over_then))
