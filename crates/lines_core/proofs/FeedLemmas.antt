-- What each step of `feed` does.
use Rattle.std.proofs.Common.{◌≡◌, ◌≢◌, ◌≤◌, ◌<◌, ◌+◌, ◌-◌, ℕ, zero, suc, List, [], ◌∷◌, ◌++◌, refl, sym, ap, ◌∙◌, append_assoc, append-nil, eqb, true, map, length, take, drop, arith, ⊎_elim, subst, get_or, Option, Some, None, eq-eqb}
use Rattle.std.specs.Str.Lines.{strip_carriage_return}
use Rattle.std.specs.Io.KnownBytes.{Keeps}
use Rattle.std.proofs.lemmas.List.{take_all, length-take, take-take, take-append-le, take-append-drop, take_more, drop_more, get_or-take, map-append, take_rest, drop-drop}
use Rattle.std.proofs.lemmas.List.Elements.{All-from_get_or, recursion_from_All}
use Rattle.std.proofs.lemmas.Bool.{cases_lt}
use Rattle.std.proofs.lemmas.Bool.Decides.{nat_tests}
use Rattle.std.proofs.KnownBytes.{Appends-trans, Appends-nil, Appends-kept}
use Rattle.memchr.specs.Find.{IsFirstByte, is_byte}
use Rattle.base_core.specs.Streams.{Writes, WritesFrontOf}
use Rattle.base_core.proofs.Fronts.{front-second, front-whole}
use Rattle.lines_core.specs.declared.line.TheConstants.{KEPT_BYTES, LONGEST_LINE}
use Rattle.lines_core.specs.Lines.{Cut, NoFeed}
use Rattle.lines_core.specs.Serving.{AnswersAll, AnswersPiece, BreaksPiece}
use Rattle.lines_core.proofs.LineLemmas.{Cut-append, Cut-feed, Cut-open, ByRecursion-append}
use Rattle.lines_core.proofs.AnswerLemmas.{AnswersAll-append, AnswersAll-one, R-kept_strip}

-- where there is no line feed
pub no_feed : (bytes : List ℕ) → IsFirstByte (is_byte 10) bytes None → NoFeed bytes
no_feed bytes none = recursion_from_All (λ b. b ≢ 10) bytes
    (All-from_get_or (λ b. b ≢ 10) bytes 0 (λ i h e. none i (omega arith) h (eq-eqb _ _ e)))

-- before the first line feed there is none
pub no_feed_before : (bytes : List ℕ) (end : ℕ) → IsFirstByte (is_byte 10) bytes (Some end) → NoFeed (take end bytes)
no_feed_before bytes end found = recursion_from_All (λ b. b ≢ 10) (take end bytes)
    (All-from_get_or (λ b. b ≢ 10) (take end bytes) 0 (λ i h e.
    let lt : i < end = omega (arith, length-take end bytes) in
    found.0.before i (omega arith) lt (eq-eqb _ _ (sym (get_or-take end bytes i 0 lt) ∙ e))))

eqb-true : (a b : ℕ) → eqb a b ≡ true → a ≡ b
eqb-true a b h = grind (arith, nat_tests)

-- the bytes before the first line feed, that, and those behind it
pub at_feed : (bytes : List ℕ) (end : ℕ) → IsFirstByte (is_byte 10) bytes (Some end) → bytes ≡ (take end bytes ++ 10 ∷ []) ++ drop (end + 1) bytes
at_feed bytes end found =
    sym (take-append-drop end bytes)
    ∙ ap (λ x. take end bytes ++ x) (drop_more bytes end 0 found.0.high ∙ ap (λ b. b ∷ drop (end + 1) bytes) (eqb-true (get_or bytes end 0) 10 found.1))
    ∙ sym (append_assoc (take end bytes) (10 ∷ []) (drop (end + 1) bytes))

-- the bytes up to behind the first line feed
pub to_feed : (bytes : List ℕ) (end : ℕ) → IsFirstByte (is_byte 10) bytes (Some end) → take (end + 1) bytes ≡ take end bytes ++ 10 ∷ []
to_feed bytes end found =
    take_more bytes end 0 found.0.high ∙ ap (λ b. take end bytes ++ b ∷ []) (eqb-true (get_or bytes end 0) 10 found.1)

-- what is added to the front of a line is added to the line
pub kept-append : (n : ℕ) (a b : List ℕ) → take n (take n a ++ b) ≡ take n (a ++ b)
kept-append n a b = ⊎_elim
    (λ h. take-append-le n (take n a) b (omega (arith, length-take n a)) ∙ take-take n n a (omega arith) ∙ sym (take-append-le n a b (omega arith)))
    (λ h. ap (λ x. take n (x ++ b)) (take_all n a h))
    (cases_lt n (length a))

pub kept_line : (now part kept line : List ℕ) → kept ≡ take KEPT_BYTES now → line ≡ take KEPT_BYTES (kept ++ part) → line ≡ take KEPT_BYTES (now ++ part)
kept_line now part kept line k e = e ∙ ap (λ x. take KEPT_BYTES (x ++ part)) k ∙ kept-append KEPT_BYTES now part

-- the cut behind a line that ends in the piece
cut_line : (rest done part now : List ℕ) (parts : List (List ℕ)) → Cut (rest ++ done) parts now → NoFeed part
    → Cut (rest ++ (done ++ (part ++ 10 ∷ []))) (parts ++ (now ++ part) ∷ []) []
cut_line rest done part now parts cut h =
    let next : Cut (now ++ (part ++ 10 ∷ [])) ((now ++ part) ∷ []) [] =
    subst (λ x. Cut x ((now ++ part) ∷ []) []) (append_assoc now part (10 ∷ [])) (Cut-feed (now ++ part) (ByRecursion-append (λ b. b ≢ 10) now part cut.open_rest h)) in
    subst (λ x. Cut x (parts ++ (now ++ part) ∷ []) []) (append_assoc rest done (part ++ 10 ∷ []))
    (Cut-append (rest ++ done) (part ++ 10 ∷ []) parts ((now ++ part) ∷ []) now [] cut next)

-- the piece, at a line feed in what is left of it
pub split_feed : (done left piece : List ℕ) (end : ℕ) → IsFirstByte (is_byte 10) left (Some end) → done ++ left ≡ piece
    → (done ++ (take end left ++ 10 ∷ [])) ++ drop (end + 1) left ≡ piece
split_feed done left piece end found e =
    append_assoc done (take end left ++ 10 ∷ []) (drop (end + 1) left) ∙ ap (λ x. done ++ x) (sym (at_feed left end found)) ∙ e

-- and what the code has for what is left behind it
pub behind_feed : (done left behind piece : List ℕ) (end : ℕ) → IsFirstByte (is_byte 10) left (Some end) → behind ≡ drop end left → done ++ left ≡ piece
    → (done ++ (take end left ++ 10 ∷ [])) ++ take (length behind - 1) (drop 1 behind) ≡ piece
behind_feed done left behind piece end found b e =
    ap (λ x. (done ++ (take end left ++ 10 ∷ [])) ++ x) (take_rest behind 1 ∙ ap (drop 1) b ∙ drop-drop 1 end left) ∙ split_feed done left piece end found e

pub no_rest : (now kept : List ℕ) → kept ≡ take KEPT_BYTES now → length kept ≡ 0 → now ≡ []
no_rest [] kept e none = refl
no_rest (b ∷ bs) kept e none = absurd (omega (arith, ap length e, length-take KEPT_BYTES (b ∷ bs)))

-- a front of what has no line feed has none
front_clean : (k : ℕ) (bytes : List ℕ) → NoFeed bytes → NoFeed (take k bytes)
front_clean zero bytes h = tt
front_clean (suc k) [] h = tt
front_clean (suc k) (b ∷ bs) h = (h.0, front_clean k bs h.1)

-- what is kept of a line that has begun
pub kept_clean : (now kept : List ℕ) → kept ≡ take KEPT_BYTES now → NoFeed now → NoFeed kept × (length kept ≤ KEPT_BYTES)
kept_clean now kept e h =
    (subst NoFeed (sym e) (front_clean KEPT_BYTES now h), omega (arith, ap length e, length-take KEPT_BYTES now))

module _ {X : Type 0} (R : X → List ℕ → List ℕ → X → Type 0)
    (too_long : (old new : X) (line other text : List ℕ) → LONGEST_LINE < length line → LONGEST_LINE < length other → R old line text new → R old other text new) where
  -- and its answer
  answer_line : (old mid new : X) (now part line text more : List ℕ) (parts : List (List ℕ)) → line ≡ take KEPT_BYTES (now ++ part)
      → AnswersAll R old (map strip_carriage_return parts) text mid → R mid (strip_carriage_return line) more new
      → AnswersAll R old (map strip_carriage_return (parts ++ (now ++ part) ∷ [])) (text ++ more) new
  answer_line old mid new now part line text more parts e before answers =
      let answers' = R-kept_strip R too_long (now ++ part) mid new more (subst (λ x. R mid (strip_carriage_return x) more new) e answers) in
      subst (λ ls. AnswersAll R old ls (text ++ more) new) (sym (map-append strip_carriage_return parts ((now ++ part) ∷ [])))
      (AnswersAll-append R old mid new (map strip_carriage_return parts) (strip_carriage_return (now ++ part) ∷ []) text more before
      (AnswersAll-one R mid new (strip_carriage_return (now ++ part)) more answers'))

  pub Feeds-line : (rest done part kept line : List ℕ) (old mid new : X) (before between after : Option (List ℕ))
      → AnswersPiece R rest done kept old mid before between → NoFeed part → line ≡ take KEPT_BYTES (kept ++ part)
      → Writes (λ text. R mid (strip_carriage_return line) text new) between after
      → AnswersPiece R rest (done ++ (part ++ 10 ∷ [])) [] old new before after
  Feeds-line rest done part kept line old mid new before between after fed h e one = record {
    parts = fed.parts ++ (fed.now ++ part) ∷ [];
    now = [];
    text = fed.text ++ one.text;
    cut = cut_line rest done part fed.now fed.parts fed.cut h;
    kept_is = refl;
    answered = answer_line old mid new fed.now part line fed.text one.text fed.parts (kept_line fed.now part kept line fed.kept_is e) fed.answered one.is;
    wrote = Appends-trans before between after fed.text one.text fed.wrote one.wrote;
  }

  pub Breaks-line : (rest done part kept line : List ℕ) (old mid new : X) (undone piece : List ℕ) (before between after : Option (List ℕ))
      → AnswersPiece R rest done kept old mid before between → NoFeed part → line ≡ take KEPT_BYTES (kept ++ part)
      → WritesFrontOf (λ text. R mid (strip_carriage_return line) text new) between after
      → piece ≡ (done ++ (part ++ 10 ∷ [])) ++ undone
      → BreaksPiece R rest piece old new before after
  Breaks-line rest done part kept line old mid new undone piece before between after fed h e broken split = record {
    parts = fed.parts ++ (fed.now ++ part) ∷ [];
    done = done ++ (part ++ 10 ∷ []);
    undone = undone;
    front = split;
    text = fed.text ++ broken.text;
    cut = cut_line rest done part fed.now fed.parts fed.cut h;
    answered = answer_line old mid new fed.now part line fed.text broken.text fed.parts (kept_line fed.now part kept line fed.kept_is e) fed.answered broken.is;
    wrote = front-second before between after fed.text broken.text fed.wrote broken.wrote;
  }

  pub Feeds-open : (rest done left kept line : List ℕ) (old new : X) (before after : Option (List ℕ))
      → AnswersPiece R rest done kept old new before after → NoFeed left → line ≡ take KEPT_BYTES (kept ++ left)
      → AnswersPiece R rest (done ++ left) line old new before after
  Feeds-open rest done left kept line old new before after fed h e = record {
    parts = fed.parts;
    now = fed.now ++ left;
    text = fed.text;
    cut = subst (λ ps. Cut (rest ++ (done ++ left)) ps (fed.now ++ left)) (append-nil fed.parts)
        (subst (λ x. Cut x (fed.parts ++ []) (fed.now ++ left)) (append_assoc rest done left)
        (Cut-append (rest ++ done) left fed.parts [] fed.now (fed.now ++ left) fed.cut
        (Cut-open (fed.now ++ left) (ByRecursion-append (λ b. b ≢ 10) fed.now left fed.cut.open_rest h))));
    kept_is = kept_line fed.now left kept line fed.kept_is e;
    answered = fed.answered;
    wrote = fed.wrote;
  }

  pub Feeds-none : (rest kept : List ℕ) (world : X) (taken : Option (List ℕ)) → NoFeed rest → kept ≡ take KEPT_BYTES rest → AnswersPiece R rest [] kept world world taken taken
  Feeds-none rest kept world taken h e = record {
    parts = [];
    now = rest;
    text = [];
    cut = subst (λ x. Cut x [] rest) (sym (append-nil rest)) (Cut-open rest h);
    kept_is = e;
    answered = (refl, refl);
    wrote = Appends-nil taken;
  }

  -- what is kept, handed on
  pub Feeds-kept : (rest done kept : List ℕ) (old new : X) (before between after : Option (List ℕ)) → AnswersPiece R rest done kept old new before between → Keeps between after → AnswersPiece R rest done kept old new before after
  Feeds-kept rest done kept old new before between after fed keeps = record {
    parts = fed.parts;
    now = fed.now;
    text = fed.text;
    cut = fed.cut;
    kept_is = fed.kept_is;
    answered = fed.answered;
    wrote = Appends-kept before between after fed.text fed.wrote keeps;
  }

  -- The writer failed to hand on the answers to lines, of which the last has ended.
  pub Breaks-flush : (rest done left piece kept : List ℕ) (old new : X) (before between after : Option (List ℕ))
      → AnswersPiece R rest done kept old new before between → kept ≡ [] → Keeps between after → done ++ left ≡ piece → BreaksPiece R rest piece old new before after
  Breaks-flush rest done left piece kept old new before between after fed none keeps e = record {
    parts = fed.parts;
    done = done;
    undone = left;
    front = sym e;
    text = fed.text;
    cut = subst (λ now. Cut (rest ++ done) fed.parts now) (no_rest fed.now kept fed.kept_is (ap length none)) fed.cut;
    answered = fed.answered;
    wrote = front-whole before after fed.text (Appends-kept before between after fed.text fed.wrote keeps);
  }
