-- What one call of `feed_line` does, and that it is no more than `feed` does.
use Rattle.std.proofs.Common.{◌≡◌, ◌≢◌, ◌<◌, ℕ, zero, suc, List, [], ◌∷◌, ◌++◌, Option, refl, sym, ap, ◌∙◌, append_assoc, length, take, arith, subst, inl, inr}
use Rattle.std.specs.Str.Lines.{strip_carriage_return}
use Rattle.std.proofs.KnownBytes.{Appends-nil, Appends-trans, Appends-kept, Keeps-refl}
use Rattle.base_core.specs.Streams.{Writes, WritesFrontOf}
use Rattle.base_core.proofs.Fronts.{front-second}
use Rattle.lines_core.specs.declared.line.TheConstants.{KEPT_BYTES, LONGEST_LINE}
use Rattle.lines_core.specs.Lines.{Cut, NoFeed}
use Rattle.lines_core.specs.Serving.{AnswersPiece, BreaksPiece, AnswersPart, BreaksPart}
use Rattle.lines_core.proofs.LineLemmas.{Cut-append, Cut-open, Cut-feed, ByRecursion-append}
use Rattle.lines_core.proofs.AnswerLemmas.{AnswersAll-parts, AnswersAll-one, R-kept_strip}
use Rattle.lines_core.proofs.FeedLemmas.{kept_line}

-- what rest and the last part of its line are cut into
Cut-part : (rest part : List ℕ) → NoFeed rest → NoFeed part → Cut (rest ++ (part ++ 10 ∷ [])) ((rest ++ part) ∷ []) []
Cut-part rest part h k =
    subst (λ x. Cut x ((rest ++ part) ∷ []) []) (append_assoc rest part (10 ∷ []))
    (Cut-feed (rest ++ part) (ByRecursion-append (λ b. b ≢ 10) rest part h k))

-- a part with its line feed has one
pub not_open : (part : List ℕ) → NoFeed (part ++ 10 ∷ []) → ⊥
not_open [] h = h.0 refl
not_open (b ∷ bs) h = not_open bs h.1

-- Where there is a byte, one is taken.
pub takes_some : (n : ℕ) (bytes : List ℕ) → (NoFeed (take n bytes) → n ≡ length bytes) → 0 < length bytes → 0 < n
takes_some zero bytes all some = let none : zero ≡ length bytes = all tt in absurd (omega arith)
takes_some (suc n) bytes all some = omega arith

module _ {X : Type 0} (R : X → List ℕ → List ℕ → X → Type 0) where
  -- A part is a piece.
  pub part_is_piece : (rest piece kept : List ℕ) (x y : X) (taken taken' : Option (List ℕ))
      → AnswersPart R rest piece kept x y taken taken' → NoFeed rest → AnswersPiece R rest piece kept x y taken taken'
  part_is_piece rest piece kept x y taken taken' (inl front) h = record {
    parts = [];
    now = rest ++ piece;
    text = [];
    cut = Cut-open (rest ++ piece) (ByRecursion-append (λ b. b ≢ 10) rest piece h front.no_feed);
    kept_is = front.kept_is;
    answered = (refl, front.same);
    wrote = Appends-kept taken taken taken' [] (Appends-nil taken) front.unwritten;
  }
  part_is_piece rest piece kept x y taken taken' (inr line) h = record {
    parts = (rest ++ line.part) ∷ [];
    now = [];
    text = line.text;
    cut = subst (λ p. Cut (rest ++ p) ((rest ++ line.part) ∷ []) []) (sym line.piece_is) (Cut-part rest line.part h line.no_feed);
    kept_is = line.kept_is;
    answered = AnswersAll-one R x y (strip_carriage_return (rest ++ line.part)) line.text line.answered;
    wrote = line.wrote;
  }

  pub part_breaks : (rest piece : List ℕ) (x y : X) (taken taken' : Option (List ℕ))
      → BreaksPart R rest piece x y taken taken' → NoFeed rest → BreaksPiece R rest piece x y taken taken'
  part_breaks rest piece x y taken taken' broken h = record {
    parts = (rest ++ broken.part) ∷ [];
    done = broken.part ++ 10 ∷ [];
    undone = broken.behind;
    front = broken.piece_is ∙ sym (append_assoc broken.part (10 ∷ []) broken.behind);
    text = broken.text;
    cut = Cut-part rest broken.part h broken.no_feed;
    answered = AnswersAll-one R x y (strip_carriage_return (rest ++ broken.part)) broken.text broken.answered;
    wrote = broken.wrote;
  }

  cut-behind : (rest done piece now kept : List ℕ) (parts ended : List (List ℕ)) → Cut (rest ++ done) parts now → Cut (now ++ piece) ended kept
      → Cut (rest ++ (done ++ piece)) (parts ++ ended) kept
  cut-behind rest done piece now kept parts ended first second =
      subst (λ b. Cut b (parts ++ ended) kept) (append_assoc rest done piece) (Cut-append (rest ++ done) piece parts ended now kept first second)

  -- two pieces are one
  pub pieces-append : (rest done piece kept line : List ℕ) (x mid y : X) (before between after : Option (List ℕ))
      → (fed : AnswersPiece R rest done kept x mid before between) → AnswersPiece R fed.now piece line mid y between after
      → AnswersPiece R rest (done ++ piece) line x y before after
  pieces-append rest done piece kept line x mid y before between after fed next = record {
    parts = fed.parts ++ next.parts;
    now = next.now;
    text = fed.text ++ next.text;
    cut = cut-behind rest done piece fed.now next.now fed.parts next.parts fed.cut next.cut;
    kept_is = next.kept_is;
    answered = AnswersAll-parts R x mid y fed.parts next.parts fed.text next.text fed.answered next.answered;
    wrote = Appends-trans before between after fed.text next.text fed.wrote next.wrote;
  }

  -- The writer failed in the second of two pieces.
  pub pieces-break : (rest done piece kept : List ℕ) (x mid y : X) (before between after : Option (List ℕ))
      → (fed : AnswersPiece R rest done kept x mid before between) → BreaksPiece R fed.now piece mid y between after
      → BreaksPiece R rest (done ++ piece) x y before after
  pieces-break rest done piece kept x mid y before between after fed broken = record {
    parts = fed.parts ++ broken.parts;
    done = done ++ broken.done;
    undone = broken.undone;
    front = ap (λ p. done ++ p) broken.front ∙ sym (append_assoc done broken.done broken.undone);
    text = fed.text ++ broken.text;
    cut = cut-behind rest done broken.done fed.now [] fed.parts broken.parts fed.cut broken.cut;
    answered = AnswersAll-parts R x mid y fed.parts broken.parts fed.text broken.text fed.answered broken.answered;
    wrote = front-second before between after fed.text broken.text fed.wrote broken.wrote;
  }

  -- A piece was fed, and behind it a part.
  pub Feeds-part : (rest done piece kept line : List ℕ) (x mid y : X) (before between after : Option (List ℕ))
      → AnswersPiece R rest done kept x mid before between
      → ((now : List ℕ) → NoFeed now → kept ≡ take KEPT_BYTES now → AnswersPart R now piece line mid y between after)
      → AnswersPiece R rest (done ++ piece) line x y before after
  Feeds-part rest done piece kept line x mid y before between after fed feeds =
      let part = feeds fed.now fed.cut.open_rest fed.kept_is in
      pieces-append rest done piece kept line x mid y before between after fed (part_is_piece fed.now piece line mid y between after part fed.cut.open_rest)

  -- A piece was fed, and the writer failed in the part behind it.
  pub Breaks-part : (rest done piece kept : List ℕ) (x mid y : X) (before between after : Option (List ℕ))
      → AnswersPiece R rest done kept x mid before between
      → ((now : List ℕ) → NoFeed now → kept ≡ take KEPT_BYTES now → BreaksPart R now piece mid y between after)
      → BreaksPiece R rest (done ++ piece) x y before after
  Breaks-part rest done piece kept x mid y before between after fed breaks =
      let part = breaks fed.now fed.cut.open_rest fed.kept_is in
      pieces-break rest done piece kept x mid y before between after fed (part_breaks fed.now piece mid y between after part fed.cut.open_rest)

-- ---- what each end of `feed_line` is
module _ {X : Type 0} (R : X → List ℕ → List ℕ → X → Type 0)
    (too_long : (old new : X) (line other text : List ℕ) → LONGEST_LINE < length line → LONGEST_LINE < length other → R old line text new → R old other text new) where
  -- what was answered to the kept front of a line is an answer to the line
  whole_line : (rest part kept : List ℕ) (old new : X) (text : List ℕ) → kept ≡ take KEPT_BYTES rest
      → R old (strip_carriage_return (take KEPT_BYTES (kept ++ part))) text new → R old (strip_carriage_return (rest ++ part)) text new
  whole_line rest part kept old new text e answers =
      R-kept_strip R too_long (rest ++ part) old new text
      (subst (λ l. R old (strip_carriage_return l) text new) (kept_line rest part kept (take KEPT_BYTES (kept ++ part)) e refl) answers)

  pub Part-line : (rest part kept piece line : List ℕ) (old new : X) (taken taken' : Option (List ℕ)) → kept ≡ take KEPT_BYTES rest
      → NoFeed part → piece ≡ part ++ 10 ∷ [] → line ≡ []
      → Writes (λ text. R old (strip_carriage_return (take KEPT_BYTES (kept ++ part))) text new) taken taken'
      → AnswersPart R rest piece line old new taken taken'
  Part-line rest part kept piece line old new taken taken' e h split cleared one = inr record {
    part = part;
    text = one.text;
    piece_is = split;
    no_feed = h;
    kept_is = cleared;
    answered = whole_line rest part kept old new one.text e one.is;
    wrote = one.wrote;
  }

  pub Part-broken : (rest part behind kept piece : List ℕ) (old new : X) (taken taken' : Option (List ℕ)) → kept ≡ take KEPT_BYTES rest
      → NoFeed part → piece ≡ part ++ 10 ∷ behind
      → WritesFrontOf (λ text. R old (strip_carriage_return (take KEPT_BYTES (kept ++ part))) text new) taken taken'
      → BreaksPart R rest piece old new taken taken'
  Part-broken rest part behind kept piece old new taken taken' e h split broken = record {
    part = part;
    behind = behind;
    text = broken.text;
    piece_is = split;
    no_feed = h;
    answered = whole_line rest part kept old new broken.text e broken.is;
    wrote = broken.wrote;
  }

  pub Part-open : (rest kept piece line : List ℕ) (world : X) (taken : Option (List ℕ)) → kept ≡ take KEPT_BYTES rest
      → NoFeed piece → line ≡ take KEPT_BYTES (kept ++ piece)
      → AnswersPart R rest piece line world world taken taken
  Part-open rest kept piece line world taken e h k = inl record {
    no_feed = h;
    kept_is = kept_line rest piece kept line e k;
    same = refl;
    unwritten = Keeps-refl taken;
  }
