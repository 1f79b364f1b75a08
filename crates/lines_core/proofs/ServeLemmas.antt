-- What each step of `serve` does, and what holds at its ends.
use Rattle.std.proofs.Common.{◌≡◌, ◌≤◌, ◌<◌, ◌-◌, ◌^◌, ℕ, Bool, false, List, [], ◌∷◌, ◌++◌, refl, sym, ap, ◌∙◌, append_assoc, append-nil, map, length, take, arith, subst, inl, inr, Option}
use Rattle.std.specs.List.{flat_map}
use Rattle.std.specs.Str.Lines.{lines, strip_carriage_return}
use Rattle.std.specs.Io.KnownBytes.{Consumes, Keeps, IsAtEnd}
use Rattle.std.proofs.lemmas.List.{length-append}
use Rattle.std.proofs.KnownBytes.{Appends-trans, Appends-kept, Consumes-trans, Consumes-kept, Consumes-nil}
use Rattle.lines_core.specs.declared.line.TheConstants.{KEPT_BYTES, LONGEST_LINE}
use Rattle.lines_core.specs.Lines.{Cut, NoFeed, whole_lines}
use Rattle.lines_core.specs.Serving.{AnswersAll, AnswersPiece, BreaksPiece, AnswersInput, BreaksInput, HasServed, WasOpen, traffic_of}
use Rattle.lines_core.proofs.LineLemmas.{Cut-append, lines-Cut, whole_lines-Cut, last_line}
use Rattle.lines_core.proofs.AnswerLemmas.{AnswersAll-append, AnswersAll-parts, AnswersAll-one, R-kept}
use Rattle.base_core.specs.Streams.{WritesFront, Writes, WritesFrontOf}
use Rattle.base_core.proofs.Fronts.{front-second}
use Rattle.lines_core.proofs.FeedLemmas.{Feeds-none, no_rest}
use Rattle.lines_core.proofs.Parts.{pieces-append}

at_end : (left0 left1 left2 : Option (List ℕ)) (bytes : List ℕ) → Consumes left0 left1 bytes → Consumes left1 left2 [] → Consumes left0 left2 bytes
at_end left0 left1 left2 bytes p q = subst (λ b. Consumes left0 left2 b) (append-nil bytes) (Consumes-trans left0 left1 left2 bytes [] p q)

module _ {X : Type 0} (R : X → List ℕ → List ℕ → X → Type 0)
    (too_long : (old new : X) (line other text : List ℕ) → LONGEST_LINE < length line → LONGEST_LINE < length other → R old line text new → R old other text new) where
  pub Serving-none : (start : X) (left taken : Option (List ℕ)) → HasServed R [] start start (2 ^ 32) (traffic_of left left taken taken)
  Serving-none start left taken = record { bytes = []; count = refl; read = Consumes-nil left; fed = Feeds-none R too_long [] [] start taken tt refl }

  -- A piece was read, and fed behind what is kept.
  pub Serving-next : (kept line : List ℕ) (start mid new : X) (piece : List ℕ) (unread : ℕ) (left0 left1 left2 taken0 taken1 taken2 : Option (List ℕ))
      → (s : HasServed R kept start mid unread (traffic_of left0 left1 taken0 taken1)) → Consumes left1 left2 piece → length piece ≤ unread
      → AnswersPiece R s.fed.now piece line mid new taken1 taken2
      → HasServed R line start new (unread - length piece) (traffic_of left0 left2 taken0 taken2)
  Serving-next kept line start mid new piece unread left0 left1 left2 taken0 taken1 taken2 s read fits next = record {
    bytes = s.bytes ++ piece;
    count = omega (arith, length-append s.bytes piece, s.count);
    read = Consumes-trans left0 left1 left2 s.bytes piece s.read read;
    fed = pieces-append R [] s.bytes piece kept line start mid new taken0 taken1 taken2 s.fed next;
  }

  pub Serving-more : (kept line : List ℕ) (start mid new : X) (piece : List ℕ) (unread : ℕ) (left0 left1 left2 taken0 taken1 taken2 : Option (List ℕ))
      → HasServed R kept start mid unread (traffic_of left0 left1 taken0 taken1) → Consumes left1 left2 piece → length piece ≤ unread
      → ((rest : List ℕ) → NoFeed rest → kept ≡ take KEPT_BYTES rest → AnswersPiece R rest piece line mid new taken1 taken2)
      → HasServed R line start new (unread - length piece) (traffic_of left0 left2 taken0 taken2)
  Serving-more kept line start mid new piece unread left0 left1 left2 taken0 taken1 taken2 s read fits feeds =
      Serving-next kept line start mid new piece unread left0 left1 left2 taken0 taken1 taken2 s read fits (feeds s.fed.now s.fed.cut.open_rest s.fed.kept_is)

  -- The end of the input, at which no byte was read.
  pub Serving-end : (kept : List ℕ) (start world : X) (unread : ℕ) (left0 left1 left2 taken0 taken1 : Option (List ℕ))
      → HasServed R kept start world unread (traffic_of left0 left1 taken0 taken1) → Consumes left1 left2 [] → HasServed R kept start world unread (traffic_of left0 left2 taken0 taken1)
  Serving-end kept start world unread left0 left1 left2 taken0 taken1 s read =
      record { bytes = s.bytes; count = s.count; read = at_end left0 left1 left2 s.bytes s.read read; fed = s.fed }

  -- The whole lines are answered, wherever the reading ends.
  pub Run-whole : (kept : List ℕ) (start world : X) (unread : ℕ) (left0 left1 left2 taken0 taken1 : Option (List ℕ))
      → (s : HasServed R kept start world unread (traffic_of left0 left1 taken0 taken1)) → Keeps left1 left2 → AnswersInput R whole_lines start world (traffic_of left0 left2 taken0 taken1) s.bytes
  Run-whole kept start world unread left0 left1 left2 taken0 taken1 s keeps = record {
    text = s.fed.text;
    bounded = omega (arith, s.count);
    answered = subst (λ ls. AnswersAll R start ls s.fed.text world) (sym (whole_lines-Cut s.bytes s.fed.parts s.fed.now s.fed.cut)) s.fed.answered;
    read = Consumes-kept left0 left1 left2 s.bytes s.read keeps;
    wrote = s.fed.wrote;
  }

  -- the answers, with that to the last line
  all_answers : (bytes : List ℕ) (start mid new : X) (text more : List ℕ) (parts : List (List ℕ)) (now kept : List ℕ) → Cut bytes parts now → kept ≡ take KEPT_BYTES now → 0 < length kept
      → AnswersAll R start (map strip_carriage_return parts) text mid → R mid kept more new → AnswersAll R start (lines bytes) (text ++ more) new
  all_answers bytes start mid new text more parts [] kept cut e some p q =
      let none : length kept ≡ 0 = ap length e in absurd (omega arith)
  all_answers bytes start mid new text more parts (b ∷ bs) kept cut e some p q =
      subst (λ ls. AnswersAll R start ls (text ++ more) new) (sym (lines-Cut bytes parts (b ∷ bs) cut))
      (AnswersAll-append R start mid new (map strip_carriage_return parts) ((b ∷ bs) ∷ []) text more p
      (AnswersAll-one R mid new (b ∷ bs) more (R-kept R too_long (b ∷ bs) mid new more (subst (λ x. R mid x more new) e q))))

  -- At the end of the input the last line, if it has a byte, is answered too.
  pub Run-last : (kept : List ℕ) (start mid new : X) (unread : ℕ) (left0 left1 left2 taken0 taken1 taken2 : Option (List ℕ))
      → (s : HasServed R kept start mid unread (traffic_of left0 left1 taken0 taken1)) → Consumes left1 left2 [] → 0 < length kept → Writes (λ text. R mid kept text new) taken1 taken2
      → AnswersInput R lines start new (traffic_of left0 left2 taken0 taken2) s.bytes
  Run-last kept start mid new unread left0 left1 left2 taken0 taken1 taken2 s read some last = record {
    text = s.fed.text ++ last.text;
    bounded = omega (arith, s.count);
    answered = all_answers s.bytes start mid new s.fed.text last.text s.fed.parts s.fed.now kept s.fed.cut s.fed.kept_is some s.fed.answered last.is;
    read = at_end left0 left1 left2 s.bytes s.read read;
    wrote = Appends-trans taken0 taken1 taken2 s.fed.text last.text s.fed.wrote last.wrote;
  }

  pub Run-nothing : (kept : List ℕ) (start mid new : X) (unread : ℕ) (left0 left1 left2 taken0 taken1 taken2 : Option (List ℕ))
      → (s : HasServed R kept start mid unread (traffic_of left0 left1 taken0 taken1)) → Consumes left1 left2 [] → length kept ≡ 0 → new ≡ mid → Keeps taken1 taken2
      → AnswersInput R lines start new (traffic_of left0 left2 taken0 taken2) s.bytes
  Run-nothing kept start mid new unread left0 left1 left2 taken0 taken1 taken2 s read none same keeps = record {
    text = s.fed.text;
    bounded = omega (arith, s.count);
    answered = subst (λ w. AnswersAll R start (lines s.bytes) s.fed.text w) (sym same)
        (subst (λ ls. AnswersAll R start ls s.fed.text mid)
        (sym (lines-Cut s.bytes s.fed.parts s.fed.now s.fed.cut ∙ ap (λ r. map strip_carriage_return s.fed.parts ++ last_line r) (no_rest s.fed.now kept s.fed.kept_is none) ∙ append-nil (map strip_carriage_return s.fed.parts)))
        s.fed.answered);
    read = at_end left0 left1 left2 s.bytes s.read read;
    wrote = Appends-kept taken0 taken1 taken2 s.fed.text s.fed.wrote keeps;
  }

  -- the last line is answered, if it has a byte
  last_answers : (mid new : X) (more : List ℕ) (now kept : List ℕ) → kept ≡ take KEPT_BYTES now → 0 < length kept → R mid kept more new → AnswersAll R mid (last_line now) more new
  last_answers mid new more [] kept e some q = let none : length kept ≡ 0 = ap length e in absurd (omega arith)
  last_answers mid new more (b ∷ bs) kept e some q =
      AnswersAll-one R mid new (b ∷ bs) more (R-kept R too_long (b ∷ bs) mid new more (subst (λ x. R mid x more new) e q))

  -- the server was not over behind the whole lines
  was_open : (over : X → Bool) (kept : List ℕ) (start mid new : X) (more : List ℕ) (unread : ℕ) (left0 left1 taken0 taken1 : Option (List ℕ))
      → (s : HasServed R kept start mid unread (traffic_of left0 left1 taken0 taken1)) → (over start ≡ false → over mid ≡ false) → AnswersAll R mid (last_line s.fed.now) more new
      → WasOpen R over start new s.bytes
  was_open over kept start mid new more unread left0 left1 taken0 taken1 s h q =
      let whole = whole_lines-Cut s.bytes s.fed.parts s.fed.now s.fed.cut in record {
        between = mid;
        last = last_line s.fed.now;
        first_text = s.fed.text;
        last_text = more;
        lines_are = lines-Cut s.bytes s.fed.parts s.fed.now s.fed.cut ∙ ap (λ ls. ls ++ last_line s.fed.now) (sym whole);
        answered = subst (λ ls. AnswersAll R start ls s.fed.text mid) (sym whole) s.fed.answered;
        open_then = h;
        answered_last = q;
      }

  pub Open-last : (over : X → Bool) (kept : List ℕ) (start mid new : X) (unread : ℕ) (left0 left1 taken0 taken1 taken2 : Option (List ℕ))
      → (s : HasServed R kept start mid unread (traffic_of left0 left1 taken0 taken1)) → (over start ≡ false → over mid ≡ false) → 0 < length kept → Writes (λ text. R mid kept text new) taken1 taken2
      → WasOpen R over start new s.bytes
  Open-last over kept start mid new unread left0 left1 taken0 taken1 taken2 s h some last =
      was_open over kept start mid new last.text unread left0 left1 taken0 taken1 s h (last_answers mid new last.text s.fed.now kept s.fed.kept_is some last.is)

  pub Open-nothing : (over : X → Bool) (kept : List ℕ) (start mid new : X) (unread : ℕ) (left0 left1 taken0 taken1 : Option (List ℕ))
      → (s : HasServed R kept start mid unread (traffic_of left0 left1 taken0 taken1)) → (over start ≡ false → over mid ≡ false) → length kept ≡ 0 → new ≡ mid
      → WasOpen R over start new s.bytes
  Open-nothing over kept start mid new unread left0 left1 taken0 taken1 s h none same =
      was_open over kept start mid new [] unread left0 left1 taken0 taken1 s h
      (subst (λ now. AnswersAll R mid (last_line now) [] new) (sym (no_rest s.fed.now kept s.fed.kept_is none)) (refl, same))

  -- The writer failed at the last line.
  pub BrokenRun-last : (kept : List ℕ) (start mid new : X) (unread : ℕ) (left0 left1 left2 taken0 taken1 taken2 : Option (List ℕ))
      → (s : HasServed R kept start mid unread (traffic_of left0 left1 taken0 taken1)) → Consumes left1 left2 [] → IsAtEnd left2 → 0 < length kept → WritesFrontOf (λ text. R mid kept text new) taken1 taken2
      → BreaksInput R start new (traffic_of left0 left2 taken0 taken2)
  BrokenRun-last kept start mid new unread left0 left1 left2 taken0 taken1 taken2 s read end some last = record {
    done = s.bytes;
    undone = [];
    text = s.fed.text ++ last.text;
    line_end = inr (refl, end);
    answered = all_answers s.bytes start mid new s.fed.text last.text s.fed.parts s.fed.now kept s.fed.cut s.fed.kept_is some s.fed.answered last.is;
    read = Consumes-trans left0 left1 left2 s.bytes [] s.read read;
    wrote = front-second taken0 taken1 taken2 s.fed.text last.text s.fed.wrote last.wrote;
  }

  -- The writer failed at a line of the piece.
  pub BrokenRun-next : (kept : List ℕ) (start mid new : X) (piece : List ℕ) (unread : ℕ) (left0 left1 left2 taken0 taken1 taken2 : Option (List ℕ))
      → (s : HasServed R kept start mid unread (traffic_of left0 left1 taken0 taken1)) → Consumes left1 left2 piece
      → BreaksPiece R s.fed.now piece mid new taken1 taken2
      → BreaksInput R start new (traffic_of left0 left2 taken0 taken2)
  BrokenRun-next kept start mid new piece unread left0 left1 left2 taken0 taken1 taken2 s read broken =
      let cut = Cut-append s.bytes broken.done s.fed.parts broken.parts s.fed.now [] s.fed.cut broken.cut in
      let says = lines-Cut (s.bytes ++ broken.done) (s.fed.parts ++ broken.parts) [] cut ∙ append-nil (map strip_carriage_return (s.fed.parts ++ broken.parts)) in record {
        done = s.bytes ++ broken.done;
        undone = broken.undone;
        text = s.fed.text ++ broken.text;
        line_end = inl (says ∙ sym (whole_lines-Cut (s.bytes ++ broken.done) (s.fed.parts ++ broken.parts) [] cut));
        answered = subst (λ ls. AnswersAll R start ls (s.fed.text ++ broken.text) new) (sym says)
            (AnswersAll-parts R start mid new s.fed.parts broken.parts s.fed.text broken.text s.fed.answered broken.answered);
        read = subst (λ b. Consumes left0 left2 b) (ap (λ p. s.bytes ++ p) broken.front ∙ sym (append_assoc s.bytes broken.done broken.undone))
            (Consumes-trans left0 left1 left2 s.bytes piece s.read read);
        wrote = front-second taken0 taken1 taken2 s.fed.text broken.text s.fed.wrote broken.wrote;
      }

  pub BrokenRun-piece : (kept : List ℕ) (start mid new : X) (piece : List ℕ) (unread : ℕ) (left0 left1 left2 taken0 taken1 taken2 : Option (List ℕ))
      → (s : HasServed R kept start mid unread (traffic_of left0 left1 taken0 taken1)) → Consumes left1 left2 piece
      → ((rest : List ℕ) → NoFeed rest → kept ≡ take KEPT_BYTES rest → BreaksPiece R rest piece mid new taken1 taken2)
      → BreaksInput R start new (traffic_of left0 left2 taken0 taken2)
  BrokenRun-piece kept start mid new piece unread left0 left1 left2 taken0 taken1 taken2 s read breaks =
      BrokenRun-next kept start mid new piece unread left0 left1 left2 taken0 taken1 taken2 s read (breaks s.fed.now s.fed.cut.open_rest s.fed.kept_is)

  -- The writer failed behind the whole lines: what was written is a front of their answers.
  pub BrokenRun-front : (kept : List ℕ) (start world : X) (unread : ℕ) (left0 left1 taken0 taken1 taken2 : Option (List ℕ))
      → (s : HasServed R kept start world unread (traffic_of left0 left1 taken0 taken1)) → WritesFront taken0 taken2 s.fed.text
      → BreaksInput R start world (traffic_of left0 left1 taken0 taken2)
  BrokenRun-front kept start world unread left0 left1 taken0 taken1 taken2 s wrote =
      let done = flat_map (λ (part : List ℕ). part ++ 10 ∷ []) s.fed.parts in
      let cut : Cut done s.fed.parts [] = record { whole = sym (append-nil done); each = s.fed.cut.each; open_rest = tt } in
      let says = lines-Cut done s.fed.parts [] cut ∙ append-nil (map strip_carriage_return s.fed.parts) in record {
        done = done;
        undone = s.fed.now;
        text = s.fed.text;
        line_end = inl (says ∙ sym (whole_lines-Cut done s.fed.parts [] cut));
        answered = subst (λ ls. AnswersAll R start ls s.fed.text world) (sym says) s.fed.answered;
        read = subst (λ b. Consumes left0 left1 b) s.fed.cut.whole s.read;
        wrote = wrote;
      }
