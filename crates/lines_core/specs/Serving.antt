-- What a server of lines has read, and what it has written.
-- `answers old line text new`: from the state old, text may be written for the line, and new is the
-- next state.
use Rattle.std.specs.Prelude.{◌≡◌, ◌≢◌, ◌⊎◌, Bool, true, false, ◌+◌, ◌^◌, ◌≤◌, ℕ, List, [], ◌∷◌, ◌++◌, length, map, take, Option, Result, Ok, Err}
use Rattle.std.specs.Str.Lines.{lines, strip_carriage_return}
use Rattle.std.specs.Io.KnownBytes.{Appends, Consumes, Keeps, IsAtEnd}
use Rattle.base_core.specs.Streams.{WritesFront}
use Rattle.lines_core.specs.Lines.{Cut, NoFeed, whole_lines, IsWhole, IsCutOff}
use Rattle.lines_core.specs.declared.line.TheConstants.{KEPT_BYTES}
use Rattle.lines_core.specs.declared.serving.Ending.{Ending}
use Rattle.lines_core.specs.declared.serving.Ending.TheVariants as endings
use Rattle.lines_core.specs.declared.serving.WholeEnding.{WholeEnding}
use Rattle.lines_core.specs.declared.serving.WholeEnding.TheVariants as whole_endings
use Rattle.lines_core.specs.declared.serving.Stop.{Stop}
use Rattle.lines_core.specs.declared.serving.Stop.TheVariants as stops
use Rattle.lines_core.specs.declared.serving.SessionFault.{SessionFault}
use Rattle.lines_core.specs.declared.serving.SessionFault.TheVariants as faults

-- what a reader has left and what a writer has taken, at first and at last, where they are known
pub record Traffic : Type 0 where
  pub left : Option (List ℕ)
  pub left' : Option (List ℕ)
  pub taken : Option (List ℕ)
  pub taken' : Option (List ℕ)

abbrev pub traffic_of : (left left' taken taken' : Option (List ℕ)) → Traffic
traffic_of left left' taken taken' =
    record { left = left; left' = left'; taken = taken; taken' = taken' }

-- The lines are answered one after another.
abbrev pub AnswersAll : {X : Type 0} → (X → List ℕ → List ℕ → X → Type 0)
    → X → List (List ℕ) → List ℕ → X → Type 0
AnswersAll answers old [] text new = (text ≡ []) × (new ≡ old)
AnswersAll {X} answers old (line ∷ lines) text new =
    (first : List ℕ) × (mid : X) × (more : List ℕ)
    × answers old line first mid × AnswersAll answers mid lines more new × (text ≡ first ++ more)

-- With rest before it, the piece was cut into lines, which were answered; of what comes after them the
-- front is kept.
pub record AnswersPiece {X : Type 0} (answers : X → List ℕ → List ℕ → X → Type 0)
    (rest piece kept : List ℕ) (old new : X) (taken taken' : Option (List ℕ)) : Type 0 where
  pub parts : List (List ℕ)
  pub now : List ℕ
  pub text : List ℕ
  pub cut : Cut (rest ++ piece) parts now
  pub kept_is : kept ≡ take KEPT_BYTES now
  pub answered : AnswersAll answers old (map strip_carriage_return parts) text new
  pub wrote : Appends taken taken' text

-- The writer failed at the answer to a line that ends in the piece.
pub record BreaksPiece {X : Type 0} (answers : X → List ℕ → List ℕ → X → Type 0)
    (rest piece : List ℕ) (old new : X) (taken taken' : Option (List ℕ)) : Type 0 where
  pub parts : List (List ℕ)
  pub done : List ℕ
  pub undone : List ℕ
  pub front : piece ≡ done ++ undone
  pub text : List ℕ
  pub cut : Cut (rest ++ done) parts []
  pub answered : AnswersAll answers old (map strip_carriage_return parts) text new
  pub wrote : WritesFront taken taken' text

-- With rest before it, no line ends in the piece: the front of both is kept, and nothing was answered.
pub record KeepsFront {X : Type 0} (rest piece kept : List ℕ) (old new : X)
    (taken taken' : Option (List ℕ)) : Type 0 where
  pub no_feed : NoFeed piece
  pub kept_is : kept ≡ take KEPT_BYTES (rest ++ piece)
  pub same : new ≡ old
  pub unwritten : Keeps taken taken'

-- With rest before it, the piece is the last part of a line and its line feed: the line was answered,
-- and nothing is kept.
pub record AnswersEndedLine {X : Type 0} (answers : X → List ℕ → List ℕ → X → Type 0)
    (rest piece kept : List ℕ) (old new : X) (taken taken' : Option (List ℕ)) : Type 0 where
  pub part : List ℕ
  pub text : List ℕ
  pub piece_is : piece ≡ part ++ 10 ∷ []
  pub no_feed : NoFeed part
  pub kept_is : kept ≡ []
  pub answered : answers old (strip_carriage_return (rest ++ part)) text new
  pub wrote : Appends taken taken' text

-- The piece is a further front of the line that rest begins, or it ends that line, which was answered.
abbrev pub AnswersPart : {X : Type 0} → (X → List ℕ → List ℕ → X → Type 0)
    → (rest piece kept : List ℕ) → (old new : X) → (taken taken' : Option (List ℕ)) → Type 0
AnswersPart answers rest piece kept old new taken taken' =
    KeepsFront rest piece kept old new taken taken'
    ⊎ AnswersEndedLine answers rest piece kept old new taken taken'

-- The writer failed at the answer to the line that rest begins, which ends in the piece.
pub record BreaksPart {X : Type 0} (answers : X → List ℕ → List ℕ → X → Type 0)
    (rest piece : List ℕ) (old new : X) (taken taken' : Option (List ℕ)) : Type 0 where
  pub part : List ℕ
  pub behind : List ℕ
  pub text : List ℕ
  pub piece_is : piece ≡ part ++ 10 ∷ behind
  pub no_feed : NoFeed part
  pub answered : answers old (strip_carriage_return (rest ++ part)) text new
  pub wrote : WritesFront taken taken' text

-- These bytes were read, and their lines, as lines_of cuts them, were answered.
pub record AnswersInput {X : Type 0} (answers : X → List ℕ → List ℕ → X → Type 0)
    (lines_of : List ℕ → List (List ℕ)) (old new : X)
    (traffic : Traffic) (bytes : List ℕ) : Type 0 where
  pub text : List ℕ
  pub bounded : length bytes ≤ 2 ^ 32
  pub answered : AnswersAll answers old (lines_of bytes) text new
  pub read : Consumes traffic.left traffic.left' bytes
  pub wrote : Appends traffic.taken traffic.taken' text

-- The server was not over when the end of these bytes was looked for: not behind the lines whose line
-- feed had come. Only a last line without one can have ended it.
pub record WasOpen {X : Type 0} (answers : X → List ℕ → List ℕ → X → Type 0) (over : X → Bool)
    (old new : X) (bytes : List ℕ) : Type 0 where
  pub between : X
  pub last : List (List ℕ)
  pub first_text : List ℕ
  pub last_text : List ℕ
  pub lines_are : lines bytes ≡ whole_lines bytes ++ last
  pub answered : AnswersAll answers old (whole_lines bytes) first_text between
  pub open_then : over old ≡ false → over between ≡ false
  pub answered_last : AnswersAll answers between last last_text new

-- The writer failed: what was written is a front of the answers to the lines of a front of what was
-- read. That ends with a line: each of its lines has its line feed, or it is the whole input.
pub record BreaksInput {X : Type 0} (answers : X → List ℕ → List ℕ → X → Type 0)
    (old new : X) (traffic : Traffic) : Type 0 where
  pub done : List ℕ
  pub undone : List ℕ
  pub text : List ℕ
  pub line_end : (lines done ≡ whole_lines done) ⊎ ((undone ≡ []) × IsAtEnd traffic.left')
  pub answered : AnswersAll answers old (lines done) text new
  pub read : Consumes traffic.left traffic.left' (done ++ undone)
  pub wrote : WritesFront traffic.taken traffic.taken' text

-- what holds at each end of a run
abbrev pub Ends : {X : Type 0} → (X → List ℕ → List ℕ → X → Type 0) → (X → Bool)
    → Result (Unit {0}) SessionFault → X → X
    → Traffic → Type 0
-- all lines are answered at the end of the input, before which the server was not over; or it was
-- over at the end of some line before that
Ends answers over (Ok x) old new traffic =
    (bytes : List ℕ)
    × ((AnswersInput answers lines old new traffic bytes
    × IsAtEnd traffic.left'
    × WasOpen answers over old new bytes)
    ⊎ (AnswersInput answers whole_lines old new traffic bytes × (over new ≡ true)))
-- the whole lines of what was read are answered
Ends answers over (Err faults.Read) old new traffic =
    (bytes : List ℕ) × AnswersInput answers whole_lines old new traffic bytes
-- and so they are where as much was read as may be
Ends answers over (Err faults.Bound) old new traffic =
    (bytes : List ℕ) × AnswersInput answers whole_lines old new traffic bytes
    × (length bytes ≡ 2 ^ 32)
-- the writer failed at a line
Ends answers over (Err faults.Write) old new traffic =
    BreaksInput answers old new traffic
-- nothing was read or written
Ends answers over (Err faults.NoMemory) old new traffic =
    (new ≡ old) × Keeps traffic.left traffic.left' × Keeps traffic.taken traffic.taken'

-- the same, where it is told which end it was: of the input, whose lines have all their line feeds, or
-- whose last has none; or of the server
abbrev pub EndsTold : {X : Type 0} → (X → List ℕ → List ℕ → X → Type 0) → (X → Bool)
    → Result Ending SessionFault → X → X
    → Traffic → Type 0
EndsTold answers over (Ok endings.Whole) old new traffic =
    (bytes : List ℕ)
    × AnswersInput answers lines old new traffic bytes
    × IsAtEnd traffic.left'
    × WasOpen answers over old new bytes
    × IsWhole bytes
    × (lines bytes ≡ whole_lines bytes)
EndsTold answers over (Ok endings.CutOff) old new traffic =
    (bytes : List ℕ)
    × AnswersInput answers lines old new traffic bytes
    × IsAtEnd traffic.left'
    × WasOpen answers over old new bytes
    × IsCutOff bytes
EndsTold answers over (Ok endings.Over) old new traffic =
    (bytes : List ℕ)
    × AnswersInput answers whole_lines old new traffic bytes × (over new ≡ true)
EndsTold answers over (Err fault) old new traffic =
    Ends answers over (Err fault) old new traffic

-- the same, where only whole lines are answered: of a last line that has no line feed the front is kept
abbrev pub EndsWhole : {X : Type 0} → (X → List ℕ → List ℕ → X → Type 0) → (X → Bool)
    → Result WholeEnding SessionFault → X → X
    → Traffic → Type 0
EndsWhole answers over (Ok whole_endings.Whole) old new traffic =
    (bytes : List ℕ)
    × AnswersInput answers whole_lines old new traffic bytes
    × IsAtEnd traffic.left'
    × (over old ≡ false → over new ≡ false)
    × IsWhole bytes
    × (lines bytes ≡ whole_lines bytes)
EndsWhole answers over (Ok (whole_endings.CutOff front)) old new traffic =
    (bytes : List ℕ)
    × AnswersInput answers whole_lines old new traffic bytes
    × IsAtEnd traffic.left'
    × (over old ≡ false → over new ≡ false)
    × (cut : IsCutOff bytes)
    × (front.items ≡ take KEPT_BYTES cut.last)
EndsWhole answers over (Ok whole_endings.Over) old new traffic =
    (bytes : List ℕ)
    × AnswersInput answers whole_lines old new traffic bytes × (over new ≡ true)
EndsWhole answers over (Err fault) old new traffic =
    Ends answers over (Err fault) old new traffic

-- how an input ends, by what its last line has behind the last line feed
abbrev pub ending_at : List ℕ → Ending
ending_at [] = endings.Whole
ending_at (b ∷ bs) = endings.CutOff

-- the same, where that line is not answered but its front handed out
abbrev pub IsEndingAt : WholeEnding → List ℕ → Type 0
IsEndingAt whole_endings.Whole kept = kept ≡ []
IsEndingAt (whole_endings.CutOff front) kept = (front.items ≡ kept) × (kept ≢ [])
IsEndingAt whole_endings.Over kept = ⊥

-- How far a server has come: the bytes read so far were cut into lines, which were answered; of the
-- rest the front is kept.
pub record HasServed {X : Type 0} (answers : X → List ℕ → List ℕ → X → Type 0)
    (kept : List ℕ) (old new : X) (unread : ℕ) (traffic : Traffic)
    : Type 0 where
  pub bytes : List ℕ
  pub count : length bytes + unread ≡ 2 ^ 32
  pub read : Consumes traffic.left traffic.left' bytes
  pub fed : AnswersPiece answers [] bytes kept old new traffic.taken traffic.taken'

-- where it stopped, with so many bytes that may still come: at the end of the input, before which it was
-- not over; or where it was over
abbrev pub EndsReading : {X : Type 0} → (X → List ℕ → List ℕ → X → Type 0) → (X → Bool)
    → Result Stop SessionFault → List ℕ → ℕ → X → X
    → Traffic → Type 0
EndsReading answers over (Ok stops.AtEnd) kept unread old new traffic =
    HasServed answers kept old new unread traffic
    × IsAtEnd traffic.left'
    × (over old ≡ false → over new ≡ false)
EndsReading answers over (Ok stops.Over) kept unread old new traffic =
    (bytes : List ℕ)
    × AnswersInput answers whole_lines old new traffic bytes × (over new ≡ true)
EndsReading answers over (Err fault) kept unread old new traffic =
    Ends answers over (Err fault) old new traffic
