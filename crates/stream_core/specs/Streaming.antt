-- How a stream ends: bytes in, and bytes out.
use Rattle.std.specs.Prelude.{ℕ, ◌≡◌, ◌^◌, List, [], ◌++◌, length, Option, Some, None, Result, Ok, Err}
use Rattle.std.proofs.Common.{Vec, Global}
use Rattle.std.specs.Str.Lines.{lines}
use Rattle.std.specs.Io.KnownBytes.{Appends, Consumes, IsAtEnd, Keeps}
use Rattle.base_core.specs.Streams.{WritesFront}
use Rattle.base_core.specs.declared.limits.Limits.{Limits}
use Rattle.lines_core.specs.Lines.{whole_lines}
use Rattle.lines_core.specs.declared.serving.SessionFault.{SessionFault}
use Rattle.lines_core.specs.declared.serving.SessionFault.TheVariants as sessions
use Rattle.lines_core.specs.declared.serving.WholeEnding.{WholeEnding}
use Rattle.lines_core.specs.declared.serving.WholeEnding.TheVariants as endings
use Rattle.system_core.specs.declared.machine.event.Entry.{Entry}
use Rattle.load_core.specs.declared.fault.Undone.{Undone}
use Rattle.load_core.specs.Loading.{IsCutOf, Loads, StopsAt, lines_unmarked}
use Rattle.stream_core.specs.declared.streaming.StreamFault.{StreamFault}
use Rattle.stream_core.specs.declared.streaming.StreamFault.TheVariants as faults
use Rattle.stream_core.specs.Streams.{AreChangesTold, ChangeTold, stream_text}

-- the text tells what each entry of the journal did, but for the moments up to this one
pub record TellsJournal (from : ℕ) (journal : List Entry) (text : List ℕ) : Type 0 where
  pub told : List ChangeTold
  pub are_told : AreChangesTold [] journal told
  pub text_is : text ≡ stream_text from told

-- the whole lines of the bytes, up to the last that says a change, were told
pub record Streams (limits : Limits) (from : ℕ) (lines : List (List ℕ)) (journal : List Entry)
    (taken taken' : Option (List ℕ)) : Type 0 where
  pub text : List ℕ
  pub loads : Loads limits [] lines journal
  pub tells : TellsJournal from journal text
  pub wrote : Appends taken taken' text

-- How the stream of what a reader has left ends, from nothing on. Ok: all of it was read, and its whole
-- lines load the journal that was told; a last line without a line feed is handed out and says nothing.
-- Line: the lines before that one were told, and it says no change that is done. Read, Bound: the whole
-- lines of what was read were told. Write: of what lines of a front of it did, a front was written.
abbrev pub EndsStream : ℕ → Limits → ℕ → Result (Option (Vec ℕ Global)) StreamFault
    → (left left' taken taken' : Option (List ℕ)) → Type 0
EndsStream chunk limits from (Ok cut) left left' taken taken' =
    (bytes : List ℕ) × (journal : List Entry)
    × Consumes left left' bytes
    × IsAtEnd left'
    × IsCutOf bytes cut
    × Streams limits from (lines_unmarked (whole_lines bytes)) journal taken taken'
EndsStream chunk limits from (Err (faults.Line number why)) left left' taken taken' =
    (bytes : List ℕ)
    × (stops : StopsAt chunk limits (lines_unmarked (whole_lines bytes)) number why)
    × Consumes left left' bytes
    × Streams limits from stops.front stops.journal taken taken'
EndsStream chunk limits from (Err faults.Read) left left' taken taken' =
    (bytes : List ℕ) × (journal : List Entry)
    × Consumes left left' bytes
    × Streams limits from (lines_unmarked (whole_lines bytes)) journal taken taken'
EndsStream chunk limits from (Err faults.Bound) left left' taken taken' =
    (bytes : List ℕ) × (journal : List Entry)
    × Consumes left left' bytes
    × Streams limits from (lines_unmarked (whole_lines bytes)) journal taken taken'
    × (length bytes ≡ 2 ^ 32)
EndsStream chunk limits from (Err faults.Write) left left' taken taken' =
    (done undone : List ℕ) × (front rest : List (List ℕ)) × (journal : List Entry) × (text : List ℕ)
    × Consumes left left' (done ++ undone)
    × (lines_unmarked (lines done) ≡ front ++ rest)
    × Loads limits [] front journal
    × TellsJournal from journal text
    × WritesFront taken taken' text
EndsStream chunk limits from (Err faults.NoMemory) left left' taken taken' =
    Keeps left left' × Keeps taken taken'

-- ---- how it is made of how the lines were served, and where the streamer stopped
abbrev pub stream_fault : SessionFault → StreamFault
stream_fault sessions.Read = faults.Read
stream_fault sessions.Write = faults.Write
stream_fault sessions.Bound = faults.Bound
stream_fault sessions.NoMemory = faults.NoMemory

-- the front of a last line that was cut off
abbrev pub front_of : WholeEnding → Option (Vec ℕ Global)
front_of endings.Whole = None
front_of (endings.CutOff front) = Some front
front_of endings.Over = None

abbrev pub result_of : Result WholeEnding SessionFault → Option (ℕ × Undone)
    → Result (Option (Vec ℕ Global)) StreamFault
result_of (Err fault) stopped = Err (stream_fault fault)
result_of (Ok ending) (Some (number, why)) = Err (faults.Line number why)
result_of (Ok ending) None = Ok (front_of ending)
