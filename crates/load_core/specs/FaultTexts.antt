-- What is told people of a loading and of a replay: of faults, and of lines that were left out.
use Rattle.std.specs.Prelude.{ℕ, ◌-◌, ◌||◌, ◌==◌, nat_lt, if◌then◌else◌, List, ◌++◌, length, map, take, codes, decimal}
use Rattle.reply_core.specs.Texts.{fault_text, unread_text, reply_text}
use Rattle.load_core.specs.declared.fault.Undone.{Undone}
use Rattle.load_core.specs.declared.fault.Undone.TheVariants as reasons
use Rattle.load_core.specs.declared.fault.LoadFault.{LoadFault}
use Rattle.load_core.specs.declared.fault.LoadFault.TheVariants as faults
use Rattle.load_core.specs.declared.replayed.LeftOut.{LeftOut}
use Rattle.load_core.specs.declared.replayed.ReplayFault.{ReplayFault}
use Rattle.load_core.specs.declared.replayed.ReplayFault.TheVariants as replay_faults
use Rattle.load_core.specs.Replaying.{DroppedLine}

-- a text without its last byte, as a line without its line feed
abbrev pub without_last : List ℕ → List ℕ
without_last text = take (length text - 1) text

-- why a line says no change that is done, as a session would be told it
abbrev pub undone_text : Undone → List ℕ
undone_text (reasons.Fault code offset) = without_last (fault_text code offset)
undone_text reasons.Unread = without_last unread_text
undone_text reasons.NoChange = codes "no change"
undone_text (reasons.Answer reply) = without_last (reply_text reply)

-- the line of this number, and what is told of it
abbrev pub of_line : ℕ → List ℕ → List ℕ
of_line number said = codes "line " ++ (decimal number ++ (codes ": " ++ said))

-- what is told of a fault, without a line end
abbrev pub load_fault_text : LoadFault → List ℕ
load_fault_text faults.Read = codes "read fault"
load_fault_text faults.Bound = codes "bound reached"
load_fault_text faults.NoMemory = codes "no memory"
load_fault_text (faults.Line number why) = of_line number (undone_text why)
load_fault_text (faults.CutOff number) = of_line number (codes "cut off")

-- ---- a replay
-- the bytes, with a question mark (63) for each control character of ASCII
abbrev pub printable : List ℕ → List ℕ
printable bytes = map (λ b. if nat_lt b 32 || (b == 127) then 63 else b) bytes

-- what is told of a line that was cut off behind this front
abbrev pub cut_off_text : List ℕ → List ℕ
cut_off_text front = codes "cut off: " ++ printable front

abbrev pub cut_off_line : ℕ → List ℕ → List ℕ
cut_off_line number front = of_line number (cut_off_text front)

-- what is told of the fault that ended a replay, without a line end
abbrev pub replay_fault_text : ReplayFault → List ℕ
replay_fault_text replay_faults.Read = codes "read fault"
replay_fault_text replay_faults.Bound = codes "bound reached"
replay_fault_text replay_faults.NoMemory = codes "no memory"
replay_fault_text (replay_faults.Line number why) = of_line number (undone_text why)
replay_fault_text (replay_faults.CutOff number front) = cut_off_line number front.items

-- how many lines were left out, before the first is told
abbrev pub counted_lines : ℕ → List ℕ
counted_lines count =
    if count == 1 then codes "1 line: " else decimal count ++ codes " lines, first "

-- what is told of lines that were left out, so many, of which this is the first
abbrev pub left_out_text : ℕ → LeftOut → List ℕ
left_out_text count first =
    codes "left out " ++ (counted_lines count ++ of_line first.number (undone_text first.why))

-- what is told of a cut line that was dropped
abbrev pub dropped_text : DroppedLine → List ℕ
dropped_text cut = codes "left out " ++ cut_off_line cut.number cut.front
