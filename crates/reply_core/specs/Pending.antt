-- What is still to be written of a reply that was begun.
use Rattle.std.specs.Prelude.{◌≡◌, ◌++◌, ◌-◌, ℕ, [], List, length, drop, Option, None, Some}
use Rattle.std.specs.List.{flat_map}
use Rattle.export_core.specs.Record.{row_lines}
use Rattle.system_core.specs.declared.machine.event.Reply.{Reply}
use Rattle.system_core.specs.declared.machine.event.Reply.TheVariants as replies
use Rattle.reply_core.specs.Telling.{TellsRecords, TellsReply}
use Rattle.reply_core.specs.Texts.{checkpoint_line}
use Rattle.reply_core.specs.declared.pending.Pending.{Pending}
use Rattle.reply_core.specs.declared.pending.Pending.TheVariants as pendings

-- what may still be written of a reply: the lines from a place on, or the records of an export
abbrev pub TellsRest : Pending → List ℕ → Type 0
TellsRest (pendings.Rows rows next) text = text ≡ row_lines (drop next rows)
TellsRest (pendings.Listed entries next) text =
    text ≡ flat_map checkpoint_line (drop next entries)
TellsRest (pendings.Export ticket) text = TellsRecords (replies.Export ticket) text

-- where nothing is pending, nothing more is written
abbrev pub TellsPending : Option Pending → List ℕ → Type 0
TellsPending None text = text ≡ []
TellsPending (Some pending) text = TellsRest pending text

-- what was written of a reply: with whatever may still be written, it is a text of the reply
abbrev pub Begins : Reply → Option Pending → List ℕ → Type 0
Begins reply pending text =
    (rest : List ℕ) → TellsPending pending rest → TellsReply reply (text ++ rest)

-- the same of what was pending before
abbrev pub TellsMore : Pending → Option Pending → List ℕ → Type 0
TellsMore before pending text =
    (rest : List ℕ) → TellsPending pending rest → TellsRest before (text ++ rest)

-- how many lines or records are to come
abbrev pub count_left : Pending → ℕ
count_left (pendings.Rows rows next) = length rows - next
count_left (pendings.Listed entries next) = length entries - next
count_left (pendings.Export ticket) = length ticket.to_come
