-- What may be written of a reply.
use Rattle.std.specs.Prelude.{◌≡◌, ◌⊎◌, ◌++◌, ◌<◌, ℕ, [], List, length, take}
use Rattle.std.specs.List.{concat}
use Rattle.reply_core.specs.Texts.{reply_text, cut_text}
use Rattle.system_core.specs.declared.machine.event.Reply.{Reply}
use Rattle.system_core.specs.declared.machine.event.Reply.TheVariants as replies

-- what may be written behind the text of a reply: of an export its records, or some of them and, out
-- of memory, that the rest is cut; of all else nothing
abbrev pub TellsRecords : Reply → List ℕ → Type 0
TellsRecords (replies.Export ticket) text =
    (text ≡ concat ticket.to_come)
    ⊎ ((n : ℕ)
    × (n < length ticket.to_come)
    × (text ≡ concat (take n ticket.to_come) ++ cut_text))
TellsRecords reply text = text ≡ []

-- what may be written of a reply: its text and its records
abbrev pub TellsReply : Reply → List ℕ → Type 0
TellsReply reply text =
    (records : List ℕ) × TellsRecords reply records × (text ≡ reply_text reply ++ records)
