-- What may be written of a reply in messages.
use Rattle.std.specs.Prelude.{◌≡◌, ℕ, List, [], ◌++◌, Option, Some, None}
use Rattle.base_core.specs.declared.value.Moment.{Moment}
use Rattle.system_core.specs.declared.machine.event.Reply.{Reply}
use Rattle.system_core.specs.declared.machine.event.Reply.TheVariants as replies
use Rattle.answer_core.specs.Answers.{AnswersUnsent, Continues}
use Rattle.answer_core.specs.Messages.{reply_messages}
use Rattle.answer_core.specs.Remaining.{rows_to_come}
use Rattle.answer_core.specs.declared.answering.Request.{Request}
use Rattle.answer_core.specs.declared.items.Items.TheVariants as items
use Rattle.answer_core.specs.declared.unsent.Frame.{Frame}
use Rattle.answer_core.specs.declared.unsent.Portal.{Portal}
use Rattle.answer_core.specs.declared.unsent.Progress.{Progress}
use Rattle.answer_core.specs.declared.unsent.Remainder.{Remainder}
use Rattle.answer_core.specs.declared.unsent.Remainder.TheVariants as remainders
use Rattle.answer_core.specs.declared.unsent.Unsent.{Unsent}

-- these rows, of which so many are asked for
abbrev pub unsent_of : Remainder → Frame → Option ℕ → Unsent
unsent_of rest around asked =
    record { portal = record { remainder = rest; frame = around }; most = asked }

-- what the rows of a reply at this moment have in common
abbrev pub frame_of : Request → Moment → Frame
frame_of request moment =
    record { tag = request.tag; at = moment; formats = request.formats }

-- the rows of a reply: those of a table, checkpoints, or the records of an export
abbrev pub reply_rows : Request → Reply → Option Unsent
reply_rows request (replies.Rows moment rows) =
    Some (unsent_of (remainders.Listed (items.Rows rows) 0) (frame_of request moment) request.most)
reply_rows request (replies.Listed moment entries) = Some
    (unsent_of (remainders.Listed (items.Checkpoints entries) 0) (frame_of request moment)
    request.most)
reply_rows request (replies.Export export) = Some
    (unsent_of (remainders.Export (record { ticket = export; ahead = None }) 0)
    (frame_of request export.at) request.most)
reply_rows request reply = None

-- how many rows these are
abbrev pub row_count : Option Unsent → ℕ
row_count None = 0
row_count (Some unsent) = rows_to_come unsent

-- what may be written of these rows, if there are any, with the portal that is then left
abbrev pub AnswersRows : Option Unsent → List ℕ → Option Portal → Type 0
AnswersRows None text left = (text ≡ []) × (left ≡ None)
AnswersRows (Some unsent) text left = AnswersUnsent unsent text left

-- what may be written of a reply: its messages, or its rows and what ends them
abbrev pub AnswersReply : Request → Reply → List ℕ → Option Portal → Type 0
AnswersReply request reply text left =
    (rows : List ℕ) × AnswersRows (reply_rows request reply) rows left
    × (text ≡ reply_messages request.tag reply ++ rows)

-- whatever is then left
abbrev pub IsReplyAnswer : Request → Reply → List ℕ → Type 0
IsReplyAnswer request reply text = (left : Option Portal) × AnswersReply request reply text left

-- what was written of a reply that was begun
abbrev pub BeginsAnswer : Request → Reply → Progress → List ℕ → Type 0
BeginsAnswer request reply progress text = Continues (AnswersReply request reply) progress text
