-- Replies of which an answer is begun.
use Rattle.std.proofs.Common.{◌≡◌, ℕ, ◌+◌, List, [], ◌++◌, Option, Some, None, refl, sym, subst, append_assoc, arith}
use Rattle.std.specs.Io.KnownBytes.{Appends}
use Rattle.std.proofs.KnownBytes.{Appends-trans}
use Rattle.base_core.specs.Streams.{Writes, WritesFront, WritesFrontOf}
use Rattle.base_core.proofs.Fronts.{front-first, front-second}
use Rattle.system_core.specs.declared.machine.event.Reply.{Reply}
use Rattle.answer_core.specs.Answers.{AnswersUnsent, IsUnsentText, IsBelow, SendsMore}
use Rattle.answer_core.specs.Messages.{reply_messages}
use Rattle.answer_core.specs.Remaining.{rows_to_come}
use Rattle.answer_core.specs.Replies.{AnswersReply, AnswersRows, BeginsAnswer, IsReplyAnswer, row_count, reply_rows}
use Rattle.answer_core.specs.declared.answering.Request.{Request}
use Rattle.answer_core.specs.declared.unsent.Portal.{Portal}
use Rattle.answer_core.specs.declared.unsent.Progress.{Progress}
use Rattle.answer_core.specs.declared.unsent.Progress.TheVariants as progresses
use Rattle.answer_core.specs.declared.unsent.Unsent.{Unsent}
use Rattle.answer_core.proofs.Going.{some_answer}

-- something may be written of the rows, if there are any
some_rows : (o : Option Unsent) → (text : List ℕ) × ((left : Option Portal) × AnswersRows o text left)
some_rows None = ([], (None, (refl, refl)))
some_rows (Some u) = some_answer u

-- something may always be written of a reply
pub some_reply_answer : (request : Request) (reply : Reply) → (text : List ℕ) × IsReplyAnswer request reply text
some_reply_answer request reply =
    let rows = some_rows (reply_rows request reply) in
    (reply_messages request.tag reply ++ rows.0, (rows.1.0, (rows.0, rows.1.1, refl)))

-- of the rows of a reply as many are left or fewer
at_most : (n : ℕ) (progress : Progress) → IsBelow n progress → IsBelow (1 + n) progress
at_most n progresses.Whole h = tt
at_most n (progresses.Suspended portal) h = tt
at_most n (progresses.Part unsent) h = omega (arith, h)

module _ (request : Request) (reply : Reply) (u : Unsent) (rows : reply_rows request reply ≡ Some u) where
  pub begun_below : (progress : Progress) → IsBelow (rows_to_come u) progress → IsBelow (1 + row_count (reply_rows request reply)) progress
  begun_below progress h = subst (λ (o : Option Unsent). IsBelow (1 + row_count o) progress) (sym rows) (at_most (rows_to_come u) progress h)

  pub unbegun_below : IsBelow (1 + row_count (reply_rows request reply)) (progresses.Part u)
  unbegun_below = subst (λ (o : Option Unsent). IsBelow (1 + row_count o) (progresses.Part u)) (sym rows) (omega arith)

module _ (request : Request) (reply : Reply) (before mid after : Option (List ℕ)) where
  -- the writer failed at the messages of the reply
  pub breaks_messages : WritesFront before after (reply_messages request.tag reply) → WritesFrontOf (IsReplyAnswer request reply) before after
  breaks_messages w =
      let messages = reply_messages request.tag reply in
      let rows = some_rows (reply_rows request reply) in
      record {
        text = messages ++ rows.0;
        is = (rows.1.0, (rows.0, rows.1.1, refl));
        wrote = front-first before after messages rows.0 w;
      }

  module _ (u : Unsent) (rows : reply_rows request reply ≡ Some u) (messages : Appends before mid (reply_messages request.tag reply)) where
    -- what may be written of the rows may be written of the reply
    of_rows : (text : List ℕ) (left : Option Portal) → AnswersUnsent u text left → AnswersReply request reply (reply_messages request.tag reply ++ text) left
    of_rows text left a = (text, subst (λ (o : Option Unsent). AnswersRows o text left) (sym rows) a, refl)

    begins_rows : (progress : Progress) (text : List ℕ) → SendsMore u progress text → BeginsAnswer request reply progress (reply_messages request.tag reply ++ text)
    begins_rows progresses.Whole text h = of_rows text None h
    begins_rows (progresses.Suspended portal) text h = of_rows text (Some portal) h
    begins_rows (progresses.Part unsent) text h = λ rest left told.
        subst (λ (t : List ℕ). AnswersReply request reply t left) (sym (append_assoc (reply_messages request.tag reply) text rest)) (of_rows (text ++ rest) left (h rest left told))

    -- the first of them was written
    pub writes_begun : (progress : Progress) → Writes (SendsMore u progress) mid after → Writes (BeginsAnswer request reply progress) before after
    writes_begun progress w = record {
      text = reply_messages request.tag reply ++ w.text;
      is = begins_rows progress w.text w.is;
      wrote = Appends-trans before mid after (reply_messages request.tag reply) w.text messages w.wrote;
    }

    -- the writer failed at them
    pub breaks_begun : WritesFrontOf (IsUnsentText u) mid after → WritesFrontOf (IsReplyAnswer request reply) before after
    breaks_begun w = record {
      text = reply_messages request.tag reply ++ w.text;
      is = (w.is.0, of_rows w.text w.is.0 w.is.1);
      wrote = front-second before mid after (reply_messages request.tag reply) w.text messages w.wrote;
    }
