-- What is written of a reply.
use Rattle.std.proofs.Common.{◌≡◌, ℕ, zero, suc, List, [], ◌∷◌, ◌++◌, take, drop, slice_get, IfSome, Option, Some, refl, sym, ap, ◌∙◌, append_assoc, append-nil, subst, inl}
use Rattle.std.specs.List.{concat}
use Rattle.std.specs.Io.KnownBytes.{Appends}
use Rattle.base_core.specs.Streams.{WritesFront}
use Rattle.base_core.proofs.Fronts.{Both}
use Rattle.export_core.specs.Ticket.{TicketState}
use Rattle.system_core.specs.declared.machine.event.Reply.{Reply}
use Rattle.system_core.specs.declared.machine.event.Reply.TheVariants as replies
use Rattle.reply_core.specs.Texts.{reply_text, head_text, list_text}
use Rattle.reply_core.specs.Telling.{TellsReply, TellsRecords}

-- the text of a reply is its first line, and the records of a list
pub head_then_list : (reply : Reply) → reply_text reply ≡ head_text reply ++ list_text reply
head_then_list (replies.Rows at rows) = refl
head_then_list (replies.Listed at entries) = refl
head_then_list (replies.Done at) = sym (append-nil (reply_text (replies.Done at)))
head_then_list (replies.Begun number at) = sym (append-nil (reply_text (replies.Begun number at)))
head_then_list (replies.Export ticket) = sym (append-nil (reply_text (replies.Export ticket)))
head_then_list (replies.Denied at lack) = sym (append-nil (reply_text (replies.Denied at lack)))
head_then_list (replies.Refused at lack) = sym (append-nil (reply_text (replies.Refused at lack)))
head_then_list (replies.Abandoned number) = sym (append-nil (reply_text (replies.Abandoned number)))
head_then_list (replies.Described at columns) = refl
head_then_list replies.Idle = refl
head_then_list (replies.Stepped number left) = refl
head_then_list (replies.Finished number) = refl

-- a reply that is no export has no records
pub no_records : (reply : Reply) → ((ticket : TicketState) → reply ≡ replies.Export ticket → ⊥) → TellsRecords reply []
no_records (replies.Done at) h = refl
no_records (replies.Rows at rows) h = refl
no_records (replies.Listed at entries) h = refl
no_records (replies.Begun number at) h = refl
no_records (replies.Export ticket) h = absurd (h ticket refl)
no_records (replies.Denied at lack) h = refl
no_records (replies.Refused at lack) h = refl
no_records (replies.Described at columns) h = refl
no_records replies.Idle h = refl
no_records (replies.Stepped number left) h = refl
no_records (replies.Finished number) h = refl
no_records (replies.Abandoned number) h = refl

-- some records may be written of each reply
pub some_records : (reply : Reply) → (records : List ℕ) × TellsRecords reply records
some_records (replies.Done at) = ([], refl)
some_records (replies.Rows at rows) = ([], refl)
some_records (replies.Listed at entries) = ([], refl)
some_records (replies.Begun number at) = ([], refl)
some_records (replies.Export ticket) = (concat ticket.to_come, inl refl)
some_records (replies.Denied at lack) = ([], refl)
some_records (replies.Refused at lack) = ([], refl)
some_records (replies.Described at columns) = ([], refl)
some_records replies.Idle = ([], refl)
some_records (replies.Stepped number left) = ([], refl)
some_records (replies.Finished number) = ([], refl)
some_records (replies.Abandoned number) = ([], refl)

-- the text of a reply and its records
pub both-tells : (reply : Reply) (text : List ℕ) → Both (λ t. t ≡ reply_text reply) (TellsRecords reply) text → TellsReply reply text
both-tells reply text b = (b.1, b.3, b.4 ∙ ap (λ t. t ++ b.1) b.2)

-- records up to one, and those behind it
split-records : (xs : List (List ℕ)) (n : ℕ) (x : List ℕ) → slice_get xs n ≡ Some x → concat xs ≡ concat (take n xs) ++ (x ++ concat (drop (suc n) xs))
split-records [] n x e = cc
split-records (y ∷ ys) zero x e =
    let P : Option (List ℕ) → Type 0 = λ o. IfSome o (λ z. y ++ concat ys ≡ z ++ concat ys) in subst P e refl
split-records (y ∷ ys) (suc n) x e = ap (λ t. y ++ t) (split-records ys n x e) ∙ sym (append_assoc y (concat (take n ys)) (x ++ concat (drop (suc n) ys)))

-- the writer failed in the middle of a record
pub records-broken : (xs : List (List ℕ)) (n : ℕ) (front unwritten : List ℕ) (before after : Option (List ℕ)) → slice_get xs n ≡ Some (front ++ unwritten) → Appends before after (concat (take n xs) ++ front) → WritesFront before after (concat xs)
records-broken xs n front unwritten before after at wrote = record {
  part = concat (take n xs) ++ front;
  unwritten = unwritten ++ concat (drop (suc n) xs);
  front = split-records xs n (front ++ unwritten) at
      ∙ ap (λ t. concat (take n xs) ++ t) (append_assoc front unwritten (concat (drop (suc n) xs)))
      ∙ sym (append_assoc (concat (take n xs)) front (unwritten ++ concat (drop (suc n) xs)));
  wrote = wrote;
}
