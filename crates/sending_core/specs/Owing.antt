-- What a session has still to send, and what is then left of its portals.
use Rattle.std.specs.Prelude.{◌≡◌, ℕ, ◌+◌, ◌<◌, List, [], ◌∷◌, ◌++◌, slice_set, Option, Some, None}
use Rattle.answer_core.specs.Answers.{AnswersUnsent}
use Rattle.answer_core.specs.Remaining.{rows_to_come}
use Rattle.answer_core.specs.Replies.{AnswersReply, row_count, reply_rows}
use Rattle.answer_core.specs.declared.unsent.Portal.{Portal}
use Rattle.answer_core.specs.declared.unsent.Progress.{Progress}
use Rattle.answer_core.specs.declared.unsent.Progress.TheVariants as progresses
use Rattle.sending_core.specs.Plain.{plain_text}
use Rattle.sending_core.specs.declared.item.Item.{Item}
use Rattle.sending_core.specs.declared.item.Item.TheVariants as items

-- the portals of a session by their places, each with the rows that it has left, if it has any
abbrev pub Lefts : Type 0
Lefts = List (Option Portal)

-- the place of the portal whose rows an item answers
abbrev pub place_of : Item → Option ℕ
place_of (items.Plain plain) = None
place_of (items.Answer request reply place) = place
place_of (items.Rest unsent place) = place

-- the portals, once this one has these rows left; an answer of no portal leaves none
abbrev pub put_left : Option ℕ → Option Portal → Lefts → Lefts
put_left None left lefts = lefts
put_left (Some place) left lefts = slice_set lefts place left

-- what may be written of an item, and the rows that are then left
abbrev pub Tells : Item → List ℕ → Option Portal → Type 0
Tells (items.Plain plain) text left = (text ≡ plain_text plain) × (left ≡ None)
Tells (items.Answer request reply place) text left = AnswersReply request reply text left
Tells (items.Rest unsent place) text left = AnswersUnsent unsent text left

-- whatever is then left
abbrev pub IsTold : Item → List ℕ → Type 0
IsTold item text = (left : Option Portal) × Tells item text left

-- What may be written of items one after another, with the portals before and behind: the text of the
-- first, which leaves its rows, and then that of the others.
abbrev pub Owes : List Item → Lefts → List ℕ → Lefts → Type 0
Owes [] before text behind = (text ≡ []) × (behind ≡ before)
Owes (item ∷ others) before text behind =
    (first : List ℕ) × (left : Option Portal) × (rest : List ℕ)
    × Tells item first left
    × Owes others (put_left (place_of item) left before) rest behind
    × (text ≡ first ++ rest)

-- whatever portals are then left
abbrev pub IsOwed : List Item → Lefts → List ℕ → Type 0
IsOwed queue before text = (behind : Lefts) × Owes queue before text behind

-- What was written of what was owed, and what is owed still: with whatever may be written of that, it is
-- one that was owed.
abbrev pub SendsPart : List Item → Lefts → List Item → Lefts → List ℕ → Type 0
SendsPart queue lefts others before text =
    (rest : List ℕ) (behind : Lefts) → Owes others before rest behind
    → Owes queue lefts (text ++ rest) behind

-- what is owed still once an item at this place has come so far
abbrev pub queue_behind : Progress → Option ℕ → List Item → List Item
queue_behind progresses.Whole place others = others
queue_behind (progresses.Suspended portal) place others = others
queue_behind (progresses.Part unsent) place others = items.Rest unsent place ∷ others

-- and the portals then: what is whole leaves no rows, and what is suspended leaves those of its portal
abbrev pub lefts_behind : Progress → Option ℕ → Lefts → Lefts
lefts_behind progresses.Whole place lefts = put_left place None lefts
lefts_behind (progresses.Suspended portal) place lefts = put_left place (Some portal) lefts
lefts_behind (progresses.Part unsent) place lefts = lefts

-- how many calls an item takes at most: one, and one for each of its rows, and one to begin an answer
abbrev pub calls_of : Item → ℕ
calls_of (items.Plain plain) = 1
calls_of (items.Answer request reply place) = 2 + row_count (reply_rows request reply)
calls_of (items.Rest unsent place) = 1 + rows_to_come unsent

abbrev pub count_owed : List Item → ℕ
count_owed [] = 0
count_owed (item ∷ others) = calls_of item + count_owed others

-- an item that has come so far takes fewer calls than so many
abbrev pub TakesFewer : ℕ → Progress → Type 0
TakesFewer count progress = count_owed (queue_behind progress None []) < count
