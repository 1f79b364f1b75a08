-- How far one call goes with the rows that are left.
use Rattle.std.specs.Prelude.{◌≡◌, ℕ, ◌+◌, ◌-◌, ◌<◌, ◌^◌, ◌≤◌, min, List, [], length, drop, slice_get, Option, Some, None}
use Rattle.answer_core.specs.Messages.{closing, cut_error, portal_suspended}
use Rattle.answer_core.specs.Remaining.{records_left}
use Rattle.answer_core.specs.RowTexts.{record_row}
use Rattle.answer_core.specs.declared.records.Records.{Records}
use Rattle.answer_core.specs.declared.steps.Stop.{Stop}
use Rattle.answer_core.specs.declared.steps.Stop.TheVariants as stops
use Rattle.answer_core.specs.declared.steps.RecordStep.{RecordStep}
use Rattle.answer_core.specs.declared.steps.RecordStep.TheVariants as steps
use Rattle.answer_core.specs.declared.told.TheConstants.{MOST_LINE_BYTES}
use Rattle.answer_core.specs.declared.unsent.Frame.{Frame}

-- how many of so many rows are asked for
abbrev pub asked_of : Option ℕ → ℕ → ℕ
asked_of None left = left
asked_of (Some most) left = min most left

-- how many are then asked for of the others
abbrev pub asked_behind : Option ℕ → ℕ → Option ℕ
asked_behind None count = None
asked_behind (Some most) count = Some (most - count)

-- where a call stops that sends so many rows, of those that are asked for and of those that are left:
-- before the last that is asked for; at that, with others left; or at the end
abbrev pub StopsCallAt : ℕ → ℕ → ℕ → Stop → Type 0
StopsCallAt asked left count stops.Later = (0 < count) × (count < asked)
StopsCallAt asked left count stops.Suspended = (count ≡ asked) × (asked < left)
StopsCallAt asked left count stops.Whole = (count ≡ asked) × (asked ≡ left)

-- what is written there
abbrev pub stop_text : Frame → ℕ → Stop → List ℕ
stop_text frame total stops.Later = []
stop_text frame total stops.Suspended = portal_suspended
stop_text frame total stops.Whole = closing frame.tag total frame.at.0

-- What comes next of an export of which so many records were sent: a record, if one is asked for, that
-- can be told and counted; the end of those that are asked for; or the end of all, or of memory.
abbrev pub StepsTo : Option ℕ → ℕ → Records → Records → RecordStep → Type 0
StepsTo most sent old new (steps.Next line) =
    (slice_get (records_left old) 0 ≡ Some line) × (records_left new ≡ drop 1 (records_left old))
    × (0 < asked_of most 1) × (length line ≤ MOST_LINE_BYTES) × (sent + 1 < 2 ^ 64)
StepsTo most sent old new steps.Suspended =
    (most ≡ Some 0) × (0 < length (records_left old)) × (records_left new ≡ records_left old)
StepsTo most sent old new steps.Whole = records_left old ≡ []
StepsTo most sent old new steps.Cut = 0 < length (records_left old)

-- what is written of it
abbrev pub step_text : Frame → ℕ → RecordStep → List ℕ
step_text frame sent (steps.Next line) = record_row line
step_text frame sent steps.Suspended = portal_suspended
step_text frame sent steps.Whole = closing frame.tag sent frame.at.0
step_text frame sent steps.Cut = cut_error

-- a record that can be told
abbrev pub CanBeTold : RecordStep → Type 0
CanBeTold (steps.Next line) = length line ≤ MOST_LINE_BYTES
CanBeTold step = Unit {0}
