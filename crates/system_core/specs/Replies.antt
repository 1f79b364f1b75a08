-- What a reply says by itself.
use Rattle.std.specs.Prelude.{Bool, true, false, Option, Some, None}
use Rattle.base_core.specs.declared.lack.Lack.{Lack}
use Rattle.base_core.specs.declared.lack.Lack.TheVariants as lacks
use Rattle.base_core.specs.declared.value.Moment.{Moment}
use Rattle.system_core.specs.declared.machine.event.Reply.{Reply}
use Rattle.system_core.specs.declared.machine.event.Reply.TheVariants as replies

-- whether a change was made
abbrev pub is_done : Reply → Bool
is_done (replies.Done at) = true
is_done reply = false

-- whether something does not fit, is full, or memory ran out
abbrev pub is_refused : Reply → Bool
is_refused (replies.Refused at lack) = true
is_refused reply = false

-- whether a lack is that of memory
abbrev pub is_memory : Lack → Bool
is_memory lacks.NoMemory = true
is_memory lack = false

-- whether memory ran out
abbrev pub is_refused_memory : Reply → Bool
is_refused_memory (replies.Refused at lack) = is_memory lack
is_refused_memory reply = false

-- the moment that a reply bears
abbrev pub told_moment : Reply → Option Moment
told_moment (replies.Done at) = Some at
told_moment (replies.Rows at rows) = Some at
told_moment (replies.Listed at entries) = Some at
told_moment (replies.Begun number at) = Some at
told_moment (replies.Export ticket) = Some ticket.at
told_moment (replies.Described at columns) = Some at
told_moment (replies.Denied at lack) = Some at
told_moment (replies.Refused at lack) = Some at
told_moment replies.Idle = None
told_moment (replies.Stepped number left) = None
told_moment (replies.Finished number) = None
told_moment (replies.Abandoned number) = None
