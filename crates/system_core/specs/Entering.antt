-- What a step adds to the journal.
use Rattle.std.specs.Prelude.{◌≡◌, ◌≤◌, ◌++◌, ◌∷◌, [], List}
use Rattle.system_core.specs.declared.machine.event.Entry.{Entry}
use Rattle.system_core.specs.declared.machine.event.Event.{Event}
use Rattle.system_core.specs.declared.machine.event.Event.TheVariants as events
use Rattle.system_core.specs.declared.machine.event.Reply.{Reply}
use Rattle.system_core.specs.declared.machine.event.Reply.TheVariants as replies
use Rattle.system_core.specs.World.{World, entry}

-- a statement that was done is entered, and nothing else
abbrev pub entered : Event → Reply → List Entry
entered (events.Say pass user asked) (replies.Done at) = entry pass user asked ∷ []
entered event reply = []

-- these are entered, no checkpoint is unbegun, and chunk and limits stay
pub record Enters (entries : List Entry) (old new : World) : Type 0 where
  pub journal : new.journal ≡ old.journal ++ entries
  pub begun : old.begun ≤ new.begun
  pub chunk : new.chunk ≡ old.chunk
  pub limits : new.limits ≡ old.limits
