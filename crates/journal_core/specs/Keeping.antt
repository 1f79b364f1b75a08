-- Changes that are kept, one after another.
-- Of a keeper, `keeps old e new`: from the state old the entry e may be kept, and new is the next;
-- `owes old e new`: from old it was begun, and new owes what is left of it; `owing k`: what is left of an
-- entry is owed.
use Rattle.std.specs.Prelude.{◌≡◌, ℕ, Bool, true, false, List, [], ◌∷◌, ◌++◌, Option, Some, None, is_some, Result, Ok, Err}
use Rattle.std.specs.Io.KnownBytes.{Appends, Keeps}
use Rattle.base_core.specs.Streams.{WritesFront}
use Rattle.folder_core.specs.declared.errand.Errand.{Errand}
use Rattle.system_core.specs.declared.machine.event.Entry.{Entry}
use Rattle.journal_core.specs.Text.{entry_text, journal_text, WasRead}
use Rattle.journal_core.specs.declared.keeper.Keeper.{Ghosts}
use Rattle.journal_core.specs.declared.keeper.NoKeeper.{NoKeeper}
use Rattle.journal_core.specs.declared.writing.JournalFault.{JournalFault}
use Rattle.journal_core.specs.declared.writing.JournalFault.TheVariants as faults

-- the entries are kept, one after another
abbrev pub KeepsAll : {K : Type 0} → (K → Entry → K → Type 0) → K → List Entry → K → Type 0
KeepsAll keeps old [] new = new ≡ old
KeepsAll {K} keeps old (e ∷ es) new = (mid : K) × keeps old e mid × KeepsAll keeps mid es new

module _ {K : Type 0} (rules : Ghosts K) where
  -- the entries are kept, one after another, and nothing is owed; or all but the last are kept, and what
  -- is left of the last is owed
  pub data KeepsOrOwes (old : K) (entries : List Entry) (new : K) : Type 0 where
    all : rules.owing new ≡ false
        → KeepsAll rules.keeps old entries new
        → KeepsOrOwes old entries new
    but_last : rules.owing new ≡ true
        → (front : List Entry) (last : Entry) (mid : K)
        → entries ≡ front ++ last ∷ []
        → KeepsAll rules.keeps old front mid
        → rules.owes mid last new
        → KeepsOrOwes old entries new

-- ---- keepers of lines
-- what is seen of a keeper of lines: what its sink took, where that is known, and what of it was handed on;
-- and of the last line what is still to be written, which may be nothing but to hand it on, or None where
-- nothing is owed
pub record LineKeeperState : Type 0 where
  pub taken : Option (List ℕ)
  pub handed_on : Option (List ℕ)
  pub owed : Option (List ℕ)

abbrev pub line_keeper_state : (taken handed_on owed : Option (List ℕ)) → LineKeeperState
line_keeper_state taken handed_on owed =
    record { taken = taken; handed_on = handed_on; owed = owed }

-- one that owes nothing, whose sink took so much and handed on so much of it
abbrev pub owing_nothing : (taken handed_on : Option (List ℕ)) → LineKeeperState
owing_nothing taken handed_on = line_keeper_state taken handed_on None

-- the sink took the line of the entry, which a line can say, and has handed on all that it took
pub record KeepsLine (old : LineKeeperState) (e : Entry) (new : LineKeeperState) : Type 0 where
  pub read : WasRead e
  pub before : old.owed ≡ None
  pub line : Appends old.taken new.taken (entry_text e)
  pub handed_on_all : new.handed_on ≡ new.taken
  pub after : new.owed ≡ None

-- the sink took a part of the line of the entry, which a line can say, and the rest is owed
pub record OwesLine (old : LineKeeperState) (e : Entry) (new : LineKeeperState) : Type 0 where
  pub part : List ℕ
  pub rest : List ℕ
  pub read : WasRead e
  pub before : old.owed ≡ None
  pub line : entry_text e ≡ part ++ rest
  pub wrote : Appends old.taken new.taken part
  pub after : new.owed ≡ Some rest

-- The rules of lines that a sink takes. Of an errand the sink's rule is asked where it is known what it took.
abbrev pub line_rules : (Option (List ℕ) → Errand → Type 0) → Bool
    → Ghosts LineKeeperState
line_rules may_run knows = record {
  keeps = KeepsLine;
  owes = OwesLine;
  owing = λ k. is_some k.owed;
  may_run = λ k errand. knows ≡ true → may_run k.taken errand;
}

-- the rules of who keeps nothing
abbrev pub no_rules : Ghosts NoKeeper
no_rules = record {
  keeps = λ old e new. Unit {0};
  owes = λ old e new. ⊥;
  owing = λ k. false;
  may_run = λ k errand. Unit {0};
}

-- ---- whole journals
-- how the writing of a whole journal ends: its text was written, or a front of it, or nothing
abbrev pub EndsJournal : Result (Unit {0}) JournalFault → List Entry
    → Option (List ℕ) → Option (List ℕ) → Type 0
EndsJournal (Ok _) journal taken taken' = Appends taken taken' (journal_text journal)
EndsJournal (Err faults.Write) journal taken taken' =
    WritesFront taken taken' (journal_text journal)
EndsJournal (Err faults.NoMemory) journal taken taken' = Keeps taken taken'
