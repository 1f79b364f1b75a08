-- A journal that was written to a file, and how it is loaded again.
use Rattle.std.specs.Prelude.{◌≡◌, ℕ, List, [], ◌∷◌, ◌++◌, map, Option}
use Rattle.std.specs.Str.Lines.{lines}
use Rattle.std.specs.Io.KnownBytes.{Appends}
use Rattle.lines_core.specs.Lines.{IsWhole, whole_lines}
use Rattle.base_core.specs.declared.limits.Limits.{Limits}
use Rattle.system_core.specs.declared.machine.event.Entry.{Entry}
use Rattle.journal_core.specs.Text.{entry_text, journal_text}
use Rattle.load_core.specs.Loading.{Loads, lines_unmarked, without_pass}

-- What was written meanwhile loads the journal: a text of whole lines, each of which says a change
-- that is allowed at the journal before it.
pub record CanBeLoaded (limits : Limits) (before after : Option (List ℕ)) (journal : List Entry)
    : Type 0 where
  pub text : List ℕ
  pub wrote : Appends before after text
  pub whole : IsWhole text
  pub loads : Loads limits [] (lines_unmarked (lines text)) journal

-- What was written meanwhile behind an old text loads the journal with it: a text of whole lines, which
-- go on with what the old lines load.
pub record CanBeLoadedBehind (limits : Limits) (old : List ℕ) (before after : Option (List ℕ))
    (journal : List Entry) : Type 0 where
  pub text : List ℕ
  pub wrote : Appends before after text
  pub whole : IsWhole text
  pub loads : Loads limits [] (lines_unmarked (lines (old ++ text))) journal

-- ---- a last line that was broken off
-- What the whole lines of a file load if its last line is that of an entry, of which this end is
-- missing: the journal before it; and only if nothing is missing, not even the line feed, the entry
-- behind that.
abbrev pub LoadsCutEnd : Limits → (bytes : List ℕ) → (journal : List Entry) → (e : Entry)
    → (missing : List ℕ) → Type 0
LoadsCutEnd limits bytes journal e [] =
    Loads limits [] (lines_unmarked (whole_lines bytes)) (journal ++ without_pass e ∷ [])
LoadsCutEnd limits bytes journal e (byte ∷ missing) =
    Loads limits [] (lines_unmarked (whole_lines bytes)) journal

-- What was written meanwhile behind an old text is the lines of the entries that were kept, and a
-- front of the line of one that could not be. With the old lines, those that are whole load the journal
-- that was kept; and only if nothing of that last line is missing, its entry behind it.
pub record CanBeLoadedCut (limits : Limits) (old : List ℕ) (before after : Option (List ℕ))
    (start kept : List Entry) (e : Entry) : Type 0 where
  pub front : List ℕ
  pub missing : List ℕ
  pub line : entry_text e ≡ front ++ missing
  pub wrote : Appends before after (journal_text kept ++ front)
  pub loads : LoadsCutEnd limits (old ++ (journal_text kept ++ front))
      (start ++ map without_pass kept) e missing
