-- What was kept as lines is the text of the entries.
use Rattle.std.proofs.Common.{◌≡◌, ℕ, Bool, List, [], ◌∷◌, ◌++◌, Option, sym, ap, ◌∙◌, subst, append-nil, append_assoc}
use Rattle.std.specs.Prelude.{unwrap_or}
use Rattle.std.specs.Io.KnownBytes.{Appends}
use Rattle.std.proofs.KnownBytes.{Appends-nil, Appends-trans}
use Rattle.folder_core.specs.declared.errand.Errand.{Errand}
use Rattle.system_core.specs.declared.machine.event.Entry.{Entry}
use Rattle.journal_core.specs.Text.{entry_text, journal_text}
use Rattle.journal_core.specs.Keeping.{KeepsAll, KeepsOrOwes, all, but_last, LineKeeperState, KeepsLine, line_rules}
use Rattle.journal_core.proofs.Lines.{text-append, text-one}
use Rattle.journal_core.proofs.Owed.{none_is}

pub kept-text : (old new : LineKeeperState) (entries : List Entry) → KeepsAll KeepsLine old entries new → Appends old.taken new.taken (journal_text entries)
kept-text old new [] h = subst (λ (w : LineKeeperState). Appends old.taken w.taken []) (sym h) (Appends-nil old.taken)
kept-text old new (e ∷ es) (mid, one, more) = Appends-trans old.taken mid.taken new.taken (entry_text e) (journal_text es) one.line (kept-text mid new es more)

-- the text but for what is still to be written
pub owed-text : (may_run : Option (List ℕ) → Errand → Type 0) (knows : Bool) (old new : LineKeeperState) (entries : List Entry) → KeepsOrOwes (line_rules may_run knows) old entries new
    → (text : List ℕ) × (journal_text entries ≡ text ++ unwrap_or new.owed []) × Appends old.taken new.taken text
owed-text may_run knows old new entries (all n had) =
    let text = journal_text entries in
    (text, sym (append-nil text) ∙ ap (λ rest. text ++ rest) (ap (λ owed. unwrap_or owed []) (sym (none_is new.owed n))), kept-text old new entries had)
owed-text may_run knows old new entries (but_last n front last mid is had owes) =
    let text = journal_text front in
    let whole : journal_text entries ≡ text ++ (owes.part ++ owes.rest) =
    ap journal_text is ∙ text-append front (last ∷ []) ∙ ap (λ t. text ++ t) (text-one last ∙ owes.line) in (
      text ++ owes.part,
      whole ∙ sym (append_assoc text owes.part owes.rest) ∙ ap (λ rest. (text ++ owes.part) ++ unwrap_or rest []) (sym owes.after),
      Appends-trans old.taken mid.taken new.taken text owes.part (kept-text old mid front had) owes.wrote,
    )
