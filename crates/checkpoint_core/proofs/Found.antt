-- What a turn of the desk found, and what may be asked of its keeper then.
use Rattle.std.proofs.Common.{◌≡◌, ◌≤◌, ◌+◌, ◌-◌, ℕ, Bool, true, Option, Some, None, IfSome, Result, Ok, IfOk, option_map, Global, List, [], ◌∷◌, ◌++◌, length, sym, ap, subst, ◌∙◌, arith, append_assoc}
use Rattle.std.specs.List.{AllByRecursion}
use Rattle.std.specs.Io.KnownBytes.{Appends}
use Rattle.std.specs.Arc.{arc_value}
use Rattle.std.specs.declared.sync.Arc.{Arc}
use Rattle.base_core.specs.declared.memory.NoMemory.{NoMemory}
use Rattle.turnstile.specs.Logs.{StartsWith}
use Rattle.system_core.specs.Journal.{IsLawful}
use Rattle.system_core.specs.World.{World, IsLawfulWorld}
use Rattle.system_core.specs.Standing.{IsImageOf}
use Rattle.system_core.specs.Imaging.{IsKeptImage}
use Rattle.system_core.specs.declared.machine.event.Entry.{Entry}
use Rattle.capture_core.specs.declared.image.Image.{Image}
use Rattle.journal_core.specs.Text.{journal_lines, journal_text, WasRead}
use Rattle.journal_core.specs.Keeping.{LineKeeperState, line_rules}
use Rattle.dump_core.specs.Dump.{dump_of_image}
use Rattle.dump_core.specs.Ending.{WritesLines, HasLine}
use Rattle.dump_core.specs.Laws.{AreWellFormed}
use Rattle.printer_core.specs.Printing.{minified}
use Rattle.data_core.specs.Errands.{IsDumpOfText, MayRun}
use Rattle.folder_core.specs.declared.errand.Errand.{Errand}
use Rattle.folder_core.specs.declared.errand.Errand.TheVariants as errands
use Rattle.folder_core.specs.declared.errand.Synced.{Synced}
use Rattle.folder_core.specs.declared.errand.Written.{Written}
use Rattle.recovery_core.specs.History.{IsDumpOfHistory}
use Rattle.desk_core.specs.Guarded.{Origin}
use Rattle.desk_core.specs.Kept.{HasKept}
use Rattle.checkpoint_core.specs.Written.{AreLinesOf}
use Rattle.checkpoint_core.specs.Beginning.{BeginsBehind, AreLinesOfImage, IsSeen}
use Rattle.checkpoint_core.proofs.Lines.{one_text}
use Rattle.checkpoint_core.proofs.Allowing.{lawful_few, each_open, image_may_be_put, image_formed}

-- what a turn found
pub is_seen : (seen : List Entry) (number : ℕ) (image : Image) → ((w : World) × IsLawfulWorld w × (w.journal ≡ seen) × IsKeptImage w number (Some image)) → IsSeen seen image
is_seen seen number image (w, lawful, is, kept) = (w.limits, subst (IsLawful w.limits) is lawful.journal, subst (λ j. IsImageOf j image) is kept.of)

pub starts_then : (start old new : List Entry) → StartsWith old start → StartsWith new old → StartsWith new start
starts_then start old new a b = (a.0 ++ b.0, b.1 ∙ (ap (λ z. z ++ b.0) a.1 ∙ append_assoc start a.0 b.0))

-- its point is a number
pub point_small : (seen : List Entry) (image : Image) → IsSeen seen image → image.point.0 ≤ 1000000000
point_small seen image (limits, lawful, of) =
    let few = lawful_few limits [] seen lawful (omega arith) in
    let most = limits.changes_within in
    let past = of.past in
    omega arith

-- ---- a file
text_is : (old new : Option (List ℕ)) (more : List ℕ) → old ≡ Some [] → Appends old new more → new ≡ Some more
text_is old new more a h = by new (subst (λ (x : Option (List ℕ)). Appends x new more) a h)
  where
    by : (y : Option (List ℕ)) → Appends (Some []) y more → y ≡ Some more
    by None p = absurd p
    by (Some text) p = ap (λ (z : List ℕ). Some z) p

each_read : (es : List Entry) → AllByRecursion HasLine es → AllByRecursion WasRead es
each_read [] h = tt
each_read (e ∷ es) h = (record { line = minified e.statement; spelled = h.0.spelled; name = h.0.name }, each_read es h.1)

-- what was written of an image is a file of its lines
pub lines_written : (image : Image) (lines : List (List ℕ)) (old new : Option (List ℕ)) → old ≡ Some [] → WritesLines (dump_of_image image) old new → IfSome new (AreLinesOf lines) → AreLinesOfImage image lines
lines_written image lines old new empty w are =
    let es : List Entry = dump_of_image image in
    let now = text_is old new (journal_text es) empty w.wrote in
    let its : AreLinesOf lines (journal_text es) = subst (λ (o : Option (List ℕ)). IfSome o (AreLinesOf lines)) now are in
    let read = each_read es w.each in
    record { lines = one_text lines (journal_lines es) its.0 (each_open es read) (sym its.1); read = read }

pub is_found : (seen : List Entry) (number : ℕ) (found : Result (Option (Arc Image Global)) NoMemory) (image : Arc Image Global) → Ok (Some image) ≡ found → IfOk found (λ i. (w : World) × IsLawfulWorld w × (w.journal ≡ seen) × IsKeptImage w number (option_map arc_value i)) → IsSeen seen (arc_value image)
is_found seen number found image is h = is_seen seen number (arc_value image) (subst (λ (r : Result (Option (Arc Image Global)) NoMemory). IfOk r (λ i. (w : World) × IsLawfulWorld w × (w.journal ≡ seen) × IsKeptImage w number (option_map arc_value i))) (sym is) h)

-- ---- an errand
-- the dump of the image is well formed
pub formed : (may_run : Option (List ℕ) → Errand → Type 0) (knows : Bool) (count : ℕ) (start old seen : List Entry) (origin : Origin LineKeeperState) (image : Image)
    → BeginsBehind knows count start origin → StartsWith old start → StartsWith seen old → IsSeen seen image → (keeper : LineKeeperState) → HasKept (line_rules may_run knows) origin seen keeper → AreWellFormed (dump_of_image image)
formed may_run knows count start old seen origin image begins old_is seen_is found keeper kept = image_formed may_run knows count found.0 start seen origin image keeper begins found.1 (starts_then start old seen old_is seen_is) found.2 kept

module _ (lines_of : Written → List (List ℕ)) where
  may_put : (taken : Option (List ℕ)) (synced : Synced) (point : ℕ) (dump : Written) → IfSome taken (IsDumpOfText IsDumpOfHistory point (lines_of dump)) → MayRun IsDumpOfHistory lines_of taken (errands.Put synced point dump)
  may_put None synced point dump h = tt
  may_put (Some text) synced point dump h = h

  -- the keeper may put it
  pub may_be_put : (knows : Bool) (count first : ℕ) (start old seen : List Entry) (origin : Origin LineKeeperState) (image : Image)
      → length start ≡ first → BeginsBehind knows count start origin → StartsWith old start → StartsWith seen old → IsSeen seen image
      → (synced : Synced) (dump : Written) → first ≤ image.point.0 → (knows ≡ true → AreLinesOfImage image (lines_of dump)) → (journal : List Entry) (keeper : LineKeeperState) → StartsWith journal seen → HasKept (line_rules (MayRun IsDumpOfHistory lines_of) knows) origin journal keeper
      → knows ≡ true → MayRun IsDumpOfHistory lines_of keeper.taken (errands.Put synced (count + (image.point.0 - first)) dump)
  may_be_put knows count first start old seen origin image size begins old_is seen_is found synced dump within are journal keeper goes_on kept known =
      let put = image_may_be_put (MayRun IsDumpOfHistory lines_of) knows count found.0 start seen journal origin image (lines_of dump) keeper begins found.1 (starts_then start old seen old_is seen_is) found.2 (subst (λ n. n ≤ image.point.0) (sym size) within) (are known) goes_on kept known in
      may_put keeper.taken synced (count + (image.point.0 - first)) dump (subst (λ n. IfSome keeper.taken (IsDumpOfText IsDumpOfHistory (count + (image.point.0 - n)) (lines_of dump))) size put)
