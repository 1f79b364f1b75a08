-- What a server begins with that its folder restored.
use Rattle.std.proofs.Common.{◌≡◌, ◌≤◌, ℕ, Bool, true, false, Option, Some, None, IfSome, List, [], ◌∷◌, ◌++◌, length, take, refl, sym, ap, subst, ◌∙◌, append-nil, All}
use Rattle.std.specs.Prelude.{is_some}
use Rattle.std.specs.List.{AllByRecursion}
use Rattle.std.proofs.lemmas.Bool.{false≢true}
use Rattle.std.proofs.lemmas.List.Elements.{All-from_recursion}
use Rattle.base_core.specs.declared.limits.Limits.{Limits}
use Rattle.turnstile.specs.Logs.{StartsWith}
use Rattle.system_core.specs.World.{World}
use Rattle.system_core.specs.declared.machine.event.Entry.{Entry}
use Rattle.journal_core.specs.Text.{journal_lines, WasRead}
use Rattle.journal_core.specs.Keeping.{owing_nothing}
use Rattle.load_core.specs.Ready.{IsReady}
use Rattle.dump_core.specs.Laws.{AreLawfulAlike}
use Rattle.folder_core.specs.Serving.{crashed, Reaches}
use Rattle.folder_core.specs.Texts.{lines_text}
use Rattle.folder_core.specs.Calls.{TextState, AreTexts, Moves, part_at}
use Rattle.data_core.specs.Written.{BeginsAt, text_of, text_written}
use Rattle.recovery_core.specs.declared.recovered.Recovered.{Recovered}
use Rattle.recovery_core.specs.Reading.{IsMade, IsMadeWith}
use Rattle.recovery_core.specs.Recovered.{Recovers}
use Rattle.recovery_core.specs.History.{IsHistory, IsDumpOfHistory, RestoresHistory}
use Rattle.desk_core.specs.Guarded.{origin_at}
use Rattle.checkpoint_core.specs.declared.putting.Begun.{Begun}
use Rattle.checkpoint_core.specs.Beginning.{TextStandsFor, BeginsBehind, MayTend}

-- ---- the core
both_first : (es : List Entry) → AllByRecursion (λ e. WasRead e × (e.pass ≡ 0)) es → AllByRecursion WasRead es
both_first [] h = tt
both_first (e ∷ es) h = (h.0.0, both_first es h.1)

both_second : (es : List Entry) → AllByRecursion (λ e. WasRead e × (e.pass ≡ 0)) es → AllByRecursion (λ e. e.pass ≡ 0) es
both_second [] h = tt
both_second (e ∷ es) h = (h.0.1, both_second es h.1)

pub ready : (w : World) → IsMade w → IsReady w
ready w made = record {
  unbegun = ap (λ (x : World). x.begun) made.world_is;
  passes = All-from_recursion (λ (e : Entry). e.pass ≡ 0) w.journal (both_second w.journal made.entries);
}

-- ---- the folder
pub begins_at : (chunk : ℕ) (limits : Limits) (r : Recovered) (s t : TextState) → Recovers chunk limits r s t → BeginsAt r.at r.point r.resumes t
begins_at chunk limits r s t recovers = record {
  serves = recovers.1.goes_on;
  base_is = recovers.1.base_is;
  resumes_is = recovers.1.resumes_is;
  no_part = recovers.1.no_part;
}

pub some_begins_at : (chunk : ℕ) (limits : Limits) (r : Recovered) (old new : Option TextState) → Moves (Recovers chunk limits r) old new → IfSome new (BeginsAt r.at r.point r.resumes)
some_begins_at chunk limits r None new none = subst (λ (o : Option TextState). IfSome o (BeginsAt r.at r.point r.resumes)) (sym none) tt
some_begins_at chunk limits r (Some s) new moves =
    subst (λ (o : Option TextState). IfSome o (BeginsAt r.at r.point r.resumes)) (sym moves.1) (begins_at chunk limits r s moves.0 moves.2)

-- ---- the text of the journal stands for the core
module _ (history : RestoresHistory) (chunk : ℕ) (limits : Limits) (r : Recovered) where
  stands : (s t : TextState) → Reaches IsDumpOfHistory s → s.phase ≡ crashed → AreTexts t → Recovers chunk limits r s t → TextStandsFor r.at r.system.journal (text_of t)
  stands s t reached over texts recovers = (
    t.journal,
    texts.journal,
    ap (λ part. lines_text t.journal ++ part) recovers.1.no_part ∙ append-nil (lines_text t.journal),
    recovers.1.count_is,
    λ most entries is lines. (history chunk limits most r s entries reached over recovers.0 is (sym recovers.1.journal_is ∙ lines)).alike,
  )

  known : (old new : Option TextState) → IfSome old (Reaches IsDumpOfHistory) → IfSome old (λ s. s.phase ≡ crashed) → IfSome new AreTexts → Moves (Recovers chunk limits r) old new
      → is_some old ≡ true → (text : List ℕ) × (text_written new ≡ Some text) × TextStandsFor r.at r.system.journal text
  known None new reached over texts moves is_true = absurd (false≢true is_true)
  known (Some s) new reached over texts moves is_true =
      let t = moves.0 in
      let its = subst (λ (o : Option TextState). IfSome o AreTexts) moves.1 texts in
      (text_of t, ap text_written moves.1, stands s t reached over its moves.2)

  pub may_tend : (knows : Bool) (begun : Begun) (old new : Option TextState) → begun.count ≡ r.at → begun.start ≡ length r.system.journal → r.at ≤ 9999999999 → IsMade r.system
      → IfSome old (Reaches IsDumpOfHistory) → IfSome old (λ s. s.phase ≡ crashed) → IfSome new AreTexts → Moves (Recovers chunk limits r) old new → is_some old ≡ knows
      → MayTend knows begun r.system.journal (origin_at r.system (owing_nothing (text_written new) (text_written new)))
  may_tend knows begun old new count start few made reached over texts moves known_is = (
    subst (λ n. n ≤ 9999999999) (sym count) few,
    r.system.journal,
    sym start,
    ([], sym (append-nil r.system.journal)),
    record {
      front_is = refl;
      read = both_first r.system.journal made.entries;
      text = λ is_true. let k = known old new reached over texts moves (known_is ∙ is_true) in
          (k.0, k.1, subst (λ n. TextStandsFor n r.system.journal k.0) (sym count) k.2);
    },
  )
