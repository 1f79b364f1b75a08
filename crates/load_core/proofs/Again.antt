-- The journal of a script, kept as lines, loads it.
use Rattle.std.proofs.Common.{◌≡◌, ℕ, Bool, List, [], ◌∷◌, ◌++◌, All, IfOk, Option, Result, Ok, Err, map, drop, refl, sym, ap, subst, ◌∙◌, append_assoc, append-nil, arith, inl, inr}
use Rattle.std.specs.Prelude.{None, is_some}
use Rattle.std.specs.List.{AllByRecursion}
use Rattle.std.specs.Str.Lines.{lines}
use Rattle.std.proofs.lemmas.List.Elements.{All-from_recursion}
use Rattle.base_core.specs.declared.limits.Limits.{Limits}
use Rattle.folder_core.specs.declared.errand.Errand.{Errand}
use Rattle.printer_core.specs.Printing.{journal_line}
use Rattle.grants_core.proofs.OwnersLemmas.{AllByRecursion-append}
use Rattle.lines_core.specs.Serving.{Traffic}
use Rattle.lines_core.specs.Lines.{IsWhole, whole_lines}
use Rattle.lines_core.specs.declared.line.TheConstants.{LONGEST_LINE}
use Rattle.system_core.specs.World.{World, opening, AreSound}
use Rattle.system_core.specs.declared.machine.event.Entry.{Entry}
use Rattle.journal_core.specs.Text.{journal_lines, journal_text, WasRead}
use Rattle.journal_core.specs.Keeping.{LineKeeperState, line_rules}
use Rattle.journal_core.proofs.Kept.{kept-text}
use Rattle.journal_core.specs.Recorder.{with_keeper}
use Rattle.script_core.specs.Keeping.{EndsKept}
use Rattle.script_core.proofs.KeptLemmas.{journal-kept}
use Rattle.load_core.specs.Kept.{CanBeLoaded}
use Rattle.load_core.specs.declared.fault.LoadFault.{LoadFault}
use Rattle.load_core.specs.declared.loading.Loaded.{Loaded}
use Rattle.load_core.specs.Loading.{Loads, lines_unmarked, without_pass, EndsLoadWhole}
use Rattle.load_core.proofs.Said.{WasSaid, Said, ends-said, no_pass, were_read, speaker_named}
use Rattle.load_core.proofs.Text.{lines_are}
use Rattle.load_core.proofs.Written.{loads, lines_unmarked_is}

pub whole_text : (journal : List Entry) → IsWhole (journal_text journal)
whole_text [] = inl refl
whole_text (e ∷ es) =
    let line = journal_line e.user e.statement in
    elim (whole_text es) [
      | inl none ↦ inr (line, ap (λ (t : List ℕ). (line ++ 10 ∷ []) ++ t) none ∙ append-nil (line ++ 10 ∷ []))
      | inr (front, is) ↦ inr ((line ++ 10 ∷ []) ++ front, ap (λ (t : List ℕ). (line ++ 10 ∷ []) ++ t) is ∙ sym (append_assoc (line ++ 10 ∷ []) front (10 ∷ [])))
    ]

opening_said : (chunk : ℕ) (limits : Limits) → Said limits (opening chunk limits)
opening_said chunk limits =
    let sound : AreSound (opening chunk limits) = record { within = omega arith; few = omega arith; rising = tt; begun = tt; past = tt; active = tt } in
    (record { journal = tt; checkpoints = sound }, tt, refl)

module _ (may_run : Option (List ℕ) → Errand → Type 0) (knows : Bool) where
  pub kept_again : (chunk : ℕ) (new : World) (keeper keeper' : LineKeeperState) (traffic : Traffic) → keeper.owed ≡ None
      → EndsKept (line_rules may_run knows) chunk (Ok new) keeper keeper' traffic
      → CanBeLoaded new.limits keeper.taken keeper'.taken new.journal
  kept_again chunk new keeper keeper' traffic nothing ends =
      let start = opening chunk ends.0 in
      let said : Said ends.0 new = ends-said (line_rules may_run knows) ends.0 (Ok tt) (with_keeper start keeper) (with_keeper new keeper') traffic (opening_said chunk ends.0) ends.2.1 in
      let read = were_read new.journal said.1 in
      let as_lines : lines_unmarked (lines (journal_text new.journal)) ≡ journal_lines new.journal = ap lines_unmarked (lines_are new.journal read) ∙ lines_unmarked_is new.journal read in
      let loaded : Loads new.limits [] (journal_lines new.journal) (map without_pass new.journal) = loads new.limits [] new.journal said.0.journal read in
      record {
        text = journal_text new.journal;
        wrote = kept-text keeper keeper' new.journal (journal-kept (line_rules may_run knows) chunk new keeper keeper' traffic (ap is_some nothing) ends);
        whole = whole_text new.journal;
        loads = subst (λ (ls : List (List ℕ)). Loads new.limits [] ls new.journal) (sym as_lines) (subst (λ (j : List Entry). Loads new.limits [] (journal_lines new.journal) j) (no_pass new.journal said.1) loaded);
      }

-- what is loaded came through pass 0
pub loaded_passes : (limits : Limits) (before after : List Entry) (ls : List (List ℕ)) → Loads limits before ls after → AllByRecursion (λ e. e.pass ≡ 0) before → AllByRecursion (λ e. e.pass ≡ 0) after
loaded_passes limits before after [] h p = subst (AllByRecursion (λ e. e.pass ≡ 0)) (sym h) p
loaded_passes limits before after (line ∷ ls) (e, says, more) p = loaded_passes limits (before ++ e ∷ []) after ls more (appended before p)
  where
    appended : (xs : List Entry) → AllByRecursion (λ e. e.pass ≡ 0) xs → AllByRecursion (λ e. e.pass ≡ 0) (xs ++ e ∷ [])
    appended [] h = (says.says.pass, tt)
    appended (x ∷ xs) h = (h.0, appended xs h.1)

pub ends_passes : (chunk : ℕ) (limits : Limits) (result : Result Loaded LoadFault) (left left' : Option (List ℕ)) → EndsLoadWhole chunk limits result left left' → IfOk result (λ loaded. All (λ e. e.pass ≡ 0) loaded.system.journal)
ends_passes chunk limits (Ok loaded) left left' h = All-from_recursion (λ (e : Entry). e.pass ≡ 0) loaded.system.journal (loaded_passes limits [] loaded.system.journal (lines_unmarked (whole_lines h.0)) h.4 tt)
ends_passes chunk limits (Err fault) left left' h = tt

-- what is loaded was said by a line
pub loaded_said : (limits : Limits) (before after : List Entry) (ls : List (List ℕ)) → Loads limits before ls after → AllByRecursion WasSaid before → AllByRecursion WasSaid after
loaded_said limits before after [] same said = subst (AllByRecursion WasSaid) (sym same) said
loaded_said limits before after (line ∷ ls) (e, says, more) said =
    let read : WasRead e = record { line = drop says.says.asks.start line; spelled = says.says.asks.spelled; name = speaker_named LONGEST_LINE line e.user says.says.asks.start says.says.asks.speaker } in
    loaded_said limits (before ++ e ∷ []) after ls more (AllByRecursion-append WasSaid before (e ∷ []) said ((read, says.says.pass), tt))

pub ends_read : (chunk : ℕ) (limits : Limits) (result : Result Loaded LoadFault) (left left' : Option (List ℕ)) → EndsLoadWhole chunk limits result left left' → IfOk result (λ loaded. AllByRecursion WasRead loaded.system.journal)
ends_read chunk limits (Ok loaded) left left' h = were_read loaded.system.journal (loaded_said limits [] loaded.system.journal (lines_unmarked (whole_lines h.0)) h.4 tt)
ends_read chunk limits (Err fault) left left' h = tt
