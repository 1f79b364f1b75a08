-- A dump of a front of the text is a dump of what its changes leave.
use Rattle.std.proofs.Common.{◌≡◌, ℕ, Option, Some, None, IfSome, List, [], ◌++◌, take, ap, sym, subst, ◌∙◌}
use Rattle.folder_core.specs.Serving.{serving, Reaches}
use Rattle.folder_core.specs.Texts.{lines_text, part_text}
use Rattle.folder_core.specs.Calls.{TextState, AreTexts, Moves, Tells}
use Rattle.folder_core.proofs.Outlives.{current_piece}
use Rattle.folder_core.proofs.EndOfJournal.{part_here}
use Rattle.data_core.specs.Written.{text_of, text_written}
use Rattle.data_core.specs.Tending.{IsDumpOfFront}
use Rattle.data_core.specs.Errands.{IsDumpOfText, MayRun}
use Rattle.folder_core.specs.declared.errand.Errand.TheVariants as errands
use Rattle.folder_core.specs.declared.errand.Synced.{Synced}
use Rattle.folder_core.specs.declared.errand.Written.{Written}

module _ (IsDumpOf : List (List ℕ) → List (List ℕ) → Type 0) (none : IsDumpOf [] []) (point : ℕ) (lines : List (List ℕ)) where
  of_front : (first : ℕ) (capture : Option ℕ) (t : TextState) → t.phase ≡ serving first capture → Reaches IsDumpOf t → AreTexts t → IsDumpOfText IsDumpOf point lines (text_of t) → IsDumpOfFront IsDumpOf point lines t
  of_front first capture t serves reached texts dumps =
      let (file, has) = current_piece IsDumpOf none t reached first capture serves in
      let text : text_of t ≡ lines_text t.journal ++ part_text file.part = ap (λ z. lines_text t.journal ++ z) (part_here t.phase first capture t.disk has.number file serves has.named has.is) in
      dumps t.journal file.part (texts.journal, (texts.files has.number file has.is).1) text

  pub of_told : (lines_of : Written → List (List ℕ)) (synced : Synced) (dump : Written) → lines_of dump ≡ lines → (count : ℕ) (o p : Option TextState) → Moves (Tells count) o p → IfSome p (Reaches IsDumpOf) → IfSome p AreTexts
      → MayRun IsDumpOf lines_of (text_written p) (errands.Put synced point dump) → IfSome p (IsDumpOfFront IsDumpOf point lines)
  of_told lines_of synced dump same count None p moved reached texts dumps = subst (λ (x : Option TextState). IfSome x (IsDumpOfFront IsDumpOf point lines)) (sym moved) tt
  of_told lines_of synced dump same count (Some s) None moved reached texts dumps = tt
  of_told lines_of synced dump same count (Some s) (Some t') (t, is, c) reached texts dumps =
      let here : t' ≡ t = cc in
      let serves = ap (λ (x : TextState). x.phase) c.is ∙ c.serves in
      of_front c.first c.capture t' (ap (λ (x : TextState). x.phase) here ∙ serves) reached texts (subst (λ ls. IsDumpOfText IsDumpOf point ls (text_of t')) same dumps)
