-- A dump that was loaded.
use Rattle.std.proofs.Common.{◌≡◌, ℕ, ◌-◌, ◌≤◌, None, Some, Option, Result, Ok, Err, IfOk, IfSome, List, [], subst, sym, ◌∙◌, ap}
use Rattle.lines_core.specs.Lines.{whole_lines}
use Rattle.system_core.specs.World.{World}
use Rattle.load_core.specs.declared.behind.LoadedBehind.{LoadedBehind}
use Rattle.load_core.specs.Loading.{Loads}
use Rattle.load_core.specs.Loader.{lines_at}
use Rattle.load_core.specs.Skipping.{EndsBehind}
use Rattle.folder_core.specs.Texts.{file_text}
use Rattle.folder_core.specs.Calls.{TextState, AreTexts, OpensDump}
use Rattle.recovery_core.specs.declared.fault.RecoveryFault.{RecoveryFault}
use Rattle.recovery_core.specs.declared.recovering.Read.{Read}
use Rattle.recovery_core.specs.Reading.{as_read, IsDumpRead, ReadsDump}
use Rattle.recovery_core.proofs.Texts.{all_read, lines_read}

module _ (begins : World) (point resumes : ℕ) (left left' : Option (List ℕ)) (behind : LoadedBehind) (empty : begins.journal ≡ []) (ends : EndsBehind begins 0 (Ok behind) left left') where
  loaded : (s : TextState) → AreTexts s → OpensDump point resumes s left → (read : Read) → IsDumpRead behind.loaded point resumes read → ReadsDump begins point read s
  loaded s texts opens read is =
      let (bytes, consumed, end, cut, skips, loads, same) = ends in
      let file = opens.opens.file in
      let has = opens.opens.has in
      let lines : whole_lines bytes ≡ as_read file.lines = ap whole_lines (all_read left left' bytes (file_text file) opens.opens.left_is consumed end) ∙ lines_read file (texts.files has.number file has.is) in
      let journal : read.recovered.system.journal ≡ behind.loaded.system.journal = ap (λ (r : Read). r.recovered.system.journal) is.is in
      record {
        file = file;
        has = has;
        before = subst (λ n. n ≤ point) opens.resumes_is is.before;
        loads = subst (λ j. Loads begins.limits [] (lines_at [] (as_read file.lines)) j) (sym journal)
            (subst (λ ls. Loads begins.limits [] (lines_at [] ls) behind.loaded.system.journal) lines
            (subst (λ start. Loads begins.limits start (lines_at start (whole_lines bytes)) behind.loaded.system.journal) empty loads));
        world_is = ap (λ (r : Read). r.recovered.system) is.is ∙ (same ∙ ap (λ j. record begins { journal = j }) (sym journal));
        point_is = ap (λ (r : Read). r.recovered.point) is.is;
        resumes_is = ap (λ (r : Read). r.recovered.resumes) is.is ∙ opens.resumes_is;
        at_is = ap (λ (r : Read). r.recovered.at) is.is ∙ opens.resumes_is;
        skips_is = ap (λ (r : Read). r.skips) is.is ∙ ap (λ n. point - n) opens.resumes_is;
        entered_is = ap (λ (r : Read). r.entered) is.is;
      }

  known : (o : Option TextState) → IfSome o AreTexts → IfSome o (λ s. OpensDump point resumes s left) → (read : Read) → IsDumpRead behind.loaded point resumes read → IfSome o (ReadsDump begins point read)
  known None texts opens read is = tt
  known (Some s) texts opens read is = loaded s texts opens read is

  pub dump_loaded : (o : Option TextState) → IfSome o AreTexts → IfSome o (λ s. OpensDump point resumes s left)
      → (result : Result Read RecoveryFault) → IfOk result (IsDumpRead behind.loaded point resumes) → IfOk result (λ read. IfSome o (ReadsDump begins point read))
  dump_loaded o texts opens (Ok read) is = known o texts opens read is
  dump_loaded o texts opens (Err fault) is = tt
