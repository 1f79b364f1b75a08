-- A piece that was loaded.
use Rattle.std.proofs.Common.{◌≡◌, ℕ, ◌+◌, ◌-◌, ◌≤◌, None, Some, Option, Ok, IfSome, List, length, drop, refl, subst, sym, ◌∙◌, ap, arith}
use Rattle.std.proofs.lemmas.List.{length-map}
use Rattle.std.specs.List.{drop-map}
use Rattle.std.specs.Str.Lines.{strip_carriage_return}
use Rattle.lines_core.specs.Lines.{whole_lines}
use Rattle.load_core.specs.declared.behind.LoadedBehind.{LoadedBehind}
use Rattle.load_core.specs.Loading.{Loads}
use Rattle.load_core.specs.Loader.{lines_at}
use Rattle.load_core.specs.Skipping.{EndsBehind}
use Rattle.load_core.proofs.Room.{Loads-count}
use Rattle.folder_core.specs.FileNames.{piece}
use Rattle.folder_core.specs.Texts.{file_text}
use Rattle.folder_core.specs.Calls.{TextState, AreTexts, Opens}
use Rattle.recovery_core.specs.declared.recovering.Read.{Read}
use Rattle.recovery_core.specs.Reading.{as_read, IsSound, IsGoneOn, GoesOnBy, ReadsPiece}
use Rattle.recovery_core.proofs.Texts.{all_read, lines_read}
use Rattle.recovery_core.proofs.Made.{still_made}

-- lines that are read are as many
pub read_length : (lines : List (List ℕ)) → length (as_read lines) ≡ length lines
read_length lines = length-map lines strip_carriage_return

module _ (read : Read) (b : LoadedBehind) (left left' : Option (List ℕ)) (sound : IsSound read) (ends : EndsBehind read.recovered.system read.skips (Ok b) left left') (before : ℕ) (before_is : before ≡ length read.recovered.system.journal) where
  counted : (lines : List (List ℕ)) → length b.loaded.system.journal ≡ length read.recovered.system.journal + length lines → length read.recovered.system.journal ≤ length b.loaded.system.journal
  counted lines e = omega arith

  pub longer : before ≤ length b.loaded.system.journal
  longer =
      let (bytes, consumed, end, cut, skips, loads, same) = ends in
      let lines = lines_at read.recovered.system.journal (drop read.skips (whole_lines bytes)) in
      let le = counted lines (Loads-count read.recovered.system.limits read.recovered.system.journal lines b.loaded.system.journal loads) in
      omega arith

  pub fewer : b.skips ≤ read.skips
  fewer = let (bytes, consumed, end, cut, skips, loads, same) = ends in omega arith

  module _ (new : Read) (is : IsGoneOn b before read.recovered.point read.recovered.resumes read.entered new) where
    journal_is : new.recovered.system.journal ≡ b.loaded.system.journal
    journal_is = ap (λ (r : Read). r.recovered.system.journal) is

    pub sound_so : length b.loaded.system.journal ≤ b.loaded.system.limits.changes → IsSound new
    sound_so few =
        let p = sound.point_small in
        let s = sound.skips_within in
        let e = sound.entered_within in
        let l = longer in
        let f = fewer in
        subst IsSound (sym is) (record {
          made = still_made read.recovered.system read.skips b left left' sound.made ends;
          point_small = sound.point_small;
          skips_within = (omega arith);
          entered_within = (omega arith);
          few = few;
          at_is = refl;
        })

    pub goes_on_so : GoesOnBy read new
    goes_on_so =
        let (bytes, consumed, end, cut, skips, loads, same) = ends in
        let l = longer in
        subst (GoesOnBy read) (sym is) (record {
          further = record { world_is = same; point_is = refl; resumes_is = refl };
          fewer = fewer;
          entered_is = ap (λ n. read.entered + (length b.loaded.system.journal - n)) before_is;
          no_shorter = (omega arith);
          at_is = refl;
        })

    reads : (s : TextState) → AreTexts s → Opens (piece read.recovered.at) s left → ReadsPiece read new s
    reads s texts opens =
        let (bytes, consumed, end, cut, skips, loads, same) = ends in
        let file = opens.file in
        let lines : whole_lines bytes ≡ as_read file.lines = ap whole_lines (all_read left left' bytes (file_text file) opens.left_is consumed end) ∙ lines_read file (texts.files opens.has.number file opens.has.is) in
        subst (λ (n : Read). ReadsPiece read n s) (sym is) (record {
          file = file;
          has = opens.has;
          loads = subst (λ (ls : List (List ℕ)). Loads read.recovered.system.limits read.recovered.system.journal (lines_at read.recovered.system.journal ls) b.loaded.system.journal)
              (ap (drop read.skips) lines ∙ drop-map strip_carriage_return read.skips file.lines) loads;
          skips_is = skips ∙ ap (λ n. read.skips - n) (ap length lines ∙ read_length file.lines);
        })

    pub reads_so : (o : Option TextState) → IfSome o AreTexts → IfSome o (λ s. Opens (piece read.recovered.at) s left) → IfSome o (ReadsPiece read new)
    reads_so None texts opens = tt
    reads_so (Some s) texts opens = reads s texts opens
