-- What a writer may be asked to do between changes.
use Rattle.std.specs.Prelude.{◌≡◌, ◌≤◌, ◌⊎◌, ℕ, Bool, true, is_some, List, ◌++◌, length, take, Option, Some, None}
use Rattle.std.proofs.Common.{refl, sym, inl, inr}
use Rattle.folder_core.specs.declared.errand.Errand.{Errand}
use Rattle.folder_core.specs.declared.errand.Errand.TheVariants as errands
use Rattle.folder_core.specs.declared.errand.Written.{Written}
use Rattle.folder_core.specs.Calls.{TextState}
use Rattle.folder_core.specs.Texts.{lines_text, part_text, AreLines}
use Rattle.data_core.specs.Written.{text_written}

-- of the text of a journal, if it has so many lines, these are a dump of what the first so many leave
abbrev pub IsDumpOfText : (List (List ℕ) → List (List ℕ) → Type 0) → ℕ → List (List ℕ) → List ℕ → Type 0
IsDumpOfText IsDumpOf point dumped text =
    (lines : List (List ℕ)) (part : Option (List ℕ))
    → AreLines lines part
    → text ≡ lines_text lines ++ part_text part
    → point ≤ length lines
    → IsDumpOf (take point lines) dumped

-- where this text was written, the errand may be run: a file that is to be a dump is one of a front of it
abbrev pub MayRun : (List (List ℕ) → List (List ℕ) → Type 0) → (Written → List (List ℕ))
    → Option (List ℕ) → Errand → Type 0
MayRun IsDumpOf lines_of (Some text) (errands.Put synced point dump) =
    IsDumpOfText IsDumpOf point (lines_of dump) text
MayRun IsDumpOf lines_of taken errand = Unit {0}

-- ---- where nothing is known
-- any errand may be run
pub any_where_unknown : (IsDumpOf : List (List ℕ) → List (List ℕ) → Type 0)
    (lines_of : Written → List (List ℕ)) (errand : Errand)
    → MayRun IsDumpOf lines_of None errand
any_where_unknown IsDumpOf lines_of (errands.Put synced point dump) = tt
any_where_unknown IsDumpOf lines_of (errands.Settle names) = tt
any_where_unknown IsDumpOf lines_of (errands.RemovePiece point) = tt
any_where_unknown IsDumpOf lines_of (errands.RemoveDump point) = tt

-- the text is known of a folder that knows where it is
pub text_known : (state : Option TextState) (knows : Bool) → is_some state ≡ knows
    → (knows ≡ true) ⊎ (text_written state ≡ None)
text_known None knows same = inr refl
text_known (Some s) knows same = inl (sym same)
