-- How a core goes on by a file's whole lines behind its first so many.
use Rattle.std.specs.Prelude.{◌≡◌, ◌+◌, ◌-◌, ◌^◌, ◌<◌, ℕ, zero, suc, Bool, List, [], ◌∷◌, ◌++◌, length, drop, Option, None, Some, Result, Ok, Err}
use Rattle.std.proofs.Common.{Vec, Global}
use Rattle.std.specs.Io.KnownBytes.{Consumes, Keeps, IsAtEnd}
use Rattle.lines_core.specs.Lines.{whole_lines}
use Rattle.lines_core.specs.declared.line.TheConstants.{LONGEST_LINE}
use Rattle.system_core.specs.World.{World}
use Rattle.system_core.specs.declared.machine.event.Entry.{Entry}
use Rattle.load_core.specs.declared.fault.Undone.{Undone}
use Rattle.load_core.specs.declared.fault.LoadFault.{LoadFault}
use Rattle.load_core.specs.declared.fault.LoadFault.TheVariants as faults
use Rattle.load_core.specs.declared.behind.Skipping.{Skipping}
use Rattle.load_core.specs.declared.behind.LoadedBehind.{LoadedBehind}
use Rattle.load_core.specs.Loading.{Loads, IsUndone, IsCutOf}
use Rattle.load_core.specs.Loader.{LoaderState, GoesOn, GoesOn-too_long, has_stopped, lines_at}

-- ---- a line
-- a loader that is to pass over so many lines passes over this one; or it goes on by it
abbrev SkipsFrom : ℕ → LoaderState → List ℕ → List ℕ → Skipping → Type 0
SkipsFrom zero loader line text new = GoesOn loader line text new.loader × (new.skips ≡ 0)
SkipsFrom (suc skips) loader line text new =
    (text ≡ []) × (new ≡ record { loader = loader; skips = skips })

abbrev pub SkipsOrGoesOn : Skipping → List ℕ → List ℕ → Skipping → Type 0
SkipsOrGoesOn old line text new = SkipsFrom old.skips old.loader line text new

abbrev pub is_over : Skipping → Bool
is_over s = has_stopped s.loader

-- ---- a file
-- The lines before some line lead from the world to a journal, and that line says no change that is
-- done at it. The number is that of the change which it would have been.
pub record StopsBehind (begins : World) (lines : List (List ℕ)) (number : ℕ) (why : Undone)
    : Type 0 where
  pub front : List (List ℕ)
  pub line : List ℕ
  pub rest : List (List ℕ)
  pub journal : List Entry
  pub lines_are : lines ≡ front ++ line ∷ rest
  pub number_is : number ≡ length journal + 1
  pub loads : Loads begins.limits begins.journal front journal
  pub undone : IsUndone LONGEST_LINE (record begins { journal = journal }) line why

-- what a loader has come to, where so many lines are still to be passed over: the core, beside the front
-- of a line that was cut off; or the line at which it stopped
abbrev pub behind_of : World → Option Undone → Option (Vec ℕ Global) → ℕ → Result LoadedBehind LoadFault
behind_of w None cut skips = Ok (record { loaded = record { system = w; cut = cut }; skips = skips })
behind_of w (Some why) cut skips = Err (faults.Line (length w.journal + 1) why)

-- How it ends from a world on, where so many lines are passed over. Ok: all of the reader was read, and
-- the whole lines behind those lead to the world; so many are still to be passed over; a last line that has
-- no line feed is kept apart.
abbrev pub EndsBehind : World → ℕ → Result LoadedBehind LoadFault → (left left' : Option (List ℕ))
    → Type 0
EndsBehind begins skips (Ok b) left left' =
    (bytes : List ℕ)
    × Consumes left left' bytes
    × IsAtEnd left'
    × IsCutOf bytes b.loaded.cut
    × (b.skips ≡ skips - length (whole_lines bytes))
    × Loads begins.limits begins.journal
    (lines_at begins.journal (drop skips (whole_lines bytes))) b.loaded.system.journal
    × (b.loaded.system ≡ record begins { journal = b.loaded.system.journal })
EndsBehind begins skips (Err (faults.Line number why)) left left' =
    (bytes : List ℕ)
    × Consumes left left' bytes
    × StopsBehind begins (lines_at begins.journal (drop skips (whole_lines bytes))) number why
EndsBehind begins skips (Err (faults.CutOff number)) left left' = ⊥
EndsBehind begins skips (Err faults.Read) left left' = (bytes : List ℕ) × Consumes left left' bytes
EndsBehind begins skips (Err faults.Bound) left left' =
    (bytes : List ℕ) × Consumes left left' bytes × (length bytes ≡ 2 ^ 32)
EndsBehind begins skips (Err faults.NoMemory) left left' = Keeps left left'

-- ---- lines that are too long are answered alike
SkipsFrom-too_long : (skips : ℕ) (loader : LoaderState) (line other text : List ℕ) (new : Skipping)
    → LONGEST_LINE < length line
    → LONGEST_LINE < length other
    → SkipsFrom skips loader line text new
    → SkipsFrom skips loader other text new
SkipsFrom-too_long zero loader line other text new h k p =
    (GoesOn-too_long loader new.loader line other text h k p.0, p.1)
SkipsFrom-too_long (suc skips) loader line other text new h k p = p

pub SkipsOrGoesOn-too_long : (old new : Skipping) (line other text : List ℕ)
    → LONGEST_LINE < length line
    → LONGEST_LINE < length other
    → SkipsOrGoesOn old line text new
    → SkipsOrGoesOn old other text new
SkipsOrGoesOn-too_long old new line other text h k p =
    SkipsFrom-too_long old.skips old.loader line other text new h k p
