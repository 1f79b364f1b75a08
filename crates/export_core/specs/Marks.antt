-- The marks of a table's columns, as they are kept.
use Rattle.std.specs.Prelude.{Bool, true, ◌&&◌, List, [], ◌∷◌, replicate}
use Rattle.export_core.specs.declared.marks.Kept.{Kept}
use Rattle.export_core.specs.declared.marks.Kept.TheVariants as kept

-- the marks: all of so many are set, or these are they
abbrev pub marks_kept : Kept → List Bool
marks_kept (kept.Whole columns) = replicate columns true
marks_kept (kept.Cut marks) = marks.items

-- the first marks, but for those that the others don't set; where these are no more, they stay
abbrev pub both : List Bool → List Bool → List Bool
both [] others = []
both (mark ∷ marks) [] = mark ∷ marks
both (mark ∷ marks) (other ∷ others) = (mark && other) ∷ both marks others
