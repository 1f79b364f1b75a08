-- How tables are judged, and how the fields of a ticket stand for an export on its way.
use Rattle.std.specs.Prelude.{◌≡◌, ℕ, ◌+◌, ◌<◌, ◌≤◌, Bool, true, if◌then◌else◌, List, [], ◌∷◌, ◌++◌, length, map, take, drop, zip, flat_map, slice_get, None, MatchOption, codes}
use Rattle.std.specs.Arc.{arc_value}
use Rattle.base_core.specs.declared.name.User.{User}
use Rattle.base_core.specs.declared.value.Moment.{Moment}
use Rattle.grants_core.specs.Content.{Rights}
use Rattle.capture_core.specs.declared.image.Image.{Image}
use Rattle.capture_core.specs.declared.image.TableImage.{TableImage}
use Rattle.export_core.specs.Export.{holds_now, held, is_any, listed_lines, withheld_line, end_line}
use Rattle.export_core.specs.Marks.{both}
use Rattle.export_core.specs.Ticket.{TicketState}
use Rattle.export_core.specs.declared.judgement.Judgement.{Judgement}
use Rattle.export_core.specs.declared.judgement.Judgement.TheVariants.{Listed, WithheldThen, WithheldNow}
use Rattle.export_core.specs.declared.walk.Walk.TheInside.{Inside}

-- of each column of a table, whether the user holds SELECT of it by the rights at the request
abbrev pub by_rights : Rights → User → TableImage → List Bool
by_rights now user t = map (λ c. holds_now now user t.name c.name) t.columns

-- how a table is judged in the end, where the rights at the request mark its columns so
abbrev pub settled : Image → User → TableImage × List Bool → Judgement
settled image user pair =
    let could = held image user pair.0.name pair.0.columns in
    let marks = both could pair.1 in
    if is_any marks then Listed marks else if is_any could then WithheldNow else WithheldThen

-- what is told of a table that is judged so
abbrev pub told : Judgement → TableImage → List (List ℕ)
told (Listed marks) t = listed_lines marks t
told WithheldThen t = withheld_line t.name (codes "point") ∷ []
told WithheldNow t = withheld_line t.name (codes "now") ∷ []

-- a table and how it was judged
abbrev pub told_of_table : TableImage × Judgement → List (List ℕ)
told_of_table pair = told pair.1 pair.0

-- an export that was asked for: of these tables of the image, from the first on, the columns of
-- each marked so by the rights at the request
abbrev pub asked : Image → User → Moment → ℕ → List (List Bool) → TicketState
asked image user at first now = record {
  number = image.number;
  point = image.point;
  at = at;
  given = [];
  to_come =
      flat_map told_of_table
      (zip (drop first image.tables) (map (settled image user) (zip (drop first image.tables) now)))
      ++ end_line image.number ∷ [];
}

-- the tables of the export, each with its judgement
abbrev pub judged_tables : Inside → List (TableImage × Judgement)
judged_tables t = zip (drop t.first (arc_value t.image).tables) t.judgements.items

abbrev pub all_records : Inside → List (List ℕ)
all_records t = flat_map told_of_table (judged_tables t) ++ end_line (arc_value t.image).number ∷ []

-- how many of them were given
abbrev pub count_given : Inside → ℕ
count_given t =
    length (flat_map told_of_table (take t.told (judged_tables t))) + t.lines
    + (if t.ended then 1 else 0)

abbrev pub exporting : Inside → TicketState
exporting t = record {
  number = (arc_value t.image).number;
  point = (arc_value t.image).point;
  at = t.at;
  given = take (count_given t) (all_records t);
  to_come = drop (count_given t) (all_records t);
}

-- the judgements are of tables of the image; the next line is one of the table after those that were
-- told whole, or the end
pub record IsUnderWay (t : Inside) : Type 0 where
  pub fits : t.first + length t.judgements.items ≤ length (arc_value t.image).tables
  pub next : MatchOption (slice_get (judged_tables t) t.told) (t.lines ≡ 0)
      (λ pair. t.lines < length (told_of_table pair))
  pub end : t.ended ≡ true → slice_get (judged_tables t) t.told ≡ None
