-- An export of one table alone.
use Rattle.std.proofs.Common.{◌≡◌, true, if◌then◌else◌, IsSomeAnd, Option, Some, None, [], ◌∷◌, ◌++◌, codes, refl, ap, ◌∙◌, append-nil}
use Rattle.std.specs.List.{find, flat_map}
use Rattle.std.specs.Option.{option_to_list}
use Rattle.base_core.specs.Words.{same_name}
use Rattle.export_core.specs.Export.{table_records, held, listed_marks, is_any, listed_lines, withheld_line, end_line}
use Rattle.export_core.specs.Laws.{ListsAlone}

there : {X : Type 0} (o : Option X) (P : X → Type 0) → IsSomeAnd o P → (x : X) × (o ≡ Some x) × P x
there None P holds = absurd holds
there (Some x) P holds = (x, refl, holds)

pub lists_alone : ListsAlone
lists_alone image now user name allowed =
    let (t, found, any) = there (find (λ u. same_name name u.name) image.tables) (λ u. is_any (listed_marks image now user u.name u.columns) ≡ true) allowed in
    let marks = listed_marks image now user t.name t.columns in
    let withheld = withheld_line t.name (if is_any (held image user t.name t.columns) then codes "now" else codes "point") ∷ [] in (
      t,
      found,
      ap (λ o. flat_map (table_records image now user) (option_to_list o) ++ end_line image.number ∷ []) found
          ∙ ap (λ b. ((if b then listed_lines marks t else withheld) ++ []) ++ end_line image.number ∷ []) any
          ∙ ap (λ l. l ++ end_line image.number ∷ []) (append-nil (listed_lines marks t)),
    )
