-- The records that a ticket is issued with.
use Rattle.std.proofs.Common.{◌≡◌, ℕ, Bool, true, false, if◌then◌else◌, length, List, [], ◌∷◌, ◌++◌, take, drop, map, Option, codes, refl, sym, ap, ◌∙◌}
use Rattle.std.specs.List.{flat_map, zip}
use Rattle.std.proofs.lemmas.List.Folds.{flat_map-map}
use Rattle.base_core.specs.declared.name.Name.{Name}
use Rattle.base_core.specs.declared.name.User.{User}
use Rattle.base_core.specs.declared.value.Moment.{Moment}
use Rattle.grants_core.specs.Content.{Rights}
use Rattle.capture_core.specs.declared.image.Image.{Image}
use Rattle.capture_core.specs.declared.image.TableImage.{TableImage}
use Rattle.export_core.specs.Export.{image_export, chosen, table_records, held_then, holds_now, held, listed_marks, is_any, listed_lines, withheld_line, end_line}
use Rattle.export_core.specs.Walk.{told, told_of_table, asked, by_rights, settled}
use Rattle.export_core.specs.declared.judgement.Judgement.{Judgement}
use Rattle.export_core.specs.declared.judgement.Judgement.TheVariants.{Listed, WithheldThen, WithheldNow}
use Rattle.export_core.proofs.Cutting.{both-map}
use Rattle.export_core.proofs.Places.{zip-map_take, map-made}

-- what is told of a table that is judged by the marks of both moments, and by those of the point
told_by : (marks could : List Bool) (t : TableImage)
    → told (if is_any marks then Listed marks else if is_any could then WithheldNow else WithheldThen) t
    ≡ (if is_any marks then listed_lines marks t else withheld_line t.name (if is_any could then codes "now" else codes "point") ∷ [])
told_by marks could t = by (is_any marks) (is_any could)
  where
    by : (a b : Bool) → told (if a then Listed marks else if b then WithheldNow else WithheldThen) t
        ≡ (if a then listed_lines marks t else withheld_line t.name (if b then codes "now" else codes "point") ∷ [])
    by true b = refl
    by false true = refl
    by false false = refl

-- a table's judgement tells the table's records
pub told_records : (image : Image) (now : Rights) (user : User) (t : TableImage) → told (settled image user (t, by_rights now user t)) t ≡ table_records image now user t
told_records image now user t =
    let could = held image user t.name t.columns in
    ap (λ marks. told (if is_any marks then Listed marks else if is_any could then WithheldNow else WithheldThen) t)
    (both-map (λ c. held_then image user t.name c.name) (λ c. holds_now now user t.name c.name) t.columns)
    ∙ told_by (listed_marks image now user t.name t.columns) could t

all_told : (image : Image) (now : Rights) (user : User) (part : List TableImage)
    → flat_map (λ t. told (settled image user (t, by_rights now user t)) t) part ≡ flat_map (table_records image now user) part
all_told image now user [] = refl
all_told image now user (t ∷ part) =
    ap (λ l. l ++ flat_map (λ u. told (settled image user (u, by_rights now user u)) u) part) (told_records image now user t)
    ∙ ap (λ l. table_records image now user t ++ l) (all_told image now user part)

-- items beside what is made of the first of them, where these are a part of all
beside : {X Y : Type 0} (f : X → Y) (all part : List X) → part ≡ take (length part) all → zip all (map f part) ≡ map (λ x. (x, f x)) part
beside f all part within =
    ap (λ l. zip all (map f l)) within ∙ zip-map_take f (length part) all ∙ ap (map (λ x. (x, f x))) (sym within)

-- each of the export's tables beside its judgement
pub issued_records : (image : Image) (now : Rights) (user : User) (only : Option Name) (at : Moment) (first : ℕ) (part : List TableImage) (given : List (List Bool))
    → part ≡ chosen image.tables only → part ≡ take (length part) (drop first image.tables) → given ≡ map (by_rights now user) part
    → (asked image user at first given).to_come ≡ image_export image now user only
issued_records image now user only at first part given is within marked =
    let j : TableImage → Judgement = λ t. settled image user (t, by_rights now user t) in
    let tables = drop first image.tables in
    let in_the_end : map (settled image user) (zip tables given) ≡ map j part =
    ap (λ l. map (settled image user) (zip tables l)) marked
    ∙ ap (map (settled image user)) (beside (by_rights now user) tables part within)
    ∙ map-made (λ t. (t, by_rights now user t)) (settled image user) part in
    let pairs : zip tables (map (settled image user) (zip tables given)) ≡ map (λ t. (t, j t)) part = ap (zip tables) in_the_end ∙ beside j tables part within in
    ap (λ l. flat_map told_of_table l ++ end_line image.number ∷ []) pairs
    ∙ ap (λ l. l ++ end_line image.number ∷ []) (flat_map-map told_of_table (λ t. (t, j t)) part ∙ all_told image now user part)
    ∙ ap (λ l. flat_map (table_records image now user) l ++ end_line image.number ∷ []) is
