-- Records whose fields are written one after another.
use Rattle.std.proofs.Common.{◌≡◌, ℕ, ◌+◌, ◌<◌, Bool, true, List, [], ◌∷◌, ◌++◌, length, get_or, take, map, codes, sym, ap, ◌∙◌, append-nil, append_assoc}
use Rattle.std.proofs.lemmas.List.{map_more, map-append}
use Rattle.std.proofs.lemmas.List.Concat.{flat_map-append}
use Rattle.export_core.specs.Export.{cut}
use Rattle.export_core.specs.Record.{field_text, fields_text, more_text, record_line}
use Rattle.export_core.proofs.Cutting.{cut-more_set}

-- the further fields behind the first
fields_text-cons : (first : List ℕ) (more : List (List ℕ)) → fields_text (first ∷ more) ≡ field_text first ++ more_text more
fields_text-cons first [] = sym (append-nil (field_text first))
fields_text-cons first (next ∷ more) = ap (λ text. field_text first ++ 44 ∷ text) (fields_text-cons next more)

-- a record whose fields were written one after another
pub record_line-from_fields : (start first begun written : List ℕ) (more : List (List ℕ)) → begun ≡ start ++ field_text first → written ≡ begun ++ more_text more
    → written ++ codes "\n" ≡ start ++ record_line (first ∷ more)
record_line-from_fields start first begun written more one others =
    let whole : written ≡ start ++ fields_text (first ∷ more) =
    others ∙ ap (λ text. text ++ more_text more) one ∙ append_assoc start (field_text first) (more_text more) ∙ ap (λ text. start ++ text) (sym (fields_text-cons first more)) in
    ap (λ text. text ++ codes "\n") whole ∙ append_assoc start (fields_text (first ∷ more)) (codes "\n")

-- one field, and then others
pub more_text-cons : (old middle new field : List ℕ) (more : List (List ℕ)) → middle ≡ old ++ 44 ∷ field_text field → new ≡ middle ++ more_text more
    → new ≡ old ++ more_text (field ∷ more)
more_text-cons old middle new field more one others =
    others ∙ ap (λ text. text ++ more_text more) one ∙ append_assoc old (44 ∷ field_text field) (more_text more)

pub more_text-one : (old new field : List ℕ) → new ≡ old ++ 44 ∷ field_text field → new ≡ old ++ more_text (field ∷ [])
more_text-one old new field one = one ∙ ap (λ text. old ++ 44 ∷ text) (sym (append-nil (field_text field)))

-- one more of the further fields
more_text-last : (start old new last : List ℕ) (before : List (List ℕ)) → old ≡ start ++ more_text before → new ≡ old ++ 44 ∷ field_text last
    → new ≡ start ++ more_text (before ++ last ∷ [])
more_text-last start old new last before so_far grown =
    let texts : more_text (before ++ last ∷ []) ≡ more_text before ++ 44 ∷ field_text last =
    flat_map-append (λ field. 44 ∷ field_text field) before (last ∷ []) ∙ ap (λ text. more_text before ++ 44 ∷ text) (append-nil (field_text last)) in
    grown ∙ ap (λ text. text ++ 44 ∷ field_text last) so_far ∙ append_assoc start (more_text before) _ ∙ ap (λ text. start ++ text) (sym texts)

pub more_text-more : {X : Type 0} (bytes : X → List ℕ) (fields : List X) (i : ℕ) (d : X) (start old new : List ℕ) → i < length fields
    → old ≡ start ++ more_text (map bytes (take i fields)) → new ≡ old ++ 44 ∷ field_text (bytes (get_or fields i d))
    → new ≡ start ++ more_text (map bytes (take (i + 1) fields))
more_text-more bytes fields i d start old new lt so_far grown =
    more_text-last start old new (bytes (get_or fields i d)) (map bytes (take i fields)) so_far grown
    ∙ ap (λ all. start ++ more_text all) (sym (map_more bytes fields i d lt))

-- the same of fields that are cut, where this one is not
pub more_text-cut : {X : Type 0} (bytes : X → List ℕ) (marks : List Bool) (fields : List X) (i : ℕ) (d : X) (start old new : List ℕ) → i < length fields → get_or marks i true ≡ true
    → old ≡ start ++ more_text (map bytes (cut marks (take i fields))) → new ≡ old ++ 44 ∷ field_text (bytes (get_or fields i d))
    → new ≡ start ++ more_text (map bytes (cut marks (take (i + 1) fields)))
more_text-cut bytes marks fields i d start old new lt set so_far grown =
    let before = cut marks (take i fields) in
    more_text-last start old new (bytes (get_or fields i d)) (map bytes before) so_far grown
    ∙ ap (λ all. start ++ more_text all) (sym (ap (map bytes) (cut-more_set marks fields i d lt set) ∙ map-append bytes before (get_or fields i d ∷ [])))
