-- Answers as records.
use Rattle.std.specs.Prelude.{◌≡◌, ℕ, ◌+◌, List, [], ◌∷◌, ◌++◌}
use Rattle.std.specs.List.{flat_map}
use Rattle.export_core.specs.Record.{record_line}

-- the texts of a record's fields
abbrev pub Fields : Type 0
Fields = List (List ℕ)

-- the lines of records
abbrev pub lines : List Fields → List ℕ
lines records = flat_map record_line records

-- an answer: the line with the names of its fields, and its records
abbrev pub answer_of : List ℕ → List Fields → List ℕ
answer_of head records = head ++ lines records

-- the records of items that are numbered from here on
abbrev pub numbered_records : {A : Type 0} → (ℕ → A → List Fields) → ℕ → List A → List Fields
numbered_records records n [] = []
numbered_records records n (x ∷ xs) = records n x ++ numbered_records records (n + 1) xs

-- of each of the items some records tell, one behind another
abbrev pub TellEach : {A : Type 0} → (A → List Fields → Type 0) → List A → List Fields → Type 0
TellEach Tells [] records = records ≡ []
TellEach Tells (x ∷ xs) records =
    (first : List Fields) × (more : List Fields)
    × Tells x first × TellEach Tells xs more × (records ≡ first ++ more)
