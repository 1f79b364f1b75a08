-- The columns of a table, by their places.
use Rattle.std.proofs.Common.{◌≡◌, ℕ, ◌+◌, ◌<◌, ◌≤◌, zero, suc, ◌&&◌, not, nat_le, List, [], ◌∷◌, ◌++◌, length, get_or, take, flat_map, refl, ap, ◌∙◌, arith}
use Rattle.std.specs.Option.{is_some}
use Rattle.std.proofs.lemmas.Bool.{and_parts, leb-true}
use Rattle.std.proofs.lemmas.List.{length-append, take_all}
use Rattle.base_core.specs.Words.{IsName, is_word, keyword_of}
use Rattle.base_core.specs.declared.value.Column.{Column}
use Rattle.messages_core.specs.Columns.{column_in, table_columns}
use Rattle.messages_core.specs.Fields.{string}
use Rattle.messages_core.specs.Rows.{behind_name, described}
use Rattle.messages_core.specs.declared.rows.ColumnDescription.{ColumnDescription}
use Rattle.messages_core.specs.declared.rows.Format.{Format}
use Rattle.messages_core.specs.declared.rows.Format.TheVariants as formats
use Rattle.messages_core.proofs.Pieces.{up_to}

-- how long the description of a column is
pub described_length : (c : ColumnDescription) → length (described c) ≡ length c.name + 19
described_length c = omega (arith, length-append (string c.name) (behind_name c.ty c.format), length-append c.name (0 ∷ []))

-- a name has at most 30 bytes
pub name_few : (bytes : List ℕ) → IsName bytes → length bytes ≤ 30
name_few bytes name =
    let front = and_parts (is_word bytes && nat_le (length bytes) 30) (not (is_some (keyword_of bytes))) name.named in
    leb-true (length bytes) 30 (and_parts (is_word bytes) (nat_le (length bytes) 30) front.0).1

-- there are as many descriptions as columns
pub columns_length : (cs : List Column) (fs : List Format) → length (table_columns cs fs) ≡ length cs
columns_length [] fs = refl
columns_length (c ∷ cs) [] = ap suc (columns_length cs [])
columns_length (c ∷ cs) (f ∷ fs) = ap suc (columns_length cs fs)

-- a column, in its place
pub column_at : (cs : List Column) (fs : List Format) (i : ℕ) (c : Column) (d : ColumnDescription) → i < length cs → c ≡ get_or cs i c
    → column_in c (get_or fs i formats.Text) ≡ get_or (table_columns cs fs) i d
column_at [] fs i c d lt is = absurd (omega arith)
column_at (b ∷ cs) [] zero c d lt is = ap (λ (x : Column). column_in x formats.Text) is
column_at (b ∷ cs) [] (suc i) c d lt is = column_at cs [] i c d (omega arith) is
column_at (b ∷ cs) (f ∷ fs) zero c d lt is = ap (λ (x : Column). column_in x f) is
column_at (b ∷ cs) (f ∷ fs) (suc i) c d lt is = column_at cs fs i c d (omega arith) is

-- a description that was made of it
pub made_at : (cs : List Column) (fs : List Format) (i : ℕ) (c : Column) (d : ColumnDescription) → i < length cs → c ≡ get_or cs i c
    → d ≡ column_in c (get_or fs i formats.Text)
    → (i < length (table_columns cs fs)) × (d ≡ get_or (table_columns cs fs) i d)
made_at cs fs i c d lt is made = (omega (arith, columns_length cs fs), made ∙ column_at cs fs i c d lt is)

-- all of them
pub whole_columns : (cs : List Column) (fs : List Format) (i : ℕ) → length cs ≤ i → take i (table_columns cs fs) ≡ table_columns cs fs
whole_columns cs fs i le = take_all i (table_columns cs fs) (omega (arith, columns_length cs fs))

-- the size of one more
pub columns_more : (cs : List Column) (fs : List Format) (i : ℕ) (d : ColumnDescription) → i < length (table_columns cs fs)
    → d ≡ get_or (table_columns cs fs) i d
    → length (flat_map described (take (i + 1) (table_columns cs fs)))
    ≡ length (flat_map described (take i (table_columns cs fs))) + length (described d)
columns_more cs fs i d lt is =
    ap (λ (bytes : List ℕ). length bytes) (up_to described (table_columns cs fs) i d d lt is)
    ∙ length-append (flat_map described (take i (table_columns cs fs))) (described d)
