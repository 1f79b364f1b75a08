-- The records of a stream, to the byte.
use Rattle.std.specs.Prelude.{ℕ, Bool, if◌then◌else◌, List, [], ◌∷◌, ◌++◌, codes, decimal, length, map}
use Rattle.std.specs.List.{flat_map}
use Rattle.base_core.specs.declared.privilege.Kind.{Kind}
use Rattle.base_core.specs.declared.privilege.Kind.TheVariants as kinds
use Rattle.base_core.specs.declared.value.ColType.{ColType}
use Rattle.base_core.specs.declared.value.ColType.TheVariants as types
use Rattle.base_core.specs.declared.value.Column.{Column}
use Rattle.grants_core.specs.declared.grant.Grant.{Grant}
use Rattle.export_core.specs.Record.{record_line, value_field}
use Rattle.stream_core.specs.declared.effect.Effect.{Effect}
use Rattle.stream_core.specs.declared.effect.Effect.TheVariants as effects

-- the texts of fields
abbrev pub Fields : Type 0
Fields = List (List ℕ)

abbrev pub column_type_text : ColType → List ℕ
column_type_text types.Integer = codes "INTEGER"
column_type_text types.Text = codes "TEXT"

-- a column: its name and its type
abbrev pub column_fields : Column → Fields
column_fields column = column.name ∷ column_type_text column.ty ∷ []

-- what a privilege allows, without its column
abbrev pub privilege_text : Kind → List ℕ
privilege_text (kinds.Select column) = codes "SELECT"
privilege_text kinds.Insert = codes "INSERT"
privilege_text kinds.Delete = codes "DELETE"
privilege_text (kinds.Update column) = codes "UPDATE"

-- the column of a privilege, or nothing
abbrev pub column_text : Kind → List ℕ
column_text (kinds.Select column) = column
column_text kinds.Insert = []
column_text kinds.Delete = []
column_text (kinds.Update column) = column

abbrev pub option_text : Bool → List ℕ
option_text flag = if flag then codes "yes" else codes "no"

-- a grant: number, grantor, grantee, table, privilege, column, option
abbrev pub grant_fields : Grant → Fields
grant_fields g =
    decimal g.number ∷ g.grantor.0 ∷ g.grantee.0 ∷ g.atom.table
    ∷ privilege_text g.atom.kind ∷ column_text g.atom.kind ∷ option_text g.option ∷ []

-- what an effect is called
abbrev pub effect_word : Effect → List ℕ
effect_word (effects.TableMade table owner columns) = codes "created"
effect_word (effects.RowInserted table number row) = codes "inserted"
effect_word (effects.RowUpdated table number row) = codes "updated"
effect_word (effects.RowDeleted table number) = codes "deleted"
effect_word (effects.GrantMade g) = codes "granted"
effect_word (effects.OptionLost number) = codes "option lost"
effect_word (effects.GrantFell number) = codes "fell"

-- what stands behind the word
abbrev pub effect_fields : Effect → Fields
effect_fields (effects.TableMade table owner columns) =
    table ∷ owner.0 ∷ flat_map column_fields columns
effect_fields (effects.RowInserted table number row) =
    table ∷ decimal number ∷ map value_field row.values
effect_fields (effects.RowUpdated table number row) =
    table ∷ decimal number ∷ map value_field row.values
effect_fields (effects.RowDeleted table number) = table ∷ decimal number ∷ []
effect_fields (effects.GrantMade g) = grant_fields g
effect_fields (effects.OptionLost number) = decimal number ∷ []
effect_fields (effects.GrantFell number) = decimal number ∷ []

-- the record of an effect of this moment, behind which so many follow
abbrev pub effect_line : ℕ → ℕ → Effect → List ℕ
effect_line moment left e =
    record_line (decimal moment ∷ decimal left ∷ effect_word e ∷ effect_fields e)

-- the records of the effects of one moment
abbrev pub effect_lines : ℕ → List Effect → List ℕ
effect_lines moment [] = []
effect_lines moment (e ∷ es) = effect_line moment (length es) e ++ effect_lines moment es
