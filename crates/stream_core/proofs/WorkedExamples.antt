-- The definitions on the worked example of docs/LANGUAGE.md, computed.
use Rattle.std.proofs.Common.{◌≡◌, ℕ, Bool, true, false, List, [], ◌∷◌, Some, refl, pos}
use Rattle.base_core.specs.declared.name.Name.{Name}
use Rattle.base_core.specs.declared.name.User.{User}
use Rattle.base_core.specs.declared.value.Value.{Value}
use Rattle.base_core.specs.declared.value.Value.TheVariants as values
use Rattle.base_core.specs.declared.value.Row.{Row}
use Rattle.base_core.specs.declared.value.Column.{Column}
use Rattle.base_core.specs.declared.value.ColType.TheVariants as types
use Rattle.base_core.specs.declared.condition.Comparison.TheVariants as comparisons
use Rattle.base_core.specs.declared.condition.Assignment.{Assignment}
use Rattle.base_core.specs.declared.privilege.Kind.TheVariants as kinds
use Rattle.base_core.specs.declared.privilege.Atom.{Atom}
use Rattle.reader_core.specs.declared.privilege.Privilege.TheVariants as privileges
use Rattle.reader_core.specs.declared.statement.Statement.{Statement}
use Rattle.reader_core.specs.declared.statement.Statement.TheVariants as statements
use Rattle.grants_core.specs.declared.grant.Grant.{Grant}
use Rattle.grants_core.specs.Owners.{owns}
use Rattle.grants_core.specs.Valid.{supports}
use Rattle.grants_core.specs.Content.{names}
use Rattle.system_core.specs.declared.machine.event.Entry.{Entry}
use Rattle.stream_core.specs.declared.effect.Effect.{Effect}
use Rattle.stream_core.specs.declared.effect.Effect.TheVariants as effects
use Rattle.stream_core.specs.Effects.{after_effects}
use Rattle.stream_core.specs.Streams.{contents_at}

-- names and texts are of one letter
abbrev letter : ℕ → List ℕ
letter n = n ∷ []

abbrev pay : Name
pay = letter 112

abbrev name : Name
name = letter 110

abbrev wage : Name
wage = letter 119

abbrev user : ℕ → User
user n = record { 0 = letter n }

abbrev ann : User
ann = user 97

abbrev bob : User
bob = user 98

abbrev cy : User
cy = user 99

abbrev columns : List Column
columns = record { name = name; ty = types.Text } ∷ record { name = wage; ty = types.Integer } ∷ []

abbrev person : ℕ → ℕ → List Value
person n w = values.Text (letter n) ∷ values.Int (pos w) ∷ []

abbrev row : ℕ → ℕ → Row
row n w = record { values = person n w }

abbrev says : User → Statement → Entry
says by asked = record { pass = 0; user = by; statement = asked }

abbrev wage_is : ℕ → List Assignment
wage_is w = record { column = wage; value = values.Int (pos w) } ∷ []

-- Bo is 66, and Cy 67
abbrev journal : List Entry
journal =
    says ann (statements.CreateTable pay columns)
    ∷ says ann (statements.Insert pay (person 66 5))
    ∷ says ann (statements.Insert pay (person 67 0))
    ∷ says ann (statements.Grant (privileges.Select (Some (name ∷ [])) ∷ privileges.Insert ∷ []) pay (bob ∷ []) true)
    ∷ says bob (statements.Grant (privileges.Insert ∷ []) pay (cy ∷ []) false)
    ∷ says ann (statements.Update pay (wage_is 6) (record { column = wage; comparison = comparisons.Greater; literal = values.Int (pos 0) } ∷ []))
    ∷ says ann (statements.Update pay (wage_is 6) [])
    ∷ says ann (statements.Delete pay (record { column = name; comparison = comparisons.Equal; literal = values.Text (letter 66) } ∷ []))
    ∷ says ann (statements.RevokeOption (privileges.Insert ∷ []) pay (bob ∷ []))
    ∷ says ann (statements.Revoke (privileges.Select (Some (name ∷ [])) ∷ []) pay (bob ∷ []))
    ∷ []

abbrev given : ℕ → ℕ → Atom → User → User → Bool → Grant
given n at atom by to option = record { number = n; moment = record { 0 = at }; atom = atom; grantor = by; grantee = to; option = option }

abbrev to_read : Atom
to_read = record { table = pay; kind = kinds.Select name }

abbrev to_insert : Atom
to_insert = record { table = pay; kind = kinds.Insert }

abbrev told : List Effect
told =
    effects.TableMade pay ann columns
    ∷ effects.RowInserted pay 0 (row 66 5)
    ∷ effects.RowInserted pay 1 (row 67 0)
    ∷ effects.GrantMade (given 0 4 to_read ann bob true)
    ∷ effects.GrantMade (given 1 4 to_insert ann bob true)
    ∷ effects.GrantMade (given 2 5 to_insert bob cy false)
    ∷ effects.RowUpdated pay 0 (row 66 6)
    ∷ effects.RowUpdated pay 1 (row 67 6)
    ∷ effects.RowDeleted pay 0
    ∷ effects.OptionLost 1
    ∷ effects.GrantFell 2
    ∷ effects.GrantFell 0
    ∷ []

-- the reader has what the journal makes
the_reader_has_it : after_effects (record { tables = []; grants = [] }) told ≡ contents_at journal
unfolding owns supports names
the_reader_has_it = refl

-- which is one table of one row, and one grant without its option
what_it_makes : contents_at journal ≡ record {
  tables = (pay, record { owner = ann; columns = columns; inserted = 2; rows = (1, row 67 6) ∷ [] }) ∷ [];
  grants = given 1 4 to_insert ann bob false ∷ [];
}
unfolding owns supports names
what_it_makes = refl
