use Rattle.std.proofs.Common.{◌∙◌, sym, refl, List, Bool}
use Rattle.base_core.specs.declared.name.Name.{Name}
use Rattle.base_core.specs.declared.name.User.{User}
use Rattle.reader_core.specs.declared.privilege.Privilege.{Privilege}
use Rattle.reader_core.specs.declared.statement.Statement.TheVariants as statements
use Rattle.monitor_core.specs.Verdict.{State, Check, checks}
use Rattle.monitor_core.proofs.Checking.{failure_told, last_told}
use Rattle.monitor_core.proofs.judging.Judge.grant.Goals as goal

abbrev all : (s : State) (user : User) (privileges : List Privilege) (table : Name) (users : List User) (option : Bool) → List Check
all s user privileges table users option = checks s user (statements.Grant privileges table users option)

pub returns-in-Err-listed_stand : goal.returns-in-Err-listed_stand
returns-in-Err-listed_stand g c =
    let fails = sym c.listed_stand.ensures ∙ c.in-Err-listed_stand.is in
    sym (failure_told 1 (all c.args.self.now c.args.user.now c.args.privileges.now c.args.table c.args.users.now c.args.option) c.in-Err-listed_stand.lack (sym c.table_stands.ensures ∙ c.in_default.is, tt) fails ∙ fails)

pub returns-in-Err-each_atom : goal.returns-in-Err-each_atom
returns-in-Err-each_atom g c =
    let fails = sym c.each_atom.ensures ∙ c.in-Err-each_atom.is in
    sym (failure_told 2 (all c.args.self.now c.args.user.now c.args.privileges.now c.args.table c.args.users.now c.args.option) c.in-Err-each_atom.lack (sym c.table_stands.ensures ∙ c.in_default.is, (sym c.listed_stand.ensures ∙ c.in_default-listed_stand.is, tt)) fails ∙ fails)

pub returns-in-Err-room_for_change : goal.returns-in-Err-room_for_change
returns-in-Err-room_for_change g c =
    let fails = sym c.room_for_change.ensures ∙ c.in-Err-room_for_change.is in
    sym (failure_told 3 (all c.args.self.now c.args.user.now c.args.privileges.now c.args.table c.args.users.now c.args.option) c.in-Err-room_for_change.lack (sym c.table_stands.ensures ∙ c.in_default.is, (sym c.listed_stand.ensures ∙ c.in_default-listed_stand.is, (sym c.each_atom.ensures ∙ c.in_default-each_atom.is, tt))) fails ∙ fails)

pub returns : goal.returns
returns g c = c.each_atom-2.ensures ∙ sym (last_told 4 (all c.args.self.now c.args.user.now c.args.privileges.now c.args.table c.args.users.now c.args.option) (sym c.table_stands.ensures ∙ c.in_default.is, (sym c.listed_stand.ensures ∙ c.in_default-listed_stand.is, (sym c.each_atom.ensures ∙ c.in_default-each_atom.is, (sym c.room_for_change.ensures ∙ c.in_default-room_for_change.is, tt)))) refl)
