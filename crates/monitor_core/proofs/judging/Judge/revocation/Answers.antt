use Rattle.std.proofs.Common.{◌∙◌, sym, refl, List, [], ◌∷◌}
use Rattle.base_core.specs.declared.name.Name.{Name}
use Rattle.base_core.specs.declared.privilege.Atom.{Atom}
use Rattle.reader_core.specs.declared.privilege.Privilege.{Privilege}
use Rattle.monitor_core.specs.Verdict.{State, Check, each, atoms_at, table_stands, listed_columns_stand, room_for_change}
use Rattle.monitor_core.proofs.Checking.{failure_told, last_told}
use Rattle.monitor_core.proofs.judging.Judge.revocation.Goals as goal

abbrev all : (s : State) (table : Name) (privileges : List Privilege) (check : Atom → Check) → List Check
all s table privileges check = table_stands s table ∷ listed_columns_stand s table privileges ∷ each (atoms_at s.tables table privileges) check ∷ room_for_change s ∷ []

pub returns-in-Err-listed_stand : goal.returns-in-Err-listed_stand
returns-in-Err-listed_stand g c =
    let fails = sym c.listed_stand.ensures ∙ c.in-Err-listed_stand.is in
    sym (failure_told 1 (all c.args.self.now c.args.table c.args.privileges.now (g.C.AtomCheck.check_of c.args.in_force.now)) c.in-Err-listed_stand.lack (sym c.table_stands.ensures ∙ c.in_default.is, tt) fails ∙ fails)

pub returns-in-Err-each_atom : goal.returns-in-Err-each_atom
returns-in-Err-each_atom g c =
    let fails = sym c.each_atom.ensures ∙ c.in-Err-each_atom.is in
    sym (failure_told 2 (all c.args.self.now c.args.table c.args.privileges.now (g.C.AtomCheck.check_of c.args.in_force.now)) c.in-Err-each_atom.lack (sym c.table_stands.ensures ∙ c.in_default.is, (sym c.listed_stand.ensures ∙ c.in_default-listed_stand.is, tt)) fails ∙ fails)

pub returns : goal.returns
returns g c = c.room_for_change.ensures ∙ sym (last_told 3 (all c.args.self.now c.args.table c.args.privileges.now (g.C.AtomCheck.check_of c.args.in_force.now)) (sym c.table_stands.ensures ∙ c.in_default.is, (sym c.listed_stand.ensures ∙ c.in_default-listed_stand.is, (sym c.each_atom.ensures ∙ c.in_default-each_atom.is, tt))) refl)
