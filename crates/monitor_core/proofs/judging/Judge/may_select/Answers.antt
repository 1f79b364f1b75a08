use Rattle.std.proofs.Common.{◌≡◌, ◌||◌, true, Ok, sym, ap, ◌∙◌}
use Rattle.std.specs.List.{list_any}
use Rattle.base_core.specs.Privileges.{to_select}
use Rattle.base_core.specs.declared.name.Name.{Name}
use Rattle.base_core.specs.declared.name.User.{User}
use Rattle.base_core.specs.declared.lack.Lack.TheVariants as lacks
use Rattle.base_core.specs.declared.privilege.Kind.TheVariants as kinds
use Rattle.grants_core.specs.Owners.{owns}
use Rattle.grants_core.specs.Content.{gives}
use Rattle.monitor_core.specs.Verdict.{State, require, holds_privilege}
use Rattle.monitor_core.proofs.Passing.{each-all}
use Rattle.monitor_core.proofs.judging.Judge.may_select.Goals as goal

owner_holds : (s : State) (user : User) (table column : Name) → owns s.rights.owners user (to_select table column) ≡ true → holds_privilege s user (to_select table column) ≡ Ok tt
owner_holds s user table column e =
    ap (λ own. require (own || list_any (gives user (to_select table column)) s.rights.in_force) (lacks.NoPrivilege user (to_select table column))) e

pub returns-then-is_owner : goal.returns-then-is_owner
returns-then-is_owner g c =
    sym (each-all (λ item. holds_privilege c.args.self.now c.args.user.now (to_select c.args.table (g.T.Named.name_of item))) c.args.items.now
    (λ item. owner_holds c.args.self.now c.args.user.now c.args.table (g.T.Named.name_of item) (sym (c.requires (kinds.Select (g.T.Named.name_of item))) ∙ c.if-is_owner.true)))
