use Rattle.std.proofs.Common.{◌≡◌, ◌∙◌, sym, rules, List, Option}
use Rattle.base_core.specs.declared.name.Name.{Name}
use Rattle.base_core.specs.declared.name.User.{User}
use Rattle.base_core.specs.declared.condition.Condition.{Condition}
use Rattle.reader_core.specs.declared.statement.Statement.TheVariants as statements
use Rattle.monitor_core.specs.Verdict.{State, Check, checks}
use Rattle.monitor_core.proofs.Checking.{failure_told, told-Ok}
use Rattle.monitor_core.proofs.judging.Judge.select.Goals as goal

abbrev all : (s : State) (user : User) (list : Option (List Name)) (table : Name) (filter : List Condition) → List Check
all s user list table filter = checks s user (statements.Select list table filter)

pub returns-in_err-columns_stand : goal.returns-in_err-columns_stand
returns-in_err-columns_stand g c =
    let same : c.from_residual-in_err-columns_stand.result ≡ c.columns_stand.result = search rules in
    same ∙ c.columns_stand.ensures ∙ sym (failure_told 2 (all c.args.self.now c.args.user.now c.args.list.now c.args.table c.args.filter.now) _ (told-Ok c.columns.result _ _ c.columns.ensures.stands c.in_ok-columns.was, (sym c.list_stands.ensures ∙ c.in_ok-list_stands.was, tt)) (sym c.columns_stand.ensures ∙ c.in_err-columns_stand.was))

pub returns-in_err-may_query : goal.returns-in_err-may_query
returns-in_err-may_query g c =
    let same : c.from_residual-in_err-may_query.result ≡ c.may_query.result = search rules in
    same ∙ c.may_query.ensures ∙ sym (failure_told 3 (all c.args.self.now c.args.user.now c.args.list.now c.args.table c.args.filter.now) _ (told-Ok c.columns.result _ _ c.columns.ensures.stands c.in_ok-columns.was, (sym c.list_stands.ensures ∙ c.in_ok-list_stands.was, (sym c.columns_stand.ensures ∙ c.in_ok-columns_stand.was, tt))) (sym c.may_query.ensures ∙ c.in_err-may_query.was))

pub returns-in_err-may_select : goal.returns-in_err-may_select
returns-in_err-may_select g c =
    let same : c.from_residual-in_err-may_select.result ≡ c.may_select.result = search rules in
    same ∙ c.may_select.ensures ∙ sym (failure_told 4 (all c.args.self.now c.args.user.now c.args.list.now c.args.table c.args.filter.now) _ (told-Ok c.columns.result _ _ c.columns.ensures.stands c.in_ok-columns.was, (sym c.list_stands.ensures ∙ c.in_ok-list_stands.was, (sym c.columns_stand.ensures ∙ c.in_ok-columns_stand.was, (sym c.may_query.ensures ∙ c.in_ok-may_query.was, tt)))) (sym c.may_select.ensures ∙ c.in_err-may_select.was))
