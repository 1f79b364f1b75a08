use Rattle.std.proofs.Common.{◌≡◌, ◌∙◌, sym, refl, rules, List}
use Rattle.base_core.specs.declared.name.Name.{Name}
use Rattle.base_core.specs.declared.name.User.{User}
use Rattle.base_core.specs.declared.condition.Assignment.{Assignment}
use Rattle.base_core.specs.declared.condition.Condition.{Condition}
use Rattle.reader_core.specs.declared.statement.Statement.TheVariants as statements
use Rattle.monitor_core.specs.Verdict.{State, Check, checks}
use Rattle.monitor_core.proofs.Checking.{failure_told, last_told, told-Ok}
use Rattle.monitor_core.proofs.judging.Judge.update.Goals as goal

abbrev all : (s : State) (user : User) (table : Name) (sets : List Assignment) (filter : List Condition) → List Check
all s user table sets filter = checks s user (statements.Update table sets filter)

pub returns-in_err-columns_stand : goal.returns-in_err-columns_stand
returns-in_err-columns_stand g c =
    let same : c.from_residual-in_err-columns_stand.result ≡ c.columns_stand.result = search rules in
    same ∙ c.columns_stand.ensures ∙ sym (failure_told 1 (all c.args.self.now c.args.user.now c.args.table c.args.sets.now c.args.filter.now) _ (told-Ok c.columns.result _ _ c.columns.ensures.stands c.in_ok-columns.was, tt) (sym c.columns_stand.ensures ∙ c.in_err-columns_stand.was))

pub returns-in_err-columns_stand-2 : goal.returns-in_err-columns_stand-2
returns-in_err-columns_stand-2 g c =
    let same : c.from_residual-in_err-columns_stand-2.result ≡ c.columns_stand-2.result = search rules in
    same ∙ c.columns_stand-2.ensures ∙ sym (failure_told 2 (all c.args.self.now c.args.user.now c.args.table c.args.sets.now c.args.filter.now) _ (told-Ok c.columns.result _ _ c.columns.ensures.stands c.in_ok-columns.was, (sym c.columns_stand.ensures ∙ c.in_ok-columns_stand.was, tt)) (sym c.columns_stand-2.ensures ∙ c.in_err-columns_stand-2.was))

pub returns-in_err-may_update : goal.returns-in_err-may_update
returns-in_err-may_update g c =
    let same : c.from_residual-in_err-may_update.result ≡ c.may_update.result = search rules in
    same ∙ c.may_update.ensures ∙ sym (failure_told 3 (all c.args.self.now c.args.user.now c.args.table c.args.sets.now c.args.filter.now) _ (told-Ok c.columns.result _ _ c.columns.ensures.stands c.in_ok-columns.was, (sym c.columns_stand.ensures ∙ c.in_ok-columns_stand.was, (sym c.columns_stand-2.ensures ∙ c.in_ok-columns_stand-2.was, tt))) (sym c.may_update.ensures ∙ c.in_err-may_update.was))

pub returns-in_err-may_filter : goal.returns-in_err-may_filter
returns-in_err-may_filter g c =
    let same : c.from_residual-in_err-may_filter.result ≡ c.may_filter.result = search rules in
    same ∙ c.may_filter.ensures ∙ sym (failure_told 4 (all c.args.self.now c.args.user.now c.args.table c.args.sets.now c.args.filter.now) _ (told-Ok c.columns.result _ _ c.columns.ensures.stands c.in_ok-columns.was, (sym c.columns_stand.ensures ∙ c.in_ok-columns_stand.was, (sym c.columns_stand-2.ensures ∙ c.in_ok-columns_stand-2.was, (sym c.may_update.ensures ∙ c.in_ok-may_update.was, tt)))) (sym c.may_filter.ensures ∙ c.in_err-may_filter.was))

pub returns-in_err-columns_take : goal.returns-in_err-columns_take
returns-in_err-columns_take g c =
    let same : c.from_residual-in_err-columns_take.result ≡ c.columns_take.result = search rules in
    same ∙ c.columns_take.ensures ∙ sym (failure_told 5 (all c.args.self.now c.args.user.now c.args.table c.args.sets.now c.args.filter.now) _ (told-Ok c.columns.result _ _ c.columns.ensures.stands c.in_ok-columns.was, (sym c.columns_stand.ensures ∙ c.in_ok-columns_stand.was, (sym c.columns_stand-2.ensures ∙ c.in_ok-columns_stand-2.was, (sym c.may_update.ensures ∙ c.in_ok-may_update.was, (sym c.may_filter.ensures ∙ c.in_ok-may_filter.was, tt))))) (sym c.columns_take.ensures ∙ c.in_err-columns_take.was))

pub returns-in_err-columns_take-2 : goal.returns-in_err-columns_take-2
returns-in_err-columns_take-2 g c =
    let same : c.from_residual-in_err-columns_take-2.result ≡ c.columns_take-2.result = search rules in
    same ∙ c.columns_take-2.ensures ∙ sym (failure_told 6 (all c.args.self.now c.args.user.now c.args.table c.args.sets.now c.args.filter.now) _ (told-Ok c.columns.result _ _ c.columns.ensures.stands c.in_ok-columns.was, (sym c.columns_stand.ensures ∙ c.in_ok-columns_stand.was, (sym c.columns_stand-2.ensures ∙ c.in_ok-columns_stand-2.was, (sym c.may_update.ensures ∙ c.in_ok-may_update.was, (sym c.may_filter.ensures ∙ c.in_ok-may_filter.was, (sym c.columns_take.ensures ∙ c.in_ok-columns_take.was, tt)))))) (sym c.columns_take-2.ensures ∙ c.in_err-columns_take-2.was))

pub returns : goal.returns
returns g c = c.room_for_change.ensures ∙ sym (last_told 7 (all c.args.self.now c.args.user.now c.args.table c.args.sets.now c.args.filter.now) (told-Ok c.columns.result _ _ c.columns.ensures.stands c.in_ok-columns.was, (sym c.columns_stand.ensures ∙ c.in_ok-columns_stand.was, (sym c.columns_stand-2.ensures ∙ c.in_ok-columns_stand-2.was, (sym c.may_update.ensures ∙ c.in_ok-may_update.was, (sym c.may_filter.ensures ∙ c.in_ok-may_filter.was, (sym c.columns_take.ensures ∙ c.in_ok-columns_take.was, (sym c.columns_take-2.ensures ∙ c.in_ok-columns_take-2.was, tt))))))) refl)
