use Rattle.std.proofs.Common.{◌≡◌, Bool, false, ◌||◌, List, [], ◌∷◌, refl, sym, ap, ◌∙◌}
use Rattle.std.specs.List.{list_any}
use Rattle.base_core.specs.Privileges.{to_select}
use Rattle.base_core.specs.declared.name.Name.{Name}
use Rattle.base_core.specs.declared.name.User.{User}
use Rattle.base_core.specs.declared.value.Column.{Column}
use Rattle.grants_core.specs.Content.{gives}
use Rattle.capture_core.specs.Image.{owns_in_image, holds_in_image}
use Rattle.capture_core.specs.declared.image.Image.{Image}
use Rattle.capture_core.proofs.image.Image.holds_one.Goals as goal

-- who doesn't own the table holds what a grant gives him
by_grants : (image : Image) (user : User) (table : Name) (columns : List Column) → ((c : Column) → owns_in_image image user (to_select table c.name) ≡ false)
    → list_any (λ c. list_any (gives user (to_select table c.name)) image.grants) columns ≡ list_any (λ c. holds_in_image image user (to_select table c.name)) columns
by_grants image user table [] other = refl
by_grants image user table (c ∷ cs) other =
    ap (λ b. (b || list_any (gives user (to_select table c.name)) image.grants) || list_any (λ d. list_any (gives user (to_select table d.name)) image.grants) cs) (sym (other c))
    ∙ ap (λ b. holds_in_image image user (to_select table c.name) || b) (by_grants image user table cs other)

-- the kind does not matter
owns_alike : (image : Image) (user : User) (table a b : Name) → owns_in_image image user (to_select table a) ≡ owns_in_image image user (to_select table b)
unfolding owns_in_image
owns_alike image user table a b = refl

pub returns-else-owns : goal.returns-else-owns
returns-else-owns c =
    c.give_one.ensures
    ∙ by_grants c.args.self.now c.args.user c.args.table c.args.columns.now
    (λ column. owns_alike c.args.self.now c.args.user c.args.table column.name c.first-item.result.name ∙ sym c.owns.ensures ∙ c.if-owns.false)
