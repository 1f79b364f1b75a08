use Rattle.std.proofs.Common.{◌||◌, ap}
use Rattle.std.specs.List.{list_any}
use Rattle.grants_core.specs.Content.{gives}
use Rattle.capture_core.specs.Image.{owns_in_image}
use Rattle.capture_core.proofs.ImageLemmas.{has-table_image, owns-table_image}
use Rattle.capture_core.proofs.laws.images_tell_the_same.Goals as goal

pub returns-clause-tables : goal.returns-clause-tables
returns-clause-tables c = λ number point tables rights name. has-table_image tables name

pub returns-clause-rights : goal.returns-clause-rights
unfolding owns_in_image
returns-clause-rights c = λ number point tables rights user atom.
    ap (λ b. b || list_any (gives user atom) rights.in_force) (owns-table_image tables atom.table user)
