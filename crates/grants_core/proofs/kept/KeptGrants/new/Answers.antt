use Rattle.std.proofs.Common.{ap, sym, ◌∙◌}
use Rattle.std.specs.List.{list_any}
use Rattle.grants_core.specs.Valid.{supports}
use Rattle.grants_core.proofs.KeptLemmas.{has_support-none}
use Rattle.grants_core.proofs.kept.KeptGrants.new.Goals as goal

pub returns-clause-indexed : goal.returns-clause-indexed
returns-clause-indexed c = λ g.
    has_support-none c.new-2.result g c.new-2.ensures.empty ∙ sym (ap (list_any (λ h. supports h g)) c.new.ensures.items)
