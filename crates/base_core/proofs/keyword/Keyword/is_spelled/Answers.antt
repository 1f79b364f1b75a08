use Rattle.std.proofs.Common.{◌≡◌, true, List, ℕ, subst, sym, ◌∙◌}
use Rattle.std.specs.List.{list_all}
use Rattle.std.specs.Char.{is_ascii_uppercase}
use Rattle.base_core.proofs.Capitals.{in_capitals}
use Rattle.base_core.proofs.keyword.Keyword.is_spelled.Goals as goal

pub spells-requires : goal.spells-requires
spells-requires c = subst (λ (bytes : List ℕ). list_all is_ascii_uppercase bytes ≡ true) (sym (c.as_bytes.ensures.value ∙ c.text.ensures)) (in_capitals c.args.self)
