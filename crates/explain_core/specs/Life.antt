-- What is left of a grant.
use Rattle.std.specs.Prelude.{not, is_some}
use Rattle.grants_core.specs.declared.grant.Grant.{Grant}
use Rattle.explain_core.specs.declared.life.Life.{Life}

-- the grant of a life, without its option if that has ended
abbrev pub left : Life → Grant
left life = record life.grant { option = not (is_some life.option_end) }
