use Rattle.std.proofs.Common.{[], refl, sym, ◌∙◌}
use Rattle.std.proofs.KnownBytes.{Appends-nil}
use Rattle.script_core.specs.Keeping.{over}
use Rattle.script_core.proofs.scripts.server.ScriptServerLineServer.answer.Goals as goal

pub returns-then-is_owing : goal.returns-then-is_owing
returns-then-is_owing g c =
    (c.requires, record { text = []; is = (over (sym c.is_owing.ensures ∙ c.if-is_owing.true), refl, refl); wrote = Appends-nil _ })
