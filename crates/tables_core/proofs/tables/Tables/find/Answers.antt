use Rattle.std.proofs.Common.{◌≡◌, Option, Some, None, refl, sym, ap, ◌∙◌, Bor}
use Rattle.std.specs.Option.{option_map, option_copied}
use Rattle.tables_core.specs.Capture.{StoredTable}
use Rattle.tables_core.proofs.ChangeLemmas.{shown-found}
use Rattle.tables_core.proofs.tables.Tables.find.Goals as goal

behind : (r : Option (Bor StoredTable)) → option_map (λ (t : Bor StoredTable). t.now.contents) r ≡ option_map (λ (t : StoredTable). t.contents) (option_copied r)
behind None = refl
behind (Some t) = refl

pub returns : goal.returns
returns c = rw (← c.self.view_is) (behind c.get.result ∙ (ap (option_map (λ (t : StoredTable). t.contents)) c.get.ensures.value ∙ sym (shown-found c.args.name c.self.inside.tables.entries)))
