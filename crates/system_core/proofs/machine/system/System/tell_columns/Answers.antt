use Rattle.std.proofs.Common.{◌≡◌, ℕ, List, [], Option, None, inl, inr, ap, subst, ◌∙◌}
use Rattle.std.specs.Option.{option_map_or}
use Rattle.base_core.specs.declared.name.Name.{Name}
use Rattle.base_core.specs.declared.lack.Lack.TheVariants as lacks
use Rattle.tables_core.specs.Contents.{Table}
use Rattle.monitor_core.specs.Verdict.{columns_of}
use Rattle.system_core.specs.declared.machine.event.Reply.TheVariants as replies
use Rattle.system_core.specs.Journal.{tables_at}
use Rattle.system_core.specs.World.{World, moment_of}
use Rattle.system_core.specs.Describing.{columns_told, Describes}
use Rattle.system_core.specs.Standing.{world_of, checkpointing}
use Rattle.system_core.proofs.machine.system.System.tell_columns.Goals as goal

pub returns-in-Ok : goal.returns-in-Ok
returns-in-Ok c =
    let s = c.self.inside in
    let w : World = world_of s.chunk s.ledger (checkpointing s.capture s.ledger) s.catalogue in
    let now : c.moment-at.result ≡ moment_of w = ap (λ (n : ℕ). record { 0 = n }) c.moment-at.ensures.moment in
    let told : c.in-Ok.columns ≡ columns_told (tables_at w.journal) c.args.statement.now =
    c.in-Ok.ensures
    ∙ (ap (λ (ts : List (Name × Table)). option_map_or (columns_of ts) c.table_of_rows.result []) c.tables.ensures.tables
    ∙ ap (λ (t : Option Name). option_map_or (columns_of (tables_at w.journal)) t []) c.table_of_rows.ensures) in
    subst (λ (v : World). Describes v c.args.statement.now None (replies.Described c.moment-at.result c.in-Ok.columns)) c.self.view_is
    (inl (ap (λ m. replies.Described m c.in-Ok.columns) now ∙ ap (λ columns. replies.Described (moment_of w) columns) told))

pub returns-in-Err : goal.returns-in-Err
returns-in-Err c =
    let s = c.self.inside in
    let w : World = world_of s.chunk s.ledger (checkpointing s.capture s.ledger) s.catalogue in
    let now : c.moment-at.result ≡ moment_of w = ap (λ (n : ℕ). record { 0 = n }) c.moment-at.ensures.moment in
    subst (λ (v : World). Describes v c.args.statement.now None (replies.Refused c.moment-at.result lacks.NoMemory)) c.self.view_is
    (inr (ap (λ m. replies.Refused m lacks.NoMemory) now))
