use Rattle.std.proofs.Common.{◌≡◌, ℕ, Some, None, Ok, option_map, sym, ap, ◌∙◌, subst}
use Rattle.std.specs.Arc.{arc_value}
use Rattle.std.specs.Option.{option_copied}
use Rattle.base_core.specs.declared.lack.Lack.TheVariants as lacks
use Rattle.reader_core.specs.declared.statement.Statement.TheVariants as statements
use Rattle.monitor_core.specs.Verdict.{first_lack}
use Rattle.capture_core.specs.declared.image.Image.{Image}
use Rattle.catalogue_core.specs.Kept.{newest}
use Rattle.system_core.specs.Journal.{verdict_at}
use Rattle.system_core.specs.Exports.{journal_at}
use Rattle.system_core.specs.World.{World, moment_of}
use Rattle.system_core.specs.Judging.{checkpoint_checks, export_check, moment_for}
use Rattle.system_core.specs.Standing.{world_of, checkpointing, image_check}
use Rattle.system_core.proofs.Imaging.{newest-of, newest-number}
use Rattle.system_core.proofs.Exported.{checked}
use Rattle.system_core.proofs.Exporting.{only-stands}
use Rattle.system_core.proofs.Describing.{denial_by, Denied, denied-unkept, denied-export, undenied-export}
use Rattle.system_core.proofs.machine.system.System.export_denial.Goals as goal

-- the checkpoint is not kept
pub returns-in_default : goal.returns-in_default
returns-in_default c =
    let s = c.self.inside in
    let w : World = world_of s.chunk s.ledger (checkpointing s.capture s.ledger) s.catalogue in
    let now : c.moment-at.result ≡ moment_of w = ap (λ (n : ℕ). record { 0 = n }) c.moment-at.ensures.moment in
    let At : World → Type 0 = λ v. Denied v (statements.Export c.args.number c.args.only) (first_lack (checkpoint_checks v c.args.user (statements.Export c.args.number c.args.only))) c.denial_by.result in
    let none : newest s.catalogue c.args.number ≡ None = sym c.find.ensures ∙ ap (λ o. option_map arc_value (option_copied o)) c.in_default.is in
    subst At c.self.view_is
    (c.denial_by.ensures ∙ (ap (λ m. denial_by m (lacks.NoCheckpoint c.args.number)) now
    ∙ denied-unkept s.chunk s.ledger (checkpointing s.capture s.ledger) s.catalogue c.args.user c.args.number c.args.only none))

-- it may be exported to the user
pub returns-in-Ok : goal.returns-in-Ok
returns-in-Ok c =
    let s = c.self.inside in
    let At : World → Type 0 = λ v. Denied v (statements.Export c.args.number c.args.only) (first_lack (checkpoint_checks v c.args.user (statements.Export c.args.number c.args.only))) None in
    let image : Image = arc_value c.in-Some.image.now in
    let found : newest s.catalogue c.args.number ≡ Some image = sym c.find.ensures ∙ ap (λ o. option_map arc_value (option_copied o)) c.in-Some.is in
    let of = newest-of s.ledger.journal s.catalogue c.args.number image c.self.invariant.keeps.images_of found in
    let bears = newest-number s.catalogue c.args.number image found in
    let stands = only-stands s.ledger c.args.user c.args.number c.args.only (subst (λ (v : World). verdict_at v.limits v.journal c.args.user (statements.Export c.args.number c.args.only) ≡ Ok tt) (sym c.self.view_is) c.requires) in
    let check : export_check (journal_at s.ledger.journal image.point) s.ledger.journal c.args.number c.args.user c.args.only ≡ c.may_export.result =
    sym (c.may_export.ensures
    ∙ ap (λ i. image_check i c.rights-rights.result.now.content c.args.user c.args.only) c.deref.ensures
    ∙ checked s.ledger.limits s.ledger.journal c.rights-rights.ensures.lawful image of c.args.number bears c.rights-rights.result.now.content c.rights-rights.ensures.rights c.args.user c.args.only stands) in
    subst At c.self.view_is
    (undenied-export s.chunk s.ledger (checkpointing s.capture s.ledger) s.catalogue c.args.user c.args.number c.args.only image found (check ∙ c.in-Ok.is))

-- it may not
pub returns-in-Err : goal.returns-in-Err
returns-in-Err c =
    let s = c.self.inside in
    let w : World = world_of s.chunk s.ledger (checkpointing s.capture s.ledger) s.catalogue in
    let now : c.moment-at.result ≡ moment_of w = ap (λ (n : ℕ). record { 0 = n }) c.moment-at.ensures.moment in
    let At : World → Type 0 = λ v. Denied v (statements.Export c.args.number c.args.only) (first_lack (checkpoint_checks v c.args.user (statements.Export c.args.number c.args.only))) c.denial_by-in-Err.result in
    let image : Image = arc_value c.in-Some.image.now in
    let found : newest s.catalogue c.args.number ≡ Some image = sym c.find.ensures ∙ ap (λ o. option_map arc_value (option_copied o)) c.in-Some.is in
    let of = newest-of s.ledger.journal s.catalogue c.args.number image c.self.invariant.keeps.images_of found in
    let bears = newest-number s.catalogue c.args.number image found in
    let stands = only-stands s.ledger c.args.user c.args.number c.args.only (subst (λ (v : World). verdict_at v.limits v.journal c.args.user (statements.Export c.args.number c.args.only) ≡ Ok tt) (sym c.self.view_is) c.requires) in
    let check : export_check (journal_at s.ledger.journal image.point) s.ledger.journal c.args.number c.args.user c.args.only ≡ c.may_export.result =
    sym (c.may_export.ensures
    ∙ ap (λ i. image_check i c.rights-rights.result.now.content c.args.user c.args.only) c.deref.ensures
    ∙ checked s.ledger.limits s.ledger.journal c.rights-rights.ensures.lawful image of c.args.number bears c.rights-rights.result.now.content c.rights-rights.ensures.rights c.args.user c.args.only stands) in
    let at : c.judged_at.result ≡ moment_for image.point (moment_of w) c.in-Err.lack =
    c.judged_at.ensures ∙ ap (λ m. moment_for c.deref-in-Err.result.now.point m c.in-Err.lack) now ∙ ap (λ (i : Image). moment_for i.point (moment_of w) c.in-Err.lack) c.deref-in-Err.ensures in
    subst At c.self.view_is
    (c.denial_by-in-Err.ensures ∙ (ap (λ m. denial_by m c.in-Err.lack) at
    ∙ denied-export s.chunk s.ledger (checkpointing s.capture s.ledger) s.catalogue c.args.user c.args.number c.args.only image c.in-Err.lack found (check ∙ c.in-Err.is)))
