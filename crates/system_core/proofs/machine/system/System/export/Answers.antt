use Rattle.std.proofs.Common.{◌≡◌, ℕ, Some, None, option_map, sym, ap, ◌∙◌, Ok, subst}
use Rattle.std.specs.Arc.{arc_value}
use Rattle.std.specs.Option.{option_copied}
use Rattle.base_core.specs.declared.lack.Lack.TheVariants as lacks
use Rattle.reader_core.specs.declared.statement.Statement.TheVariants as statements
use Rattle.monitor_core.specs.Verdict.{first_lack}
use Rattle.capture_core.specs.declared.image.Image.{Image}
use Rattle.catalogue_core.specs.Kept.{newest}
use Rattle.system_core.specs.declared.machine.event.Reply.{Reply}
use Rattle.system_core.specs.declared.machine.event.Reply.TheVariants as replies
use Rattle.system_core.specs.Journal.{verdict_at}
use Rattle.system_core.specs.Exports.{journal_at}
use Rattle.system_core.specs.World.{World, entry, moment_of}
use Rattle.system_core.specs.Judging.{checkpoint_checks, export_check, moment_for}
use Rattle.system_core.specs.Step.{lack_reply, Responds}
use Rattle.system_core.specs.Standing.{world_of, checkpointing, image_check}
use Rattle.system_core.proofs.Imaging.{newest-of, newest-number}
use Rattle.system_core.proofs.Exported.{allowed, checked, exported}
use Rattle.system_core.proofs.Exporting.{only-stands, export-unkept, export-denied, export-issued, export-no_memory}
use Rattle.system_core.proofs.machine.system.System.export.Goals as goal

-- the checkpoint is not kept
pub returns-in_default : goal.returns-in_default
returns-in_default c =
    let s = c.self.inside in
    let w : World = world_of s.chunk s.ledger (checkpointing s.capture s.ledger) s.catalogue in
    let now : c.moment-at.result ≡ moment_of w = ap (λ (n : ℕ). record { 0 = n }) c.moment-at.ensures.moment in
    let By : World → Reply → Type 0 = λ v r. (pass : ℕ) → Responds v (entry pass c.args.user (statements.Export c.args.number c.args.only)) (first_lack (checkpoint_checks v c.args.user (statements.Export c.args.number c.args.only))) r v in
    let none : newest s.catalogue c.args.number ≡ None = sym c.find.ensures ∙ ap (λ o. option_map arc_value (option_copied o)) c.in_default.is in
    subst (λ (v : World). By v c.lack_reply.result) c.self.view_is
    (subst (λ (r : Reply). By w r) (sym (c.lack_reply.ensures ∙ ap (λ m. lack_reply m (lacks.NoCheckpoint c.args.number)) now))
    (export-unkept s.chunk s.ledger (checkpointing s.capture s.ledger) s.catalogue c.args.user c.args.number c.args.only none))

-- it may not be exported to the user
pub returns-in-Err : goal.returns-in-Err
returns-in-Err c =
    let s = c.self.inside in
    let w : World = world_of s.chunk s.ledger (checkpointing s.capture s.ledger) s.catalogue in
    let now : c.moment-at.result ≡ moment_of w = ap (λ (n : ℕ). record { 0 = n }) c.moment-at.ensures.moment in
    let By : World → Reply → Type 0 = λ v r. (pass : ℕ) → Responds v (entry pass c.args.user (statements.Export c.args.number c.args.only)) (first_lack (checkpoint_checks v c.args.user (statements.Export c.args.number c.args.only))) r v in
    let image : Image = arc_value c.in-Some.image.now in
    let found : newest s.catalogue c.args.number ≡ Some image = sym c.find.ensures ∙ ap (λ o. option_map arc_value (option_copied o)) c.in-Some.is in
    let of = newest-of s.ledger.journal s.catalogue c.args.number image c.self.invariant.keeps.images_of found in
    let bears = newest-number s.catalogue c.args.number image found in
    let stands = only-stands s.ledger c.args.user c.args.number c.args.only (subst (λ (v : World). verdict_at v.limits v.journal c.args.user (statements.Export c.args.number c.args.only) ≡ Ok tt) (sym c.self.view_is) c.requires) in
    let check : export_check (journal_at s.ledger.journal image.point) s.ledger.journal c.args.number c.args.user c.args.only ≡ c.may_export.result =
    sym (c.may_export.ensures
    ∙ ap (λ i. image_check i c.rights-rights.result.now.content c.args.user c.args.only) c.deref.ensures
    ∙ checked s.ledger.limits s.ledger.journal c.rights-rights.ensures.lawful image of c.args.number bears c.rights-rights.result.now.content c.rights-rights.ensures.rights c.args.user c.args.only stands) in
    let at : c.judged_at.result ≡ moment_for image.point (moment_of w) c.in-Err.lack =
    c.judged_at.ensures ∙ ap (λ m. moment_for c.deref-in-Err.result.now.point m c.in-Err.lack) now ∙ ap (λ (i : Image). moment_for i.point (moment_of w) c.in-Err.lack) c.deref-in-Err.ensures in
    subst (λ (v : World). By v c.lack_reply-in-Err.result) c.self.view_is
    (subst (λ (r : Reply). By w r) (sym (c.lack_reply-in-Err.ensures ∙ ap (λ m. lack_reply m c.in-Err.lack) at))
    (export-denied s.chunk s.ledger (checkpointing s.capture s.ledger) s.catalogue c.args.user c.args.number c.args.only image c.in-Err.lack found (check ∙ c.in-Err.is)))

-- it is exported
pub returns-in-Ok : goal.returns-in-Ok
returns-in-Ok c =
    let s = c.self.inside in
    let w : World = world_of s.chunk s.ledger (checkpointing s.capture s.ledger) s.catalogue in
    let now : c.moment-at.result ≡ moment_of w = ap (λ (n : ℕ). record { 0 = n }) c.moment-at.ensures.moment in
    let By : World → Reply → Type 0 = λ v r. (pass : ℕ) → Responds v (entry pass c.args.user (statements.Export c.args.number c.args.only)) (first_lack (checkpoint_checks v c.args.user (statements.Export c.args.number c.args.only))) r v in
    let image : Image = arc_value c.in-Some.image.now in
    let found : newest s.catalogue c.args.number ≡ Some image = sym c.find.ensures ∙ ap (λ o. option_map arc_value (option_copied o)) c.in-Some.is in
    let of = newest-of s.ledger.journal s.catalogue c.args.number image c.self.invariant.keeps.images_of found in
    let bears = newest-number s.catalogue c.args.number image found in
    let stands = only-stands s.ledger c.args.user c.args.number c.args.only (subst (λ (v : World). verdict_at v.limits v.journal c.args.user (statements.Export c.args.number c.args.only) ≡ Ok tt) (sym c.self.view_is) c.requires) in
    let check : export_check (journal_at s.ledger.journal image.point) s.ledger.journal c.args.number c.args.user c.args.only ≡ c.may_export.result =
    sym (c.may_export.ensures
    ∙ ap (λ i. image_check i c.rights-rights.result.now.content c.args.user c.args.only) c.deref.ensures
    ∙ checked s.ledger.limits s.ledger.journal c.rights-rights.ensures.lawful image of c.args.number bears c.rights-rights.result.now.content c.rights-rights.ensures.rights c.args.user c.args.only stands) in
    let told = exported s.ledger.limits s.ledger.journal c.rights-rights.ensures.lawful image of c.args.number bears c.rights-rights.result.now.content c.rights-rights.ensures.rights c.args.user c.args.only in
    subst (λ (v : World). By v (replies.Export c.in-Ok.ticket)) c.self.view_is
    (export-issued s.chunk s.ledger (checkpointing s.capture s.ledger) s.catalogue c.args.user c.args.number c.args.only image c.in-Ok.ticket found (check ∙ c.in_default-may_export.is) ((rw now at c.in-Ok.ensures) ∙ told))

-- there is no memory
pub returns-in-Err-issue : goal.returns-in-Err-issue
returns-in-Err-issue c =
    let s = c.self.inside in
    let w : World = world_of s.chunk s.ledger (checkpointing s.capture s.ledger) s.catalogue in
    let now : c.moment-at.result ≡ moment_of w = ap (λ (n : ℕ). record { 0 = n }) c.moment-at.ensures.moment in
    let By : World → Reply → Type 0 = λ v r. (pass : ℕ) → Responds v (entry pass c.args.user (statements.Export c.args.number c.args.only)) (first_lack (checkpoint_checks v c.args.user (statements.Export c.args.number c.args.only))) r v in
    let image : Image = arc_value c.in-Some.image.now in
    let found : newest s.catalogue c.args.number ≡ Some image = sym c.find.ensures ∙ ap (λ o. option_map arc_value (option_copied o)) c.in-Some.is in
    let of = newest-of s.ledger.journal s.catalogue c.args.number image c.self.invariant.keeps.images_of found in
    let bears = newest-number s.catalogue c.args.number image found in
    let stands = only-stands s.ledger c.args.user c.args.number c.args.only (subst (λ (v : World). verdict_at v.limits v.journal c.args.user (statements.Export c.args.number c.args.only) ≡ Ok tt) (sym c.self.view_is) c.requires) in
    let check : export_check (journal_at s.ledger.journal image.point) s.ledger.journal c.args.number c.args.user c.args.only ≡ c.may_export.result =
    sym (c.may_export.ensures
    ∙ ap (λ i. image_check i c.rights-rights.result.now.content c.args.user c.args.only) c.deref.ensures
    ∙ checked s.ledger.limits s.ledger.journal c.rights-rights.ensures.lawful image of c.args.number bears c.rights-rights.result.now.content c.rights-rights.ensures.rights c.args.user c.args.only stands) in
    subst (λ (v : World). By v c.no_memory.result) c.self.view_is
    (subst (λ (r : Reply). By w r) (sym (c.no_memory.ensures ∙ ap (λ m. replies.Refused m lacks.NoMemory) now))
    (export-no_memory s.chunk s.ledger (checkpointing s.capture s.ledger) s.catalogue c.args.user c.args.number c.args.only image found (check ∙ c.in_default-may_export.is)))

pub issue-requires : goal.issue-requires
issue-requires c =
    allowed (arc_value c.in-Some.image.now) c.rights-rights.result.now.content c.args.user c.args.only
    (sym (c.may_export.ensures ∙ ap (λ i. image_check i c.rights-rights.result.now.content c.args.user c.args.only) c.deref.ensures) ∙ c.in_default-may_export.is)
