use Rattle.std.proofs.Common.{[], ◌∷◌, ◌++◌, codes, decimal, ap, sym, refl, ◌∙◌}
use Rattle.export_core.specs.Record.{field_text}
use Rattle.reply_core.specs.Texts.{joined, checkpoint_line}
use Rattle.reply_core.proofs.Fields.{kept-made, active-made}
use Rattle.reply_core.proofs.Pushing.{grown}
use Rattle.reply_core.proofs.wording.push_checkpoint.Goals as goal

pub returns-in-Kept : goal.returns-in-Kept
returns-in-Kept c =
    let one = joined (codes "finished," ∷ field_text (decimal c.in-Kept.number) ∷ codes "," ∷ []) in
    let two = joined ([] ∷ field_text (decimal c.in-Kept.point.0) ∷ codes "\n" ∷ []) in
    grown c.push_field_in-in-Kept.new.text c.push_field_in.new.text c.args.text.now one two (one ++ two) c.push_field_in.ensures.text c.push_field_in-in-Kept.ensures.text refl
    ∙ ap (λ t. t ++ (one ++ two)) c.requires
    ∙ kept-made c.in-Kept.number c.in-Kept.point
    ∙ ap checkpoint_line (sym c.in-Kept.is)

pub returns-in-Active : goal.returns-in-Active
returns-in-Active c =
    let one = joined (codes "active," ∷ field_text (decimal c.in-Active.number) ∷ codes "," ∷ []) in
    let two = joined ([] ∷ field_text (decimal c.in-Active.point.0) ∷ codes "," ∷ []) in
    let three = joined ([] ∷ field_text (decimal c.in-Active.left) ∷ codes "\n" ∷ []) in
    let begun = grown c.push_field_in-in-Active-2.new.text c.push_field_in-in-Active.new.text c.args.text.now one two (one ++ two) c.push_field_in-in-Active.ensures.text c.push_field_in-in-Active-2.ensures.text refl in
    grown c.push_field_in-in-Active-3.new.text c.push_field_in-in-Active-2.new.text c.args.text.now (one ++ two) three ((one ++ two) ++ three) begun c.push_field_in-in-Active-3.ensures.text refl
    ∙ ap (λ t. t ++ ((one ++ two) ++ three)) c.requires
    ∙ active-made c.in-Active.number c.in-Active.point c.in-Active.left
    ∙ ap checkpoint_line (sym c.in-Active.is)
