use Rattle.std.proofs.Common.{◌++◌, [], codes, decimal, append_assoc, ap, ◌∙◌}
use Rattle.reply_core.proofs.Pushing.{grown}
use Rattle.reply_core.proofs.wording.push_begun.Goals as goal

pub returns : goal.returns
returns c =
    let number = decimal c.args.number ++ (codes " begun @" ++ []) in
    let one = codes "checkpoint " ++ number in
    let two = decimal c.args.at.0 ++ (codes "\n" ++ []) in
    grown c.push_number_in-2.new.text c.push_number_in.new.text c.args.text.now one two _ c.push_number_in.ensures.text c.push_number_in-2.ensures.text
    (append_assoc (codes "checkpoint ") number two ∙ ap (λ z. codes "checkpoint " ++ z) (append_assoc (decimal c.args.number) (codes " begun @") two))
