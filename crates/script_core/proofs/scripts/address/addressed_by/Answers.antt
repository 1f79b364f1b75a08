use Rattle.std.proofs.Common.{◌≡◌, true, sym, subst, ◌∙◌}
use Rattle.std.specs.Char.{is_ascii_alphabetic}
use Rattle.lexer_core.proofs.Words.{front_is_word}
use Rattle.script_core.proofs.scripts.address.addressed_by.Goals as goal

pub read-requires-clause-word : goal.read-requires-clause-word
read-requires-clause-word c =
    let letter = sym (c.is_ascii_alphabetic.ensures.value) ∙ c.if-not-is_ascii_alphabetic.false in
    front_is_word c.args.line.now c.args.n c.requires (subst (λ b. is_ascii_alphabetic b ≡ true) c.byte_at.ensures letter)
