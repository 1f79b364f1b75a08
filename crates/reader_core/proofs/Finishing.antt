-- The end of a statement: a ";", and then nothing.
use Rattle.std.proofs.Common.{◌≡◌, true, [], ◌∷◌, drop, map, Some, None, OnOk, IfErr, Result, Ok, Err, ap, ◌∙◌, inr}
use Rattle.lexer_core.specs.Lexing as lexemes
use Rattle.lexer_core.specs.declared.token.Mark.TheVariants as marks
use Rattle.lexer_core.specs.declared.fault.ReadFault.{ReadFault}
use Rattle.reader_core.specs.Grammar.{Sign, End}
use Rattle.reader_core.specs.Cursor.{Cursor, fault_left, fault_of, left_says, next_is, next_lexeme}
use Rattle.reader_core.specs.Sentences.{finish}
use Rattle.reader_core.specs.Saying.{IsFinished}
use Rattle.reader_core.proofs.Taking.{one_taken}
use Rattle.reader_core.proofs.Lists.{case_yes}

module _ (old new : Cursor) (r : Result (Unit {0}) ReadFault) (is : next_is (Sign marks.Semicolon) old ≡ true) (said : next_lexeme old ≡ Some (lexemes.Sign marks.Semicolon)) (rest : new.rest ≡ drop 1 old.rest) (line : new.line ≡ old.line) where
  behind : fault_left finish old ≡ fault_left End new
  behind = case_yes old (Sign marks.Semicolon) End End is ∙ (one_taken old new (Sign marks.Semicolon) (lexemes.Sign marks.Semicolon) is said rest line).fault End

  says : left_says old ≡ lexemes.Sign marks.Semicolon ∷ left_says new
  says = (one_taken old new (Sign marks.Semicolon) (lexemes.Sign marks.Semicolon) is said rest line).says

  pub ends_behind : OnOk r ((fault_left End new ≡ None) × (new.rest ≡ [])) → OnOk r ((fault_left finish old ≡ None) × IsFinished (left_says old))
  ends_behind = go r
    where
      go : (r : Result (Unit {0}) ReadFault) → OnOk r ((fault_left End new ≡ None) × (new.rest ≡ [])) → OnOk r ((fault_left finish old ≡ None) × IsFinished (left_says old))
      go (Ok u) h = (behind ∙ h.0, inr (says ∙ ap (λ ts. lexemes.Sign marks.Semicolon ∷ map (λ t. (lexemes.located new.line t).lexeme) ts) h.1))
      go (Err e) h = tt

  pub fails_behind : IfErr r (λ e. fault_left End new ≡ fault_of e) → IfErr r (λ e. fault_left finish old ≡ fault_of e)
  fails_behind = go r
    where
      go : (r : Result (Unit {0}) ReadFault) → IfErr r (λ e. fault_left End new ≡ fault_of e) → IfErr r (λ e. fault_left finish old ≡ fault_of e)
      go (Ok u) h = tt
      go (Err e) h = behind ∙ h
