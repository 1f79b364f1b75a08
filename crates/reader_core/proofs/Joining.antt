-- One part of the language behind another.
use Rattle.std.proofs.Common.{List, ◌++◌, ap, sym, ◌∙◌, append_assoc}
use Rattle.lexer_core.specs.Lexing.{Lexeme}
use Rattle.lexer_core.specs.declared.fault.ReadFault.{ReadFault}
use Rattle.reader_core.specs.Grammar.{Grammar}
use Rattle.reader_core.specs.Cursor.{Cursor, Takes, Faults, left_says}

-- a fault behind what was taken
pub fault_behind : {before next : Grammar → Grammar} {said : List Lexeme} {old mid : Cursor} {e : ReadFault} (after : Grammar → Grammar) → Takes before (λ k. next (after k)) said old mid → Faults next e mid → Faults before e old
fault_behind after t f = record { fault = λ ne k. t.fault k ∙ f.fault ne (after k) }

pub joined : {before next : Grammar → Grammar} {said more : List Lexeme} {old mid new : Cursor} (after : Grammar → Grammar) → Takes before (λ k. next (after k)) said old mid → Takes next (λ k. k) more mid new → Takes before after (said ++ more) old new
joined {before} {next} {said} {more} {old} {mid} {new} after t u = record {
  says = t.says ∙ ap (λ z. said ++ z) u.says ∙ sym (append_assoc said more (left_says new));
  line = u.line ∙ t.line;
  fault = λ k. t.fault k ∙ u.fault (after k);
}
