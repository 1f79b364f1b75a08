-- Parts of the language that may come or not, and choices between them.
use Rattle.std.proofs.Common.{◌≡◌, List, [], true, false, Result, Ok, Err, ap, ◌∙◌, refl}
use Rattle.lexer_core.specs.Lexing.{Lexeme}
use Rattle.lexer_core.specs.declared.fault.ReadFault.{ReadFault}
use Rattle.reader_core.specs.Grammar.{Grammar, Class, One, Case}
use Rattle.reader_core.specs.Cursor.{Cursor, Takes, Faults, Parses, Reads, fault_left, next_is}
use Rattle.reader_core.proofs.Lists.{case_yes, case_no}

module _ (c : Class) (a b : Grammar → Grammar) (old : Cursor) where
  -- what begins with the next token was taken, or is at fault
  pub entered_takes : {said : List Lexeme} {new : Cursor} → next_is c old ≡ true → Takes (λ k. One c (a k)) (λ k. k) said old new → Takes (λ k. Case c (a k) (b k)) (λ k. k) said old new
  entered_takes is t = record { says = t.says; line = t.line; fault = λ k. case_yes old c (a k) (b k) is ∙ t.fault k }

  pub entered_faults : {e : ReadFault} → next_is c old ≡ true → Faults (λ k. One c (a k)) e old → Faults (λ k. Case c (a k) (b k)) e old
  entered_faults is f = record { fault = λ ne k. case_yes old c (a k) (b k) is ∙ f.fault ne k }

  pub entered : {V : Type 0} (says : V → List Lexeme) (r : Result V ReadFault) (new : Cursor) → next_is c old ≡ true → Reads (λ k. One c (a k)) says r old new → Reads (λ k. Case c (a k) (b k)) says r old new
  entered says (Ok v) new is t = entered_takes is t
  entered says (Err e) new is f = entered_faults is f

  -- the other was
  pub passed_takes : {said : List Lexeme} {new : Cursor} → next_is c old ≡ false → Takes b (λ k. k) said old new → Takes (λ k. Case c (a k) (b k)) (λ k. k) said old new
  passed_takes is t = record { says = t.says; line = t.line; fault = λ k. case_no old c (a k) (b k) is ∙ t.fault k }

  pub passed_faults : {e : ReadFault} → next_is c old ≡ false → Faults b e old → Faults (λ k. Case c (a k) (b k)) e old
  passed_faults is f = record { fault = λ ne k. case_no old c (a k) (b k) is ∙ f.fault ne k }

  pub passed : {V : Type 0} (says : V → List Lexeme) (r : Result V ReadFault) (new : Cursor) → next_is c old ≡ false → Reads b says r old new → Reads (λ k. Case c (a k) (b k)) says r old new
  passed says (Ok v) new is t = passed_takes is t
  passed says (Err e) new is f = passed_faults is f

-- nothing was
pub skipped : (c : Class) (a : Grammar → Grammar) (old : Cursor) → next_is c old ≡ false → Takes (λ k. Case c (a k) k) (λ k. k) [] old old
skipped c a old is = record { says = refl; line = refl; fault = λ k. case_no old c (a k) k is }

-- what is left to read, said in another way
pub leads_so : {V : Type 0} (before : Grammar → Grammar) (after then : V → Grammar → Grammar) (says : V → List Lexeme) (r : Result V ReadFault) (old new : Cursor) → ((v : V) (k : Grammar) → after v k ≡ then v k) → Parses before after says r old new → Parses before then says r old new
leads_so before after then says (Ok v) old new same t = record { says = t.says; line = t.line; fault = λ k. t.fault k ∙ ap (λ (g : Grammar). fault_left g new) (same v k) }
leads_so before after then says (Err e) old new same f = f
