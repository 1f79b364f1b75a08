-- What the exit of a `?` returns.
use Rattle.std.proofs.Common.{◌≡◌, List, Result, Ok, Err, IsErrAnd, ap, sym, subst}
use Rattle.lexer_core.specs.Lexing.{Lexeme}
use Rattle.lexer_core.specs.declared.fault.ReadFault.{ReadFault}
use Rattle.reader_core.specs.Grammar.{Grammar}
use Rattle.reader_core.specs.Cursor.{Cursor, Parses, Faults}

pub exits : {V : Type 0} (before : Grammar → Grammar) (after : V → Grammar → Grammar) (says : V → List Lexeme) (r : Result V ReadFault) (e : ReadFault) (old new : Cursor) → IsErrAnd r (λ y. y ≡ e) → Faults before e old → Parses before after says r old new
exits before after says (Ok v) e old new p f = absurd p
exits before after says (Err y) e old new p f = subst (λ (x : ReadFault). Faults before x old) (sym p) f

-- the same, as one equation
pub exit_is : {V : Type 0} (r : Result V ReadFault) (e : ReadFault) → IsErrAnd r (λ y. y ≡ e) → r ≡ Err e
exit_is (Ok v) e p = absurd p
exit_is (Err y) e p = ap Err p
