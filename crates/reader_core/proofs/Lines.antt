-- What the reader answers.
use Rattle.std.proofs.Common.{◌≡◌, ◌≢◌, ℕ, true, false, List, [], ◌∷◌, ◌++◌, map, length, Some, Result, Ok, Err, IfErr, IsErrAnd, ap, sym, subst, ◌∙◌, refl, inl, inr, ◌==◌, arith, Vec, Global, vec_len}
use Rattle.std.proofs.lemmas.Bool.{eqb-true}
use Rattle.std.proofs.lemmas.List.{append-nil}
use Rattle.lexer_core.specs.Lexing.{Lexeme, Says, AreTokens, IsFaultOf, located}
use Rattle.lexer_core.specs.declared.token.Token as tokens
use Rattle.lexer_core.specs.declared.fault.Code.{Code}
use Rattle.lexer_core.specs.declared.fault.Code.TheVariants as codes
use Rattle.lexer_core.specs.declared.fault.ReadFault.{ReadFault}
use Rattle.lexer_core.specs.declared.fault.ReadFault.TheVariants as faults
use Rattle.reader_core.specs.declared.statement.Statement.{Statement}
use Rattle.reader_core.specs.Grammar.{Fault}
use Rattle.reader_core.specs.Recogniser.{first_fault}
use Rattle.reader_core.specs.Cursor.{Cursor, Takes, Faults, fault_left, fault_of, left_says}
use Rattle.reader_core.specs.Sentences.{statement, body, finish}
use Rattle.reader_core.specs.Saying.{statement_says, IsFinished}
use Rattle.reader_core.specs.Forming.{IsWellFormed}
use Rattle.reader_core.specs.Language.{SaysStatement, Spells, IsReadFault, lexical, nothing, ungrammatical, IsReadFaultOf}
use Rattle.reader_core.proofs.Theory.{sound, fault_from_first_fault}

-- ---- what the reader answers
pub exit_err : {V : Type 0} (P : ReadFault → Type 0) (r : Result V ReadFault) (e : ReadFault) → IsErrAnd r (λ y. y ≡ e) → P e → IfErr r P
exit_err P (Ok v) e p h = absurd p
exit_err P (Err y) e p h = subst P (sym p) h

pub lexical_fault : (line : List ℕ) (e : ReadFault) → IsFaultOf line e → IsReadFaultOf line e
lexical_fault line faults.NoMemory h = tt
lexical_fault line (faults.At code offset) h = lexical h

apart : (code : Code) (offset : ℕ) → faults.At code offset ≢ faults.NoMemory
apart code offset w = cc

grammar_fault : (line : List ℕ) (ts : List tokens.Token) (f : Fault) → AreTokens line ts → (ts ≡ [] → ⊥) → first_fault (length line) statement ts ≡ Some f → IsReadFault line f.0 f.1
grammar_fault line [] f a some e = absurd (some refl)
grammar_fault line (t ∷ ts) f a some e = ungrammatical a (fault_from_first_fault statement (length line) (t ∷ ts) f sound e)

pub fault_so : (line : List ℕ) (ts : List tokens.Token) (e : ReadFault) → AreTokens line ts → (ts ≡ [] → ⊥) → (e ≢ faults.NoMemory → first_fault (length line) statement ts ≡ fault_of e) → IsReadFaultOf line e
fault_so line ts faults.NoMemory a some h = tt
fault_so line ts (faults.At code offset) a some h = grammar_fault line ts (code, offset) a some (h (apart code offset))

-- the body's tokens, and what is behind them
pub says_statement : (said rest : List Lexeme) (s : Statement) → said ≡ statement_says s ++ rest → IsFinished rest → SaysStatement said s
says_statement said rest s e (inl none) = inl (e ∙ ap (λ z. statement_says s ++ z) none ∙ append-nil (statement_says s))
says_statement said rest s e (inr mark) = inr (e ∙ ap (λ z. statement_says s ++ z) mark)

abbrev at : List ℕ → List tokens.Token → Cursor
at line ts = record { line = line; rest = ts }

module _ (line : List ℕ) (ts deref : List tokens.Token) (first : Cursor) (starts : first ≡ at line deref) (same : deref ≡ ts) (tokens_are : AreTokens line ts) (some : ts ≡ [] → ⊥) where
  here : first ≡ at line ts
  here = starts ∙ ap (at line) same

  pub body_fault : (e : ReadFault) → Faults body e first → IsReadFaultOf line e
  body_fault e f = fault_so line ts e tokens_are some (λ ne. ap (λ (c : Cursor). fault_left statement c) (sym here) ∙ f.fault ne finish)

  pub end_fault : (mid : Cursor) (said : List Lexeme) (e : ReadFault) → Takes body (λ k. k) said first mid → fault_left finish mid ≡ fault_of e → IsReadFaultOf line e
  end_fault mid said e t f = fault_so line ts e tokens_are some (λ ne. ap (λ (c : Cursor). fault_left statement c) (sym here) ∙ t.fault finish ∙ f)

  pub spelled_so : (mid : Cursor) (s : Statement) → Says line (map (λ t. (located line t).lexeme) ts) → Takes body (λ k. k) (statement_says s) first mid → IsFinished (left_says mid) → IsWellFormed s → Spells line s
  spelled_so mid s says t ends well_formed = record {
    said = left_says (at line ts);
    says = says;
    statement_of = says_statement (left_says (at line ts)) (left_says mid) s (ap left_says (sym here) ∙ t.says) ends;
    well_formed = well_formed;
  }

-- whether there are tokens
pub empty_vec : (v : Vec tokens.Token Global) → (vec_len v == 0) ≡ true → v.items ≡ []
empty_vec v e = nil_of v.items (omega (arith, v.ok.0, eqb-true (vec_len v) 0 e))
  where
    nil_of : (ts : List tokens.Token) → length ts ≡ 0 → ts ≡ []
    nil_of [] h = refl
    nil_of (t ∷ ts) h = absurd (omega arith)

pub some_vec : (v : Vec tokens.Token Global) → (vec_len v == 0) ≡ false → v.items ≡ [] → ⊥
some_vec v e none = let z : vec_len v ≡ 0 = omega (arith, v.ok.0, ap length none) in let y = ap (λ (n : ℕ). n == 0) (sym z) ∙ e in cc

pub no_tokens : (line : List ℕ) (ts : List tokens.Token) → AreTokens line ts → ts ≡ [] → IsReadFault line codes.Empty 0
no_tokens line ts a e = nothing (subst (AreTokens line) e a)
