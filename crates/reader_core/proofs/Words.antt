-- The words of privileges, as the first tokens of items.
use Rattle.std.proofs.Common.{◌≡◌, ℕ, Bool, true, false, ◌||◌, List, [], ◌∷◌, ◌++◌, length, drop, Option, Some, None, Result, Err, if◌then◌else◌, ap, sym, ◌∙◌, refl}
use Rattle.base_core.specs.declared.keyword.Keyword.TheVariants as keywords
use Rattle.lexer_core.specs.Lexing as lexemes
use Rattle.lexer_core.specs.declared.token.TokenKind.{TokenKind}
use Rattle.lexer_core.specs.declared.token.TokenKind.TheVariants as kinds
use Rattle.lexer_core.specs.declared.token.Token as tokens
use Rattle.lexer_core.specs.declared.fault.Code.{Code}
use Rattle.lexer_core.specs.declared.fault.Code.TheVariants as codes
use Rattle.lexer_core.specs.declared.fault.ReadFault.{ReadFault}
use Rattle.lexer_core.specs.declared.fault.ReadFault.TheVariants as faults
use Rattle.reader_core.specs.declared.privilege.PrivilegeWord.{PrivilegeWord}
use Rattle.reader_core.specs.declared.privilege.PrivilegeWord.TheVariants as words
use Rattle.reader_core.specs.Grammar.{Grammar, Items, More, item_fault, is_keyword, is_privilege}
use Rattle.reader_core.specs.Recogniser.{first_fault, with_fault, enter, step}
use Rattle.reader_core.specs.Cursor.{Cursor, Takes, Faults, fault_left, fault_of, next_kind, next_is_privilege, offset_at}
use Rattle.reader_core.specs.Privileges.{word_keyword}
use Rattle.reader_core.specs.Sentences.{privileges_rule, privilege_item, behind_word}
use Rattle.reader_core.specs.Saying.{word_says}
use Rattle.reader_core.proofs.Theory.{first_fault_nil, first_fault_none, first_fault_some}
use Rattle.reader_core.proofs.Taking.{says_taken, said_by_kind, at_line}

abbrev word_kind : PrivilegeWord → TokenKind
word_kind w = kinds.Keyword (word_keyword w)

abbrev items : List TokenKind → Grammar → Grammar
items s k = Items privileges_rule s privilege_item k

abbrev behind : List TokenKind → PrivilegeWord → Grammar → Grammar
behind s w k = behind_word w (More privileges_rule (s ++ word_kind w ∷ []) privilege_item k)

word_enters : (w : PrivilegeWord) (k : Grammar) → enter privilege_item k (word_kind w) ≡ Some (behind_word w k)
word_enters words.Select k = refl
word_enters words.Insert k = refl
word_enters words.Delete k = refl
word_enters words.Update k = refl

none_of_four : {A : Type 0} (a b c d : Bool) (x y z u : Option A) → (a || b || c || d) ≡ false → (if a then x else if b then y else if c then z else if d then u else None) ≡ None
none_of_four true b c d x y z u e = cc
none_of_four false true c d x y z u e = cc
none_of_four false false true d x y z u e = cc
none_of_four false false false true x y z u e = cc
none_of_four false false false false x y z u e = refl

no_word_enters : (t : TokenKind) (k : Grammar) → is_privilege t ≡ false → enter privilege_item k t ≡ None
no_word_enters t k e = none_of_four (is_keyword keywords.Select t) (is_keyword keywords.Insert t) (is_keyword keywords.Delete t) (is_keyword keywords.Update t) (Some (behind_word words.Select k)) (Some k) (Some k) (Some (behind_word words.Update k)) e

step_word : (s : List TokenKind) (k : Grammar) (w : PrivilegeWord) (t : TokenKind) (m : Option Code) → t ≡ word_kind w → item_fault privileges_rule s (word_kind w) ≡ m → step (items s k) t ≡ Some (m, behind s w k)
step_word s k w t m e h =
    ap (step (items s k)) e
    ∙ ap (with_fault (item_fault privileges_rule s (word_kind w))) (word_enters w (More privileges_rule (s ++ word_kind w ∷ []) privilege_item k))
    ∙ ap (λ z. with_fault z (Some (behind s w k))) h

step_no_word : (s : List TokenKind) (k : Grammar) (t : TokenKind) → is_privilege t ≡ false → step (items s k) t ≡ None
step_no_word s k t e = ap (with_fault (item_fault privileges_rule s t)) (no_word_enters t (More privileges_rule (s ++ t ∷ []) privilege_item k) e)

module _ (at : Cursor) (s : List TokenKind) where
  word_bad : (k : Grammar) (w : PrivilegeWord) (code : Code) → next_kind at ≡ Some (word_kind w) → item_fault privileges_rule s (word_kind w) ≡ Some code → fault_left (items s k) at ≡ Some (code, offset_at at)
  word_bad k w code is m = go at.rest is
    where
      go : (ts : List tokens.Token) → next_kind (at_line at.line ts) ≡ Some (word_kind w) → fault_left (items s k) (at_line at.line ts) ≡ Some (code, offset_at (at_line at.line ts))
      go [] e = cc
      go (t ∷ ts) e = first_fault_some (length at.line) _ t ts (Some code) _ (step_word s k w t.kind (Some code) (cc) m)

  word_misfit : (k : Grammar) → next_is_privilege at ≡ false → fault_left (items s k) at ≡ Some (codes.Expected, offset_at at)
  word_misfit k is = go at.rest is
    where
      go : (ts : List tokens.Token) → next_is_privilege (at_line at.line ts) ≡ false → fault_left (items s k) (at_line at.line ts) ≡ Some (codes.Expected, offset_at (at_line at.line ts))
      go [] e = first_fault_nil (length at.line) (items s k)
      go (t ∷ ts) e = first_fault_none (length at.line) _ t ts (step_no_word s k t.kind e)

  -- a word that may not stand there
  pub word_bad_at : (w : PrivilegeWord) (code : Code) (e : ReadFault) → next_kind at ≡ Some (word_kind w) → item_fault privileges_rule s (word_kind w) ≡ Some code → e ≡ faults.At code (offset_at at) → Faults (items s) e at
  word_bad_at w code e is m same = record { fault = λ ne k. word_bad k w code is m ∙ sym (ap fault_of same) }

  -- a look at the next token that found none
  pub word_misfit_so : {V : Type 0} (e : ReadFault) → ◌≡◌ {A = Result V ReadFault} (Err e) (Err (faults.At codes.Expected (offset_at at))) × (next_is_privilege at ≡ false) → Faults (items s) e at
  word_misfit_so e h = let p = h.0 in let same : e ≡ faults.At codes.Expected (offset_at at) = cc in record { fault = λ ne k. word_misfit k h.1 ∙ sym (ap fault_of same) }

-- the word that begins a privilege is taken
pub word_taken : {old new : Cursor} (s : List TokenKind) (w : PrivilegeWord) → next_kind old ≡ Some (word_kind w) → item_fault privileges_rule s (word_kind w) ≡ None → new.rest ≡ drop 1 old.rest → new.line ≡ old.line → Takes (items s) (behind s w) (word_says w) old new
word_taken {old} {new} s w is m rest line = record {
  says = says_taken old new (lexemes.Key (word_keyword w)) (said_by_kind old (word_kind w) (lexemes.Key (word_keyword w)) is (λ bytes. refl)) rest line;
  line = line;
  fault = λ k. go k old.rest is ∙ ap (λ (ts : List tokens.Token). first_fault (length old.line) (behind s w k) ts) (sym rest) ∙ ap (λ (b : List ℕ). first_fault (length b) (behind s w k) new.rest) (sym line);
}
  where
    go : (k : Grammar) (ts : List tokens.Token) → next_kind (at_line old.line ts) ≡ Some (word_kind w) → first_fault (length old.line) (items s k) ts ≡ first_fault (length old.line) (behind s w k) (drop 1 ts)
    go k [] e = cc
    go k (t ∷ ts) e = first_fault_some (length old.line) _ t ts None _ (step_word s k w t.kind None (cc) m)
