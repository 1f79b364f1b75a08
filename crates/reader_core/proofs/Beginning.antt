-- The statement that the next token begins.
use Rattle.std.proofs.Common.{◌≡◌, List, [], ◌∷◌, length, Bool, true, false, Option, Some, None, Result, Ok, Err, ap, sym, ◌∙◌, refl, if◌then◌else◌}
use Rattle.base_core.specs.declared.keyword.Keyword.{Keyword}
use Rattle.base_core.specs.declared.keyword.Keyword.TheVariants as keywords
use Rattle.lexer_core.specs.Lexing.{Lexeme}
use Rattle.lexer_core.specs.declared.token.TokenKind.{TokenKind}
use Rattle.lexer_core.specs.declared.token.TokenKind.TheVariants as kinds
use Rattle.lexer_core.specs.declared.token.Token as tokens
use Rattle.lexer_core.specs.declared.fault.ReadFault.{ReadFault}
use Rattle.lexer_core.specs.declared.fault.ReadFault.TheVariants as faults
use Rattle.lexer_core.specs.declared.fault.Code.{Code}
use Rattle.lexer_core.specs.declared.fault.Code.TheVariants as codes
use Rattle.reader_core.specs.Grammar.{Grammar, is_any_keyword}
use Rattle.reader_core.specs.Recogniser.{step, can_end, first_fault}
use Rattle.reader_core.specs.Cursor.{Cursor, Faults, Reads, fault_left, fault_of, next_kind, next_is_keyword, offset_at}
use Rattle.reader_core.specs.Sentences.{body}
use Rattle.reader_core.proofs.Theory.{first_fault_nil, first_fault_none, first_fault_some}
use Rattle.reader_core.proofs.Taking.{at_line}

-- two grammars that go on alike with the next token
same_fault : (at : Cursor) (g h : Grammar) (t : TokenKind) → next_kind at ≡ Some t → step g t ≡ step h t → can_end g ≡ can_end h → fault_left g at ≡ fault_left h at
same_fault at g h t next same ends = go at.rest next
  where
    go : (ts : List tokens.Token) → next_kind (at_line at.line ts) ≡ Some t → first_fault (length at.line) g ts ≡ first_fault (length at.line) h ts
    go [] e = cc
    go (u ∷ us) e = let is : u.kind ≡ t = cc in by (step h t) (ap (step g) is ∙ same) (ap (step h) is) refl
      where
        by : (s : Option (Option Code × Grammar)) → step g u.kind ≡ step h t → step h u.kind ≡ step h t → step h t ≡ s → first_fault (length at.line) g (u ∷ us) ≡ first_fault (length at.line) h (u ∷ us)
        by None p q e =
            first_fault_none (length at.line) g u us (p ∙ e)
            ∙ ap (λ (b : Bool). Some ((if b then codes.Trailing else codes.Expected), u.start)) ends
            ∙ sym (first_fault_none (length at.line) h u us (q ∙ e))
        by (Some s) p q e = first_fault_some (length at.line) g u us s.0 s.1 (p ∙ e) ∙ sym (first_fault_some (length at.line) h u us s.0 s.1 (q ∙ e))

-- the statement of this keyword was read
pub begun : {V : Type 0} (a : Grammar → Grammar) (says : V → List Lexeme) (r : Result V ReadFault) (old new : Cursor) (first k : Keyword) → ((g : Grammar) → step (body g) (kinds.Keyword k) ≡ step (a g) (kinds.Keyword k)) → ((g : Grammar) → can_end (body g) ≡ can_end (a g)) → next_kind old ≡ Some (kinds.Keyword first) → first ≡ k → Reads a says r old new → Reads body says r old new
begun {V} a says r old new first k same ends peek is read = go r read
  where
    fault : (g : Grammar) → fault_left (body g) old ≡ fault_left (a g) old
    fault g = same_fault old (body g) (a g) (kinds.Keyword k) (peek ∙ ap (λ (x : Keyword). Some (kinds.Keyword x)) is) (same g) (ends g)

    go : (r : Result V ReadFault) → Reads a says r old new → Reads body says r old new
    go (Ok v) t = record { says = t.says; line = t.line; fault = λ g. fault g ∙ t.fault g }
    go (Err e) f = record { fault = λ ne g. fault g ∙ f.fault ne g }

-- none was
no_step : (old : Cursor) (e : ReadFault) → ((t : TokenKind) (g : Grammar) → next_kind old ≡ Some t → step (body g) t ≡ None) → e ≡ faults.At codes.Expected (offset_at old) → Faults body e old
no_step old e none is = record { fault = λ ne g. go g old.rest (λ t. none t g) ∙ sym (ap fault_of is) }
  where
    go : (g : Grammar) (ts : List tokens.Token) → ((t : TokenKind) → next_kind (at_line old.line ts) ≡ Some t → step (body g) t ≡ None) → fault_left (body g) (at_line old.line ts) ≡ Some (codes.Expected, offset_at (at_line old.line ts))
    go g [] n = first_fault_nil (length old.line) (body g)
    go g (t ∷ ts) n = first_fault_none (length old.line) (body g) t ts (n t.kind refl)

pub no_keyword : (old : Cursor) (e : ReadFault) → (◌≡◌ {A = Result Keyword ReadFault} (Err e) (Err (faults.At codes.Expected (offset_at old)))) × (next_is_keyword old ≡ false) → Faults body e old
no_keyword old e p = let h = p.0 in let is : e ≡ faults.At codes.Expected (offset_at old) = cc in no_step old e (λ t g q. go old.rest t g p.1 q) is
  where
    go : (ts : List tokens.Token) (t : TokenKind) (g : Grammar) → next_is_keyword (at_line old.line ts) ≡ false → next_kind (at_line old.line ts) ≡ Some t → step (body g) t ≡ None
    go [] t g n q = cc
    go (u ∷ us) (kinds.Keyword k) g n q = let is : u.kind ≡ kinds.Keyword k = cc in (let no : true ≡ false = sym (ap is_any_keyword is) ∙ n in cc)
    go (u ∷ us) _ g n q = refl

-- a keyword that begins no statement
pub record IsOther (k : Keyword) : Type 0 where
  pub not_create : k ≡ keywords.Create → ⊥
  pub not_insert : k ≡ keywords.Insert → ⊥
  pub not_select : k ≡ keywords.Select → ⊥
  pub not_delete : k ≡ keywords.Delete → ⊥
  pub not_update : k ≡ keywords.Update → ⊥
  pub not_grant : k ≡ keywords.Grant → ⊥
  pub not_revoke : k ≡ keywords.Revoke → ⊥
  pub not_checkpoint : k ≡ keywords.Checkpoint → ⊥
  pub not_checkpoints : k ≡ keywords.Checkpoints → ⊥
  pub not_export : k ≡ keywords.Export → ⊥

other_step : (k : Keyword) (g : Grammar) → IsOther k → step (body g) (kinds.Keyword k) ≡ None
other_step keywords.Create g o = absurd (o.not_create refl)
other_step keywords.Insert g o = absurd (o.not_insert refl)
other_step keywords.Select g o = absurd (o.not_select refl)
other_step keywords.Delete g o = absurd (o.not_delete refl)
other_step keywords.Update g o = absurd (o.not_update refl)
other_step keywords.Grant g o = absurd (o.not_grant refl)
other_step keywords.Revoke g o = absurd (o.not_revoke refl)
other_step keywords.Checkpoint g o = absurd (o.not_checkpoint refl)
other_step keywords.Checkpoints g o = absurd (o.not_checkpoints refl)
other_step keywords.Export g o = absurd (o.not_export refl)
other_step _ g o = refl

pub other_keyword : (old : Cursor) (e : ReadFault) (k : Keyword) → next_kind old ≡ Some (kinds.Keyword k) → IsOther k → e ≡ faults.At codes.Expected (offset_at old) → Faults body e old
other_keyword old e k next o is = no_step old e (λ t g q. go t g (sym q ∙ next)) is
  where
    go : (t : TokenKind) (g : Grammar) → Some t ≡ Some (kinds.Keyword k) → step (body g) t ≡ None
    go t g q = let same : t ≡ kinds.Keyword k = cc in ap (step (body g)) same ∙ other_step k g o
