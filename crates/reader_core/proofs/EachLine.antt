-- Each line spells a statement or has a fault.
use Rattle.std.proofs.Common.{◌≡◌, ◌⊎◌, ℕ, List, [], ◌∷◌, map, length, Option, Some, None, sym, subst, refl, inl, inr}
use Rattle.lexer_core.specs.Lexing.{Lexeme, Says, AreTokens}
use Rattle.lexer_core.specs.declared.token.TokenKind.{TokenKind}
use Rattle.lexer_core.specs.declared.token.Token as tokens
use Rattle.lexer_core.specs.declared.fault.Code.{Code}
use Rattle.lexer_core.specs.declared.fault.Code.TheVariants as codes
use Rattle.lexer_core.proofs.EachLine as lexing
use Rattle.reader_core.specs.declared.statement.Statement.{Statement}
use Rattle.reader_core.specs.Grammar.{Fault}
use Rattle.reader_core.specs.Recogniser.{first_fault}
use Rattle.reader_core.specs.Matches.{IsSentence}
use Rattle.reader_core.specs.Sentences.{statement}
use Rattle.reader_core.specs.Language.{Spells, IsReadFault, lexical, nothing, ungrammatical}
use Rattle.reader_core.proofs.Theory.{sound, fault_from_first_fault, whole_from_first_fault}
use Rattle.reader_core.proofs.Exactness.{lexed_kinds}
use Rattle.lexer_core.proofs.Proper.{proper_lexed}
use Rattle.reader_core.proofs.EachStatement.{whole_said}

module _ (line : List ℕ) where
  abbrev pub StatementOrFault : Type 0
  StatementOrFault = ((s : Statement) × Spells line s) ⊎ ((code : Code) × (offset : ℕ) × IsReadFault line code offset)

  spelled : (said : List Lexeme) → (says : Says line said) → IsSentence statement (map (λ t. t.kind) says.tokens_of) → StatementOrFault
  spelled said says whole =
      let kinds = lexed_kinds line (length line) says.tokens_of said says.lexed in
      let s = whole_said said (proper_lexed line (length line) says.tokens_of said says.lexed) (subst (λ (ks : List TokenKind). IsSentence statement ks) kinds whole) in
      inl (s.0, record { said = said; says = says; statement_of = s.1; well_formed = s.2 })

  fault_left : (said : List Lexeme) → (says : Says line said) → (ts : List tokens.Token) → says.tokens_of ≡ ts → AreTokens line ts → StatementOrFault
  fault_left said says [] e a = inr (codes.Empty, 0, nothing a)
  fault_left said says (t ∷ ts) e a = by (first_fault (length line) statement (t ∷ ts)) refl
    where
      by : (f : Option Fault) → first_fault (length line) statement (t ∷ ts) ≡ f → StatementOrFault
      by None q = spelled said says (subst (λ (us : List tokens.Token). IsSentence statement (map (λ t. t.kind) us)) (sym e) (whole_from_first_fault statement (length line) (t ∷ ts) sound q))
      by (Some f) q = inr (f.0, f.1, ungrammatical a (fault_from_first_fault statement (length line) (t ∷ ts) f sound q))

  pub statement_or_fault : StatementOrFault
  statement_or_fault = elim (lexing.reading_or_fault line) [
    | inl r ↦ fault_left r.0 r.1 r.1.tokens_of refl (record { short = r.1.short; lexemes = r.0; lexed = r.1.lexed })
    | inr f ↦ inr (f.0, f.1, lexical f.2)
  ]
