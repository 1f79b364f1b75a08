-- No line spells two statements or has two faults, so that the answer is exact.
use Rattle.std.proofs.Common.{◌≡◌, ℕ, Bool, List, [], ◌∷◌, ◌++◌, map, length, Some, None, Result, Ok, Err, IfOk, IfErr, ap, sym, subst, ◌∙◌, refl, inl, inr}
use Rattle.std.proofs.lemmas.List.{map-append}
use Rattle.lexer_core.specs.Lexing.{Lexeme, Says, AreTokens, IsLineFault, Lexed, start, blank, token, kind_of}
use Rattle.lexer_core.specs.declared.token.TokenKind.{TokenKind}
use Rattle.lexer_core.specs.declared.token.Token as tokens
use Rattle.lexer_core.specs.declared.fault.Code.{Code}
use Rattle.lexer_core.specs.declared.fault.ReadFault.{ReadFault}
use Rattle.lexer_core.specs.declared.fault.ReadFault.TheVariants as faults
use Rattle.reader_core.specs.declared.statement.Statement.{Statement}
use Rattle.reader_core.specs.declared.statement.Statement.TheVariants as statements
use Rattle.reader_core.specs.Grammar.{Fault}
use Rattle.reader_core.specs.Matches.{IsFault, IsSentence}
use Rattle.reader_core.specs.Sentences.{statement}
use Rattle.reader_core.specs.Saying.{statement_says}
use Rattle.reader_core.specs.Language.{SaysStatement, Spells, IsReadFault, lexical, nothing, ungrammatical, IsReadFaultOf, UnlessNoMemory}
use Rattle.reader_core.proofs.Theory.{sound, first_fault_from_whole, first_fault_from_fault, one_fault as one_grammar_fault}
use Rattle.lexer_core.proofs.Lines.{says_once as one_reading, tokens_once as one_list_of_tokens, says_no_fault as said_or_faulty, fault_once as one_lexical_fault}
use Rattle.reader_core.proofs.Whole.{says_whole, ending, ended}
use Rattle.reader_core.proofs.Once.{said_once}

-- ---- the kinds of tokens are those of what they say
pub lexed_kinds : (line : List ℕ) (n : ℕ) (ts : List tokens.Token) (said : List Lexeme) → Lexed line n ts said → map (λ t. t.kind) ts ≡ map kind_of said
lexed_kinds line _ _ _ start = refl
lexed_kinds line _ _ _ (blank {n} {ts} {ls} m h b) = lexed_kinds line n ts ls m
lexed_kinds line _ _ _ (token {n} {k} {ts} {ls} {l} m b) =
    map-append (λ t. t.kind) ts _ ∙ ap (λ ks. ks ++ kind_of l ∷ []) (lexed_kinds line n ts ls m) ∙ sym (map-append kind_of ls (l ∷ []))

-- ---- one thing for a line
tokens_of : (line : List ℕ) (said : List Lexeme) (says : Says line said) → AreTokens line says.tokens_of
tokens_of line said says = record { short = says.short; lexemes = said; lexed = says.lexed }

nothing_said : (line : List ℕ) (s : Statement) (said : List Lexeme) → Says line said → SaysStatement said s → AreTokens line [] → ⊥
nothing_said line s said says p none =
    let same : says.tokens_of ≡ [] = one_list_of_tokens line says.tokens_of [] (tokens_of line said says) none in
    let kinds : map kind_of said ≡ [] = sym (lexed_kinds line (length line) says.tokens_of said says.lexed) ∙ ap (map (λ t. t.kind)) same in
    some_said said s p kinds
  where
    begins : (s : Statement) (b : Bool) → [] ≡ statement_says s ++ ending b → ⊥
    begins (statements.CreateTable t cs) b e = cc
    begins (statements.Insert t vs) b e = cc
    begins (statements.Select l t f) b e = cc
    begins (statements.Delete t f) b e = cc
    begins (statements.Update t xs f) b e = cc
    begins (statements.Grant p t us o) b e = cc
    begins (statements.Revoke p t us) b e = cc
    begins (statements.RevokeOption p t us) b e = cc
    begins statements.Checkpoint b e = cc
    begins statements.Checkpoints b e = cc
    begins (statements.Export n o) b e = cc

    some_said : (said : List Lexeme) (s : Statement) → SaysStatement said s → map kind_of said ≡ [] → ⊥
    some_said [] s p k = let e = ended [] s p in begins s e.0 e.1
    some_said (l ∷ said) s p k = cc

no_fault : (f : Fault) → None ≡ Some f → ⊥
no_fault f e = cc

pub spelled_once : (line : List ℕ) (s t : Statement) → Spells line s → Spells line t → s ≡ t
spelled_once line s t p q = said_once p.said s t p.statement_of (subst (λ (said : List Lexeme). SaysStatement said t) (sym (one_reading line p.said q.said p.says q.says)) q.statement_of)

pub spelled_no_fault : (line : List ℕ) (s : Statement) (code : Code) (offset : ℕ) → Spells line s → IsReadFault line code offset → ⊥
spelled_no_fault line s _ _ p (lexical f) = said_or_faulty line p.said _ _ p.says f
spelled_no_fault line s _ _ p (nothing a) = nothing_said line s p.said p.says p.statement_of a
spelled_no_fault line s _ _ p (ungrammatical {code} {offset} {t} {ts} a f) =
    let same : p.says.tokens_of ≡ t ∷ ts = one_list_of_tokens line p.says.tokens_of (t ∷ ts) (tokens_of line p.said p.says) a in
    let kinds : map kind_of p.said ≡ map (λ x. x.kind) (t ∷ ts) = sym (lexed_kinds line (length line) p.says.tokens_of p.said p.says.lexed) ∙ ap (map (λ x. x.kind)) same in
    let whole = subst (λ (ks : List TokenKind). IsSentence statement ks) kinds (says_whole p.said s p.well_formed p.statement_of) in
    no_fault (code, offset) (sym (first_fault_from_whole statement (length line) (t ∷ ts) sound whole) ∙ first_fault_from_fault statement (length line) (t ∷ ts) (code, offset) sound f)

abbrev Agree : Code → ℕ → Code → ℕ → Type 0
Agree code offset other place = (code ≡ other) × (offset ≡ place)

some_tokens : (line : List ℕ) (t : tokens.Token) (ts : List tokens.Token) → AreTokens line [] → AreTokens line (t ∷ ts) → ⊥
some_tokens line t ts none a = let e : ◌≡◌ {A = List tokens.Token} [] (t ∷ ts) = one_list_of_tokens line [] (t ∷ ts) none a in cc

lexed_or_faulty : (line : List ℕ) (ts : List tokens.Token) (code : Code) (offset : ℕ) → AreTokens line ts → IsLineFault line code offset → ⊥
lexed_or_faulty line ts code offset a f = said_or_faulty line a.lexemes code offset (record { short = a.short; tokens_of = ts; lexed = a.lexed }) f

pub one_line_fault : (line : List ℕ) (code other : Code) (offset place : ℕ) → IsReadFault line code offset → IsReadFault line other place → Agree code offset other place
one_line_fault line _ _ _ _ (lexical f) (lexical g) = one_lexical_fault line _ _ _ _ f g
one_line_fault line _ _ _ _ (lexical f) (nothing b) = absurd (lexed_or_faulty line [] _ _ b f)
one_line_fault line _ _ _ _ (lexical f) (ungrammatical {t = u} {ts = us} b g) = absurd (lexed_or_faulty line (u ∷ us) _ _ b f)
one_line_fault line _ _ _ _ (nothing a) (lexical g) = absurd (lexed_or_faulty line [] _ _ a g)
one_line_fault line _ _ _ _ (nothing a) (nothing b) = (refl, refl)
one_line_fault line _ _ _ _ (nothing a) (ungrammatical {t = u} {ts = us} b g) = absurd (some_tokens line u us a b)
one_line_fault line _ _ _ _ (ungrammatical {t = t} {ts = ts} a f) (lexical g) = absurd (lexed_or_faulty line (t ∷ ts) _ _ a g)
one_line_fault line _ _ _ _ (ungrammatical {t = t} {ts = ts} a f) (nothing b) = absurd (some_tokens line t ts b a)
one_line_fault line _ _ _ _ (ungrammatical {code} {offset} {t} {ts} a f) (ungrammatical {code = other} {offset = place} {t = u} {ts = us} b g) =
    let same : t ∷ ts ≡ u ∷ us = one_list_of_tokens line (t ∷ ts) (u ∷ us) a b in
    let one : (code, offset) ≡ (other, place) = one_grammar_fault statement (length line) (u ∷ us) (code, offset) (other, place) sound (subst (λ (x : List tokens.Token). IsFault statement (length line) x (code, offset)) same f) g in
    (ap (λ (x : Fault). x.0) one, ap (λ (x : Fault). x.1) one)

-- ---- the answer is exact
pub exact : (line : List ℕ) (r : Result Statement ReadFault) (s : Statement) → IfOk r (Spells line) → IfErr r (IsReadFaultOf line) → Spells line s → UnlessNoMemory r (Ok s)
exact line (Ok t) s spelled faulty p = inl (ap Ok (spelled_once line t s spelled p))
exact line (Err faults.NoMemory) s spelled faulty p = inr refl
exact line (Err (faults.At code offset)) s spelled faulty p = absurd (spelled_no_fault line s code offset p faulty)

pub exact_fault : (line : List ℕ) (r : Result Statement ReadFault) (code : Code) (offset : ℕ) → IfOk r (Spells line) → IfErr r (IsReadFaultOf line) → IsReadFault line code offset → UnlessNoMemory r (Err (faults.At code offset))
exact_fault line (Ok t) code offset spelled faulty f = absurd (spelled_no_fault line t code offset spelled f)
exact_fault line (Err faults.NoMemory) code offset spelled faulty f = inr refl
exact_fault line (Err (faults.At other place)) code offset spelled faulty f =
    let p = one_line_fault line other code place offset faulty f in
    inl (ap (λ (x : Code). Err (faults.At x place)) p.0 ∙ ap (λ (x : ℕ). Err (faults.At code x)) p.1)
