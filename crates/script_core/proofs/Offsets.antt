-- A fault of a line stands at no great offset.
use Rattle.std.proofs.Common.{◌≡◌, ℕ, ◌≤◌, List, [], ◌∷◌, ◌++◌, length, drop, arith, ap, subst}
use Rattle.std.proofs.lemmas.List.{length-append, length-drop}
use Rattle.lexer_core.specs.Lexing.{AreTokens, AreSpelled, IsLineFault, long_line, behind, Lexed, start, blank, token, Fails, long_name, joined_number, great_number, bad_text, open_text, long_text, stray, Lexeme}
use Rattle.lexer_core.specs.Text.{written_all}
use Rattle.lexer_core.specs.declared.fault.Code.{Code}
use Rattle.lexer_core.specs.declared.token.Token as tokens
use Rattle.lexer_core.specs.declared.token.TokenKind.{TokenKind}
use Rattle.lexer_core.proofs.Spelled.{tokens_heard}
use Rattle.reader_core.specs.Matches.{IsWrongHere}
use Rattle.reader_core.specs.Grammar.{Grammar}
use Rattle.reader_core.specs.Language.{IsReadFault, lexical, nothing, ungrammatical}

lexed-within : (line : List ℕ) (n : ℕ) (ts : List tokens.Token) (ls : List Lexeme) → Lexed line n ts ls → n ≤ length line
lexed-within line _ _ _ start = omega arith
lexed-within line _ _ _ (blank {n} h less is) = omega (arith, less)
lexed-within line _ _ _ (token {n} {k} {ts} {ls} h b) = omega (arith, lexed-within line n ts ls h, b.within, length-drop n line)

fails-within : (bytes : List ℕ) (code : Code) (at : ℕ) → Fails bytes code at → at ≤ length bytes
fails-within _ _ _ (bad_text {bytes} {cs} {rest} b some mark bad) = omega (arith, ap length b.split, length-append (written_all cs) rest)
fails-within _ _ _ (long_name h k) = omega arith
fails-within _ _ _ (joined_number h k) = omega arith
fails-within _ _ _ (great_number h k) = omega arith
fails-within _ _ _ (open_text h) = omega arith
fails-within _ _ _ (long_text h k l) = omega arith
fails-within _ _ _ (stray h k l) = omega arith

lexical-small : (line : List ℕ) (code : Code) (offset : ℕ) → IsLineFault line code offset → offset ≤ 8192
lexical-small line _ _ (long_line h) = omega arith
lexical-small line _ _ (behind {n} {by} {c} {ts} {ls} short lexed fails) = omega (arith, short, lexed-within line n ts ls lexed, fails-within (drop n line) c by fails, length-drop n line)

heard-at : (line : List ℕ) (before rest : List tokens.Token) (t : tokens.Token) → AreSpelled line (before ++ t ∷ rest) → t.start ≤ length line
heard-at line [] rest t h = omega (arith, h.0.some, h.0.within)
heard-at line (b ∷ before) rest t h = heard-at line before rest t h.1

ungrammatical-small : (line : List ℕ) (g : Grammar) (kinds : List TokenKind) (ts before rest : List tokens.Token) (code : Code) (offset : ℕ) → AreTokens line ts → ts ≡ before ++ rest
    → IsWrongHere g kinds (length line) rest (code, offset) → offset ≤ 8192
ungrammatical-small line g kinds ts before [] code offset are split wrong = omega (arith, are.short, ap (λ f. f.1) wrong.1)
ungrammatical-small line g kinds ts before (t ∷ rest) code offset are split wrong = omega (arith, are.short, wrong.1, heard-at line before rest t (subst (AreSpelled line) split (tokens_heard line ts are)))

-- where a line is not read, the offset is small
pub offset-small : (line : List ℕ) (code : Code) (offset : ℕ) → IsReadFault line code offset → offset ≤ 8192
offset-small line _ _ (lexical {code} {offset} h) = lexical-small line code offset h
offset-small line _ _ (nothing h) = omega arith
offset-small line _ _ (ungrammatical {code} {offset} {t} {ts} are f) = ungrammatical-small line _ _ (t ∷ ts) f.before f.rest code offset are f.split f.wrong
