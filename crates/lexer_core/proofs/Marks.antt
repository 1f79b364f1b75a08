-- Marks, and bytes that begin nothing.
use Rattle.std.proofs.Common.{◌≡◌, ℕ, ◌<◌, Bool, true, false, ◌||◌, List, length, refl, sym, ap, subst, arith}
use Rattle.std.proofs.lemmas.List.{length-take}
use Rattle.lexer_core.specs.declared.token.TokenKind.TheVariants as kinds
use Rattle.lexer_core.specs.declared.token.Mark.{Mark}
use Rattle.lexer_core.specs.declared.token.Mark.TheVariants.{Open, Close, Comma, Star, Semicolon, Equal, NotEqual, Less, LessEqual, Greater, GreaterEqual}
use Rattle.lexer_core.specs.Lexing.{BeginsLexeme, BeginsKind, BeginsMark, Sign, mark_text}

mark_some : (m : Mark) → 0 < length (mark_text m)
mark_some Open = omega arith
mark_some Close = omega arith
mark_some Comma = omega arith
mark_some Star = omega arith
mark_some Semicolon = omega arith
mark_some Equal = omega arith
mark_some NotEqual = omega arith
mark_some Less = omega arith
mark_some LessEqual = omega arith
mark_some Greater = omega arith
mark_some GreaterEqual = omega arith

pub mark_first : (bytes : List ℕ) (m : Mark) (n : ℕ) → BeginsMark bytes m → n ≡ length (mark_text m) → BeginsKind bytes (kinds.Mark m) n
mark_first bytes m n b e = record {
  lexeme = Sign m;
  same = refl;
  begins = subst (BeginsLexeme bytes (Sign m)) (sym e) record {
    some = mark_some m;
    within = omega (arith, ap length b.spelled, length-take (length (mark_text m)) bytes);
    spelled = b.spelled;
    ends = b.ends;
  };
}

pub none_of : (a b c d : Bool) → a ≡ false → b ≡ false → c ≡ false → d ≡ false → (((a || b) || c) || d) ≡ false
none_of false false false false e f g h = refl
none_of true b c d e f g h = cc
none_of false true c d e f g h = cc
none_of false false true d e f g h = cc
none_of false false false true e f g h = cc
