-- Single tokens.
use Rattle.std.proofs.Common.{◌≡◌, ◌-◌, ◌==◌, ℕ, true, false, List, [], ◌∷◌, length, take, drop, Option, Some, None, Result, Err, if◌then◌else◌, ap, sym, ◌∙◌, refl}
use Rattle.std.specs.Option.{is_some}
use Rattle.std.proofs.lemmas.Bool.{eqb-true}
use Rattle.base_core.specs.declared.keyword.Keyword.{Keyword}
use Rattle.base_core.specs.declared.keyword.Keyword.TheVariants as keywords
use Rattle.base_core.specs.declared.value.Value.{Value}
use Rattle.base_core.specs.declared.value.Value.TheVariants as values
use Rattle.base_core.specs.declared.value.ColType.{ColType}
use Rattle.base_core.specs.declared.value.ColType.TheVariants as types
use Rattle.base_core.specs.declared.condition.Comparison.{Comparison}
use Rattle.base_core.specs.declared.condition.Comparison.TheVariants as comparisons
use Rattle.lexer_core.specs.Lexing.{Lexeme, AreSpelled, located, lexeme_of, kind_of}
use Rattle.lexer_core.specs.Lexing as lexemes
use Rattle.lexer_core.specs.declared.token.TokenKind.{TokenKind}
use Rattle.lexer_core.specs.declared.token.TokenKind.TheVariants as kinds
use Rattle.lexer_core.specs.declared.token.Mark.{Mark}
use Rattle.lexer_core.specs.declared.token.Mark.TheVariants as marks
use Rattle.lexer_core.specs.declared.token.Token as tokens
use Rattle.lexer_core.specs.declared.fault.Code.TheVariants as codes
use Rattle.lexer_core.specs.declared.fault.ReadFault.{ReadFault}
use Rattle.lexer_core.specs.declared.fault.ReadFault.TheVariants as faults
use Rattle.reader_core.specs.Grammar.{Grammar, Class, End, One, Key, Sign, AnyType, AnyLiteral, AnyTest, fits, keyword_number, mark_number}
use Rattle.reader_core.specs.Recogniser.{first_fault}
use Rattle.reader_core.specs.Cursor.{Cursor, Takes, Faults, fault_left, left_says, next_kind, next_lexeme, next_is, offset_at, fault_of}
use Rattle.reader_core.specs.Saying.{type_lexeme, value_lexeme, comparison_mark}
use Rattle.reader_core.proofs.Theory.{first_fault_nil, first_fault_none, first_fault_some}

-- what is left is spelled too
pub AreSpelled-drop : (line : List ℕ) (ts : List tokens.Token) → AreSpelled line ts → AreSpelled line (drop 1 ts)
AreSpelled-drop line [] h = h
AreSpelled-drop line (t ∷ ts) h = h.1

abbrev pub at_line : List ℕ → List tokens.Token → Cursor
at_line line ts = record { line = line; rest = ts }

-- a token whose kind tells what it says
pub said_by_kind : (c : Cursor) (k : TokenKind) (l : Lexeme) → next_kind c ≡ Some k → ((bytes : List ℕ) → lexeme_of k bytes ≡ l) → next_lexeme c ≡ Some l
said_by_kind c k l e says = go c.rest e
  where
    go : (ts : List tokens.Token) → next_kind (at_line c.line ts) ≡ Some k → next_lexeme (at_line c.line ts) ≡ Some l
    go [] e = cc
    go (t ∷ ts) e =
        let bytes = take (t.end - t.start) (drop t.start c.line) in
        let is : t.kind ≡ k = cc in
        ap (λ (x : TokenKind). Some (lexeme_of x bytes)) is ∙ ap (λ (x : Lexeme). Some x) (says bytes)

-- behind a token that was taken
pub says_taken : (old new : Cursor) (l : Lexeme) → next_lexeme old ≡ Some l → new.rest ≡ drop 1 old.rest → new.line ≡ old.line → left_says old ≡ l ∷ left_says new
says_taken old new l e rest line = go old.rest e ∙ ap (λ (c : Cursor). l ∷ left_says c) (sym here)
  where
    here : new ≡ at_line old.line (drop 1 old.rest)
    here = ap (λ (x : List ℕ). at_line x new.rest) line ∙ ap (λ (x : List tokens.Token). at_line old.line x) rest

    go : (ts : List tokens.Token) → next_lexeme (at_line old.line ts) ≡ Some l → left_says (at_line old.line ts) ≡ l ∷ left_says (at_line old.line (drop 1 ts))
    go [] e = cc
    go (t ∷ ts) e = let is : (located old.line t).lexeme ≡ l = cc in ap (λ (x : Lexeme). x ∷ left_says (at_line old.line ts)) is

-- a token of the class was taken
pub one_taken : (old new : Cursor) (c : Class) (l : Lexeme) → next_is c old ≡ true → next_lexeme old ≡ Some l → new.rest ≡ drop 1 old.rest → new.line ≡ old.line → Takes (λ g. One c g) (λ g. g) (l ∷ []) old new
one_taken old new c l is says rest line = record {
  says = says_taken old new l says rest line;
  line = line;
  fault = λ g. go g old.rest is ∙ ap (λ (x : List tokens.Token). first_fault (length old.line) g x) (sym rest) ∙ ap (λ (x : List ℕ). first_fault (length x) g new.rest) (sym line);
}
  where
    go : (g : Grammar) (ts : List tokens.Token) → next_is c (at_line old.line ts) ≡ true → first_fault (length old.line) (One c g) ts ≡ first_fault (length old.line) g (drop 1 ts)
    go g [] e = cc
    go g (t ∷ ts) e = first_fault_some (length old.line) (One c g) t ts None g (ap (λ b. if b then Some (None, g) else None) e)

-- no token of the class comes
pub one_missing : (old : Cursor) (c : Class) (g : Grammar) → next_is c old ≡ false → fault_left (One c g) old ≡ Some (codes.Expected, offset_at old)
one_missing old c g e = go old.rest e
  where
    go : (ts : List tokens.Token) → next_is c (at_line old.line ts) ≡ false → fault_left (One c g) (at_line old.line ts) ≡ Some (codes.Expected, offset_at (at_line old.line ts))
    go [] e = first_fault_nil (length old.line) (One c g)
    go (t ∷ ts) e = first_fault_none (length old.line) (One c g) t ts (ap (λ b. if b then Some (None, g) else None) e)

pub missing : (old : Cursor) (c : Class) (e : ReadFault) → next_is c old ≡ false → e ≡ faults.At codes.Expected (offset_at old) → Faults (λ k. One c k) e old
missing old c e none is = record { fault = λ ne k. one_missing old c k none ∙ sym (ap fault_of is) }

-- a class of one token tells which token comes
keyword_at : ℕ → Keyword
keyword_at n =
    if n == 0 then keywords.And else if n == 1 then keywords.Checkpoint else if n == 2 then keywords.Checkpoints else if n == 3 then keywords.Create
    else if n == 4 then keywords.Delete else if n == 5 then keywords.Export else if n == 6 then keywords.For else if n == 7 then keywords.From
    else if n == 8 then keywords.Grant else if n == 9 then keywords.Insert else if n == 10 then keywords.Integer else if n == 11 then keywords.Into
    else if n == 12 then keywords.On else if n == 13 then keywords.Only else if n == 14 then keywords.Option else if n == 15 then keywords.Revoke
    else if n == 16 then keywords.Select else if n == 17 then keywords.Set else if n == 18 then keywords.Table else if n == 19 then keywords.Text
    else if n == 20 then keywords.To else if n == 21 then keywords.Update else if n == 22 then keywords.Values else if n == 23 then keywords.Where
    else keywords.With

numbered_keyword : (k : Keyword) → keyword_at (keyword_number k) ≡ k
unfolding keyword_at
numbered_keyword keywords.And = refl
numbered_keyword keywords.Checkpoint = refl
numbered_keyword keywords.Checkpoints = refl
numbered_keyword keywords.Create = refl
numbered_keyword keywords.Delete = refl
numbered_keyword keywords.Export = refl
numbered_keyword keywords.For = refl
numbered_keyword keywords.From = refl
numbered_keyword keywords.Grant = refl
numbered_keyword keywords.Insert = refl
numbered_keyword keywords.Integer = refl
numbered_keyword keywords.Into = refl
numbered_keyword keywords.On = refl
numbered_keyword keywords.Only = refl
numbered_keyword keywords.Option = refl
numbered_keyword keywords.Revoke = refl
numbered_keyword keywords.Select = refl
numbered_keyword keywords.Set = refl
numbered_keyword keywords.Table = refl
numbered_keyword keywords.Text = refl
numbered_keyword keywords.To = refl
numbered_keyword keywords.Update = refl
numbered_keyword keywords.Values = refl
numbered_keyword keywords.Where = refl
numbered_keyword keywords.With = refl

mark_at : ℕ → Mark
mark_at n =
    if n == 0 then marks.Open else if n == 1 then marks.Close else if n == 2 then marks.Comma else if n == 3 then marks.Star
    else if n == 4 then marks.Semicolon else if n == 5 then marks.Equal else if n == 6 then marks.NotEqual else if n == 7 then marks.Less
    else if n == 8 then marks.LessEqual else if n == 9 then marks.Greater else marks.GreaterEqual

numbered_mark : (m : Mark) → mark_at (mark_number m) ≡ m
unfolding mark_at
numbered_mark marks.Open = refl
numbered_mark marks.Close = refl
numbered_mark marks.Comma = refl
numbered_mark marks.Star = refl
numbered_mark marks.Semicolon = refl
numbered_mark marks.Equal = refl
numbered_mark marks.NotEqual = refl
numbered_mark marks.Less = refl
numbered_mark marks.LessEqual = refl
numbered_mark marks.Greater = refl
numbered_mark marks.GreaterEqual = refl

pub key_fits : (k : Keyword) (t : TokenKind) → fits (Key k) t ≡ true → t ≡ kinds.Keyword k
key_fits k (kinds.Keyword j) e = ap (λ (x : Keyword). kinds.Keyword x) (sym (numbered_keyword j) ∙ ap keyword_at (sym (eqb-true (keyword_number k) (keyword_number j) e)) ∙ numbered_keyword k)
key_fits k _ e = cc

pub sign_fits : (m : Mark) (t : TokenKind) → fits (Sign m) t ≡ true → t ≡ kinds.Mark m
sign_fits m (kinds.Mark n) e = ap (λ (x : Mark). kinds.Mark x) (sym (numbered_mark n) ∙ ap mark_at (sym (eqb-true (mark_number m) (mark_number n) e)) ∙ numbered_mark m)
sign_fits m _ e = cc

-- the kind of the next token, where its class has one kind alone
pub only_kind : (c : Cursor) (class : Class) (k : TokenKind) → ((t : TokenKind) → fits class t ≡ true → t ≡ k) → next_is class c ≡ true → next_kind c ≡ Some k
only_kind c class k only e = go c.rest e
  where
    go : (ts : List tokens.Token) → next_is class (at_line c.line ts) ≡ true → next_kind (at_line c.line ts) ≡ Some k
    go [] e = cc
    go (t ∷ ts) e = ap (λ (x : TokenKind). Some x) (only t.kind e)

pub key_said : (c : Cursor) (k : Keyword) → next_is (Key k) c ≡ true → next_lexeme c ≡ Some (lexemes.Key k)
key_said c k is = said_by_kind c (kinds.Keyword k) (lexemes.Key k) (only_kind c (Key k) (kinds.Keyword k) (key_fits k) is) (λ bytes. refl)

pub sign_said : (c : Cursor) (m : Mark) → next_is (Sign m) c ≡ true → next_lexeme c ≡ Some (lexemes.Sign m)
sign_said c m is = said_by_kind c (kinds.Mark m) (lexemes.Sign m) (only_kind c (Sign m) (kinds.Mark m) (sign_fits m) is) (λ bytes. refl)

-- a token of this kind was taken
pub kind_taken : (old new : Cursor) (c : Class) (k : TokenKind) (l : Lexeme) → next_kind old ≡ Some k → fits c k ≡ true → ((bytes : List ℕ) → lexeme_of k bytes ≡ l) → new.rest ≡ drop 1 old.rest → new.line ≡ old.line → Takes (λ g. One c g) (λ g. g) (l ∷ []) old new
kind_taken old new c k l e f says rest line = one_taken old new c l (go old.rest e) (said_by_kind old k l e says) rest line
  where
    go : (ts : List tokens.Token) → next_kind (at_line old.line ts) ≡ Some k → next_is c (at_line old.line ts) ≡ true
    go [] e = cc
    go (t ∷ ts) e = let is : t.kind ≡ k = cc in ap (fits c) is ∙ f

pub type_fits : (t : ColType) → fits AnyType (kind_of (type_lexeme t)) ≡ true
type_fits types.Integer = refl
type_fits types.Text = refl

pub type_said : (t : ColType) (bytes : List ℕ) → lexeme_of (kind_of (type_lexeme t)) bytes ≡ type_lexeme t
type_said types.Integer bytes = refl
type_said types.Text bytes = refl

pub value_fits : (v : Value) → fits AnyLiteral (kind_of (value_lexeme v)) ≡ true
value_fits (values.Int n) = refl
value_fits (values.Text t) = refl

pub comparison_fits : (c : Comparison) → fits AnyTest (kinds.Mark (comparison_mark c)) ≡ true
comparison_fits comparisons.Equal = refl
comparison_fits comparisons.NotEqual = refl
comparison_fits comparisons.Less = refl
comparison_fits comparisons.LessEqual = refl
comparison_fits comparisons.Greater = refl
comparison_fits comparisons.GreaterEqual = refl

-- a look at the next token that found none of the class
pub missing_so : {V : Type 0} (old : Cursor) (c : Class) (e : ReadFault) → ◌≡◌ {A = Result V ReadFault} (Err e) (Err (faults.At codes.Expected (offset_at old))) × (next_is c old ≡ false) → Faults (λ k. One c k) e old
missing_so {V} old c e h = let same : e ≡ faults.At codes.Expected (offset_at old) = let p = h.0 in cc in missing old c e h.1 same

-- nothing is left, or something behind the end
pub none_left : (c : Cursor) (next : Option TokenKind) → next ≡ next_kind c → is_some next ≡ false → (fault_left End c ≡ None) × (c.rest ≡ [])
none_left c next e none = go c.rest (ap is_some (sym e) ∙ none)
  where
    go : (ts : List tokens.Token) → is_some (next_kind (at_line c.line ts)) ≡ false → (first_fault (length c.line) End ts ≡ None) × (ts ≡ [])
    go [] h = (first_fault_nil (length c.line) End, refl)
    go (t ∷ ts) h = cc

pub some_left : (c : Cursor) (next : Option TokenKind) → next ≡ next_kind c → is_some next ≡ true → fault_left End c ≡ Some (codes.Trailing, offset_at c)
some_left c next e some = go c.rest (ap is_some (sym e) ∙ some)
  where
    go : (ts : List tokens.Token) → is_some (next_kind (at_line c.line ts)) ≡ true → first_fault (length c.line) End ts ≡ Some (codes.Trailing, offset_at (at_line c.line ts))
    go [] h = cc
    go (t ∷ ts) h = first_fault_none (length c.line) End t ts refl
