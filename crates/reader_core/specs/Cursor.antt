-- What a part of the reader does to the tokens that are left.
use Rattle.std.specs.Prelude.{◌≡◌, ◌≢◌, ℕ, Bool, false, List, [], ◌∷◌, ◌++◌, length, map, Option, Some, None, Result, Ok, Err}
use Rattle.lexer_core.specs.Lexing.{Lexeme, located}
use Rattle.lexer_core.specs.declared.token.TokenKind.{TokenKind}
use Rattle.lexer_core.specs.declared.token.Token as tokens
use Rattle.lexer_core.specs.declared.fault.Code.{Code}
use Rattle.lexer_core.specs.declared.fault.ReadFault.{ReadFault}
use Rattle.lexer_core.specs.declared.fault.ReadFault.TheVariants as faults
use Rattle.reader_core.specs.Grammar.{Grammar, Class, Fault, fits, is_any_keyword, is_privilege}
use Rattle.reader_core.specs.Recogniser.{first_fault}

-- a line, and those of its tokens that are left
pub record Cursor : Type 0 where
  pub line : List ℕ
  pub rest : List tokens.Token

-- where the next token stands, or the end of the line
abbrev pub offset_at : Cursor → ℕ
offset_at c = elim c.rest [ [] ↦ length c.line | t ∷ ts ↦ t.start ]

-- the kind of the next token
abbrev pub next_kind : Cursor → Option TokenKind
next_kind c = elim c.rest [ [] ↦ None | t ∷ ts ↦ Some t.kind ]

-- what the next token says
abbrev pub next_lexeme : Cursor → Option Lexeme
next_lexeme c = elim c.rest [ [] ↦ None | t ∷ ts ↦ Some (located c.line t).lexeme ]

-- whether a token of the class comes next
abbrev pub next_is : Class → Cursor → Bool
next_is c cursor = elim cursor.rest [ [] ↦ false | t ∷ ts ↦ fits c t.kind ]

-- whether a keyword comes next
abbrev pub next_is_keyword : Cursor → Bool
next_is_keyword cursor = elim cursor.rest [ [] ↦ false | t ∷ ts ↦ is_any_keyword t.kind ]

-- whether the word of a privilege comes next
abbrev pub next_is_privilege : Cursor → Bool
next_is_privilege cursor = elim cursor.rest [ [] ↦ false | t ∷ ts ↦ is_privilege t.kind ]

-- what the tokens that are left say
abbrev pub left_says : Cursor → List Lexeme
left_says c = map (λ t. (located c.line t).lexeme) c.rest

-- what is wrong with the tokens that are left, by a grammar
abbrev pub fault_left : Grammar → Cursor → Option Fault
fault_left g c = first_fault (length c.line) g c.rest

-- The tokens were taken: they say this, and whatever is wrong with them as before is what is wrong
-- with those left as after.
pub record Takes (before after : Grammar → Grammar) (said : List Lexeme)
    (old new : Cursor) : Type 0 where
  pub says : left_says old ≡ said ++ left_says new
  pub line : new.line ≡ old.line
  pub fault : (k : Grammar) → fault_left (before k) old ≡ fault_left (after k) new

-- the fault that an answer names
abbrev pub fault_of : ReadFault → Option Fault
fault_of faults.NoMemory = None
fault_of (faults.At code offset) = Some (code, offset)

-- unless memory ran out, this is what is wrong, whatever were to follow
pub record Faults (before : Grammar → Grammar) (e : ReadFault) (old : Cursor) : Type 0 where
  pub fault : e ≢ faults.NoMemory → (k : Grammar) → fault_left (before k) old ≡ fault_of e

-- A part of the language: where it was read, the tokens say its value; else it is what is wrong.
abbrev pub Parses : {V : Type 0} → (Grammar → Grammar) → (V → Grammar → Grammar) → (V → List Lexeme)
    → Result V ReadFault → Cursor → Cursor → Type 0
Parses before after says (Ok v) old new = Takes before (after v) (says v) old new
Parses before after says (Err e) old new = Faults before e old

-- the same of a part that is read whole
abbrev pub Reads : {V : Type 0} → (Grammar → Grammar) → (V → List Lexeme) → Result V ReadFault
    → Cursor → Cursor → Type 0
Reads g says r old new = Parses g (λ _ k. k) says r old new

-- a check of an item's first token: passed, or the code at its place
abbrev pub Checks : {V : Type 0} → Option Code → Cursor → Result V ReadFault → Type 0
Checks m here (Ok _) = m ≡ None
Checks m here (Err e) = (code : Code) × (m ≡ Some code) × (e ≡ faults.At code (offset_at here))
