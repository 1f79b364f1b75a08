-- Tokens that a grammar takes say something, part by part.
use Rattle.std.proofs.Common.{◌≡◌, ◌⊎◌, ℕ, zero, suc, pos, negsuc, ◌<◌, ◌≤◌, Bool, ◌||◌, All, true, false, nat_le, List, [], ◌∷◌, ◌++◌, map, length, Option, ap, sym, subst, ◌∙◌, refl, append_assoc, arith, inl, inr, length-append}
use Rattle.std.specs.List.{flat_map, AllByRecursion}
use Rattle.std.proofs.lemmas.Bool.Decides.{nat_tests}
use Rattle.std.proofs.lemmas.List.{map-append, length-map}
use Rattle.std.proofs.lemmas.List.Elements.{All-from_recursion}
use Rattle.base_core.specs.declared.keyword.Keyword.{Keyword}
use Rattle.base_core.specs.declared.keyword.Keyword.TheVariants as keywords
use Rattle.base_core.specs.declared.name.Name.{Name}
use Rattle.base_core.specs.declared.value.Value.{Value}
use Rattle.base_core.specs.declared.value.Value.TheVariants as values
use Rattle.base_core.specs.declared.value.ColType.{ColType}
use Rattle.base_core.specs.declared.value.ColType.TheVariants as types
use Rattle.base_core.specs.declared.condition.Comparison.{Comparison}
use Rattle.base_core.specs.declared.condition.Comparison.TheVariants as comparisons
use Rattle.lexer_core.specs.Lexing.{Lexeme, kind_of}
use Rattle.lexer_core.specs.Lexing as lexemes
use Rattle.lexer_core.specs.declared.token.TokenKind.{TokenKind}
use Rattle.lexer_core.specs.declared.token.TokenKind.TheVariants as kinds
use Rattle.lexer_core.specs.declared.token.Mark.{Mark}
use Rattle.lexer_core.specs.declared.token.Mark.TheVariants as marks
use Rattle.lexer_core.specs.declared.fault.Code.{Code}
use Rattle.reader_core.specs.Grammar.{Grammar, Class, One, Case, Items, More, Rule, Key, Sign, AnyName, AnyLiteral, AnyType, AnyTest, AtLeastOne, fits, item_fault, followed_by}
use Rattle.reader_core.specs.Recogniser.{AreFaultless}
use Rattle.reader_core.specs.Matches.{TokenWithFault, faultless, Matches, one, this, other, item, next, last}
use Rattle.reader_core.specs.Saying.{separated, value_lexeme, type_lexeme, comparison_mark}
use Rattle.reader_core.proofs.Taking.{key_fits, sign_fits}

-- what is said, as tokens none of which is wrong
abbrev pub faultless_all : List Lexeme → List TokenWithFault
faultless_all said = map faultless (map kind_of said)

either : (a b : Bool) → (a || b) ≡ true → (a ≡ true) ⊎ (b ≡ true)
either true b e = inl refl
either false b e = inr e

-- what is said, part by part
pub then : {said rest more : List Lexeme} (l : Lexeme) → said ≡ l ∷ rest → rest ≡ more → said ≡ l ∷ more
then l e f = e ∙ ap (λ z. l ∷ z) f

pub and_then : {said rest : List Lexeme} (xs ys more : List Lexeme) → said ≡ xs ++ rest → rest ≡ ys ++ more → said ≡ (xs ++ ys) ++ more
and_then xs ys more e f = e ∙ (ap (λ z. xs ++ z) f ∙ sym (append_assoc xs ys more))

-- ---- which lexeme a token of a class is
same_key : (k : Keyword) (l : Lexeme) → kind_of l ≡ kinds.Keyword k → l ≡ lexemes.Key k
same_key k (lexemes.Key j) e = cc
same_key k (lexemes.Named n) e = cc
same_key k (lexemes.Number z) e = cc
same_key k (lexemes.Text t) e = cc
same_key k (lexemes.Sign m) e = cc

same_sign : (m : Mark) (l : Lexeme) → kind_of l ≡ kinds.Mark m → l ≡ lexemes.Sign m
same_sign m (lexemes.Key j) e = cc
same_sign m (lexemes.Named n) e = cc
same_sign m (lexemes.Number z) e = cc
same_sign m (lexemes.Text t) e = cc
same_sign m (lexemes.Sign n) e = cc

pub key_only : (k : Keyword) (l : Lexeme) → fits (Key k) (kind_of l) ≡ true → l ≡ lexemes.Key k
key_only k l f = same_key k l (key_fits k (kind_of l) f)

pub sign_only : (m : Mark) (l : Lexeme) → fits (Sign m) (kind_of l) ≡ true → l ≡ lexemes.Sign m
sign_only m l f = same_sign m l (sign_fits m (kind_of l) f)

name_only : (l : Lexeme) → fits AnyName (kind_of l) ≡ true → (n : Name) × (l ≡ lexemes.Named n)
name_only (lexemes.Named n) f = (n, refl)
name_only (lexemes.Key k) f = cc
name_only (lexemes.Number z) f = cc
name_only (lexemes.Text t) f = cc
name_only (lexemes.Sign m) f = cc

literal_only : (l : Lexeme) → fits AnyLiteral (kind_of l) ≡ true → (v : Value) × (l ≡ value_lexeme v)
literal_only (lexemes.Number z) f = (values.Int z, refl)
literal_only (lexemes.Text t) f = (values.Text t, refl)
literal_only (lexemes.Named n) f = cc
literal_only (lexemes.Key k) f = cc
literal_only (lexemes.Sign m) f = cc

type_only : (l : Lexeme) → fits AnyType (kind_of l) ≡ true → (t : ColType) × (l ≡ type_lexeme t)
type_only l f = elim (either (fits (Key keywords.Integer) (kind_of l)) (fits (Key keywords.Text) (kind_of l)) f) [
  | inl h ↦ (types.Integer, key_only keywords.Integer l h)
  | inr h ↦ (types.Text, key_only keywords.Text l h)
]

comparison_of : (m : Mark) → fits AnyTest (kinds.Mark m) ≡ true → (c : Comparison) × (m ≡ comparison_mark c)
comparison_of marks.Equal f = (comparisons.Equal, refl)
comparison_of marks.NotEqual f = (comparisons.NotEqual, refl)
comparison_of marks.Less f = (comparisons.Less, refl)
comparison_of marks.LessEqual f = (comparisons.LessEqual, refl)
comparison_of marks.Greater f = (comparisons.Greater, refl)
comparison_of marks.GreaterEqual f = (comparisons.GreaterEqual, refl)
comparison_of marks.Open f = cc
comparison_of marks.Close f = cc
comparison_of marks.Comma f = cc
comparison_of marks.Star f = cc
comparison_of marks.Semicolon f = cc

test_only : (l : Lexeme) → fits AnyTest (kind_of l) ≡ true → (c : Comparison) × (l ≡ lexemes.Sign (comparison_mark c))
test_only (lexemes.Sign m) f = let c = comparison_of m f in (c.0, ap (λ (x : Mark). lexemes.Sign x) c.1)
test_only (lexemes.Key k) f = cc
test_only (lexemes.Named n) f = cc
test_only (lexemes.Number z) f = cc
test_only (lexemes.Text t) f = cc

least_only : (l : Lexeme) → fits AtLeastOne (kind_of l) ≡ true → (n : ℕ) × (l ≡ lexemes.Number (pos n)) × (1 ≤ n)
least_only (lexemes.Number (pos n)) f = (n, refl, at_least n f)
  where
    at_least : (n : ℕ) → nat_le 1 n ≡ true → 1 ≤ n
    at_least n e = grind (arith, nat_tests)
least_only (lexemes.Number (negsuc n)) f = cc
least_only (lexemes.Key k) f = cc
least_only (lexemes.Named n) f = cc
least_only (lexemes.Text t) f = cc
least_only (lexemes.Sign m) f = cc

-- ---- one token
one_back : {c : Class} {g : Grammar} {t : TokenKind} {w : Option Code} {ss : List TokenWithFault} → Matches (One c g) (record { kind = t; wrong = w } ∷ ss) → (fits c t ≡ true) × Matches g ss
one_back (one f m) = (f, m)

no_one : {c : Class} {g : Grammar} → Matches (One c g) [] → ⊥
no_one m = elim m [ ]

-- A part of the tokens that is a value, and what is left of them.
pub record Front {V : Type 0} (says : V → List Lexeme) (IsLaw : V → Type 0) (k : Grammar) (said : List Lexeme) : Type 0 where
  pub value : V
  pub rest : List Lexeme
  pub split : said ≡ says value ++ rest
  pub well_formed : IsLaw value
  pub left : Matches k (faultless_all rest)

abbrev pub Any : {A : Type 0} → A → Type 0
Any x = Unit {0}

-- one token of a class, which says a value
module _ {V : Type 0} (c : Class) (lexeme : V → Lexeme) (IsLaw : V → Type 0) (only : (l : Lexeme) → fits c (kind_of l) ≡ true → (v : V) × (l ≡ lexeme v) × IsLaw v) (g : Grammar) where
  token_front : (said : List Lexeme) → Matches (One c g) (faultless_all said) → Front (λ v. lexeme v ∷ []) IsLaw g said
  token_front [] m = absurd (no_one m)
  token_front (l ∷ rest) m =
      let p = one_back m in
      let v = only l p.0 in
      record { value = v.0; rest = rest; split = ap (λ (x : Lexeme). x ∷ rest) v.1; well_formed = v.2; left = p.1 }

pub key_front : (k : Keyword) (g : Grammar) (said : List Lexeme) → Matches (One (Key k) g) (faultless_all said) → Front {V = Unit {0}} (λ v. lexemes.Key k ∷ []) Any g said
key_front k g said m = token_front (Key k) (λ v. lexemes.Key k) Any (λ l f. (tt, key_only k l f, tt)) g said m

pub sign_front : (s : Mark) (g : Grammar) (said : List Lexeme) → Matches (One (Sign s) g) (faultless_all said) → Front {V = Unit {0}} (λ v. lexemes.Sign s ∷ []) Any g said
sign_front s g said m = token_front (Sign s) (λ v. lexemes.Sign s) Any (λ l f. (tt, sign_only s l f, tt)) g said m

pub name_front : (g : Grammar) (said : List Lexeme) → Matches (One AnyName g) (faultless_all said) → Front (λ n. lexemes.Named n ∷ []) Any g said
name_front g said m = token_front AnyName lexemes.Named Any (λ l f. let n = name_only l f in (n.0, n.1, tt)) g said m

pub literal_front : (g : Grammar) (said : List Lexeme) → Matches (One AnyLiteral g) (faultless_all said) → Front (λ v. value_lexeme v ∷ []) Any g said
literal_front g said m = token_front AnyLiteral value_lexeme Any (λ l f. let n = literal_only l f in (n.0, n.1, tt)) g said m

pub type_front : (g : Grammar) (said : List Lexeme) → Matches (One AnyType g) (faultless_all said) → Front (λ t. type_lexeme t ∷ []) Any g said
type_front g said m = token_front AnyType type_lexeme Any (λ l f. let n = type_only l f in (n.0, n.1, tt)) g said m

pub test_front : (g : Grammar) (said : List Lexeme) → Matches (One AnyTest g) (faultless_all said) → Front (λ c. lexemes.Sign (comparison_mark c) ∷ []) Any g said
test_front g said m = token_front AnyTest (λ c. lexemes.Sign (comparison_mark c)) Any (λ l f. let n = test_only l f in (n.0, n.1, tt)) g said m

pub least_front : (g : Grammar) (said : List Lexeme) → Matches (One AtLeastOne g) (faultless_all said) → Front (λ n. lexemes.Number (pos n) ∷ []) (λ n. 1 ≤ n) g said
least_front g said m = token_front AtLeastOne (λ n. lexemes.Number (pos n)) (λ n. 1 ≤ n) least_only g said m

-- ---- a choice
case_back : {c : Class} {a b : Grammar} {t : TokenKind} {w : Option Code} {ss : List TokenWithFault} → Matches (Case c a b) (record { kind = t; wrong = w } ∷ ss) → ((fits c t ≡ true) × Matches a ss) ⊎ Matches b (record { kind = t; wrong = w } ∷ ss)
case_back (this f m) = inl (f, m)
case_back (other n m) = inr m

case_end : {c : Class} {a b : Grammar} → Matches (Case c a b) [] → Matches b []
case_end (other n m) = m

-- the first of the two, behind its first token, or the second
pub case_front : (c : Class) (l : Lexeme) (a b : Grammar) (said : List Lexeme) → ((x : Lexeme) → fits c (kind_of x) ≡ true → x ≡ l) → Matches (Case c a b) (faultless_all said) → ((rest : List Lexeme) × (said ≡ l ∷ rest) × Matches a (faultless_all rest)) ⊎ Matches b (faultless_all said)
case_front c l a b [] only m = inr (case_end m)
case_front c l a b (x ∷ rest) only m = elim (case_back m) [
  | inl p ↦ inl (rest, ap (λ (y : Lexeme). y ∷ rest) (only x p.0), p.1)
  | inr n ↦ inr n
]

-- ---- lists
item_back : {r : Rule} {s : List TokenKind} {i g : Grammar} {t : TokenKind} {w : Option Code} {ss : List TokenWithFault} → Matches (Items r s i g) (record { kind = t; wrong = w } ∷ ss) → (item_fault r s t ≡ w) × Matches (followed_by i (More r (s ++ t ∷ []) i g)) (faultless t ∷ ss)
item_back (item m) = (refl, m)

no_item : {r : Rule} {s : List TokenKind} {i g : Grammar} → Matches (Items r s i g) [] → ⊥
no_item m = elim m [ ]

more_back : {r : Rule} {s : List TokenKind} {i g : Grammar} {t : TokenKind} {w : Option Code} {ss : List TokenWithFault} → Matches (More r s i g) (record { kind = t; wrong = w } ∷ ss) → ((fits r.separator t ≡ true) × Matches (Items r s i g) ss) ⊎ Matches g (record { kind = t; wrong = w } ∷ ss)
more_back (next f m) = inl (f, m)
more_back (last n m) = inr m

more_end : {r : Rule} {s : List TokenKind} {i g : Grammar} → Matches (More r s i g) [] → Matches g []
more_end (last n m) = m

-- What tells an item of a list by its tokens.
pub record TellsItem {A : Type 0} (r : Rule) (i : Grammar) (separator : Lexeme) (first : A → TokenKind) (says : A → List Lexeme) (IsItem : A → Type 0) : Type 0 where
  pub tail : A → List TokenKind
  pub begins : (x : A) → map kind_of (says x) ≡ first x ∷ tail x
  pub separates : (l : Lexeme) → fits r.separator (kind_of l) ≡ true → l ≡ separator
  pub one_item : (k : Grammar) (said : List Lexeme) → Matches (followed_by i k) (faultless_all said) → Front says IsItem k said

-- the items of a list, and what is left
pub record Listed {A : Type 0} (r : Rule) (s : List TokenKind) (g : Grammar) (first : A → TokenKind) (texts : List A → List Lexeme) (IsItem : A → Type 0) (said : List Lexeme) : Type 0 where
  pub items : List A
  pub rest : List Lexeme
  pub split : said ≡ texts items ++ rest
  pub are : AllByRecursion IsItem items
  pub free : AreFaultless r s (map first items)
  pub left : Matches g (faultless_all rest)

module _ {A : Type 0} {r : Rule} {i : Grammar} {separator : Lexeme} {first : A → TokenKind} {says : A → List Lexeme} {IsItem : A → Type 0} (of : TellsItem r i separator first says IsItem) (g : Grammar) where
  abbrev behind : List A → List Lexeme
  behind xs = flat_map (λ y. separator ∷ says y) xs

  behind_some : (xs : List A) → 0 < length xs → separator ∷ separated separator says xs ≡ behind xs
  behind_some [] some = absurd (omega arith)
  behind_some (x ∷ xs) some = refl

  same_first : (l : Lexeme) (rest more : List Lexeme) (x : A) → l ∷ rest ≡ says x ++ more → kind_of l ≡ first x
  same_first l rest more x e =
      let kinds : kind_of l ∷ map kind_of rest ≡ first x ∷ (of.tail x ++ map kind_of more) = ap (map kind_of) e ∙ map-append kind_of (says x) more ∙ ap (λ z. z ++ map kind_of more) (of.begins x) in
      cc

  shorter : (x : A) (said rest : List Lexeme) → said ≡ says x ++ rest → length rest < length said
  shorter x said rest e = omega (arith, ap length e, length-append (says x) rest, ap length (of.begins x), length-map (says x) kind_of)

  -- an item, and those further on
  some_items : (s : List TokenKind) (said : List Lexeme) → ((s : List TokenKind) (rest : List Lexeme) → length rest < length said → Matches (More r s i g) (faultless_all rest) → Listed r s g first behind IsItem rest) → Matches (Items r s i g) (faultless_all said) → (t : Listed r s g first (separated separator says) IsItem said) × (0 < length t.items)
  some_items s [] further m = absurd (no_item m)
  some_items s (l ∷ rest) further m =
      let p = item_back m in
      let x = of.one_item (More r (s ++ kind_of l ∷ []) i g) (l ∷ rest) p.1 in
      let same : kind_of l ≡ first x.value = same_first l rest x.rest x.value x.split in
      let more = further (s ++ kind_of l ∷ []) x.rest (shorter x.value (l ∷ rest) x.rest x.split) x.left in (
        record {
          items = x.value ∷ more.items;
          rest = more.rest;
          split = and_then (says x.value) (behind more.items) more.rest x.split more.split;
          are = (x.well_formed, more.are);
          free = (ap (item_fault r s) (sym same) ∙ p.0, subst (λ (t : TokenKind). AreFaultless r (s ++ t ∷ []) (map first more.items)) same more.free);
          left = more.left;
        },
        omega arith,
      )

  more_items : (fuel : ℕ) (s : List TokenKind) (said : List Lexeme) → length said ≤ fuel → Matches (More r s i g) (faultless_all said) → Listed r s g first behind IsItem said
  more_items fuel s [] h m = record { items = []; rest = []; split = refl; are = tt; free = tt; left = more_end m }
  more_items zero s (l ∷ said) h m = absurd (omega (arith, h))
  more_items (suc fuel) s (l ∷ said) h m = elim (more_back m) [
    | inl p ↦ let t = some_items s said (λ s rest lt n. more_items fuel s rest (omega (arith, h, lt)) n) p.1 in record {
      items = t.0.items;
      rest = t.0.rest;
      split = then separator (ap (λ (x : Lexeme). x ∷ said) (of.separates l p.0)) t.0.split ∙ ap (λ z. z ++ t.0.rest) (behind_some t.0.items t.1);
      are = t.0.are;
      free = t.0.free;
      left = t.0.left;
    }
    | inr n ↦ record { items = []; rest = l ∷ said; split = refl; are = tt; free = tt; left = n }
  ]

  abbrev pub IsList : List A → Type 0
  IsList xs = (0 < length xs) × All IsItem xs × AreFaultless r [] (map first xs)

  pub list_front : (said : List Lexeme) → Matches (Items r [] i g) (faultless_all said) → Front (separated separator says) IsList g said
  list_front said m =
      let t = some_items [] said (λ s rest lt n. more_items (length said) s rest (omega (arith, lt)) n) m in
      record { value = t.0.items; rest = t.0.rest; split = t.0.split; well_formed = (t.1, All-from_recursion IsItem t.0.items t.0.are, t.0.free); left = t.0.left }
